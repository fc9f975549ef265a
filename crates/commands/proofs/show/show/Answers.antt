-- By the cases of the inventory's reply. Assumes nothing.
use Rattle.commands.specs.Viewed.{disk_of}
use Rattle.commands.proofs.Showing.{view-seen, view-unseen}
use Rattle.commands.proofs.show.show.Goals as goal

pub returns-in-Ok : goal.returns-in-Ok
returns-in-Ok c =
    let v = c.args.v in
    rw (view-seen (disk_of v) v.number _ _ (rw c.in-Ok.is at c.inventory.ensures), ← c.part.ensures) c.show_view.ensures

pub returns-in-Err : goal.returns-in-Err
returns-in-Err c =
    let v = c.args.v in
    rw (view-unseen (disk_of v) v.number _ _ (rw c.in-Err.is at c.inventory.ensures), ← c.into.ensures) c.put_number.ensures
