-- The lists, then their blocks. Assumes nothing.
use Rattle.text.proofs.Writing.{puts-more}
use Rattle.commands.specs.Viewed.{disk_of}
use Rattle.commands.specs.Shown.{view_shown, list_shown, contents_on}
use Rattle.commands.proofs.show.show_view.Goals as goal

pub returns : goal.returns
unfolding view_shown
returns c =
    let v = c.args.v in
    puts-more (c.put_each-position.ensures (list_shown (disk_of v) v.number) (λ o o' p x r h. h)) (c.put_each.ensures (contents_on (disk_of v) v.number) (λ o o' p x r h. h))
