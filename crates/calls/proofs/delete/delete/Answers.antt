-- The answer is `add`'s, and an entry more leaves the order as it was. Assumes nothing.
use mathlib.Core.Path.{sym, subst}
use Rattle.disk.specs.Record.{record_in}
use Rattle.disk.specs.promises.Listing.{Padded}
use Rattle.calls.proofs.Adding.{added-padded}
use Rattle.calls.proofs.delete.delete.Goals as goal

pub list_freed-requires : goal.list_freed-requires
list_freed-requires c =
    (subst Padded (sym c.in_ok-add.ensures.0) (added-padded c.args.s c.args.e (record_in c.args.rec.now) c.requires.2), c.requires.3)
