-- By the cases of what was told. Assumes nothing.
use mathlib.Core.Path.{refl}
use Rattle.commands.specs.Cut.{Loses}
use Rattle.commands.proofs.cutting.cut_short.Goals as goal

pub returns-in-Ok : goal.returns-in-Ok
unfolding Loses
returns-in-Ok c =
    let lost = c.cut-rec.ensures in
    rw c.in-Ok.is (rw lost.0, lost.1, lost.2, c.put_cut-next.ensures)

pub returns-in-Err : goal.returns-in-Err
unfolding Loses
returns-in-Err c =
    rw c.in-Err.is (refl, refl, refl, rw c.into.ensures at c.put_number-next.ensures)
