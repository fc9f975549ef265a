-- Each turn stores the list taken next. Assumes nothing.
use Rattle.lists.specs.promises.Tables.{OfShown, tables_in}
use Rattle.calls.proofs.Taken.{Taking}
use Rattle.calls.proofs.inventory.put_lists.Given as goal

abbrev pub invariant-loop-i : goal.invariant-loop-i
invariant-loop-i l = OfShown (tables_in l.nodes) (λ rs. Taking l.initial.dest rs l.i l.dest l.list)
