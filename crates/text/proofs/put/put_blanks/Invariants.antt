-- Each turn puts one blank more. Assumes nothing.
use Rattle.text.specs.Columns.{blanks}
use Rattle.text.specs.Written.{Puts}
use Rattle.text.proofs.put.put_blanks.Given as goal

abbrev pub invariant-loop : goal.invariant-loop
invariant-loop l = Puts l.initial.out l.at (blanks l.counter) l.out l.position
