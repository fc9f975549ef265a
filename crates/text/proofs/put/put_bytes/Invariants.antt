-- Each turn puts one byte more of the source behind what is there. Assumes nothing.
use lib.ListN.{take}
use Rattle.text.specs.Written.{Puts}
use Rattle.text.proofs.put.put_bytes.Given as goal

abbrev pub invariant-loop-b : goal.invariant-loop-b
invariant-loop-b l = Puts l.initial.out l.at (take l.b-index l.src) l.out l.position
