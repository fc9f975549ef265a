-- Each turn puts one byte more, in two digits, behind what is there. Assumes nothing.
use lib.ListN.{take}
use Rattle.text.specs.Hex.{glyphs}
use Rattle.text.specs.Written.{Puts}
use Rattle.text.proofs.hex.put_hex.Given as goal

abbrev pub invariant-loop-b : goal.invariant-loop-b
invariant-loop-b l = Puts l.initial.out l.at (glyphs (take l.b-index l.kept)) l.out l.position
