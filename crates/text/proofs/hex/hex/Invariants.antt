-- Each turn puts one byte more of the 256. Assumes nothing.
use mathlib.Core.Path.{◌≡◌}
use lib.ListN.{take}
use Rattle.text.specs.Hex.{hex_bytes}
use Rattle.text.proofs.hex.hex.Given as goal

abbrev pub invariant-loop-i : goal.invariant-loop-i
invariant-loop-i l = take l.i l.out ≡ take l.i (hex_bytes l.text)
