-- Each turn takes a digit over from the text to the number, and the whole says the same. Assumes nothing.
use mathlib.Core.Path.{◌≡◌}
use Prim.Native.Nat.{◌^◌, ◌<◌}
use lib.ListN.{drop}
use Rattle.text.specs.Decimal.{number_after, number_of}
use Rattle.text.proofs.decimal.number.Given as goal

abbrev pub invariant-loop-b : goal.invariant-loop-b
invariant-loop-b l = (l.n < 2 ^ 64) × (number_of l.text ≡ number_after l.n (drop l.b-index l.text))
