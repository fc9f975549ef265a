-- Each turn takes a byte over into the two sums, which stay below the base. Assumes nothing.
use mathlib.Core.Path.{◌≡◌}
use Prim.Native.Nat.{◌<◌}
use lib.ListN.{drop}
use Rattle.text.specs.Adler.{adler, adler_from}
use Rattle.text.proofs.adler.adler32.Given as goal

abbrev pub invariant-loop-x : goal.invariant-loop-x
invariant-loop-x l = (l.a < 65521) × (l.b < 65521) × (adler l.bytes ≡ adler_from l.a l.b (drop l.x-index l.bytes))
