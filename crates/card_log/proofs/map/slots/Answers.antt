-- The ones of one bit are that bit, by one test computed at each of the 256 maps. Assumes nothing.
use mathlib.Core.Path.{◌≡◌, refl}
use Prim.Native.Nat.{ℕ, ◌/◌, ◌%◌, ◌<◌}
use native.Mathlib.Omega.{arith}
use lib.Bits.{bit_and}
use lib.Count.{ones}
use lib.Dec.{eqb}
use Rattle.lists.specs.Basic.{all, from}
use Rattle.lists.proofs.Basic.{eqb-true, all_from}
use Rattle.card_log.proofs.map.slots.Goals as goal

ones-slot : (m : ℕ) → m < 256 → ones (bit_and m 8) ≡ m / 8 % 2
unfolding ones all from
ones-slot m h = eqb-true (ones (bit_and m 8)) (m / 8 % 2) (all_from (λ k. eqb (ones (bit_and k 8)) (k / 8 % 2)) (λ k. k) 0 256 refl m (omega arith) (omega arith))

pub overflow_cast-result : goal.overflow_cast-result
overflow_cast-result c = omega (arith, ones-slot c.args.map c.ranges.map.fits)

pub returns : goal.returns
returns c = ones-slot c.args.map c.ranges.map.fits
