-- The shifted mark stands past the bits of the kind, so or is a sum. Assumes nothing.
use mathlib.Core.Path.{◌≡◌, ◌∙◌}
use mathlib.Core.Bool.{Bool, true, false, cond}
use Prim.Native.Nat.{ℕ, ◌+◌, ◌*◌, ◌%◌, ◌<◌}
use native.Mathlib.Nat.{zero-add}
use lib.Bits.{bit_or, or_shifted_r}
use Rattle.card_log.proofs.map.marked.Goals as goal

mark : (k : ℕ) (m : Bool) → k < 128 → bit_or k (mir.Val.bool_byte m * 128 % 256) ≡ cond m (128 + k) k
mark k true h = or_shifted_r 1 7 k h
mark k false h = or_shifted_r 0 7 k h ∙ zero-add k

pub returns : goal.returns
returns c = mark c.args.kind c.args.member c.requires
