-- Race 0 has no bit. Assumes nothing.
use mathlib.Core.Path.{◌≡◌, refl}
use mathlib.Core.Logic.{◌≢◌}
use Prim.Native.Nat.{ℕ, zero, suc, ◌+◌}
use Rattle.card_log.specs.Entry.{race_bit}
use Rattle.card_log.proofs.map.of_write.Goals as goal

raced : (n : ℕ) → n ≢ 0 → 73 ≡ 9 + race_bit n
unfolding race_bit
raced zero h = absurd (h refl)
raced (suc n) h = refl

pub returns-then-race-eq0 : goal.returns-then-race-eq0
unfolding race_bit
returns-then-race-eq0 c = rw c.if-race-eq0.true

pub returns-else-race-eq0 : goal.returns-else-race-eq0
returns-else-race-eq0 c = raced c.args.race c.if-race-eq0.false
