-- 256 bytes of a buffer put into a destination of 256 bytes, and the buffer that a number names.
use mathlib.Core.Path.{◌≡◌, sym, ap, ◌∙◌}
use mathlib.Core.List.{List, ◌++◌, append-nil}
use Prim.Native.Nat.{ℕ, ◌+◌, ◌-◌, ◌*◌, ◌%◌, ◌≤◌, ◌<◌}
use native.Mathlib.Omega.{arith}
use borrow.Author.Tests.{lt-ltb, le-ltb}
use lib.ListN.{length, take, drop, length-take, length-drop, drop_of_length-le}
use Rattle.card_log.specs.Card.{slot, splice}
use Rattle.card_log.specs.promises.Location.{bytes_at, content_at}

-- all of the destination is new
pub splice-whole : (d v : List ℕ) → length v ≡ 256 → length d ≡ 256 → splice d 0 v ≡ v
unfolding splice
splice-whole d v h k = ap (λ (r : List ℕ). v ++ r) (drop_of_length-le d {i = 0 + length v} (omega arith)) ∙ append-nil v

-- a part of 256 bytes is there only where the buffer has them
pub slot-room : (l : List ℕ) (k : ℕ) → length (slot l k) ≡ 256 → 256 * k + 256 ≤ length l
unfolding slot
slot-room l k h = omega (arith, sym h ∙ length-take 256 (drop (256 * k) l), length-drop (256 * k) l)

pub slot-part : (l : List ℕ) (k : ℕ) → take (256 * k + 256 - 256 * k) (drop (256 * k) l) ≡ slot l k
unfolding slot
slot-part l k = let e : 256 * k + 256 - 256 * k ≡ 256 = omega arith in ap (λ (n : ℕ). take n (drop (256 * k) l)) e

-- the buffer that a table's number m names
module _ (c q j : List ℕ) (m : ℕ) where
  pub at-card : (m - 1) % 2048 < 1024 → (content_at c q j m).body ≡ slot c ((m - 1) % 2048)
  unfolding content_at bytes_at
  at-card h = rw (lt-ltb ((m - 1) % 2048) 1024 h)

  pub at-queue : 1024 ≤ (m - 1) % 2048 → (m - 1) % 2048 < 1056 → (content_at c q j m).body ≡ slot q ((m - 1) % 2048 - 1024)
  unfolding content_at bytes_at
  at-queue h k = rw (le-ltb ((m - 1) % 2048) 1024 h, lt-ltb ((m - 1) % 2048) 1056 k)

  pub at-journal : 1056 ≤ (m - 1) % 2048 → (content_at c q j m).body ≡ slot j ((m - 1) % 2048 - 1056)
  unfolding content_at bytes_at
  at-journal h = rw (le-ltb ((m - 1) % 2048) 1024 (omega arith), le-ltb ((m - 1) % 2048) 1056 h)
