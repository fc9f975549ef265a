-- The numbers that NewList and NewBlock give: free, held by no unit, and in range.
use mathlib.Core.Path.{◌≡◌, refl, ap, ◌∙◌}
use mathlib.Core.Bool.{Bool, true, false, ◌&&◌, not, cond}
use Prim.Native.Nat.{ℕ, ◌+◌, ◌≤◌}
use native.Mathlib.Omega.{arith}
use lib.Dec.{eqb}
use Rattle.lists.specs.Basic.{is_some, or_else, times}
use Rattle.lists.specs.InUse.{list_number, in_use}
use Rattle.lists.proofs.Basic.{and-true, not-false, eqb-true, some_of}
use Rattle.card_log.specs.Entry.{is_block, is_list}
use Rattle.disk.specs.Record.{holder_of, listed_in}
use Rattle.disk.specs.Disk.{Disk, committed}
use Rattle.disk.specs.Sound.{record_sound}
use Rattle.disk.specs.Questions.{free_block, free_list}
use Rattle.disk.proofs.Questions.{in-range, first-free}
use Rattle.disk.proofs.Clauses.{order-right}

-- a number that is listed
pub listed_free : (d : Disk) (n : ℕ) → record_sound d ≡ true → 1 ≤ n → n ≤ 80 → 1 ≤ times n (listed_in d.rec) → (in_use n (committed d).lists ≡ false) × (holder_of d.rec n ≡ 0)
listed_free d n h p q t = go (not (in_use n (committed d).lists) && eqb (holder_of d.rec n) 0) refl
  where
    go : (b : Bool) → not (in_use n (committed d).lists) && eqb (holder_of d.rec n) 0 ≡ b → (in_use n (committed d).lists ≡ false) × (holder_of d.rec n ≡ 0)
    go true e = let (x, y) = and-true (not (in_use n (committed d).lists)) _ e in (not-false (in_use n (committed d).lists) x, eqb-true _ 0 y)
    go false e = absurd (omega (arith, t, (order-right d h).once n p q ∙ ap {B = ℕ} (λ b. cond b 1 0) e))

pub list-number : (d : Disk) → record_sound d ≡ true → is_some (free_list d) ≡ true
    → let l = or_else 0 (free_list d) in (in_use (list_number l) (committed d).lists ≡ false) × (holder_of d.rec (list_number l) ≡ 0) × (is_list l ≡ true)
unfolding free_list or_else
list-number d s h =
    let (l, e) = some_of (free_list d) h in
    let (a, b, c) = first-free 64 16 l (listed_in d.rec) e in
    let (x, y) = listed_free d (list_number l) s (omega arith) (omega arith) c in
    rw e (x, y, in-range 16 l a b)

pub block-number : (d : Disk) → record_sound d ≡ true → is_some (free_block d) ≡ true
    → let b = or_else 0 (free_block d) in (in_use b (committed d).lists ≡ false) × (holder_of d.rec b ≡ 0) × (is_block b ≡ true)
unfolding free_block or_else
block-number d s h =
    let (n, e) = some_of (free_block d) h in
    let (a, b, c) = first-free 0 64 n (listed_in d.rec) e in
    let z : 0 + n ≡ n = omega arith in
    let (x, y) = listed_free d n s a (omega arith) (rw z at c) in
    rw e (x, y, in-range 64 n a b)
