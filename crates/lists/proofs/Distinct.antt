-- In every state that changes lead to from the empty one, each list taken stands once, and each block at most once in the whole state.
use mathlib.Core.Path.{◌≡◌, refl}
use mathlib.Core.Bool.{Bool, true, false, ◌&&◌, not, false≢true}
use mathlib.Core.Option.{some}
use mathlib.Core.List.{List, []}
use Prim.Native.Nat.{ℕ, ◌+◌, ◌≤◌}
use native.Mathlib.Omega.{arith}
use native.Mathlib.Nat.{mul-one}
use lib.Dec.{eqb}
use Rattle.lists.specs.Change.{Change, take_list, put_first, put_after, write, del_block, del_list}
use Rattle.lists.specs.State.{Row, State, taken, placed, on_list, applies, changed, apply, apply_all, overlay}
use Rattle.lists.proofs.Basic.{and-true, not-false, eqb-true}
use Rattle.lists.proofs.Apply.{apply-keeps, apply_all-keeps, overlay-keeps}
use Rattle.lists.proofs.Count.{one, rows_of, places_of, takes, puts, taken_none, placed-none, rows-changed, places-changed}

-- no list and no block stands twice
pub record Distinct {D : Type 0} (rs : List (Row D)) : Type 0 where
  pub lists : (l : ℕ) → rows_of l rs ≤ 1
  pub blocks : (b : ℕ) → places_of b rs ≤ 1

module _ {D : Type 0} where
  pub empty-distinct : Distinct {D = D} []
  empty-distinct = record { lists = λ l. omega arith; blocks = λ b. omega arith }

  -- a change that applies takes a list that is not taken, and puts a block that is on no list
  takes-new : (c : Change D) (rs : List (Row D)) (l : ℕ) → applies c rs ≡ true → takes c l ≡ true → taken l rs ≡ false
  unfolding applies
  takes-new (take_list n) rs l h e = rw (eqb-true n l e) at (not-false (taken n rs) h)
  takes-new (put_first b n) rs l h e = absurd (false≢true e)
  takes-new (put_after b n p) rs l h e = absurd (false≢true e)
  takes-new (write b d) rs l h e = absurd (false≢true e)
  takes-new (del_block b) rs l h e = absurd (false≢true e)
  takes-new (del_list n) rs l h e = absurd (false≢true e)

  put-new : (n l : ℕ) (rs : List (Row D)) (b : ℕ) → taken l rs && not (placed n rs) ≡ true → eqb n b ≡ true → placed b rs ≡ false
  put-new n l rs b h e = rw (eqb-true n b e) at (not-false (placed n rs) (and-true (taken l rs) (not (placed n rs)) h).1)

  pub puts-new : (c : Change D) (rs : List (Row D)) (b : ℕ) → applies c rs ≡ true → puts c b ≡ true → placed b rs ≡ false
  unfolding applies
  puts-new (take_list l) rs b h e = absurd (false≢true e)
  puts-new (put_first n l) rs b h e = put-new n l rs b h e
  puts-new (put_after n l p) rs b h e = put-new n l rs b (and-true (taken l rs && not (placed n rs)) (on_list l p rs) h).0 e
  puts-new (write n d) rs b h e = absurd (false≢true e)
  puts-new (del_block n) rs b h e = absurd (false≢true e)
  puts-new (del_list l) rs b h e = absurd (false≢true e)

  pub changed-distinct : (c : Change D) (rs : List (Row D)) → applies c rs ≡ true → Distinct rs → Distinct (changed c rs)
  changed-distinct c rs h d = record {
    lists = λ l. once_more (takes c l) (rows-changed c rs l) (λ e. taken_none l rs (takes-new c rs l h e)) (d.lists l);
    blocks = λ b. once_more (puts c b) (rw mul-one at (places-changed b c rs 1 d.lists)) (λ e. placed-none b rs (puts-new c rs b h e)) (d.blocks b);
  }
    where
      once_more : {m n : ℕ} (t : Bool) → m ≤ one t + n → (t ≡ true → n ≡ 0) → n ≤ 1 → m ≤ 1
      once_more true a f g = omega (arith, f refl)
      once_more false a f g = omega arith

  pub apply-distinct : (c : Change D) (s t : State D) → apply c s ≡ some t → Distinct s.lists → Distinct t.lists
  apply-distinct = apply-keeps Distinct changed-distinct

  pub apply_all-distinct : (cs : List (Change D)) (s t : State D) → apply_all cs s ≡ some t → Distinct s.lists → Distinct t.lists
  apply_all-distinct = apply_all-keeps Distinct changed-distinct

  pub overlay-distinct : (cs : List (Change D)) (s : State D) → Distinct s.lists → Distinct (overlay cs s).lists
  overlay-distinct = overlay-keeps Distinct changed-distinct
