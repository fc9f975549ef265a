-- Which numbers a change can bring into use: none but the block that it puts and the list that it takes.
use mathlib.Core.Path.{◌≡◌, refl, sym, ap, ◌∙◌, subst}
use mathlib.Core.Bool.{Bool, true, false, cond, false≢true}
use mathlib.Core.Option.{some, some-injective}
use mathlib.Core.List.{List, [], ◌∷◌}
use Prim.Native.Nat.{ℕ, ◌+◌, ◌-◌, ◌≤◌}
use native.Mathlib.Omega.{arith}
use lib.Dec.{leb, eqb}
use borrow.Author.Tests.{leb-false}
use Rattle.lists.specs.Basic.{any}
use Rattle.lists.specs.Change.{Change, take_list, put_first, put_after, write, del_block, del_list}
use Rattle.lists.specs.State.{Row, State, taken, placed, changed, apply, apply_all}
use Rattle.lists.specs.InUse.{list_number, in_use}
pub use Rattle.lists.specs.Numbers.{brought}
use Rattle.lists.proofs.Basic.{or-both, bind-some, eqb-true, eqb-false, eq-true}
use Rattle.lists.proofs.Apply.{apply_some}
use Rattle.lists.proofs.Count.{one, takes, puts, taken_none, none-taken, rows-changed, rows_of}
use Rattle.lists.proofs.Placed.{placed-changed}

module _ {D : Type 0} where
  puts-brought : (c : Change D) (n : ℕ) → brought c n ≡ false → puts c n ≡ false
  puts-brought (take_list l) n h = refl
  puts-brought (put_first b l) n h = (or-both (eqb b n) false h).0
  puts-brought (put_after b l p) n h = (or-both (eqb b n) false h).0
  puts-brought (write b d) n h = refl
  puts-brought (del_block b) n h = refl
  puts-brought (del_list l) n h = refl

  takes-brought : (c : Change D) (n : ℕ) → leb n 64 ≡ false → brought c n ≡ false → takes c (n - 64) ≡ false
  takes-brought (take_list l) n g h =
      eqb-false l (n - 64) (λ e. false≢true (sym (or-both (eqb (64 + l) n) false h).0 ∙ eq-true (64 + l) n (omega (arith, leb-false n 64 g))))
  takes-brought (put_first b l) n g h = refl
  takes-brought (put_after b l p) n g h = refl
  takes-brought (write b d) n g h = refl
  takes-brought (del_block b) n g h = refl
  takes-brought (del_list l) n g h = refl

  pub takes-brings : (c : Change D) (l : ℕ) → takes c l ≡ true → brought c (list_number l) ≡ true
  takes-brings (take_list n) l h = rw (eq-true (list_number n) (list_number l) (ap list_number (eqb-true n l h)))
  takes-brings (put_first b n) l h = absurd (false≢true h)
  takes-brings (put_after b n p) l h = absurd (false≢true h)
  takes-brings (write b d) l h = absurd (false≢true h)
  takes-brings (del_block b) l h = absurd (false≢true h)
  takes-brings (del_list n) l h = absurd (false≢true h)

  pub taken-changed : (c : Change D) (rs : List (Row D)) (l : ℕ) → takes c l ≡ false → taken l rs ≡ false → taken l (changed c rs) ≡ false
  taken-changed c rs l p h =
      let e : rows_of l (changed c rs) ≤ one (takes c l) + rows_of l rs = rows-changed c rs l in
      let f = taken_none l rs h in
      let g = rw p at e in
      none-taken l (changed c rs) (omega arith)

  pub in-use-changed : (c : Change D) (rs : List (Row D)) (n : ℕ) → brought c n ≡ false → in_use n rs ≡ false → in_use n (changed c rs) ≡ false
  unfolding in_use
  in-use-changed c rs n p = go (leb n 64) refl
    where
      go : (t : Bool) → leb n 64 ≡ t → cond t (placed n rs) (taken (n - 64) rs) ≡ false → cond t (placed n (changed c rs)) (taken (n - 64) (changed c rs)) ≡ false
      go true e h = placed-changed c rs n (puts-brought c n p) h
      go false e h = taken-changed c rs (n - 64) (takes-brought c n e p) h

  in-use-apply : (c : Change D) (s t : State D) (n : ℕ) → brought c n ≡ false → in_use n s.lists ≡ false → apply c s ≡ some t → in_use n t.lists ≡ false
  in-use-apply c s t n p h e = let (a, f) = apply_some c s t e in rw f (in-use-changed c s.lists n p h)

  pub in-use-all : (cs : List (Change D)) (s t : State D) (n : ℕ) → any (λ c. brought c n) cs ≡ false → in_use n s.lists ≡ false
      → apply_all cs s ≡ some t → in_use n t.lists ≡ false
  unfolding apply_all
  in-use-all [] s t n p h e = subst (λ (x : State D). in_use n x.lists ≡ false) (some-injective _ _ e) h
  in-use-all (c ∷ cs) s t n p h e =
      let (u, f, g) = bind-some (apply c s) (λ x. apply_all cs x) t e in
      let (v, w) = or-both (brought c n) (any (λ c. brought c n) cs) p in
      in-use-all cs u t n w (in-use-apply c s u n v h f) g
