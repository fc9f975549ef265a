-- A line's runs of blanks and of other bytes, its parts, and bytes that are the same.
use mathlib.Core.Path.{◌≡◌, refl, sym, ap, ◌∙◌}
use mathlib.Core.Bool.{Bool, true, false, ◌&&◌, not, beq}
use mathlib.Core.List.{List, [], ◌∷◌}
use Prim.Native.Nat.{ℕ, zero, suc, ◌-◌, ◌≤◌, ◌<◌, min}
use native.Mathlib.Omega.{arith}
use native.Mathlib.Decide.{dec_le}
use native.Mathlib.Nat.{sub-zero, zero-sub, suc-sub-suc, min-eq_left}
use borrow.Author.Tests.{not-true, not-false}
use lib.Dec.{eqb}
use lib.ListN.{length, get_or, take, drop, length-take, drop_of_length-le}
use lib.Seq.{slice, take-nil, take_all, drop-cons}
use Rattle.std.specs.Prelude.{nat_eq}
use Rattle.std.specs.Cmp.Lexicographic.{pointwise}
use Rattle.text.specs.Line.{run, same}

-- a run at a position: it ends there, or the byte there is its first
module _ (blanks : Bool) (l : List ℕ) (i : ℕ) (h : i < length l) where
  pub run-stop : not (beq (eqb (get_or l i 0) 32) blanks) ≡ true → run blanks (drop i l) ≡ 0
  unfolding run
  run-stop e = rw (drop-cons l i 0 h, not-true (beq (eqb (get_or l i 0) 32) blanks) e)

  pub run_more : not (beq (eqb (get_or l i 0) 32) blanks) ≡ false → run blanks (drop i l) ≡ suc (run blanks (drop (suc i) l))
  unfolding run
  run_more e = rw (drop-cons l i 0 h, not-false (beq (eqb (get_or l i 0) 32) blanks) e)

drop-take : (a e : ℕ) (l : List ℕ) → take (e - a) (drop a l) ≡ drop a (take e l)
drop-take zero e l = rw (sub-zero e)
drop-take (suc a) zero l = rw (zero-sub (suc a))
drop-take (suc a) (suc e) [] = take-nil (suc e - suc a)
drop-take (suc a) (suc e) (x ∷ l) = rw (suc-sub-suc e a) (drop-take a e l)

pub take-least : (e : ℕ) (l : List ℕ) → take (min e (length l)) l ≡ take e l
take-least e l = go (dec_le e (length l))
  where
    go : Dec (e ≤ length l) → take (min e (length l)) l ≡ take e l
    go (yes h) = rw (min-eq_left h)
    go (no h) = take_all (min e (length l)) l (omega arith) ∙ sym (take_all e l (omega arith))

pub drop-least : (s n : ℕ) (l : List ℕ) → length l ≡ n → drop (min s n) l ≡ drop s l
drop-least s n l e = go (dec_le s n)
  where
    go : Dec (s ≤ n) → drop (min s n) l ≡ drop s l
    go (yes h) = rw (min-eq_left h)
    go (no h) = drop_of_length-le l {i = min s n} (omega arith) ∙ sym (drop_of_length-le l {i = s} (omega arith))

-- the part between two positions that are brought into the line
pub slice_within : (s e : ℕ) (l : List ℕ)
    → take (min e (length l) - min s (min e (length l))) (drop (min s (min e (length l))) l) ≡ slice s e l
slice_within s e l =
    drop-take (min s (min e (length l))) (min e (length l)) l
    ∙ drop-least s (min e (length l)) (take (min e (length l)) l) (length-take (min e (length l)) l ∙ omega arith)
    ∙ ap (drop s) (take-least e l)

pub same_is : (a b : List ℕ) → pointwise nat_eq a b ≡ same a b
unfolding same
same_is [] [] = refl
same_is [] (y ∷ b) = refl
same_is (x ∷ a) [] = refl
same_is (x ∷ a) (y ∷ b) = ap (λ (t : Bool). eqb x y && t) (same_is a b)
