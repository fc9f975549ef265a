-- Blanks one by one; a number of few digits right-aligned, and that every column is filled.
use mathlib.Core.Path.{◌≡◌, refl, ap, ◌∙◌}
use mathlib.Core.List.{List, [], ◌∷◌, ◌++◌}
use Prim.Native.Nat.{ℕ, zero, suc, ◌+◌, ◌-◌, ◌/◌, ◌%◌, ◌≤◌, ◌<◌}
use native.Mathlib.Omega.{arith}
use native.Mathlib.Numerals.{add-one}
use native.Mathlib.Nat.{sub-zero, suc-sub-suc}
use lib.ListN.{length, drop, replicate, length-append, length-drop, length-replicate}
use Rattle.text.specs.Decimal.{decimal}
use Rattle.text.specs.Columns.{blanks, right_aligned}
use Rattle.text.proofs.Digits.{decimal-one, decimal-more}

pub blanks-none : blanks 0 ≡ []
unfolding blanks
blanks-none = refl

replicate-snoc : (n x : ℕ) → replicate (suc n) x ≡ replicate n x ++ x ∷ []
replicate-snoc zero x = refl
replicate-snoc (suc n) x = ap (λ (l : List ℕ). x ∷ l) (replicate-snoc n x)

pub blanks-more : (n : ℕ) → blanks (n + 1) ≡ blanks n ++ 32 ∷ []
unfolding blanks
blanks-more n = rw (add-one n) (replicate-snoc n 32)

pub blanks-length : (n : ℕ) → length (blanks n) ≡ n
unfolding blanks
blanks-length n = length-replicate n 32

-- how many digits a number has
length_more : (n : ℕ) → 10 ≤ n → length (decimal n) ≡ length (decimal (n / 10)) + 1
length_more n h = ap length (decimal-more n h) ∙ length-append (decimal (n / 10)) ((48 + n % 10) ∷ [])

pub one-digit : (n : ℕ) → n < 10 → length (decimal n) ≡ 1
one-digit n h = ap length (decimal-one n h)

pub two_digits : (n : ℕ) → 10 ≤ n → n < 100 → length (decimal n) ≡ 2
two_digits n h k = omega (arith, length_more n h, one-digit (n / 10) (omega arith))

pub three-digits : (n : ℕ) → 100 ≤ n → n < 1000 → length (decimal n) ≡ 3
three-digits n h k = omega (arith, length_more n (omega arith), two_digits (n / 10) (omega arith) (omega arith))

drop-blanks : (j n : ℕ) (t : List ℕ) → j ≤ n → drop j (replicate n 32 ++ t) ≡ replicate (n - j) 32 ++ t
drop-blanks zero n t h = rw (sub-zero n)
drop-blanks (suc j) zero t h = absurd (omega arith)
drop-blanks (suc j) (suc n) t h = rw (suc-sub-suc n j) (drop-blanks j n t (omega arith))

pub aligned-fits : (w n : ℕ) → length (decimal n) ≤ w → right_aligned w n ≡ blanks (w - length (decimal n)) ++ decimal n
unfolding right_aligned blanks
aligned-fits w n h = drop-blanks (length (decimal n)) w (decimal n) h

-- all columns, and no more
pub aligned-length : (w n : ℕ) → length (right_aligned w n) ≡ w
unfolding right_aligned
aligned-length w n =
    omega (arith, length-drop (length (decimal n)) (blanks w ++ decimal n), length-append (blanks w) (decimal n), blanks-length w)
