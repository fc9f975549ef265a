-- How often numbers stand in a list. Where none stands twice, no two are the same; a number that moves leaves all counts as they were.
use mathlib.Core.Path.{◌≡◌, refl, sym, ap, ◌∙◌}
use mathlib.Core.Logic.{◌≢◌, ⊎_elim}
use mathlib.Core.Bool.{Bool, true, false, not, cond, true≢false}
use mathlib.Core.List.{List, [], ◌∷◌, ◌++◌}
use Prim.Native.Nat.{ℕ, zero, suc, ◌+◌, ◌≤◌, ◌<◌}
use native.Mathlib.Omega.{arith}
use native.Mathlib.Decide.{ℕ_discrete}
use lib.Dec.{eqb}
use Rattle.lists.specs.Basic.{any, all, keep, from, times}
use Rattle.lists.specs.promises.Tables.{Away, Apart}
use Rattle.lists.proofs.Basic.{and-true, either, eqb_same, eqb-true, eqb-false, eqb-neq}

pub times-here : (n : ℕ) (xs : List ℕ) → times n (n ∷ xs) ≡ suc (times n xs)
unfolding times
times-here n xs = rw (eqb_same n)

pub times-other : (n x : ℕ) (xs : List ℕ) → x ≢ n → times n (x ∷ xs) ≡ times n xs
unfolding times
times-other n x xs h = rw (eqb-false x n h)

-- one number more
pub times-cons : (n x : ℕ) (xs : List ℕ) → times n (x ∷ xs) ≡ times n (x ∷ []) + times n xs
unfolding times
times-cons n x xs = go (eqb x n)
  where
    go : (t : Bool) → cond t (suc (times n xs)) (times n xs) ≡ cond t 1 0 + times n xs
    go true = omega arith
    go false = omega arith

pub times-append : (n : ℕ) (xs ys : List ℕ) → times n (xs ++ ys) ≡ times n xs + times n ys
unfolding times
times-append n [] ys = omega arith
times-append n (x ∷ xs) ys = omega (arith, times-cons n x (xs ++ ys), times-cons n x xs, times-append n xs ys)

pub times-moved : (m n : ℕ) (a b c d : List ℕ) → a ++ b ≡ c ++ d → times m (a ++ n ∷ b) ≡ times m (c ++ n ∷ d)
times-moved m n a b c d e =
    omega (
      arith,
      times-append m a (n ∷ b),
      times-append m c (n ∷ d),
      times-cons m n b,
      times-cons m n d,
      sym (times-append m a b) ∙ ap (times m) e ∙ times-append m c d,
    )

-- none, and once at most
pub none-away : (n : ℕ) (xs : List ℕ) → times n xs ≡ 0 → Away n xs
unfolding times
none-away n [] h = tt
none-away n (x ∷ xs) h = ⊎_elim
    (λ e. absurd (omega (arith, rw e at h)))
    (λ e. (eqb-neq x n e, none-away n xs (rw e at h)))
    (either (eqb x n))

pub away-none : (n : ℕ) (xs : List ℕ) → Away n xs → times n xs ≡ 0
unfolding times
away-none n [] h = refl
away-none n (x ∷ xs) h = rw (eqb-false x n h.0) (away-none n xs h.1)

pub once-apart : (xs : List ℕ) → ((n : ℕ) → times n xs ≤ 1) → Apart xs
once-apart [] h = tt
once-apart (x ∷ xs) h = (
  none-away x xs (omega (arith, times-here x xs, h x)),
  once-apart xs (λ n. omega (arith, times-cons n x xs, h n)),
)

-- where a number stands
pub record Standing (n : ℕ) (xs : List ℕ) : Type 0 where
  pub front : List ℕ
  pub back : List ℕ
  pub was : xs ≡ front ++ n ∷ back

pub standing : (n : ℕ) (xs : List ℕ) → 1 ≤ times n xs → Standing n xs
unfolding times
standing n [] h = absurd (omega arith)
standing n (x ∷ xs) h = ⊎_elim
    (λ e. record { front = []; back = xs; was = ap (λ (m : ℕ). m ∷ xs) (eqb-true x n e) })
    (λ e. let s = standing n xs (rw e at h) in record { front = x ∷ s.front; back = s.back; was = ap (λ (ys : List ℕ). x ∷ ys) s.was })
    (either (eqb x n))

-- a test that all pass is one that each number passes which stands there
pub all-standing : (p : ℕ → Bool) (xs : List ℕ) → all p xs ≡ true → (n : ℕ) → 1 ≤ times n xs → p n ≡ true
unfolding all times
all-standing p [] h n k = absurd (omega arith)
all-standing p (x ∷ xs) h n k =
    let (a, b) = and-true (p x) (all p xs) h in
    ⊎_elim (λ e. ap p (sym (eqb-true x n e)) ∙ a) (λ e. all-standing p xs b n (rw e at k)) (either (eqb x n))

pub standing-all : (p : ℕ → Bool) (xs : List ℕ) → ((n : ℕ) → 1 ≤ times n xs → p n ≡ true) → all p xs ≡ true
unfolding all
standing-all p [] h = refl
standing-all p (x ∷ xs) h =
    rw (h x (omega (arith, times-here x xs))) (standing-all p xs (λ n k. h n (omega (arith, times-cons n x xs))))

pub times-keep : (p : ℕ → Bool) (n : ℕ) (xs : List ℕ) → times n (keep p xs) ≡ cond (p n) (times n xs) 0
unfolding times
times-keep p n [] = go (p n)
  where
    go : (b : Bool) → ◌≡◌ {A = ℕ} 0 (cond b 0 0)
    go true = refl
    go false = refl
times-keep p n (x ∷ xs) = go (eqb x n) refl (p x) refl (p n) refl (times-keep p n xs)
  where
    go : (e : Bool) → eqb x n ≡ e → (a : Bool) → p x ≡ a → (b : Bool) → p n ≡ b → times n (keep p xs) ≡ cond b (times n xs) 0
        → times n (cond a (x ∷ keep p xs) (keep p xs)) ≡ cond b (cond e (suc (times n xs)) (times n xs)) 0
    go true e true u true v ih = rw e (ap suc ih)
    go true e false u false v ih = ih
    go true e true u false v ih = absurd (true≢false (sym u ∙ ap p (eqb-true x n e) ∙ v))
    go true e false u true v ih = absurd (true≢false (sym v ∙ ap p (sym (eqb-true x n e)) ∙ u))
    go false e true u b v ih = rw e ih
    go false e false u b v ih = ih

-- two tests that agree on what stands there
pub keep-alike : (p q : ℕ → Bool) (xs : List ℕ) → ((n : ℕ) → 1 ≤ times n xs → p n ≡ q n) → keep p xs ≡ keep q xs
keep-alike p q [] h = refl
keep-alike p q (x ∷ xs) h =
    rw (h x (omega (arith, times-here x xs)))
    (ap (λ (zs : List ℕ). cond (q x) (x ∷ zs) zs) (keep-alike p q xs (λ n k. h n (omega (arith, times-cons n x xs)))))

-- a list without a number
abbrev pub without : ℕ → List ℕ → List ℕ
without n xs = keep (λ m. not (any (λ k. eqb k m) (n ∷ []))) xs

away-without : (n : ℕ) (xs : List ℕ) → Away n xs → without n xs ≡ xs
away-without n [] h = refl
away-without n (x ∷ xs) h = rw (eqb-false n x (λ e. h.0 (sym e))) (ap (λ (ys : List ℕ). x ∷ ys) (away-without n xs h.1))

pub without-once : (n : ℕ) (a b : List ℕ) → Away n (a ++ b) → without n (a ++ n ∷ b) ≡ a ++ b
without-once n [] b h = rw (eqb_same n) (away-without n b h)
without-once n (x ∷ a) b h = rw (eqb-false n x (λ e. h.0 (sym e))) (ap (λ (ys : List ℕ). x ∷ ys) (without-once n a b h.1))

-- numbers one after the other
pub from-below : (n k m : ℕ) → n < k → times n (from (λ i. i) k m) ≡ 0
unfolding times from
from-below n k zero h = refl
from-below n k (suc m) h = rw (eqb-false k n (λ e. omega arith)) (from-below n (suc k) m (omega arith))

pub from-above : (n k m : ℕ) → k + m ≤ n → times n (from (λ i. i) k m) ≡ 0
unfolding times from
from-above n k zero h = refl
from-above n k (suc m) h = rw (eqb-false k n (λ e. omega arith)) (from-above n (suc k) m (omega arith))

pub from-within : (n k m : ℕ) → k ≤ n → n < k + m → times n (from (λ i. i) k m) ≡ 1
unfolding times from
from-within n k zero a b = absurd (omega arith)
from-within n k (suc m) a b = go (ℕ_discrete k n) (from-within n (suc k) m)
  where
    go : Dec (k ≡ n) → (suc k ≤ n → n < suc k + m → times n (from (λ i. i) (suc k) m) ≡ 1) → times n (k ∷ from (λ i. i) (suc k) m) ≡ 1
    go (yes e) ih = omega (arith, ap (λ (j : ℕ). times n (j ∷ from (λ i. i) (suc k) m)) e ∙ times-here n (from (λ i. i) (suc k) m), from-below n (suc k) m (omega arith))
    go (no e) ih = times-other n k (from (λ i. i) (suc k) m) e ∙ ih (omega arith) (omega arith)

-- a number that is listed or not is listed once at most
pub once-most : (b : Bool) → cond b 1 0 ≤ 1
once-most true = omega arith
once-most false = omega arith
