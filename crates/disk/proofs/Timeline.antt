-- "Longest free number first": the order of the free numbers is that of their latest freeings (`free-longest`), and the number given is the one freed
-- earliest of its kind (`gives-longest`).
use mathlib.Core.Path.{◌≡◌, refl, sym, ap, ◌∙◌, subst}
use mathlib.Core.Logic.{◌≢◌, ◌⊎◌, inl, inr}
use mathlib.Core.Bool.{Bool, true, false, ◌&&◌, not, cond, true≢false}
use mathlib.Core.List.{List, [], ◌∷◌, ◌++◌, append_assoc, append-nil}
use Prim.Native.Nat.{ℕ, zero, suc, ◌+◌, ◌≤◌}
use native.Mathlib.Omega.{arith}
use lib.Dec.{eqb}
use Rattle.lists.specs.Basic.{all, keep, times}
use Rattle.lists.specs.InUse.{in_use, is_free}
use Rattle.lists.specs.Numbers.{is_number}
use Rattle.lists.proofs.Basic.{and-true, not-false, eqb-false, keep_all, keep_append}
use Rattle.lists.proofs.Times.{Standing, standing, times-append, times-cons, times-here, times-other, times-keep, keep-alike, all-standing}
use Rattle.lists.proofs.Listed.{number-range}
use Rattle.disk.specs.Record.{holder_of, listed_in}
use Rattle.disk.specs.Disk.{Disk, committed}
use Rattle.disk.specs.Sound.{lengths_right, record_sound}
use Rattle.disk.specs.Call.{Call, resets}
use Rattle.disk.specs.Perform.{perform, perform_all}
use Rattle.disk.specs.Rest.{outside, given_by, freed_by, Before, no_reset, SameKind, is_free_now, FreedExact, freed_all, timeline, latest, FreeLongest, GivesLongest}
use Rattle.disk.proofs.Clauses.{order-right}
use Rattle.disk.proofs.Soundness.{stays-sound}
use Rattle.disk.proofs.Longest.{before-joined, before-kept, given-not, given-listed}
use Rattle.disk.proofs.Rest.{outside-true, listed-once, order-grows}

-- The elements of a list that pass two tests.
keep-both : (p q : ℕ → Bool) (xs : List ℕ) → keep p (keep q xs) ≡ keep (λ n. q n && p n) xs
keep-both p q [] = refl
keep-both p q (x ∷ xs) = go (q x) (keep-both p q xs)
  where
    go : (b : Bool) → keep p (keep q xs) ≡ keep (λ n. q n && p n) xs → keep p (cond b (x ∷ keep q xs) (keep q xs)) ≡ cond (b && p x) (x ∷ keep (λ n. q n && p n) xs) (keep (λ n. q n && p n) xs)
    go true ih = ap (λ (zs : List ℕ). cond (p x) (x ∷ zs) zs) ih
    go false ih = ih

keep-passed : (p : ℕ → Bool) (xs : List ℕ) → ((n : ℕ) → 1 ≤ times n xs → p n ≡ true) → keep p xs ≡ xs
keep-passed p xs h = keep-alike p (λ n. true) xs h ∙ keep_all (λ n. true) (λ n. refl) xs

-- Each number where it stands last.
latest-once : (xs : List ℕ) → ((n : ℕ) → times n xs ≤ 1) → latest xs ≡ xs
unfolding latest
latest-once [] h = refl
latest-once (x ∷ xs) h =
    rw (outside-true x xs (omega (arith, h x, times-here x xs)))
    (ap (λ (ys : List ℕ). x ∷ ys) (latest-once xs (λ n. omega (arith, h n, times-cons n x xs))))

latest-append : (xs ys : List ℕ) → latest (xs ++ ys) ≡ keep (outside ys) (latest xs) ++ latest ys
unfolding latest
latest-append [] ys = refl
latest-append (x ∷ xs) ys = rw (times-append x xs ys) (go (times x xs) (times x ys) refl (latest-append xs ys))
  where
    go : (a b : ℕ) → times x ys ≡ b → latest (xs ++ ys) ≡ keep (outside ys) (latest xs) ++ latest ys
        → cond (eqb (a + b) 0) (x ∷ latest (xs ++ ys)) (latest (xs ++ ys)) ≡ keep (outside ys) (cond (eqb a 0) (x ∷ latest xs) (latest xs)) ++ latest ys
    go zero zero e ih = rw e (ap (λ (zs : List ℕ). x ∷ zs) ih)
    go zero (suc b) e ih = rw (e, eqb-false (0 + suc b) 0 (λ z. omega arith), eqb-false (suc b) 0 (λ z. omega arith)) ih
    go (suc a) b e ih = rw (eqb-false (suc a + b) 0 (λ z. omega arith), eqb-false (suc a) 0 (λ z. omega arith)) ih

-- Question 3: a number is listed, once, exactly if it is free.
pub listed-free-now : (d : Disk) → record_sound d ≡ true → (n : ℕ) → times n (listed_in d.rec) ≡ cond (is_free_now d n) 1 0
unfolding is_free_now is_free
listed-free-now d h n = go (is_number n) refl
  where
    none : (k : ℕ) → times n (listed_in d.rec) ≡ k → is_number n ≡ false → k ≡ 0
    none zero e z = refl
    none (suc k) e z = absurd (true≢false (sym (all-standing is_number (listed_in d.rec) (order-right d h).range n (omega arith)) ∙ z))

    go : (b : Bool) → is_number n ≡ b → times n (listed_in d.rec) ≡ cond ((is_number n && not (in_use n (committed d).lists)) && eqb (holder_of d.rec n) 0) 1 0
    go true e = let (p, q) = number-range n e in (order-right d h).once n p q ∙ sym (ap (λ (b : Bool). cond ((b && not (in_use n (committed d).lists)) && eqb (holder_of d.rec n) 0) 1 0) e)
    go false e = none (times n (listed_in d.rec)) refl e ∙ sym (ap (λ (b : Bool). cond ((b && not (in_use n (committed d).lists)) && eqb (holder_of d.rec n) 0) 1 0) e)

-- One call.
module _ (c : Call) (d : Disk) (l : lengths_right d ≡ true) (h : record_sound d ≡ true) where
  abbrev e : Disk
  e = (perform c d).disk

  sound-after : record_sound e ≡ true
  unfolding perform_all
  sound-after = (stays-sound (c ∷ []) d l h).1

  freed-times : (n : ℕ) → times n (freed_by c d) ≡ cond (eqb (cond (is_free_now d n) 1 0) 0) (cond (is_free_now e n) 1 0) 0
  unfolding freed_by
  freed-times n =
      times-keep (outside (listed_in d.rec)) n (listed_in e.rec)
      ∙ (λ i. cond (eqb (listed-free-now d h n i) 0) (listed-free-now e sound-after n i) 0)

  freed-exactly : (n : ℕ) → times n (freed_by c d) ≡ cond (is_free_now e n && not (is_free_now d n)) 1 0
  freed-exactly n = freed-times n ∙ go (is_free_now d n) (is_free_now e n)
    where
      go : (a b : Bool) → ◌≡◌ {A = ℕ} (cond (eqb (cond a 1 0) 0) (cond b 1 0) 0) (cond (b && not a) 1 0)
      go true true = refl
      go true false = refl
      go false true = refl
      go false false = refl

  freed-once : (n : ℕ) → times n (freed_by c d) ≤ 1
  freed-once n = rw (freed-exactly n) (go (is_free_now e n && not (is_free_now d n)))
    where
      go : (b : Bool) → cond b 1 0 ≤ 1
      go true = omega arith
      go false = omega arith

  freed-free : (n : ℕ) → 1 ≤ times n (freed_by c d) → is_free_now e n ≡ true
  freed-free n k = go (is_free_now e n) (not (is_free_now d n)) (rw (freed-exactly n) at k)
    where
      go : (a b : Bool) → 1 ≤ cond (a && b) 1 0 → a ≡ true
      go true b z = refl
      go false b z = absurd (omega arith)

  module _ (r : resets c ≡ false) where
    -- which numbers stay
    stays : (n : ℕ) → outside (freed_by c d) n && is_free_now e n ≡ is_free_now d n && outside (given_by c d) n
    stays n =
        ap (λ (k : ℕ). eqb k 0 && is_free_now e n) (freed-times n)
        ∙ go (is_free_now d n) (is_free_now e n) (outside (given_by c d) n)
        (sym (listed-free-now e sound-after n) ∙ ap (times n) (order-grows c d r l h) ∙ times-append n (keep (outside (given_by c d)) (listed_in d.rec)) (freed_by c d)
        ∙ (λ i. (times-keep (outside (given_by c d)) n (listed_in d.rec) ∙ ap (λ (k : ℕ). cond (outside (given_by c d) n) k 0) (listed-free-now d h n)) i + freed-times n i))
      where
        go : (f g s : Bool) → ◌≡◌ {A = ℕ} (cond g 1 0) (cond s (cond f 1 0) 0 + cond (eqb (cond f 1 0) 0) (cond g 1 0) 0) → eqb (cond (eqb (cond f 1 0) 0) (cond g 1 0) 0) 0 && g ≡ f && s
        go true true true z = refl
        go true true false z = absurd (omega (arith, z))
        go true false true z = absurd (omega (arith, z))
        go true false false z = refl
        go false true s z = refl
        go false false s z = refl

    latest-step : (hs : List ℕ) → listed_in d.rec ≡ keep (is_free_now d) (latest hs) → listed_in e.rec ≡ keep (is_free_now e) (latest (hs ++ freed_by c d))
    latest-step hs was =
        order-grows c d r l h
        ∙ (λ i. kept i ++ joined i)
        ∙ sym (ap (keep (is_free_now e)) (latest-append hs (freed_by c d)) ∙ keep_append (is_free_now e) (keep (outside (freed_by c d)) (latest hs)) (latest (freed_by c d)))
      where
        kept : keep (outside (given_by c d)) (listed_in d.rec) ≡ keep (is_free_now e) (keep (outside (freed_by c d)) (latest hs))
        kept =
            ap (keep (outside (given_by c d))) was ∙ keep-both (outside (given_by c d)) (is_free_now d) (latest hs)
            ∙ keep-alike (λ n. is_free_now d n && outside (given_by c d) n) (λ n. outside (freed_by c d) n && is_free_now e n) (latest hs) (λ n k. sym (stays n))
            ∙ sym (keep-both (is_free_now e) (outside (freed_by c d)) (latest hs))

        joined : freed_by c d ≡ keep (is_free_now e) (latest (freed_by c d))
        joined = sym (ap (keep (is_free_now e)) (latest-once (freed_by c d) freed-once) ∙ keep-passed (is_free_now e) (freed_by c d) freed-free)

pub freed-exact : FreedExact
freed-exact c d l h n = freed-exactly c d l h n

-- Call by call.
latest-goes : (cs : List Call) (d : Disk) (hs : List ℕ) → no_reset cs ≡ true → lengths_right d ≡ true → record_sound d ≡ true → listed_in d.rec ≡ keep (is_free_now d) (latest hs)
    → listed_in (perform_all cs d).rec ≡ keep (is_free_now (perform_all cs d)) (latest (hs ++ freed_all cs d))
unfolding perform_all freed_all all
latest-goes [] d hs r l h was = was ∙ ap (λ (xs : List ℕ). keep (is_free_now d) (latest xs)) (sym (append-nil hs))
latest-goes (c ∷ cs) d hs r l h was =
    let (u, v) = and-true (not (resets c)) (no_reset cs) r in
    let (y, z) = stays-sound (c ∷ []) d l h in
    latest-goes cs (perform c d).disk (hs ++ freed_by c d) v y z (latest-step c d l h (not-false (resets c) u) hs was)
    ∙ ap (λ (xs : List ℕ). keep (is_free_now (perform_all cs (perform c d).disk)) (latest xs)) (append_assoc hs (freed_by c d) (freed_all cs (perform c d).disk))

listed-is-free : (d : Disk) → record_sound d ≡ true → (n : ℕ) → 1 ≤ times n (listed_in d.rec) → is_free_now d n ≡ true
listed-is-free d h n k = go (is_free_now d n) (rw (listed-free-now d h n) at k)
  where
    go : (b : Bool) → 1 ≤ cond b 1 0 → b ≡ true
    go true z = refl
    go false z = absurd (omega arith)

pub free-longest : FreeLongest
unfolding timeline
free-longest cs d r l h =
    latest-goes cs d (listed_in d.rec) r l h
    (sym (ap (keep (is_free_now d)) (latest-once (listed_in d.rec) (listed-once d h)) ∙ keep-passed (is_free_now d) (listed_in d.rec) (listed-is-free d h)))

-- Of two numbers that stand in a list one stands before the other.
either-before : (m n : ℕ) (xs : List ℕ) → m ≢ n → 1 ≤ times m xs → 1 ≤ times n xs → Before m n xs ⊎ Before n m xs
either-before m n xs e p q = let s = standing m xs p in go s (times n s.front) refl
  where
    go : (s : Standing m xs) (k : ℕ) → times n s.front ≡ k → Before m n xs ⊎ Before n m xs
    go s zero z =
        let y = standing n s.back (omega (arith, q, z, ap (times n) s.was ∙ times-append n s.front (m ∷ s.back), times-other n m s.back e)) in
        inl (record { front = s.front; middle = y.front; back = y.back; was = s.was ∙ ap (λ (zs : List ℕ). s.front ++ m ∷ zs) y.was })
    go s (suc k) z = inr (subst (Before n m) (sym s.was) (before-joined n m s.front (m ∷ s.back) (omega arith) (omega (arith, times-here m s.back))))

module _ (cs : List Call) (d : Disk) (r : no_reset cs ≡ true) (l : lengths_right d ≡ true) (h : record_sound d ≡ true) where
  abbrev x : Disk
  x = perform_all cs d

  abbrev freeings : List ℕ
  freeings = latest (timeline cs d)

  sound-then : record_sound x ≡ true
  sound-then = (stays-sound cs d l h).1

  stands : (n : ℕ) → is_free_now x n ≡ true → 1 ≤ times n freeings
  stands n f =
      let k : 1 ≤ times n (listed_in x.rec) = rw (listed-free-now x sound-then n, f) (omega arith) in
      omega (arith, k, ap (times n) (free-longest cs d r l h) ∙ times-keep (is_free_now x) n freeings ∙ ap (λ (b : Bool). cond b (times n freeings) 0) f)

  longest : (c : Call) (m n : ℕ) → 1 ≤ times n (given_by c x) → SameKind m n → is_free_now x m ≡ true → m ≢ n → Before n m freeings
  longest c m n g s f e = go (either-before m n freeings e (stands m f) (stands n free))
    where
      free : is_free_now x n ≡ true
      free = listed-is-free x sound-then n (given-listed x n c g)

      go : Before m n freeings ⊎ Before n m freeings → Before n m freeings
      go (inr b) = b
      go (inl b) =
          let a = before-kept (is_free_now x) m n freeings [] f free b in
          absurd (omega (arith, g, given-not x m n sound-then s (subst (Before m n) (append-nil (keep (is_free_now x) freeings) ∙ sym (free-longest cs d r l h)) a) c))

pub gives-longest : GivesLongest
gives-longest cs c d m n r l h g s f e = longest cs d r l h c m n g s f e
