-- The free numbers that tables show: they are in range and 80 at most, and the look-ups along their row go from each to the next one.
use mathlib.Core.Path.{◌≡◌, refl, ap, ◌∙◌, subst}
use mathlib.Core.Bool.{Bool, true, false, cond}
use mathlib.Core.List.{List, [], ◌∷◌, ◌++◌, append_assoc}
use Prim.Native.Nat.{ℕ, ◌≤◌}
use native.Mathlib.Omega.{arith}
use lib.ListN.{length}
use Rattle.lists.specs.Basic.{all}
use Rattle.lists.specs.State.{Row}
use Rattle.lists.specs.InUse.{is_number, is_free}
use Rattle.lists.specs.promises.Tables.{Tables, Linked, nodes, ends, ShowsWith, next_of, behind_free, unless, last, first_or0, last_or0, SaysFreeAfter, SaysLastFree}
use Rattle.lists.proofs.Basic.{and-true, all_split, eqb-false}
use Rattle.lists.proofs.Chain.{next-at, prev-at, linked-tail}
use Rattle.lists.proofs.Free.{free-shown}
use Rattle.lists.proofs.Listed.{number-range, free-number, fits}
use Rattle.lists.proofs.Times.{once-most}
use Rattle.lists.proofs.Times.{standing-all}

-- a number is no end of the row
last-number : (a : ℕ) (xs : List ℕ) → is_number a ≡ true → all is_number xs ≡ true → is_number (last a xs) ≡ true
unfolding all
last-number a [] h k = h
last-number a (x ∷ xs) h k = let (u, v) = and-true (is_number x) (all is_number xs) k in last-number x xs u v

behind-last : (xs : List ℕ) → all is_number xs ≡ true → behind_free (last_or0 xs) ≡ last 254 xs
unfolding all
behind-last [] h = refl
behind-last (x ∷ xs) h =
    let (u, v) = and-true (is_number x) (all is_number xs) h in
    rw (eqb-false (last x xs) 0 (λ e. omega (arith, (number-range (last x xs) (last-number x xs u v)).0)))

module _ {t : Tables} {rs : List (Row ℕ)} where
  pub shown-numbers : {fs : List ℕ} → ShowsWith t rs fs → all is_number fs ≡ true
  shown-numbers {fs} s = standing-all is_number fs (λ n k. go n (is_free n rs) refl (rw (free-shown t rs fs s n) at k))
    where
      go : (n : ℕ) (b : Bool) → is_free n rs ≡ b → 1 ≤ cond b 1 0 → is_number n ≡ true
      go n true h k = free-number n rs h
      go n false h k = absurd (omega arith)

  pub shown-fits : {fs : List ℕ} → ShowsWith t rs fs → length fs ≤ 80
  shown-fits {fs} s = fits fs (shown-numbers s) (λ n. rw (free-shown t rs fs s n) (once-most (is_free n rs)))

  -- the row of free numbers, from node 254 on
  row-linked : (fs : List ℕ) → ShowsWith t rs fs → Linked t.next t.prev 254 (fs ++ 255 ∷ [])
  row-linked fs s = (linked-tail t.next t.prev 0 (nodes rs) (ends fs) s.linked).2

  pub free-after-shown : (pre post : List ℕ) {r : ℕ} → ShowsWith t rs (pre ++ post) → SaysFreeAfter t (last_or0 pre) r → r ≡ first_or0 post
  unfolding all
  free-after-shown pre post s w =
      let (u, v) = all_split is_number pre post (shown-numbers s) in
      let k = subst (Linked t.next t.prev 254) (append_assoc pre post (255 ∷ [])) (row-linked (pre ++ post) s) in
      w.answer ∙ ap (λ (n : ℕ). unless 255 (next_of t n)) (behind-last pre u) ∙ first post v k
    where
      first : (post : List ℕ) → all is_number post ≡ true → Linked t.next t.prev 254 (pre ++ (post ++ 255 ∷ [])) → unless 255 (next_of t (last 254 pre)) ≡ first_or0 post
      first [] v k = rw (next-at t.next t.prev 254 pre 255 [] k)
      first (x ∷ xs) v k =
          let (a, b) = and-true (is_number x) (all is_number xs) v in
          rw (next-at t.next t.prev 254 pre x (xs ++ 255 ∷ []) k, eqb-false x 255 (λ e. omega (arith, (number-range x a).1)))

  pub last-free-shown : (fs : List ℕ) {r : ℕ} → ShowsWith t rs fs → SaysLastFree t r → r ≡ last_or0 fs
  unfolding all
  last-free-shown fs s w = w.answer ∙ ap (unless 254) (prev-at t.next t.prev 254 fs 255 [] (row-linked fs s)) ∙ go fs (shown-numbers s)
    where
      go : (fs : List ℕ) → all is_number fs ≡ true → unless 254 (last 254 fs) ≡ last_or0 fs
      go [] h = refl
      go (x ∷ xs) h =
          let (a, b) = and-true (is_number x) (all is_number xs) h in
          rw (eqb-false (last x xs) 254 (λ e. omega (arith, (number-range (last x xs) (last-number x xs a b)).1)))
