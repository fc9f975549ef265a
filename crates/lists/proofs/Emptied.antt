-- The tables of the empty state show it.
use mathlib.Core.Path.{◌≡◌, refl, sym, ◌∙◌}
use mathlib.Core.Bool.{Bool, true, false, ◌&&◌, ◌||◌, cond}
use mathlib.Core.List.{List, [], ◌∷◌, ◌++◌}
use Prim.Native.Nat.{ℕ, ◌≤◌}
use native.Mathlib.Omega.{arith}
use native.Mathlib.Decide.{ℕ_discrete, dec_le}
use lib.Dec.{eqb, leb}
use lib.ListN.{get_or}
use Rattle.lists.specs.Basic.{from, times}
use Rattle.lists.specs.Numbers.{all_numbers}
use Rattle.lists.specs.State.{empty}
use Rattle.lists.specs.promises.Tables.{Linked, chain, Whole, is_node, first_next, first_prev, cleared, ShowsAll}
use Rattle.lists.proofs.Basic.{and-true, eqb-true, eqb-false, le-true, gt-false, from-length, get_or-same}
use Rattle.lists.proofs.Times.{times-other, times-append, away-none, from-below, from-above, from-within}

-- is it so linked?
is_linked : List ℕ → List ℕ → ℕ → List ℕ → Bool
is_linked nx pv a [] = true
is_linked nx pv a (x ∷ xs) = eqb (get_or nx a 0) x && (eqb (get_or pv x 0) a && is_linked nx pv x xs)

linked-so : (nx pv : List ℕ) (a : ℕ) (xs : List ℕ) → is_linked nx pv a xs ≡ true → Linked nx pv a xs
unfolding is_linked
linked-so nx pv a [] h = tt
linked-so nx pv a (x ∷ xs) h =
    let (p, q) = and-true (eqb (get_or nx a 0) x) _ h in
    let (u, v) = and-true (eqb (get_or pv x 0) a) _ q in
    (eqb-true _ _ p, eqb-true _ _ u, linked-so nx pv x xs v)

first-linked : is_linked cleared.next cleared.prev 0 (chain [] all_numbers) ≡ true
unfolding is_linked cleared first_next first_prev from all_numbers
first-linked = refl

-- each number once
numbers-once : (n : ℕ) → times n all_numbers ≡ cond (leb 1 n && leb n 80) 1 0
unfolding all_numbers
numbers-once n = go (dec_le 1 n) (dec_le n 80)
  where
    go : Dec (1 ≤ n) → Dec (n ≤ 80) → times n (from (λ i. i) 1 80) ≡ cond (leb 1 n && leb n 80) 1 0
    go (no a) b = rw (gt-false 1 n (omega arith)) (from-below n 1 80 (omega arith))
    go (yes a) (no b) = rw (le-true 1 n a, gt-false n 80 (omega arith)) (from-above n 1 80 (omega arith))
    go (yes a) (yes b) = rw (le-true 1 n a, le-true n 80 b) (from-within n 1 80 a (omega arith))

at254 : times 254 (chain [] all_numbers) ≡ cond (is_node 254) 1 0
unfolding times all_numbers from
at254 = refl

at255 : times 255 (chain [] all_numbers) ≡ cond (is_node 255) 1 0
unfolding times all_numbers from
at255 = refl

first-whole : Whole (chain [] all_numbers)
first-whole n = go (ℕ_discrete n 254) (ℕ_discrete n 255)
  where
    closed : (m : ℕ) → n ≡ m → times m (chain [] all_numbers) ≡ cond (is_node m) 1 0 → times n (chain [] all_numbers) ≡ cond (is_node n) 1 0
    closed m e h = rw e h

    other : (b : Bool) → ◌≡◌ {A = ℕ} (cond b 1 0) (cond (b || (false || false)) 1 0)
    other true = refl
    other false = refl

    go : Dec (n ≡ 254) → Dec (n ≡ 255) → times n (chain [] all_numbers) ≡ cond (is_node n) 1 0
    go (yes e) d = closed 254 e at254
    go (no c) (yes e) = closed 255 e at255
    go (no c) (no d) =
        let k = times-other n 254 (all_numbers ++ 255 ∷ []) (λ z. c (sym z)) in
        let m : times n (255 ∷ []) ≡ 0 = away-none n (255 ∷ []) ((λ z. d (sym z)), tt) in
        let j : times n (chain [] all_numbers) ≡ times n all_numbers = omega (arith, k, m, times-append n all_numbers (255 ∷ [])) in
        j ∙ numbers-once n ∙ rw (eqb-false n 254 c, eqb-false n 255 d) (other (leb 1 n && leb n 80))

pub shows-emptied : ShowsAll cleared empty
unfolding cleared
shows-emptied = record {
  sized = record { next = from-length first_next 0 256; prev = from-length first_prev 0 256; owner = refl; location = refl };
  whole = first-whole;
  linked = linked-so _ _ 0 (chain [] all_numbers) first-linked;
  has = tt;
  free = λ m h. get_or-same 256 m 0;
}
