-- How many nodes a list has among the owners, and how its blocks go, one by one from the first, until none is left.
use mathlib.Core.Path.{◌≡◌, refl, sym, ap, ◌∙◌}
use mathlib.Core.Logic.{◌≢◌}
use mathlib.Core.Bool.{Bool, true, false, cond}
use mathlib.Core.List.{List, [], ◌∷◌}
use Prim.Native.Nat.{ℕ, zero, suc, ◌≤◌, ◌<◌}
use native.Mathlib.Omega.{arith}
use lib.Dec.{eqb}
use lib.ListN.{length, get_or, set, length-set}
use native.Mathlib.Decide.{ℕ_discrete}
use lib.Seq.{get_or-set_other, get_or-set_same}
use Rattle.lists.specs.State.{Block}
use Rattle.lists.specs.promises.Tables.{Tables, next_of, owner_of, drop_first, drop_up_to, drop_all, Away, Apart, HasBlocks, block_nodes, times}
use Rattle.lists.proofs.Basic.{eqb-false, eq-true, get_or-set-default}

-- How often l stands among the owners: once less with each node freed, so that there is an end of them.
pub times-set : (l n : ℕ) (o : List ℕ) → get_or o n 0 ≡ l → 1 ≤ l → times l o ≡ suc (times l (set o n 0))
unfolding times
times-set l n [] h g = absurd (omega arith)
times-set l zero (x ∷ o) h g = rw (eq-true x l h, eqb-false 0 l (λ z. omega arith))
times-set l (suc n) (x ∷ o) h g = rw (times-set l n o h g) (go (eqb x l))
  where
    go : (u : Bool) → cond u (suc (suc (times l (set o n 0)))) (suc (times l (set o n 0))) ≡ suc (cond u (suc (times l (set o n 0))) (times l (set o n 0)))
    go true = refl
    go false = refl

pub times-most : (l : ℕ) (o : List ℕ) → times l o ≤ length o
unfolding times
times-most l [] = omega arith
times-most l (x ∷ o) = go (eqb x l) (times-most l o)
  where
    go : (u : Bool) → times l o ≤ length o → cond u (suc (times l o)) (times l o) ≤ suc (length o)
    go true h = omega arith
    go false h = omega arith

-- these nodes are all of list l
abbrev pub AllOf : ℕ → List ℕ → List ℕ → Type 0
AllOf l o [] = Unit {0}
AllOf l o (n ∷ ns) = (get_or o n 0 ≡ l) × AllOf l o ns

all_set : (l n v : ℕ) (o ns : List ℕ) → Away n ns → AllOf l o ns → AllOf l (set o n v) ns
all_set l n v o [] h k = tt
all_set l n v o (m ∷ ns) h k = (get_or-set_other o n m v 0 h.0 ∙ k.0, all_set l n v o ns h.1 k.1)

pub all-times : (l : ℕ) (o ns : List ℕ) → 1 ≤ l → Apart ns → AllOf l o ns → length ns ≤ times l o
all-times l o [] g a h = omega arith
all-times l o (n ∷ ns) g a h = omega (arith, times-set l n o h.0 g, all-times l (set o n 0) ns g a.1 (all_set l n 0 o ns a.0 h.1))

pub blocks-all : (o p : List ℕ) (l : ℕ) (xs : List (Block ℕ)) → HasBlocks o p l xs → AllOf l o (block_nodes xs)
blocks-all o p l [] h = tt
blocks-all o p l (x ∷ xs) h = (h.0.owned, blocks-all o p l xs h.1)

-- A list's blocks go, one by one, each behind the last free node z.
module _ (n l z : ℕ) (t : Tables) where
  drop-owner : (drop_first n z t).owner ≡ set t.owner (next_of t n) 0
  unfolding drop_first
  drop-owner = refl

  -- the list's node leads to the one behind its first block
  pub drop-next : n < length t.next → next_of (drop_first n z t) n ≡ next_of t (next_of t n)
  unfolding drop_first
  drop-next h =
      let b = next_of t n in
      get_or-set_same (set (set t.next z b) b 255) n (next_of t b) 0 (rw (length-set (set t.next z b) b 255, length-set t.next z b) h)

  pub drop-fewer : owner_of t (next_of t n) ≡ l → 1 ≤ l → times l t.owner ≡ suc (times l (drop_first n z t).owner)
  drop-fewer h g = rw drop-owner (times-set l (next_of t n) t.owner h g)

  pub up_to-stop : (k : ℕ) → owner_of t (next_of t n) ≢ l → drop_up_to k n l z t ≡ t
  unfolding drop_up_to
  up_to-stop zero h = refl
  up_to-stop (suc k) h = rw (eqb-false (owner_of t (next_of t n)) l h, drop_up_to)

  pub up_to-more : (k : ℕ) → owner_of t (next_of t n) ≡ l → drop_up_to (suc k) n l z t ≡ drop_up_to k n l (next_of t n) (drop_first n z t)
  unfolding drop_up_to
  up_to-more k h = rw (eq-true (owner_of t (next_of t n)) l h, drop_up_to)

  -- one turn, and the end
  pub drop-turn : owner_of t (next_of t n) ≡ l → 1 ≤ l → drop_all n l (next_of t n) (drop_first n z t) ≡ drop_all n l z t
  unfolding drop_all
  drop-turn h g = rw (drop-fewer h g) (sym (up_to-more (times l (drop_first n z t).owner) h))

  pub drop-stop : owner_of t (next_of t n) ≢ l → drop_all n l z t ≡ t
  unfolding drop_all
  drop-stop h = up_to-stop (times l t.owner) h

  -- the list's own node stays, or nothing of the list follows it
  pub drop-taken : n < length t.next → owner_of t n ≡ l → 1 ≤ l → owner_of (drop_first n z t) (next_of (drop_first n z t) n) ≡ l → owner_of (drop_first n z t) n ≡ l
  drop-taken m h g k = go (ℕ_discrete n (next_of t n))
    where
      go : Dec (n ≡ next_of t n) → owner_of (drop_first n z t) n ≡ l
      go (yes e) =
          let x : next_of (drop_first n z t) n ≡ n = drop-next m ∙ sym (e ∙ ap (next_of t) e) in
          let y : owner_of (drop_first n z t) n ≡ 0 = ap (λ (o : List ℕ). get_or o n 0) drop-owner ∙ ap (λ (j : ℕ). get_or (set t.owner j 0) n 0) (sym e) ∙ get_or-set-default t.owner n 0 in
          absurd (omega (arith, sym y ∙ ap (owner_of (drop_first n z t)) (sym x) ∙ k))
      go (no e) = ap (λ (o : List ℕ). get_or o n 0) drop-owner ∙ get_or-set_other t.owner (next_of t n) n 0 0 e ∙ h
