-- Owners and places: how the tables have lists and their blocks, what a change of either table leaves of that, and what the owners say of a state.
use mathlib.Core.Path.{◌≡◌, refl, ap, ◌∙◌}
use mathlib.Core.Logic.{⊎_elim}
use mathlib.Core.Bool.{Bool, true, false, ◌&&◌, cond, false≢true}
use mathlib.Core.Option.{some}
use mathlib.Core.List.{List, [], ◌∷◌, ◌++◌, map}
use Prim.Native.Nat.{ℕ, zero, suc, ◌+◌, ◌≤◌, ◌<◌}
use native.Mathlib.Omega.{arith}
use lib.Dec.{eqb}
use lib.ListN.{length, get_or, set}
use lib.Seq.{get_or-set_other, get_or-set_same}
use Rattle.lists.specs.Basic.{keep}
use Rattle.lists.specs.State.{Block, Row, on_row, on_blocks_of, taken, placed, on_list, insert_after, at, put, on_blocks, other_block, block}
use Rattle.lists.specs.promises.Tables.{Away, HasBlock, HasBlocks, HasLists, IsList, block_nodes, nodes, located_at}
use Rattle.lists.proofs.Basic.{either, or-both, or_cases, or_right, and-true, eqb-true, eqb-neq, eq-true}
use Rattle.lists.proofs.Chain.{away-append}

-- two arrays that agree at these nodes
abbrev pub Same : List ℕ → List ℕ → List ℕ → Type 0
Same o q [] = Unit {0}
Same o q (n ∷ ns) = (get_or q n 0 ≡ get_or o n 0) × Same o q ns

pub same_refl : (o ns : List ℕ) → Same o o ns
same_refl o [] = tt
same_refl o (n ∷ ns) = (refl, same_refl o ns)

pub same_set : (o : List ℕ) (n v : ℕ) (ns : List ℕ) → Away n ns → Same o (set o n v) ns
same_set o n v [] h = tt
same_set o n v (m ∷ ns) h = (get_or-set_other o n m v 0 h.0, same_set o n v ns h.1)

pub same-trans : (o q r ns : List ℕ) → Same o q ns → Same q r ns → Same o r ns
same-trans o q r [] h k = tt
same-trans o q r (n ∷ ns) h k = (k.0 ∙ h.0, same-trans o q r ns h.1 k.1)

same_left : (o q a b : List ℕ) → Same o q (a ++ b) → Same o q a
same_left o q [] b h = tt
same_left o q (x ∷ a) b h = (h.0, same_left o q a b h.1)

same-right : (o q a b : List ℕ) → Same o q (a ++ b) → Same o q b
same-right o q [] b h = h
same-right o q (x ∷ a) b h = same-right o q a b h.1

module _ (o q p r : List ℕ) where
  blocks-same : (l : ℕ) (xs : List (Block ℕ)) → Same o q (block_nodes xs) → Same p r (block_nodes xs) → HasBlocks o p l xs → HasBlocks q r l xs
  blocks-same l [] h k w = tt
  blocks-same l (x ∷ xs) h k w = (
    record { range = w.0.range; owned = h.0 ∙ w.0.owned; stands = ap located_at k.0 ∙ w.0.stands },
    blocks-same l xs h.1 k.1 w.1,
  )

  pub has_same : (rs : List (Row ℕ)) → Same o q (nodes rs) → Same p r (nodes rs) → HasLists o p rs → HasLists q r rs
  has_same [] h k w = tt
  has_same (x ∷ rs) h k w = (
    record { range = w.0.range; owned = h.0 ∙ w.0.owned },
    blocks-same x.num x.blocks (same_left o q (block_nodes x.blocks) (nodes rs) h.1) (same_left p r (block_nodes x.blocks) (nodes rs) k.1) w.1,
    has_same rs (same-right o q (block_nodes x.blocks) (nodes rs) h.1) (same-right p r (block_nodes x.blocks) (nodes rs) k.1) w.2,
  )

module _ (o p : List ℕ) where
  pub has-append : (rs qs : List (Row ℕ)) → HasLists o p rs → HasLists o p qs → HasLists o p (rs ++ qs)
  has-append [] qs h k = k
  has-append (r ∷ rs) qs h k = (h.0, h.1, has-append rs qs h.2 k)

  pub has_left : (rs qs : List (Row ℕ)) → HasLists o p (rs ++ qs) → HasLists o p rs
  has_left [] qs h = tt
  has_left (r ∷ rs) qs h = (h.0, h.1, has_left rs qs h.2)

  pub has_right : (rs qs : List (Row ℕ)) → HasLists o p (rs ++ qs) → HasLists o p qs
  has_right [] qs h = h
  has_right (r ∷ rs) qs h = has_right rs qs h.2

  pub blocks-after : (l a : ℕ) (n : Block ℕ) → HasBlock o p l n → (xs : List (Block ℕ)) → HasBlocks o p l xs → HasBlocks o p l (insert_after a n xs)
  blocks-after l a n k [] h = tt
  blocks-after l a n k (x ∷ xs) h = ⊎_elim
      (λ e. rw e (h.0, (k, h.1)))
      (λ e. rw e (h.0, blocks-after l a n k xs h.1))
      (either (eqb x.num a))

  pub has-at : (l : ℕ) (f : List (Block ℕ) → List (Block ℕ)) → ((xs : List (Block ℕ)) → HasBlocks o p l xs → HasBlocks o p l (f xs))
      → (rs : List (Row ℕ)) → HasLists o p rs → HasLists o p (map (at l f) rs)
  has-at l f k [] h = tt
  has-at l f k (r ∷ rs) h = ⊎_elim
      (λ e. rw e (
        record { range = h.0.range; owned = h.0.owned },
        (let q : r.num ≡ l = eqb-true r.num l e in rw q (k r.blocks (rw q at h.1))),
        has-at l f k rs h.2,
      ))
      (λ e. rw e (h.0, h.1, has-at l f k rs h.2))
      (either (eqb r.num l))

  blocks-keep : (l b : ℕ) (xs : List (Block ℕ)) → HasBlocks o p l xs → HasBlocks o p l (keep (other_block b) xs)
  blocks-keep l b [] h = tt
  blocks-keep l b (x ∷ xs) h = ⊎_elim
      (λ e. rw e (blocks-keep l b xs h.1))
      (λ e. rw e (h.0, blocks-keep l b xs h.1))
      (either (eqb x.num b))

  pub has-keep : (b : ℕ) (rs : List (Row ℕ)) → HasLists o p rs → HasLists o p (map (on_blocks (keep (other_block b))) rs)
  has-keep b [] h = tt
  has-keep b (r ∷ rs) h = (record { range = h.0.range; owned = h.0.owned }, blocks-keep r.num b r.blocks h.1, has-keep b rs h.2)

pub located-some : (d : ℕ) → 1 ≤ d → located_at d ≡ some d
located-some zero h = absurd (omega arith)
located-some (suc d) h = refl

-- the content of block b stands at location d
module _ (o p : List ℕ) (b d : ℕ) (g : b < length p) (f : 1 ≤ d) where
  block-write : (l : ℕ) (x : Block ℕ) → HasBlock o p l x → HasBlock o (set p b d) l (put b d x)
  block-write l x k = go (eqb x.num b) refl
    where
      go : (u : Bool) → eqb x.num b ≡ u → HasBlock o (set p b d) l (cond u (block b (some d)) x)
      go true e = let q : x.num ≡ b = eqb-true x.num b e in record { range = rw q at k.range; owned = rw q at k.owned; stands = ap located_at (get_or-set_same p b d 0 g) ∙ located-some d f }
      go false e = record { range = k.range; owned = k.owned; stands = ap located_at (get_or-set_other p b x.num d 0 (eqb-neq x.num b e)) ∙ k.stands }

  blocks-write : (l : ℕ) (xs : List (Block ℕ)) → HasBlocks o p l xs → HasBlocks o (set p b d) l (map (put b d) xs)
  blocks-write l [] h = tt
  blocks-write l (x ∷ xs) h = (block-write l x h.0, blocks-write l xs h.1)

  pub has-write : (rs : List (Row ℕ)) → HasLists o p rs → HasLists o (set p b d) (map (on_blocks (map (put b d))) rs)
  has-write [] h = tt
  has-write (r ∷ rs) h = (record { range = h.0.range; owned = h.0.owned }, blocks-write r.num r.blocks h.1, has-write rs h.2)

-- What the owners say of a state.
module _ (o p : List ℕ) where
  pub taken-owner : (l : ℕ) (rs : List (Row ℕ)) → HasLists o p rs → taken l rs ≡ true → get_or o (64 + l) 0 ≡ l
  unfolding taken
  taken-owner l [] w h = absurd (false≢true h)
  taken-owner l (r ∷ rs) w h = ⊎_elim
      (λ e. let q : r.num ≡ l = eqb-true r.num l e in rw (← q) w.0.owned)
      (λ e. taken-owner l rs w.2 e)
      (or_cases (eqb r.num l) (taken l rs) h)

  pub taken-range : (l : ℕ) (rs : List (Row ℕ)) → HasLists o p rs → taken l rs ≡ true → IsList l
  unfolding taken
  taken-range l [] w h = absurd (false≢true h)
  taken-range l (r ∷ rs) w h = ⊎_elim
      (λ e. let q : r.num ≡ l = eqb-true r.num l e in rw q at w.0.range)
      (λ e. taken-range l rs w.2 e)
      (or_cases (eqb r.num l) (taken l rs) h)

  blocks-away : (m l : ℕ) (xs : List (Block ℕ)) → 64 < m → HasBlocks o p l xs → Away m (block_nodes xs)
  blocks-away m l [] g h = tt
  blocks-away m l (x ∷ xs) g h = ((λ e. omega (arith, h.0.range.1, e)), blocks-away m l xs g h.1)

  pub untaken-away : (l : ℕ) (rs : List (Row ℕ)) → 1 ≤ l → HasLists o p rs → taken l rs ≡ false → Away (64 + l) (nodes rs)
  unfolding taken
  untaken-away l [] g w h = tt
  untaken-away l (r ∷ rs) g w h =
      let (a, b) = or-both (eqb r.num l) (taken l rs) h in (
        (λ e. eqb-neq r.num l a (omega arith)),
        away-append (64 + l) (block_nodes r.blocks) (nodes rs) (blocks-away (64 + l) r.num r.blocks (omega arith) w.1) (untaken-away l rs g w.2 b),
      )

  on-owner : (b l : ℕ) (xs : List (Block ℕ)) → HasBlocks o p l xs → on_blocks_of b xs ≡ true → get_or o b 0 ≡ l
  on-owner b l [] w h = absurd (false≢true h)
  on-owner b l (x ∷ xs) w h = ⊎_elim
      (λ e. let q : x.num ≡ b = eqb-true x.num b e in rw (← q) w.0.owned)
      (λ e. on-owner b l xs w.1 e)
      (or_cases (eqb x.num b) (on_blocks_of b xs) h)

  off-away : (b : ℕ) (xs : List (Block ℕ)) → on_blocks_of b xs ≡ false → Away b (block_nodes xs)
  off-away b [] h = tt
  off-away b (x ∷ xs) h = let (a, c) = or-both (eqb x.num b) (on_blocks_of b xs) h in (eqb-neq x.num b a, off-away b xs c)

  pub unplaced-away : (b : ℕ) (rs : List (Row ℕ)) → b ≤ 64 → HasLists o p rs → placed b rs ≡ false → Away b (nodes rs)
  unfolding placed
  unplaced-away b [] g w h = tt
  unplaced-away b (r ∷ rs) g w h =
      let (a, c) = or-both (on_row b r) (placed b rs) h in
      ((λ e. omega (arith, w.0.range.0, e)), away-append b (block_nodes r.blocks) (nodes rs) (off-away b r.blocks a) (unplaced-away b rs g w.2 c))

  pub on_list-owner : (l b : ℕ) (rs : List (Row ℕ)) → HasLists o p rs → on_list l b rs ≡ true → get_or o b 0 ≡ l
  unfolding on_list
  on_list-owner l b [] w h = absurd (false≢true h)
  on_list-owner l b (r ∷ rs) w h = ⊎_elim
      (λ e. let (x, y) = and-true (eqb r.num l) (on_row b r) e in on-owner b r.num r.blocks w.1 y ∙ eqb-true r.num l x)
      (λ e. on_list-owner l b rs w.2 e)
      (or_cases (eqb r.num l && on_row b r) (on_list l b rs) h)

  -- a block on some list is on its owner's
  pub placed-owner : (b : ℕ) (rs : List (Row ℕ)) → HasLists o p rs → placed b rs ≡ true → (1 ≤ get_or o b 0) × (on_list (get_or o b 0) b rs ≡ true)
  unfolding placed on_list
  placed-owner b [] w h = absurd (false≢true h)
  placed-owner b (r ∷ rs) w h = ⊎_elim
      (λ e.
      let q : get_or o b 0 ≡ r.num = on-owner b r.num r.blocks w.1 e in
      (rw q w.0.range.0, rw (q, eq-true r.num r.num refl, e)))
      (λ e. let (x, y) = placed-owner b rs w.2 e in (x, or_right (eqb r.num (get_or o b 0) && on_row b r) _ y))
      (or_cases (on_row b r) (placed b rs) h)
