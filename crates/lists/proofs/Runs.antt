-- Looking up one after another runs through all: the lists that tables show, and the blocks of one.
use mathlib.Core.Path.{◌≡◌, refl, sym, ap}
use mathlib.Core.Logic.{◌≢◌, ⊎_elim}
use mathlib.Core.Bool.{true, false}
use mathlib.Core.List.{List, [], ◌∷◌}
use Prim.Native.Nat.{ℕ, zero, suc, ◌+◌, ◌≤◌, ◌<◌}
use native.Mathlib.Omega.{arith}
use lib.Dec.{eqb}
use lib.ListN.{length, get_or, replicate, get_or-replicate}
use Rattle.lists.specs.State.{Block, Row}
use Rattle.lists.specs.Lookup.{blocks_of, next_in, next_after, list_nums, taken_after}
use Rattle.lists.specs.promises.Tables.{Tables, Away, Apart, HasBlocks, HasLists, Shows, block_nodes, nodes, times}
use Rattle.lists.proofs.Basic.{either, eqb_same, eqb-false}
use Rattle.lists.proofs.Chain.{away-right, apart-left, apart-right}
use Rattle.lists.proofs.Dropping.{AllOf, all-times}
use Rattle.lists.proofs.Lookup.{nodes-apart}
use Rattle.lists.proofs.Nodes.{block-nums}

-- Numbers by their places in a list, where 0 stands for none.
pub away-at : (x : ℕ) (xs : List ℕ) (i : ℕ) → Away x xs → i < length xs → x ≢ get_or xs i 0
away-at x [] i a h e = omega arith
away-at x (y ∷ xs) zero a h e = a.0 (sym e)
away-at x (y ∷ xs) (suc i) a h e = away-at x xs i a.1 (omega arith) e

pub some-within : (xs : List ℕ) (i : ℕ) → get_or xs i 0 ≢ 0 → i < length xs
some-within [] i n = absurd (n refl)
some-within (x ∷ xs) zero n = omega arith
some-within (x ∷ xs) (suc i) n = let l = some-within xs i n in omega arith

pub next_in-at : (xs : List ℕ) (i : ℕ) → Apart xs → i < length xs → next_in (get_or xs i 0) xs ≡ get_or xs (suc i) 0
unfolding next_in
next_in-at [] i a h = absurd (omega arith)
next_in-at (x ∷ xs) zero a h = rw (eqb_same x, next_in)
next_in-at (x ∷ xs) (suc i) a h = rw (eqb-false x (get_or xs i 0) (away-at x xs i a.0 (omega arith)), next_in) (next_in-at xs i a.1 (omega arith))

-- Numbers from 1 to k that are apart are no more than k: each has a mark of its own.
pub marked : (k l : ℕ) → 1 ≤ l → l ≤ k → ◌≡◌ {A = ℕ} (get_or (0 ∷ replicate k 1) l 0) 1
marked k zero a b = absurd (omega arith)
marked k (suc l) a b = get_or-replicate k l 1 0 (omega arith)

marks : (k : ℕ) → times 1 (0 ∷ replicate k 1) ≡ k
unfolding times
marks zero = refl
marks (suc k) = ap suc (marks k)

pub few : (k : ℕ) (ns : List ℕ) → Apart ns → AllOf 1 (0 ∷ replicate k 1) ns → length ns ≤ k
few k ns a h = rw (marks k) at (all-times 1 (0 ∷ replicate k 1) ns (omega arith) a h)

-- The lists.
away-nums : (l : ℕ) (rs : List (Row ℕ)) → Away (64 + l) (nodes rs) → Away l (list_nums rs)
unfolding list_nums
away-nums l [] h = tt
away-nums l (r ∷ rs) h = ((λ e. h.0 (rw e)), away-nums l rs (away-right (64 + l) (block_nodes r.blocks) (nodes rs) h.1))

nums-apart : (rs : List (Row ℕ)) → Apart (nodes rs) → Apart (list_nums rs)
unfolding list_nums
nums-apart [] h = tt
nums-apart (r ∷ rs) h = (
  away-nums r.num rs (away-right (64 + r.num) (block_nodes r.blocks) (nodes rs) h.0),
  nums-apart rs (apart-right (block_nodes r.blocks) (nodes rs) h.1),
)

module _ (o p : List ℕ) where
  nums-some : (rs : List (Row ℕ)) → HasLists o p rs → Away 0 (list_nums rs)
  unfolding list_nums
  nums-some [] h = tt
  nums-some (r ∷ rs) h = ((λ e. omega (arith, h.0.range.0)), nums-some rs h.2)

  nums-marked : (rs : List (Row ℕ)) → HasLists o p rs → AllOf 1 (0 ∷ replicate 16 1) (list_nums rs)
  unfolding list_nums
  nums-marked [] h = tt
  nums-marked (r ∷ rs) h = (marked 16 r.num h.0.range.0 h.0.range.1, nums-marked rs h.2)

  -- The blocks of a list.
  blocks-some : (l : ℕ) (xs : List (Block ℕ)) → HasBlocks o p l xs → Away 0 (block_nodes xs)
  blocks-some l [] h = tt
  blocks-some l (x ∷ xs) h = ((λ e. omega (arith, h.0.range.0)), blocks-some l xs h.1)

  blocks-marked : (l : ℕ) (xs : List (Block ℕ)) → HasBlocks o p l xs → AllOf 1 (0 ∷ replicate 64 1) (block_nodes xs)
  blocks-marked l [] h = tt
  blocks-marked l (x ∷ xs) h = (marked 64 x.num h.0.range.0 h.0.range.1, blocks-marked l xs h.1)

  row-blocks : (l : ℕ) (rs : List (Row ℕ)) → HasLists o p rs → Apart (nodes rs) → Apart (0 ∷ blocks_of rs l) × AllOf 1 (0 ∷ replicate 64 1) (blocks_of rs l)
  unfolding blocks_of
  row-blocks l [] h d = ((tt, tt), tt)
  row-blocks l (r ∷ rs) h d = ⊎_elim
      (λ (e : eqb r.num l ≡ true).
      rw (e, blocks_of, block-nums r.blocks)
      ((blocks-some r.num r.blocks h.1, apart-left (block_nodes r.blocks) (nodes rs) d.1), blocks-marked r.num r.blocks h.1))
      (λ (e : eqb r.num l ≡ false). rw (e, blocks_of) (row-blocks l rs h.2 (apart-right (block_nodes r.blocks) (nodes rs) d.1)))
      (either (eqb r.num l))

module _ (t : Tables) (rs : List (Row ℕ)) (s : Shows t rs) where
  apart-nodes : Apart (nodes rs)
  apart-nodes = nodes-apart t rs s.shown

  pub lists-apart : Apart (0 ∷ list_nums rs)
  lists-apart = (nums-some t.owner t.location rs s.shown.has, nums-apart rs apart-nodes)

  pub lists-few : length (list_nums rs) ≤ 16
  lists-few = few 16 (list_nums rs) (nums-apart rs apart-nodes) (nums-marked t.owner t.location rs s.shown.has)

  -- from 0 on, as many times as there are lists
  pub lists-run : (i : ℕ) → i ≤ length (list_nums rs) → taken_after rs (get_or (0 ∷ list_nums rs) i 0) ≡ get_or (list_nums rs) i 0
  unfolding taken_after
  lists-run i h = next_in-at (0 ∷ list_nums rs) i lists-apart (omega arith)

  pub blocks-apart : (l : ℕ) → Apart (0 ∷ blocks_of rs l)
  blocks-apart l = (row-blocks t.owner t.location l rs s.shown.has apart-nodes).0

  pub blocks-few : (l : ℕ) → length (blocks_of rs l) ≤ 64
  blocks-few l = few 64 (blocks_of rs l) (blocks-apart l).1 (row-blocks t.owner t.location l rs s.shown.has apart-nodes).1

  pub blocks-run : (l i : ℕ) → i ≤ length (blocks_of rs l) → next_after rs l (get_or (0 ∷ blocks_of rs l) i 0) ≡ get_or (blocks_of rs l) i 0
  unfolding next_after
  blocks-run l i h = next_in-at (0 ∷ blocks_of rs l) i (blocks-apart l) (omega arith)
