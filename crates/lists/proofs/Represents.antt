-- Tables after a change show the state after it, and they refuse it exactly when it does not apply there: the tables represent the state.
use mathlib.Core.Path.{◌≡◌, refl, sym, ap, ◌∙◌, subst}
use mathlib.Core.Logic.{◌≢◌, ⊎_elim}
use mathlib.Core.Bool.{Bool, true, false, ◌&&◌, ◌||◌, not, cond, true≢false}
use mathlib.Core.Option.{Option, none, some}
use mathlib.Core.List.{List, [], ◌∷◌, ◌++◌, map, append_assoc, append-nil}
use Prim.Native.Nat.{ℕ, zero, suc, ◌+◌, ◌≤◌, ◌<◌}
use native.Mathlib.Omega.{arith}
use lib.Dec.{eqb, leb}
use lib.ListN.{length, take, drop, get_or, set, length-set}
use lib.Seq.{get_or-set_other, get_or-set_same, set_comm}
use Rattle.lists.specs.Basic.{bind, keep, or_else}
use Rattle.lists.specs.Change.{Change, take_list, put_first, put_after, write, del_block, del_list}
use Rattle.lists.specs.State.{State, Block, Row, taken, placed, on_list, insert_after, at, put, on_blocks, other_block, other_row, block, row, blocks_of, changed, frees, free_after, applies, apply}
use Rattle.lists.specs.Clearing.{first_off, steps_off, steps_free}
use Rattle.lists.specs.promises.Tables.{Tables, tables, next_of, prev_of, owner_of, place_node, insert_node, insert_before, free_node, with_location, times, cut_node, drop_first, drop_up_to, drop_all, cut_list, put_fits, put_done, suits, done, Did, Away, Apart, Linked, block_nodes, nodes, ends, chain, is_node, first_or0, IsFirst, IsBlock, IsList, HasBlock, HasBlocks, HasLists, ShowsWith, ShowsAll, Ranged, Represents, located_at}
use Rattle.lists.proofs.Basic.{either, or-both, and-true, not-false, eqb-true, eqb-neq, eqb-false, le-true, keep_all, and-swap, and-implied, not-not, gt-false, get_or-set-default}
use Rattle.lists.proofs.Times.{times-append, times-cons, times-moved, times-here, away-none, Standing, standing, without, without-once}
use Rattle.lists.proofs.Chain.{Small, last, Chained, uncons, away-left, away-right, away-append, away-last, apart-left, apart-right, apart_out, small-middle, last_snoc, last-append, next-at, prev-at, linked-tail, chained-cut, chained-insert}
use Rattle.lists.proofs.Nodes.{Grown, RowAt, nodes-append, nodes-write, first-grown, after-grown, block-shrunk, row_at, on_list-taken}
use Rattle.lists.proofs.Owners.{same_refl, same_set, has_same, has-append, has_left, has_right, has-at, has-keep, has-write, blocks-after, taken-owner, unplaced-away, untaken-away}
use Rattle.lists.proofs.Dropping.{AllOf, blocks-all, all-times, up_to-stop, up_to-more}
use Rattle.lists.proofs.Clearing.{steps-blocks, steps-taken, steps_first, steps-kept, steps-others}
use Rattle.lists.proofs.Lookup.{node_of, chain-apart, nodes-apart, taken_free, taken_own, placed-free, on-own}

nodes-first : (xs : List (Block ℕ)) → block_nodes (drop 1 xs) ≡ drop 1 (block_nodes xs)
nodes-first [] = refl
nodes-first (x ∷ xs) = refl

blocks-first : (o p : List ℕ) (l : ℕ) (xs : List (Block ℕ)) → HasBlocks o p l xs → HasBlocks o p l (drop 1 xs)
blocks-first o p l [] h = h
blocks-first o p l (x ∷ xs) h = h.1

-- what stands in a whole chain is a node of the tables
whole-small : (ns : List ℕ) → ((n : ℕ) → 256 ≤ n → times n ns ≡ 0) → Small ns
whole-small [] h = tt
whole-small (x ∷ ns) h = (go (native.Mathlib.Decide.dec_lt x 256), whole-small ns (λ n g. omega (arith, times-cons n x ns, h n g)))
  where
    go : Dec (x < 256) → x < 256
    go (yes e) = e
    go (no e) = absurd (omega (arith, times-here x ns, h x (omega arith)))

large-none : (n : ℕ) → 256 ≤ n → is_node n ≡ false
large-none n h = rw (gt-false n 80 (omega arith), eqb-false n 254 (λ e. omega arith), eqb-false n 255 (λ e. omega arith)) (and-false (leb 1 n))
  where
    and-false : (b : Bool) → (b && false) || (false || false) ≡ false
    and-false true = refl
    and-false false = refl

pub number-node : (n : ℕ) → 1 ≤ n → n ≤ 80 → is_node n ≡ true
number-node n a b = rw (le-true 1 n a, le-true n 80 b)

-- n between nodes x and y, of list l, with the locations p
abbrev placed_in : ℕ → ℕ → ℕ → ℕ → List ℕ → Tables → Tables
placed_in x y n l p u = tables (set (set u.next x n) n y) (set (set u.prev n x) y n) (set u.owner n l) p

-- A node moves.
module _ (t : Tables) (rs : List (Row ℕ)) {fs : List ℕ} (s : ShowsWith t rs fs) where
  chain-chained : Chained t.next t.prev (chain rs fs)
  chain-chained = record {
    apart = chain-apart t rs s;
    small = whole-small (chain rs fs) (λ n h. s.whole n ∙ ap (λ (b : Bool). cond b 1 0) (large-none n h));
    linked = s.linked;
  }

  module _ (n : ℕ) (A : List ℕ) (y : ℕ) (B : List ℕ) (was : chain rs fs ≡ A ++ n ∷ y ∷ B) where
    here : Chained t.next t.prev (A ++ n ∷ y ∷ B)
    here = subst (λ (z : List ℕ). Chained t.next t.prev z) was chain-chained

    module _ (A' : List ℕ) (y' : ℕ) (B' : List ℕ) (same : A ++ y ∷ B ≡ A' ++ y' ∷ B') where
      out : Chained (cut_node n t).next (cut_node n t).prev (A' ++ y' ∷ B')
      unfolding cut_node
      out = subst (λ (z : List ℕ). Chained (cut_node n t).next (cut_node n t).prev z) same (chained-cut s.sized.next s.sized.prev A n y B here)

      moved-behind : next_of (cut_node n t) (last 0 A') ≡ y'
      moved-behind = next-at (cut_node n t).next (cut_node n t).prev 0 A' y' B' out.linked

      moved_before : prev_of (cut_node n t) y' ≡ last 0 A'
      moved_before = prev-at (cut_node n t).next (cut_node n t).prev 0 A' y' B' out.linked

      shows-moved : (rs' : List (Row ℕ)) (fs' : List ℕ) (l : ℕ) (p : List ℕ) → chain rs' fs' ≡ A' ++ n ∷ y' ∷ B' → length p ≡ 256
          → HasLists (set t.owner n l) p rs' → ((m : ℕ) → Away m (nodes rs') → get_or (set t.owner n l) m 0 ≡ 0)
          → ShowsWith (placed_in (last 0 A') y' n l p (cut_node n t)) rs' fs'
      unfolding cut_node
      shows-moved rs' fs' l p now lp own free =
          let away : Away n (0 ∷ A ++ y ∷ B) = apart_out (0 ∷ A) n (y ∷ B) here.apart in
          let small : n < 256 = small-middle A n (y ∷ B) here.small in
          let c = chained-insert (simp length-set s.sized.next) (simp length-set s.sized.prev) A' n y' B' out
          (subst (λ (z : List ℕ). Away n (0 ∷ z)) same away) small in
          record {
            sized = record { next = simp length-set s.sized.next; prev = simp length-set s.sized.prev; owner = simp length-set s.sized.owner; location = lp };
            whole = λ m. ap (times m) now ∙ sym (times-moved m n A (y ∷ B) A' (y' ∷ B') same) ∙ ap (times m) (sym was) ∙ s.whole m;
            linked = rw now c.linked;
            has = own;
            free = free;
          }

  -- a number that no list has is free
  free-standing : (n : ℕ) → 1 ≤ n → n ≤ 80 → Away n (nodes rs) → Standing n fs
  free-standing n a b w =
      let q : times n (chain rs fs) ≡ 1 = s.whole n ∙ ap (λ (z : Bool). cond z 1 0) (number-node n a b) in
      standing n fs (omega (
        arith,
        q,
        times-append n (nodes rs) (ends fs),
        away-none n (nodes rs) w,
        times-cons n 254 (fs ++ 255 ∷ []),
        times-append n fs (255 ∷ []),
        away-none n (254 ∷ []) ((λ e. omega arith), tt),
        away-none n (255 ∷ []) ((λ e. omega arith), tt),
      ))

  -- Node n leaves the free ones: it goes in between front and back, where y is the first of what is behind it.
  module _ (rs' : List (Row ℕ)) (front back : List ℕ) (n l : ℕ) (p : List ℕ) (was : nodes rs ≡ front ++ back) (is : nodes rs' ≡ front ++ n ∷ back)
      (low : 1 ≤ n) (high : n ≤ 80) (away : Away n (nodes rs)) (y : ℕ) (r : List ℕ) (first : back ++ ends (without n fs) ≡ y ∷ r) where
    f : Standing n fs
    f = free-standing n low high away

    rest : without n fs ≡ f.front ++ f.back
    rest = ap (without n) f.was ∙ without-once n f.front f.back (apart_out f.front n f.back
        (apart-left (f.front ++ n ∷ f.back) (255 ∷ []) (subst (λ (z : List ℕ). Apart (z ++ 255 ∷ [])) f.was (apart-right (nodes rs) (ends fs) (chain-apart t rs s).1).1)))

    behind : (z : ℕ) × (zs : List ℕ) × (f.back ++ 255 ∷ [] ≡ z ∷ zs)
    behind = uncons f.back 255 []

    old : chain rs fs ≡ (nodes rs ++ 254 ∷ f.front) ++ n ∷ behind.0 ∷ behind.1
    old =
        let e : chain rs (f.front ++ n ∷ f.back) ≡ (nodes rs ++ 254 ∷ f.front) ++ n ∷ (f.back ++ 255 ∷ []) = simp append_assoc in
        ap (chain rs) f.was ∙ e ∙ ap (λ (z : List ℕ). (nodes rs ++ 254 ∷ f.front) ++ n ∷ z) behind.2

    same : (nodes rs ++ 254 ∷ f.front) ++ behind.0 ∷ behind.1 ≡ front ++ y ∷ r
    same =
        let e : (nodes rs ++ 254 ∷ f.front) ++ (f.back ++ 255 ∷ []) ≡ nodes rs ++ ends (f.front ++ f.back) = simp append_assoc in
        ap (λ (z : List ℕ). (nodes rs ++ 254 ∷ f.front) ++ z) (sym behind.2)
        ∙ e
        ∙ ap (λ (z : List ℕ). z ++ ends (f.front ++ f.back)) was
        ∙ append_assoc front back (ends (f.front ++ f.back))
        ∙ ap (λ (z : List ℕ). front ++ (back ++ ends z)) (sym rest)
        ∙ ap (λ (z : List ℕ). front ++ z) first

    now : chain rs' (without n fs) ≡ front ++ n ∷ y ∷ r
    now =
        ap (λ (z : List ℕ). z ++ ends (without n fs)) is ∙ append_assoc front (n ∷ back) (ends (without n fs)) ∙ ap (λ (z : List ℕ). front ++ n ∷ z) first

    in-behind : next_of (cut_node n t) (last 0 front) ≡ y
    in-behind = moved-behind n (nodes rs ++ 254 ∷ f.front) behind.0 behind.1 old front y r same

    in-before : prev_of (cut_node n t) y ≡ last 0 front
    in-before = moved_before n (nodes rs ++ 254 ∷ f.front) behind.0 behind.1 old front y r same

    shows_in : length p ≡ 256 → HasLists (set t.owner n l) p rs' → ShowsWith (placed_in (last 0 front) y n l p (cut_node n t)) rs' (without n fs)
    shows_in lp own =
        shows-moved n (nodes rs ++ 254 ∷ f.front) behind.0 behind.1 old front y r same rs' (without n fs) l p now lp own
        (λ m h.
        let g : Away m (front ++ n ∷ back) = subst (λ (z : List ℕ). Away m z) is h in
        get_or-set_other t.owner n m l 0 (λ z. (away-right m front (n ∷ back) g).0 (sym z))
        ∙ s.free m (rw was (away-append m front back (away-left m front (n ∷ back) g) (away-right m front (n ∷ back) g).1)))

  -- node n goes behind the last free one
  shows-out : (rs' : List (Row ℕ)) (front : List ℕ) (n : ℕ) (back : List ℕ) → nodes rs ≡ front ++ n ∷ back → nodes rs' ≡ front ++ back
      → HasLists t.owner t.location rs' → ShowsWith (free_node n t) rs' (fs ++ n ∷ [])
  unfolding free_node insert_before place_node cut_node
  shows-out rs' front n back was is has =
      let (y, r, e) = uncons back 254 (fs ++ 255 ∷ []) in
      let old : chain rs fs ≡ front ++ n ∷ y ∷ r =
      ap (λ (z : List ℕ). z ++ ends fs) was ∙ append_assoc front (n ∷ back) (ends fs) ∙ ap (λ (z : List ℕ). front ++ n ∷ z) e in
      let A' = nodes rs' ++ 254 ∷ fs in
      let same : front ++ y ∷ r ≡ A' ++ 255 ∷ [] =
      ap (λ (z : List ℕ). front ++ z) (sym e) ∙ sym (append_assoc front back (ends fs)) ∙ ap (λ (z : List ℕ). z ++ ends fs) (sym is) ∙ sym (append_assoc (nodes rs') (254 ∷ fs) (255 ∷ [])) in
      let now : chain rs' (fs ++ n ∷ []) ≡ A' ++ n ∷ 255 ∷ [] = simp append_assoc in
      let a1 : Apart (front ++ n ∷ back) = subst (λ (z : List ℕ). Apart z) was (nodes-apart t rs s) in
      let a2 : Away n (front ++ back) = apart_out front n back a1 in
      let shown = shows-moved n front y r old A' 255 [] same rs' (fs ++ n ∷ []) 0 t.location now s.sized.location
      (has_same t.owner (set t.owner n 0) t.location t.location rs' (same_set t.owner n 0 (nodes rs') (rw is a2)) (same_refl t.location (nodes rs')) has)
      (λ j z. ⊎_elim
      (λ u. rw (eqb-true j n u) (get_or-set-default t.owner n 0))
      (λ u.
      let g : Away j (front ++ back) = subst (λ (x : List ℕ). Away j x) is z in
      get_or-set_other t.owner n j 0 0 (eqb-neq j n u)
      ∙ s.free j (rw was (away-append j front (n ∷ back) (away-left j front back g) ((λ v. eqb-neq j n u (sym v)), away-right j front back g))))
      (either (eqb j n))) in
      rw (moved_before n front y r old A' 255 [] same) shown

  -- the last free node
  pub last-free : prev_of t 255 ≡ last 254 fs
  last-free =
      let c : chain rs fs ≡ (nodes rs ++ 254 ∷ fs) ++ 255 ∷ [] = sym (append_assoc (nodes rs) (254 ∷ fs) (255 ∷ [])) in
      prev-at t.next t.prev 0 (nodes rs ++ 254 ∷ fs) 255 [] (subst (λ (z : List ℕ). Linked t.next t.prev 0 z) c s.linked) ∙ last-append 0 (nodes rs) 254 fs

-- The six changes.
module _ (t : Tables) (rs : List (Row ℕ)) {fs : List ℕ} (s : ShowsWith t rs fs) where
  apart-nodes : Apart (nodes rs)
  apart-nodes = nodes-apart t rs s

  -- owners and places after a node of no list came in
  has_new : (n l d : ℕ) → Away n (nodes rs) → HasLists (set t.owner n l) (set t.location n d) rs
  has_new n l d h = has_same t.owner (set t.owner n l) t.location (set t.location n d) rs (same_set t.owner n l (nodes rs) h) (same_set t.location n d (nodes rs) h) s.has

  new-block : (b l d : ℕ) → IsBlock b → HasBlock (set t.owner b l) (set t.location b d) l (block b (located_at d))
  new-block b l d g = record {
    range = g;
    owned = get_or-set_same t.owner b l 0 (omega (arith, s.sized.owner));
    stands = ap located_at (get_or-set_same t.location b d 0 (omega (arith, s.sized.location)));
  }

  shows-take : (l : ℕ) → IsList l → taken l rs ≡ false → ShowsWith (insert_before 254 (64 + l) l (cut_node (64 + l) t)) (rs ++ row l [] ∷ []) (without (64 + l) fs)
  unfolding insert_before place_node cut_node
  shows-take l g h =
      let w : Away (64 + l) (nodes rs) = untaken-away t.owner t.location l rs g.0 s.has h in
      let was : nodes rs ≡ nodes rs ++ [] = sym (append-nil (nodes rs)) in
      let is = nodes-append rs (row l [] ∷ []) in
      let b = in-before t rs s (rs ++ row l [] ∷ []) (nodes rs) [] (64 + l) l t.location was is (omega arith) (omega arith) w 254 (without (64 + l) fs ++ 255 ∷ []) refl in
      rw b (shows_in t rs s (rs ++ row l [] ∷ []) (nodes rs) [] (64 + l) l t.location was is (omega arith) (omega arith) w 254 (without (64 + l) fs ++ 255 ∷ []) refl s.sized.location
      (has-append (set t.owner (64 + l) l) t.location rs (row l [] ∷ [])
      (has_same t.owner (set t.owner (64 + l) l) t.location t.location rs (same_set t.owner (64 + l) l (nodes rs) w) (same_refl t.location (nodes rs)) s.has)
      (record { range = g; owned = get_or-set_same t.owner (64 + l) l 0 (omega (arith, s.sized.owner)) }, tt, tt)))

  shows-put : (b l x d : ℕ) (f : List (Block ℕ) → List (Block ℕ)) → IsBlock b → placed b rs ≡ false → Grown (nodes rs) (nodes (map (at l f) rs)) x b
      → ((o p : List ℕ) → HasBlock o p l (block b (located_at d)) → (xs : List (Block ℕ)) → HasBlocks o p l xs → HasBlocks o p l (f xs))
      → ShowsWith (with_location b d (insert_node x b l (cut_node b t))) (map (at l f) rs) (without b fs)
  unfolding insert_node place_node cut_node
  shows-put b l x d f g h w k =
      let a : Away b (nodes rs) = unplaced-away t.owner t.location b rs g.1 s.has h in
      let front = w.front ++ x ∷ [] in
      let was : nodes rs ≡ front ++ w.back = w.was ∙ simp append_assoc in
      let is : nodes (map (at l f) rs) ≡ front ++ b ∷ w.back = w.now ∙ simp append_assoc in
      let (y, r, e) = uncons w.back 254 (without b fs ++ 255 ∷ []) in
      let q = in-behind t rs s (map (at l f) rs) front w.back b l (set t.location b d) was is g.0 (omega arith) a y r e in
      let z : last 0 front ≡ x = last_snoc 0 w.front x in
      let shown = shows_in t rs s (map (at l f) rs) front w.back b l (set t.location b d) was is g.0 (omega arith) a y r e (simp length-set s.sized.location)
      (has-at (set t.owner b l) (set t.location b d) l f (k (set t.owner b l) (set t.location b d) (new-block b l d g)) rs (has_new b l d a)) in
      rw (← z) (rw q shown)

  shows-write : (b d : ℕ) → IsBlock b → 1 ≤ d → ShowsWith (with_location b d t) (map (on_blocks (map (put b d))) rs) fs
  shows-write b d g f = record {
    sized = record { next = s.sized.next; prev = s.sized.prev; owner = s.sized.owner; location = simp length-set s.sized.location };
    whole = rw (nodes-write b d rs) s.whole;
    linked = rw (nodes-write b d rs) s.linked;
    has = has-write t.owner t.location b d (omega (arith, s.sized.location)) f rs s.has;
    free = λ m h. s.free m (rw (nodes-write b d rs) at h);
  }

  shows-del_block : (b : ℕ) → placed b rs ≡ true → ShowsWith (free_node b t) (map (on_blocks (keep (other_block b))) rs) (fs ++ b ∷ [])
  shows-del_block b h =
      let w = block-shrunk b rs h apart-nodes in
      shows-out t rs s (map (on_blocks (keep (other_block b))) rs) w.front b w.back w.was w.now (has-keep t.owner t.location b rs s.has)

  -- the node behind a list's blocks is of no list or of another
  behind-other : (l : ℕ) → IsList l → (qs : List (Row ℕ)) → HasLists t.owner t.location qs → taken l qs ≡ false → (y : ℕ) (r : List ℕ) → chain qs fs ≡ y ∷ r → owner_of t y ≢ l
  unfolding taken
  behind-other l g [] w h y r e z =
      let q : 254 ≡ y = ap first_or0 e in
      let f : owner_of t 254 ≡ 0 = s.free 254 (away-end (nodes rs) (chain-apart t rs s).1) in
      let f' : owner_of t y ≡ 0 = rw (← q) f in
      omega arith
    where
      away-end : (ns : List ℕ) → Apart (ns ++ ends fs) → Away 254 ns
      away-end [] a = tt
      away-end (n ∷ ns) a = ((λ u. (away-right n ns (ends fs) a.0).0 (sym u)), away-end ns a.1)
  behind-other l g (x ∷ qs) w h y r e z =
      let q : 64 + x.num ≡ y = ap first_or0 e in
      eqb-neq x.num l (or-both (eqb x.num l) (taken l qs) h).0 (sym w.0.owned ∙ rw q z)

  -- A list's row: its node, then its blocks, then the lists behind it.
  module _ (l : ℕ) (w : RowAt l rs) (bs : List ℕ) (e : block_nodes w.blocks ≡ bs) where
    row_has : HasLists t.owner t.location (w.before ++ row l w.blocks ∷ w.after)
    row_has = subst (λ (z : List (Row ℕ)). HasLists t.owner t.location z) w.was s.has

    row-nodes : nodes rs ≡ nodes w.before ++ (64 + l) ∷ (bs ++ nodes w.after)
    row-nodes = ap nodes w.was ∙ nodes-append w.before (row l w.blocks ∷ w.after) ∙ rw e

    row-chain : chain rs fs ≡ nodes w.before ++ (64 + l) ∷ (bs ++ chain w.after fs)
    row-chain = ap (λ (z : List ℕ). z ++ ends fs) row-nodes ∙ simp append_assoc

    row-linked : Linked t.next t.prev (64 + l) (bs ++ chain w.after fs)
    row-linked =
        (linked-tail t.next t.prev 0 (nodes w.before) ((64 + l) ∷ (bs ++ chain w.after fs)) (subst (λ (z : List ℕ). Linked t.next t.prev 0 z) row-chain s.linked)).2

    row_apart : Apart ((64 + l) ∷ (bs ++ chain w.after fs))
    row_apart = apart-right (nodes w.before) ((64 + l) ∷ (bs ++ chain w.after fs)) (subst (λ (z : List ℕ). Apart z) row-chain (chain-apart t rs s).1)

  -- What follows a list's node tells whether it has blocks.
  module _ (l : ℕ) (g : IsList l) (h : taken l rs ≡ true) where
    next-none : blocks_of rs l ≡ [] → owner_of t (next_of t (64 + l)) ≢ l
    next-none e =
        let w = row_at l rs h apart-nodes in
        let q = sym w.nums ∙ e in
        let (y, r, u) = uncons (nodes w.after) 254 (fs ++ 255 ∷ []) in
        let k : Linked t.next t.prev (64 + l) (y ∷ r) = subst (λ (z : List ℕ). Linked t.next t.prev (64 + l) z) u (row-linked l w [] q) in
        let a = has_right t.owner t.location w.before (row l w.blocks ∷ w.after) (row_has l w [] q) in
        rw k.0 (behind-other l g w.after a.2 w.others y r u)

    next-some : (b : ℕ) (bs : List ℕ) → blocks_of rs l ≡ b ∷ bs → owner_of t (next_of t (64 + l)) ≡ l
    next-some b bs e =
        let w = row_at l rs h apart-nodes in
        let q = sym w.nums ∙ e in
        let a = has_right t.owner t.location w.before (row l w.blocks ∷ w.after) (row_has l w (b ∷ bs) q) in
        let o : AllOf l t.owner (b ∷ bs) = subst (λ (z : List ℕ). AllOf l t.owner z) q (blocks-all t.owner t.location l w.blocks a.1) in
        rw (row-linked l w (b ∷ bs) q).0 o.0

    -- the step does what the freeing of the list's first block does, in another order
    step_same : (b : ℕ) (bs : List ℕ) → blocks_of rs l ≡ b ∷ bs → drop_first (64 + l) (prev_of t 255) t ≡ free_node b t
    unfolding drop_first free_node insert_before place_node cut_node
    step_same b bs e =
        let w = row_at l rs h apart-nodes in
        let q = sym w.nums ∙ e in
        let k = row-linked l w (b ∷ bs) q in
        let a = row_apart l w (b ∷ bs) q in
        let (y, r, u) = uncons (bs ++ nodes w.after) 254 (fs ++ 255 ∷ []) in
        let v : bs ++ chain w.after fs ≡ y ∷ r = sym (append_assoc bs (nodes w.after) (ends fs)) ∙ u in
        let k2 : next_of t b ≡ y = (subst (λ (z : List ℕ). Linked t.next t.prev b z) v k.2).0 in
        let a2 : Apart (y ∷ r) = subst (λ (z : List ℕ). Apart z) v a.1.1 in
        let nb : 64 + l ≢ b = λ z. a.0.0 (sym z) in
        let yb : y ≢ b = (subst (λ (z : List ℕ). Away b z) v a.1.0).0 in
        let ye : y ≢ 255 = not_end (bs ++ nodes w.after) y r u (subst (λ (z : List ℕ). Apart z) (sym (append_assoc bs (nodes w.after) (ends fs))) a.1.1) in
        let nz : 64 + l ≢ prev_of t 255 = λ z. away-last (64 + l) 254 fs
        (away-left (64 + l) (254 ∷ fs) (255 ∷ []) (away-right (64 + l) (nodes w.after) (ends fs) (away-right (64 + l) bs (chain w.after fs) a.0.1))) (sym (z ∙ last-free t rs s)) in
        let z = prev_of t 255 in
        let p255 : get_or (set t.prev y (64 + l)) 255 0 ≡ z = get_or-set_other t.prev y 255 (64 + l) 0 (λ x. ye (sym x)) in
        rw (k.0, k2, k.1, p255, set_comm t.next (64 + l) z y b nz, set_comm (set t.next z b) (64 + l) b y 255 nb, set_comm t.prev y b (64 + l) z yb, set_comm (set t.prev b z) y 255 (64 + l) b ye)
      where
        not_end : (qs : List ℕ) (y : ℕ) (r : List ℕ) → qs ++ ends fs ≡ y ∷ r → Apart (qs ++ ends fs) → y ≢ 255
        not_end [] y r u a x = omega (arith, x, ap first_or0 u)
        not_end (m ∷ qs) y r u a x =
            (away-right m (254 ∷ fs) (255 ∷ []) (away-right m qs (ends fs) a.0)).0 (sym (ap first_or0 u ∙ x))

    -- a step, and the empty list's going
    shows_first : (b : ℕ) (bs : List ℕ) → blocks_of rs l ≡ b ∷ bs → ShowsWith (drop_first (64 + l) (prev_of t 255) t) (first_off l rs) (fs ++ b ∷ [])
    unfolding first_off
    shows_first b bs e =
        let w = row_at l rs h apart-nodes in
        let q = sym w.nums ∙ e in
        let front = nodes w.before ++ (64 + l) ∷ [] in
        let now : nodes (map (at l (drop 1)) rs) ≡ front ++ (bs ++ nodes w.after) =
        ap nodes (w.now (drop 1)) ∙ nodes-append w.before (row l (drop 1 w.blocks) ∷ w.after) ∙ rw (nodes-first w.blocks, q) (simp append_assoc) in
        rw (step_same b bs e)
        (shows-out t rs s (map (at l (drop 1)) rs) front b (bs ++ nodes w.after) (row-nodes l w (b ∷ bs) q ∙ simp append_assoc) now
        (has-at t.owner t.location l (drop 1) (blocks-first t.owner t.location l) rs s.has))

    shows-empty : blocks_of rs l ≡ [] → ShowsWith (free_node (64 + l) t) (keep (other_row l) rs) (fs ++ (64 + l) ∷ [])
    shows-empty e =
        let w = row_at l rs h apart-nodes in
        let q = sym w.nums ∙ e in
        let a = row_has l w [] q in
        shows-out t rs s (keep (other_row l) rs) (nodes w.before) (64 + l) (nodes w.after) (row-nodes l w [] q) (ap nodes w.kept ∙ nodes-append w.before w.after)
        (subst (λ (z : List (Row ℕ)). HasLists t.owner t.location z) (sym w.kept)
        (has-append t.owner t.location w.before w.after (has_left t.owner t.location w.before (row l w.blocks ∷ w.after) a)
        (has_right t.owner t.location w.before (row l w.blocks ∷ w.after) a).2))

    -- the owners know of all blocks
    blocks-few : length (blocks_of rs l) ≤ times l t.owner
    blocks-few =
        let w = row_at l rs h apart-nodes in
        let bs = block_nodes w.blocks in
        let a = has_right t.owner t.location w.before (row l w.blocks ∷ w.after) (row_has l w bs refl) in
        rw w.nums (all-times l t.owner bs g.0 (apart-left bs (chain w.after fs) (row_apart l w bs refl).1) (blocks-all t.owner t.location l w.blocks a.1))

-- What holds where a step is made, and where none is left.
module _ (t : Tables) (rs : List (Row ℕ)) {fs : List ℕ} (s : ShowsWith t rs fs) (l : ℕ) (g : IsList l) where
  pub owner-taken : 1 ≤ owner_of t (64 + l) → taken l rs ≡ true
  owner-taken h = ⊎_elim
      (λ e. e)
      (λ e. absurd (omega (arith, s.free (64 + l) (untaken-away t.owner t.location l rs g.0 s.has e))))
      (either (taken l rs))

  pub step-shown : (b : ℕ) → IsFirst (64 + l) b t
      → (1 ≤ length (blocks_of rs l)) × ShowsWith (drop_first (64 + l) (prev_of t 255) t) (first_off l rs) (steps_free 1 l rs fs) × (b ≡ prev_of (drop_first (64 + l) (prev_of t 255) t) 255)
  unfolding steps_free steps_off
  step-shown b f = go (blocks_of rs l) refl
    where
      h : taken l rs ≡ true
      h = owner-taken f.taken

      go : (bs : List ℕ) → blocks_of rs l ≡ bs
          → (1 ≤ length (blocks_of rs l)) × ShowsWith (drop_first (64 + l) (prev_of t 255) t) (first_off l rs) (fs ++ take 1 (blocks_of rs l)) × (b ≡ prev_of (drop_first (64 + l) (prev_of t 255) t) 255)
      go [] e = absurd (next-none t rs s l g h e (ap (owner_of t) f.follows ∙ f.same ∙ taken-owner t.owner t.location l rs s.has h))
      go (x ∷ bs) e =
          let shown = shows_first t rs s l g h x bs e in
          let w = row_at l rs h (nodes-apart t rs s) in
          let q : next_of t (64 + l) ≡ x = (row-linked t rs s l w (x ∷ bs) (sym w.nums ∙ e)).0 in
          let z = last-free (drop_first (64 + l) (prev_of t 255) t) (first_off l rs) shown ∙ last_snoc 254 fs x in
          (rw e (omega arith), rw e shown, sym f.follows ∙ q ∙ sym z)

  pub none_left : taken l rs ≡ true → owner_of t (next_of t (64 + l)) ≢ l → blocks_of rs l ≡ []
  none_left h k = go (blocks_of rs l) refl
    where
      go : (bs : List ℕ) → blocks_of rs l ≡ bs → blocks_of rs l ≡ []
      go [] e = e
      go (x ∷ bs) e = absurd (k (next-some t rs s l g h x bs e))

-- All steps, and then the list's own node.
shows-up_to : (l : ℕ) → IsList l → (bs : List ℕ) (k : ℕ) (t : Tables) (rs : List (Row ℕ)) (fs : List ℕ) → ShowsWith t rs fs → taken l rs ≡ true → blocks_of rs l ≡ bs
    → length bs ≤ k → ShowsWith (drop_up_to k (64 + l) l (prev_of t 255) t) (steps_off (length bs) l rs) (fs ++ bs)
unfolding steps_off
shows-up_to l g [] k t rs fs s h e u = rw (up_to-stop (64 + l) l (prev_of t 255) t k (next-none t rs s l g h e), append-nil fs) s
shows-up_to l g (b ∷ bs) zero t rs fs s h e u = absurd (omega arith)
shows-up_to l g (b ∷ bs) (suc k) t rs fs s h e u =
    let v = drop_first (64 + l) (prev_of t 255) t in
    let shown = shows_first t rs s l g h b bs e in
    let w = row_at l rs h (nodes-apart t rs s) in
    let q : next_of t (64 + l) ≡ b = (row-linked t rs s l w (b ∷ bs) (sym w.nums ∙ e)).0 in
    let z : next_of t (64 + l) ≡ prev_of v 255 = q ∙ sym (last-free v (first_off l rs) shown ∙ last_snoc 254 fs b) in
    let rest = shows-up_to l g bs k v (first_off l rs) (fs ++ b ∷ []) shown (steps-kept 1 l rs ∙ h) (steps-blocks 1 l rs ∙ ap (drop 1) e) (omega arith) in
    rw (up_to-more (64 + l) l (prev_of t 255) t k (next-some t rs s l g h b bs e), z)
    (subst (λ (x : List (Row ℕ)). ShowsWith (drop_up_to k (64 + l) l (prev_of v 255) v) x (fs ++ b ∷ bs)) (steps_first (length bs) l rs)
    (subst (λ (x : List ℕ). ShowsWith (drop_up_to k (64 + l) l (prev_of v 255) v) (steps_off (length bs) l (first_off l rs)) x) (append_assoc fs (b ∷ []) bs) rest))

shows-del_list : (t : Tables) (rs : List (Row ℕ)) (fs : List ℕ) → ShowsWith t rs fs → (l : ℕ) → IsList l → taken l rs ≡ true
    → ShowsWith (cut_list (64 + l) t) (keep (other_row l) rs) (fs ++ (blocks_of rs l ++ (64 + l) ∷ []))
unfolding cut_list drop_all
shows-del_list t rs fs s l g h =
    let n = length (blocks_of rs l) in
    let v = drop_up_to (times l t.owner) (64 + l) l (prev_of t 255) t in
    let u = shows-up_to l g (blocks_of rs l) (times l t.owner) t rs fs s h refl (blocks-few t rs s l g h) in
    let e = shows-empty v (steps_off n l rs) u l g (steps-kept n l rs ∙ h) (steps-taken l rs).0 in
    rw (taken-owner t.owner t.location l rs s.has h)
    (subst (λ (z : List (Row ℕ)). ShowsWith (free_node (64 + l) v) z (fs ++ (blocks_of rs l ++ (64 + l) ∷ []))) (steps-others n l rs)
    (subst (λ (z : List ℕ). ShowsWith (free_node (64 + l) v) (keep (other_row l) (steps_off n l rs)) z) (append_assoc fs (blocks_of rs l) ((64 + l) ∷ [])) e))

module _ (t : Tables) (rs : List (Row ℕ)) (fs : List ℕ) (s : ShowsWith t rs fs) where
  none-brought : keep (λ (n : ℕ). true) fs ≡ fs
  none-brought = keep_all (λ (n : ℕ). true) (λ n. refl) fs

  shows-done : (c : Change ℕ) → Ranged c → applies c rs ≡ true → ShowsWith (done c t) (changed c rs) (free_after c rs fs)
  unfolding applies changed done put_done free_after frees
  shows-done (take_list l) g h = rw (node_of l g.1, append-nil (without (64 + l) fs)) (shows-take t rs s l g (not-false (taken l rs) h))
  shows-done (put_first b l) g h =
      let (p, q) = and-true (taken l rs) (not (placed b rs)) h in
      rw (node_of l g.1.1, append-nil (without b fs))
      (shows-put t rs s b l (64 + l) 0 (λ bs. block b none ∷ bs) g.0 (not-false (placed b rs) q) (first-grown l (block b none) rs p (nodes-apart t rs s)) (λ o v k xs w. (k, w)))
  shows-done (put_after b l p) g h =
      let (u, v) = and-true (taken l rs && not (placed b rs)) (on_list l p rs) h in
      let (x, y) = and-true (taken l rs) (not (placed b rs)) u in
      rw (append-nil (without b fs))
      (shows-put t rs s b l p 0 (insert_after p (block b none)) g.0 (not-false (placed b rs) y) (after-grown l p (block b none) rs v (nodes-apart t rs s))
      (λ o q k xs w. blocks-after o q l p (block b none) k xs w))
  shows-done (write b d) g h = rw (none-brought, append-nil fs) (shows-write t rs s b d g.0 g.1)
  shows-done (del_block b) g h = rw none-brought (shows-del_block t rs s b h)
  shows-done (del_list l) g h = rw (node_of l g.1, none-brought) (shows-del_list t rs fs s l g h)

  fits-applies : (c : Change ℕ) → Ranged c → suits c t ≡ applies c rs
  unfolding suits applies put_fits
  fits-applies (take_list l) g = taken_free t rs s l g
  fits-applies (put_first b l) g = rw (placed-free t rs s b g.0, taken_own t rs s l g.1) (and-swap (not (placed b rs)) (taken l rs))
  fits-applies (put_after b l p) g =
      rw (placed-free t rs s b g.0, on-own t rs s l p g.1 g.2) (and-implied (taken l rs) (not (placed b rs)) (on_list l p rs) (on_list-taken l p rs))
  fits-applies (write b d) g = rw (placed-free t rs s b g.0) (not-not (placed b rs))
  fits-applies (del_block b) g = rw (placed-free t rs s b g) (not-not (placed b rs))
  fits-applies (del_list l) g = rw (taken_free t rs s l g) (not-not (taken l rs))

-- the tables that a change leaves
pub shows-changed : (c : Change ℕ) (t : Tables) (s : State ℕ) → Ranged c → ShowsAll t s → applies c s.lists ≡ true
    → ShowsWith (done c t) (changed c s.lists) (free_after c s.lists s.free)
shows-changed c t s g h a = shows-done t s.lists s.free h c g a

-- A function that acts, and the state.
module _ (c : Change ℕ) (t : Tables) (r : Bool) (u : Tables) (s : State ℕ) (g : Ranged c) (h : ShowsAll t s) (d : Did c t r u) where
  fits : suits c t ≡ applies c s.lists
  fits = fits-applies t s.lists s.free h c g

  pub did-apply : Represents (apply c s) r u
  unfolding apply
  did-apply = ⊎_elim
      (λ e. rw e (d.answer ∙ fits ∙ e, rw (d.left, fits, e) (shows-changed c t s g h e)))
      (λ e. rw e (d.answer ∙ fits ∙ e))
      (either (applies c s.lists))

  -- where it is skipped if it does not apply
  pub did-overlay : ShowsAll u (or_else s (apply c s))
  unfolding apply or_else
  did-overlay = ⊎_elim
      (λ e. rw (d.left, fits) (rw e (shows-changed c t s g h e)))
      (λ e. rw (d.left, fits) (rw e h))
      (either (applies c s.lists))

-- One thing after another: the first is refused, or the second goes on from what it left.
module _ (f : State ℕ → Option (State ℕ)) where
  pub represents-stop : (o : Option (State ℕ)) (q : Bool) (u v : Tables) → Represents o q u → q ≡ false → Represents (bind o f) false v
  represents-stop none q u v h e = refl
  represents-stop (some s) q u v h e = absurd (true≢false (sym h.0 ∙ e))

  pub represents-then : (o : Option (State ℕ)) (q : Bool) (u v : Tables) (r : Bool) → Represents o q u → q ≡ true
      → ((s : State ℕ) → ShowsAll u s → Represents (f s) r v) → Represents (bind o f) r v
  represents-then none q u v r h e k = absurd (true≢false (sym e ∙ h))
  represents-then (some s) q u v r h e k = k s h.1
