-- What tables answer is what the lists say that they show: is a list taken, a block placed, a block on a list; where its content stands; the block after
-- another, and the list after another.
use mathlib.Core.Path.{◌≡◌, refl, sym, ap, ◌∙◌, subst}
use mathlib.Core.Logic.{◌≢◌, ⊎_elim}
use mathlib.Core.Bool.{Bool, true, false, ◌||◌, not, cond, true≢false, false≢true}
use mathlib.Core.Option.{Option, none, some}
use mathlib.Core.List.{List, [], ◌∷◌, ◌++◌, map, append_assoc}
use Prim.Native.Nat.{ℕ, zero, suc, ◌+◌, ◌-◌, ◌≤◌, ◌<◌}
use native.Mathlib.Omega.{arith}
use lib.Dec.{eqb}
use lib.ListN.{length, get_or}
use Rattle.lists.specs.State.{Block, Row, State, on_blocks_of, on_row, taken, placed, on_list}
use Rattle.lists.specs.Lookup.{content_in, content_of, blocks_of, next_in, next_after, list_nums, taken_after}
use Rattle.lists.specs.promises.Tables.{Tables, Shows, ShowsWith, ShowsAll, Apart, Linked, HasBlocks, HasLists, IsBlock, IsList, block_nodes, nodes, ends, chain, owner_of, next_of, list_node, block_or0, list_within, behind_node, behind_list, SaysTaken, SaysPlaced, SaysOn, SaysLocation, SaysBlockAfter, SaysListAfter, OfShown, located_at, is_node, times}
use Rattle.lists.proofs.Basic.{not-not, either, or-both, or_cases, eqb-true, eqb-false, eqb-neq, eq-true, le-true, lt-true, gt-false, ge-false}
use Rattle.lists.proofs.Chain.{away-right, apart-left, apart-right, last, linked-tail}
use Rattle.lists.proofs.Nodes.{away-taken, on_list-taken}
use Rattle.lists.proofs.Owners.{taken-owner, taken-range, untaken-away, unplaced-away, on_list-owner, placed-owner}
use Rattle.lists.proofs.Times.{none-away, once-apart}
use Rattle.lists.proofs.Dropping.{all-times, blocks-all, times-most}

pub node_of : (l : ℕ) → l ≤ 16 → list_node l ≡ 64 + l
node_of l h = omega arith

-- tables that show a state show its lists
pub lists-shown : (t : Tables) (s : State ℕ) → ShowsAll t s → Shows t s.lists
lists-shown t s h = record { order = s.free; shown = h }

-- No node stands twice in the chain.
module _ (t : Tables) (rs : List (Row ℕ)) {fs : List ℕ} (s : ShowsWith t rs fs) where
  chain-once : (n : ℕ) → times n (chain rs fs) ≤ 1
  chain-once n = rw (s.whole n) (go (is_node n))
    where
      go : (b : Bool) → cond b 1 0 ≤ 1
      go true = omega arith
      go false = omega arith

  pub chain-apart : Apart (0 ∷ chain rs fs)
  chain-apart = (none-away 0 (chain rs fs) (s.whole 0), once-apart (chain rs fs) chain-once)

  pub nodes-apart : Apart (nodes rs)
  nodes-apart = apart-left (nodes rs) (ends fs) chain-apart.1

-- The questions.
module _ (t : Tables) (rs : List (Row ℕ)) {fs : List ℕ} (s : ShowsWith t rs fs) where
  pub taken_free : (l : ℕ) → IsList l → eqb (owner_of t (list_node l)) 0 ≡ not (taken l rs)
  taken_free l g = rw (node_of l g.1) (⊎_elim
      (λ e. rw e (eqb-false (owner_of t (64 + l)) 0 (λ z. omega (arith, taken-owner t.owner t.location l rs s.has e))))
      (λ e. rw e (eq-true (owner_of t (64 + l)) 0 (s.free (64 + l) (untaken-away t.owner t.location l rs g.0 s.has e))))
      (either (taken l rs)))

  pub taken_own : (l : ℕ) → IsList l → eqb (owner_of t (list_node l)) l ≡ taken l rs
  taken_own l g = rw (node_of l g.1) (⊎_elim
      (λ e. rw e (eq-true (owner_of t (64 + l)) l (taken-owner t.owner t.location l rs s.has e)))
      (λ e. rw e (eqb-false (owner_of t (64 + l)) l (λ z. omega (arith, s.free (64 + l) (untaken-away t.owner t.location l rs g.0 s.has e)))))
      (either (taken l rs)))

  pub placed-free : (b : ℕ) → IsBlock b → eqb (owner_of t b) 0 ≡ not (placed b rs)
  placed-free b g = ⊎_elim
      (λ e. rw e (eqb-false (owner_of t b) 0 (λ z. omega (arith, (placed-owner t.owner t.location b rs s.has e).0))))
      (λ e. rw e (eq-true (owner_of t b) 0 (s.free b (unplaced-away t.owner t.location b rs g.1 s.has e))))
      (either (placed b rs))

  pub on-own : (l b : ℕ) → IsList l → IsBlock b → eqb (owner_of t b) l ≡ on_list l b rs
  on-own l b g h = ⊎_elim
      (λ e. rw e (eq-true (owner_of t b) l (on_list-owner t.owner t.location l b rs s.has e)))
      (λ e. rw e (eqb-false (owner_of t b) l (λ z.
      ⊎_elim
      (λ k. true≢false (sym (rw z at (placed-owner t.owner t.location b rs s.has k).1) ∙ e))
      (λ k. omega (arith, s.free b (unplaced-away t.owner t.location b rs h.1 s.has k)))
      (either (placed b rs)))))
      (either (on_list l b rs))

-- Contents.
module _ {D : Type 0} (b : ℕ) where
  pub content-out : (xs : List (Block D)) → on_blocks_of b xs ≡ false → content_in xs b ≡ none
  unfolding content_in
  content-out [] h = refl
  content-out (x ∷ xs) h = let (a, c) = or-both (eqb x.num b) (on_blocks_of b xs) h in rw (a, content_in) (content-out xs c)

  pub content-none : (rs : List (Row D)) → placed b rs ≡ false → content_of rs b ≡ none
  unfolding placed content_of
  content-none [] h = refl
  content-none (r ∷ rs) h = let (a, c) = or-both (on_row b r) (placed b rs) h in rw (content-out r.blocks a, content_of) (content-none rs c)

module _ (o p : List ℕ) where
  content-in : (l b : ℕ) (xs : List (Block ℕ)) → HasBlocks o p l xs → on_blocks_of b xs ≡ true → content_in xs b ≡ located_at (get_or p b 0)
  unfolding content_in
  content-in l b [] w h = absurd (false≢true h)
  content-in l b (x ∷ xs) w h = ⊎_elim
      (λ (e : eqb x.num b ≡ true). rw (e, content_in) (sym w.0.stands ∙ ap (λ (n : ℕ). located_at (get_or p n 0)) (eqb-true x.num b e)))
      (λ (e : eqb x.num b ≡ false). rw (e, content_in) (content-in l b xs w.1 (rw e at h)))
      (either (eqb x.num b))

  -- block b's content, wherever it is placed, is what its location says
  pub content-place : (b : ℕ) (rs : List (Row ℕ)) → HasLists o p rs → placed b rs ≡ true → content_of rs b ≡ located_at (get_or p b 0)
  unfolding placed content_of
  content-place b [] w h = absurd (false≢true h)
  content-place b (r ∷ rs) w h = ⊎_elim
      (λ (e : on_row b r ≡ true). rw (content-in r.num b r.blocks w.1 e, content_of) (go (λ k. content-place b rs w.2 k) (get_or p b 0) refl))
      (λ (e : on_row b r ≡ false). rw (content-out b r.blocks e, content_of) (content-place b rs w.2 (rw e at h)))
      (either (on_row b r))
    where
      go : (placed b rs ≡ true → content_of rs b ≡ located_at (get_or p b 0)) → (n : ℕ) → get_or p b 0 ≡ n
          → ◌≡◌ {A = Option ℕ} (elim (located_at n) [ none ↦ content_of rs b | some x ↦ some x ]) (located_at n)
      go ih zero e = ⊎_elim (λ k. ih k ∙ ap located_at e) (content-none b rs) (either (placed b rs))
      go ih (suc n) e = refl

-- The block after another: its node's next one, where that is a block.
abbrev first_num : List (Block ℕ) → ℕ
first_num xs = get_or (map (λ x. x.num) xs) 0 0

module _ (nx pv o p fs : List ℕ) where
  -- behind node a stand some blocks of a list, and then other lists
  first_block : (l a : ℕ) (xs : List (Block ℕ)) (rs : List (Row ℕ)) → HasBlocks o p l xs → HasLists o p rs → Linked nx pv a (block_nodes xs ++ chain rs fs)
      → block_or0 (get_or nx a 0) ≡ first_num xs
  first_block l a [] [] h k w = rw w.0
  first_block l a [] (r ∷ rs) h k w = rw (w.0, gt-false (64 + r.num) 64 (omega (arith, k.0.range.0)))
  first_block l a (x ∷ xs) rs h k w = rw (w.0, le-true x.num 64 h.0.range.1)

  after_block : (l a b : ℕ) (xs : List (Block ℕ)) (rs : List (Row ℕ)) → HasBlocks o p l xs → HasLists o p rs → Linked nx pv a (block_nodes xs ++ chain rs fs)
      → on_blocks_of b xs ≡ true → block_or0 (get_or nx b 0) ≡ next_in b (map (λ x. x.num) xs)
  unfolding next_in
  after_block l a b [] rs h k w q = absurd (false≢true q)
  after_block l a b (x ∷ xs) rs h k w q = ⊎_elim
      (λ (e : eqb x.num b ≡ true). rw (e, next_in) (ap (λ (n : ℕ). block_or0 (get_or nx n 0)) (sym (eqb-true x.num b e)) ∙ first_block l x.num xs rs h.1 k w.2))
      (λ (e : eqb x.num b ≡ false). rw (e, next_in) (after_block l x.num b xs rs h.1 k w.2 (rw e at q)))
      (either (eqb x.num b))

  -- a list's blocks, and the lists behind it
  linked-blocks : (a : ℕ) (r : Row ℕ) (rs : List (Row ℕ)) → Linked nx pv a (chain (r ∷ rs) fs) → Linked nx pv (64 + r.num) (block_nodes r.blocks ++ chain rs fs)
  linked-blocks a r rs w = subst (λ (ns : List ℕ). Linked nx pv (64 + r.num) ns) (append_assoc (block_nodes r.blocks) (nodes rs) (ends fs)) w.2

  linked-lists : (a : ℕ) (r : Row ℕ) (rs : List (Row ℕ)) → Linked nx pv a (chain (r ∷ rs) fs) → Linked nx pv (last (64 + r.num) (block_nodes r.blocks)) (chain rs fs)
  linked-lists a r rs w = linked-tail nx pv (64 + r.num) (block_nodes r.blocks) (chain rs fs) (linked-blocks a r rs w)

  first_of : (l a : ℕ) (rs : List (Row ℕ)) → HasLists o p rs → Linked nx pv a (chain rs fs) → taken l rs ≡ true → block_or0 (get_or nx (64 + l) 0) ≡ get_or (blocks_of rs l) 0 0
  unfolding taken blocks_of
  first_of l a [] k w h = absurd (false≢true h)
  first_of l a (r ∷ rs) k w h = ⊎_elim
      (λ (e : eqb r.num l ≡ true). rw (e, blocks_of) (ap (λ (n : ℕ). block_or0 (get_or nx (64 + n) 0)) (sym (eqb-true r.num l e))
      ∙ first_block r.num (64 + r.num) r.blocks rs k.1 k.2 (linked-blocks a r rs w)))
      (λ (e : eqb r.num l ≡ false). rw (e, blocks_of) (first_of l (last (64 + r.num) (block_nodes r.blocks)) rs k.2 (linked-lists a r rs w) (rw e at h)))
      (either (eqb r.num l))

  after-of : (l b a : ℕ) (rs : List (Row ℕ)) → HasLists o p rs → Linked nx pv a (chain rs fs) → Apart (nodes rs) → on_list l b rs ≡ true
      → block_or0 (get_or nx b 0) ≡ next_in b (blocks_of rs l)
  unfolding on_list blocks_of
  after-of l b a [] k w d h = absurd (false≢true h)
  after-of l b a (r ∷ rs) k w d h = ⊎_elim
      (λ (e : eqb r.num l ≡ true).
      let q : r.num ≡ l = eqb-true r.num l e in
      let f : taken l rs ≡ false = away-taken l rs (rw (← q) (away-right _ (block_nodes r.blocks) (nodes rs) d.0)) in
      let g : on_row b r ≡ true = ⊎_elim (λ x. x) (λ x. absurd (true≢false (sym (on_list-taken l b rs x) ∙ f))) (or_cases (on_row b r) (on_list l b rs) (rw e at h)) in
      rw (e, blocks_of) (after_block r.num (64 + r.num) b r.blocks rs k.1 k.2 (linked-blocks a r rs w) g))
      (λ (e : eqb r.num l ≡ false). rw (e, blocks_of) (after-of l b (last (64 + r.num) (block_nodes r.blocks)) rs k.2 (linked-lists a r rs w) (apart-right (block_nodes r.blocks) (nodes rs) d.1) (rw e at h)))
      (either (eqb r.num l))

pub block-after : (t : Tables) (rs : List (Row ℕ)) {fs : List ℕ} → ShowsWith t rs fs → (l b : ℕ) → taken l rs ≡ true → eqb b 0 || on_list l b rs ≡ true
    → block_or0 (next_of t (behind_node l b)) ≡ next_after rs l b
unfolding next_after next_in
block-after t rs {fs} s l b h k = ⊎_elim
    (λ (e : eqb b 0 ≡ true).
    let q : b ≡ 0 = eqb-true b 0 e in
    rw (e, node_of l (taken-range t.owner t.location l rs s.has h).1, q, next_in) (first_of t.next t.prev t.owner t.location fs l 0 rs s.has s.linked h))
    (λ (e : eqb b 0 ≡ false).
    rw (e, eqb-false 0 b (λ z. eqb-neq b 0 e (sym z)), next_in) (after-of t.next t.prev t.owner t.location fs l b 0 rs s.has s.linked (nodes-apart t rs s) (rw e at k)))
    (either (eqb b 0))

-- The list after another: the first node behind its own that is no block's, at most k nodes on.
pub within_none : (nx : List ℕ) (n : ℕ) → list_within 0 nx n ≡ 0
unfolding list_within
within_none nx n = refl

module _ (nx : List ℕ) (k n : ℕ) where
  pub within_end : get_or nx n 0 ≡ 254 → list_within (suc k) nx n ≡ 0
  unfolding list_within
  within_end h = rw (h, list_within)

  pub within-list : get_or nx n 0 ≢ 254 → 64 < get_or nx n 0 → list_within (suc k) nx n ≡ get_or nx n 0 - 64
  unfolding list_within
  within-list h g = rw (eqb-false (get_or nx n 0) 254 h, lt-true 64 (get_or nx n 0) g, list_within)

  pub within_block : get_or nx n 0 ≤ 64 → list_within (suc k) nx n ≡ list_within k nx (get_or nx n 0)
  unfolding list_within
  within_block g = rw (eqb-false (get_or nx n 0) 254 (λ z. omega arith), ge-false 64 (get_or nx n 0) g, list_within)

module _ (nx pv o p fs : List ℕ) where
  first-list : (k l a : ℕ) (xs : List (Block ℕ)) (rs : List (Row ℕ)) → HasBlocks o p l xs → HasLists o p rs → Linked nx pv a (block_nodes xs ++ chain rs fs)
      → length (block_nodes xs) < k → list_within k nx a ≡ get_or (list_nums rs) 0 0
  unfolding list_nums
  first-list zero l a xs rs h g w b = absurd (omega arith)
  first-list (suc k) l a [] [] h g w b = within_end nx k a w.0
  first-list (suc k) l a [] (r ∷ rs) h g w b =
      let (u, v) = g.0.range in
      let q = w.0 in
      within-list nx k a (λ z. omega arith) (omega arith) ∙ omega arith
  first-list (suc k) l a (x ∷ xs) rs h g w b =
      within_block nx k a (rw w.0 h.0.range.1) ∙ ap (list_within k nx) w.0 ∙ first-list k l x.num xs rs h.1 g w.2 (omega arith)

  list_of : length o ≡ 256 → (l a : ℕ) (rs : List (Row ℕ)) → HasLists o p rs → Linked nx pv a (chain rs fs) → Apart (nodes rs) → taken l rs ≡ true
      → list_within 256 nx (64 + l) ≡ next_in l (list_nums rs)
  unfolding taken list_nums next_in
  list_of c l a [] k w d h = absurd (false≢true h)
  list_of c l a (r ∷ rs) k w d h = ⊎_elim
      (λ (e : eqb r.num l ≡ true).
      let q = all-times r.num o ((64 + r.num) ∷ block_nodes r.blocks) k.0.range.0 (apart-left ((64 + r.num) ∷ block_nodes r.blocks) (nodes rs) d) (k.0.owned, blocks-all o p r.num r.blocks k.1) in
      rw (e, next_in) (ap (λ (n : ℕ). list_within 256 nx (64 + n)) (sym (eqb-true r.num l e))
      ∙ first-list 256 r.num (64 + r.num) r.blocks rs k.1 k.2 (linked-blocks nx pv o p fs a r rs w) (omega (arith, times-most r.num o))))
      (λ (e : eqb r.num l ≡ false). rw (e, next_in) (list_of c l (last (64 + r.num) (block_nodes r.blocks)) rs k.2 (linked-lists nx pv o p fs a r rs w) (apart-right (block_nodes r.blocks) (nodes rs) d.1) (rw e at h)))
      (either (eqb r.num l))

pub list-after : (t : Tables) (rs : List (Row ℕ)) {fs : List ℕ} → ShowsWith t rs fs → (l : ℕ) → eqb l 0 || taken l rs ≡ true → list_within 256 t.next (behind_list l) ≡ taken_after rs l
unfolding taken_after next_in
list-after t rs {fs} s l h = ⊎_elim
    (λ (e : eqb l 0 ≡ true).
    let q : l ≡ 0 = eqb-true l 0 e in
    rw (e, q, next_in) (first-list t.next t.prev t.owner t.location fs 256 0 0 [] rs tt s.has s.linked (omega arith)))
    (λ (e : eqb l 0 ≡ false).
    let g : taken l rs ≡ true = rw e at h in
    rw (e, node_of l (taken-range t.owner t.location l rs s.has g).1, eqb-false 0 l (λ z. eqb-neq l 0 e (sym z)), next_in)
    (list_of t.next t.prev t.owner t.location fs s.sized.owner l 0 rs s.has s.linked (nodes-apart t rs s) g))
    (either (eqb l 0))

-- The look-ups' answers, of the lists that tables show.
module _ {t : Tables} where
  pub taken-said : {l : ℕ} {r : Bool} → SaysTaken t l r → OfShown t (λ rs. IsList l → r ≡ taken l rs)
  taken-said {l} {r} w rs s g = w.answer ∙ ap not (taken_free t rs s.shown l g) ∙ not-not (taken l rs)

  pub placed-said : {b : ℕ} {r : Bool} → SaysPlaced t b r → OfShown t (λ rs. IsBlock b → r ≡ placed b rs)
  placed-said {b} {r} w rs s g = w.answer ∙ ap not (placed-free t rs s.shown b g) ∙ not-not (placed b rs)

  pub on-said : {l b : ℕ} {r : Bool} → SaysOn t l b r → OfShown t (λ rs. IsList l → IsBlock b → r ≡ on_list l b rs)
  on-said {l} {b} {r} w rs s g h = w.answer ∙ on-own t rs s.shown l b g h

  pub location-said : {b r : ℕ} → SaysLocation t b r → OfShown t (λ rs. placed b rs ≡ true → content_of rs b ≡ located_at r)
  location-said {b} {r} w rs s h = content-place t.owner t.location b rs s.shown.has h ∙ ap located_at (sym w.answer)

  pub block-said : {l p r : ℕ} → SaysBlockAfter t l p r → OfShown t (λ rs. taken l rs ≡ true → eqb p 0 || on_list l p rs ≡ true → r ≡ next_after rs l p)
  block-said {l} {p} {r} w rs s h k = w.answer ∙ block-after t rs s.shown l p h k

  pub list-said : {l r : ℕ} → SaysListAfter t l r → OfShown t (λ rs. eqb l 0 || taken l rs ≡ true → r ≡ taken_after rs l)
  list-said {l} {r} w rs s h = w.answer ∙ list-after t rs s.shown l h
