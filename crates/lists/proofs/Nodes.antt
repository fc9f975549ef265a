-- How a change of the lists moves the chain of nodes.
use mathlib.Core.Path.{◌≡◌, refl, sym, ap, ◌∙◌}
use mathlib.Core.Logic.{⊎_elim}
use mathlib.Core.Bool.{Bool, true, false, ◌&&◌, cond, true≢false, false≢true}
use mathlib.Core.Option.{some}
use mathlib.Core.List.{List, [], ◌∷◌, ◌++◌, map, append_assoc}
use Prim.Native.Nat.{ℕ, ◌+◌}
use lib.Dec.{eqb}
use Rattle.lists.specs.Basic.{keep}
use Rattle.lists.specs.State.{Block, Row, on_row, on_blocks_of, taken, placed, on_list, insert_after, at, put, on_blocks, other_block, other_row, block, row}
use Rattle.lists.specs.Lookup.{blocks_of}
use Rattle.lists.specs.promises.Tables.{Away, Apart, block_nodes, nodes}
use Rattle.lists.proofs.Basic.{either, or-both, or_cases, or_right, and-true, eqb-true, eqb-false}
use Rattle.lists.proofs.Chain.{away-left, away-right, apart-left, apart-right}

-- one node more behind p; a part less
pub record Grown (old new : List ℕ) (p n : ℕ) : Type 0 where
  pub front : List ℕ
  pub back : List ℕ
  pub was : old ≡ front ++ p ∷ back
  pub now : new ≡ front ++ p ∷ n ∷ back

pub record Shrunk (old new part : List ℕ) : Type 0 where
  pub front : List ℕ
  pub back : List ℕ
  pub was : old ≡ front ++ (part ++ back)
  pub now : new ≡ front ++ back

grown-in : (a : List ℕ) {old new : List ℕ} {p n : ℕ} (b : List ℕ) → Grown old new p n → Grown (a ++ (old ++ b)) (a ++ (new ++ b)) p n
grown-in a {old} {new} {p} {n} b g = record {
  front = a ++ g.front;
  back = g.back ++ b;
  was = rw g.was (simp append_assoc);
  now = rw g.now (simp append_assoc);
}

shrunk-in : (a : List ℕ) {old new s : List ℕ} (b : List ℕ) → Shrunk old new s → Shrunk (a ++ (old ++ b)) (a ++ (new ++ b)) s
shrunk-in a {old} {new} {s} b g = record {
  front = a ++ g.front;
  back = g.back ++ b;
  was = rw g.was (simp append_assoc);
  now = rw g.now (simp append_assoc);
}

grown-behind : (a : List ℕ) {old new : List ℕ} {p n : ℕ} → Grown old new p n → Grown (a ++ old) (a ++ new) p n
grown-behind a {old} {new} {p} {n} g = record { front = a ++ g.front; back = g.back; was = rw g.was (simp append_assoc); now = rw g.now (simp append_assoc) }

shrunk-behind : (a : List ℕ) {old new s : List ℕ} → Shrunk old new s → Shrunk (a ++ old) (a ++ new) s
shrunk-behind a {old} {new} {s} g = record { front = a ++ g.front; back = g.back; was = rw g.was (simp append_assoc); now = rw g.now (simp append_assoc) }

-- lists that are not l
pub away-taken : (l : ℕ) (rs : List (Row ℕ)) → Away (64 + l) (nodes rs) → taken l rs ≡ false
unfolding taken
away-taken l [] h = refl
away-taken l (r ∷ rs) h =
    rw (eqb-false r.num l (λ e. h.0 (rw e))) (away-taken l rs (away-right (64 + l) (block_nodes r.blocks) (nodes rs) h.1))

module _ {D : Type 0} (l : ℕ) where
  pub map_other : (f : List (Block D) → List (Block D)) (rs : List (Row D)) → taken l rs ≡ false → map (at l f) rs ≡ rs
  unfolding taken
  map_other f [] h = refl
  map_other f (r ∷ rs) h = let (p, q) = or-both (eqb r.num l) (taken l rs) h in rw p (ap (λ (x : List (Row D)). r ∷ x) (map_other f rs q))

  pub keep-other : (rs : List (Row D)) → taken l rs ≡ false → keep (other_row l) rs ≡ rs
  unfolding taken
  keep-other [] h = refl
  keep-other (r ∷ rs) h = let (p, q) = or-both (eqb r.num l) (taken l rs) h in rw p (ap (λ (x : List (Row D)). r ∷ x) (keep-other rs q))

-- taking
pub nodes-append : (rs qs : List (Row ℕ)) → nodes (rs ++ qs) ≡ nodes rs ++ nodes qs
nodes-append [] qs = refl
nodes-append (r ∷ rs) qs = ap (λ (x : List ℕ). (64 + r.num) ∷ x) (rw (nodes-append rs qs) (sym (append_assoc (block_nodes r.blocks) (nodes rs) (nodes qs))))

-- putting first
pub first-grown : (l : ℕ) (n : Block ℕ) (rs : List (Row ℕ)) → taken l rs ≡ true → Apart (nodes rs)
    → Grown (nodes rs) (nodes (map (at l (λ bs. n ∷ bs)) rs)) (64 + l) n.num
unfolding taken
first-grown l n [] h a = absurd (false≢true h)
first-grown l n (r ∷ rs) h a = ⊎_elim
    (λ e.
    let q : r.num ≡ l = eqb-true _ _ e in
    let o : map (at l (λ bs. n ∷ bs)) rs ≡ rs = map_other l (λ bs. n ∷ bs) rs (away-taken l rs (rw (← q) (away-right _ (block_nodes r.blocks) (nodes rs) a.0))) in
    rw (e, o) (record { front = []; back = block_nodes r.blocks ++ nodes rs; was = rw q; now = rw q }))
    (λ e. rw e (grown-behind ((64 + r.num) ∷ block_nodes r.blocks) (first-grown l n rs (rw e at h) (apart-right (block_nodes r.blocks) (nodes rs) a.1))))
    (either (eqb r.num l))

-- putting after
blocks-grown : (p : ℕ) (n : Block ℕ) (xs : List (Block ℕ)) → on_blocks_of p xs ≡ true → Grown (block_nodes xs) (block_nodes (insert_after p n xs)) p n.num
blocks-grown p n [] h = absurd (false≢true h)
blocks-grown p n (x ∷ xs) h = ⊎_elim
    (λ e. rw e (record { front = []; back = block_nodes xs; was = rw (eqb-true x.num p e); now = rw (eqb-true x.num p e) }))
    (λ e. rw e (grown-behind (x.num ∷ []) (blocks-grown p n xs (rw e at h))))
    (either (eqb x.num p))

pub on_list-taken : (l p : ℕ) (rs : List (Row ℕ)) → on_list l p rs ≡ true → taken l rs ≡ true
unfolding taken on_list
on_list-taken l p [] h = h
on_list-taken l p (r ∷ rs) h = ⊎_elim
    (λ e. rw (and-true (eqb r.num l) (on_row p r) e).0)
    (λ e. or_right (eqb r.num l) _ (on_list-taken l p rs e))
    (or_cases (eqb r.num l && on_row p r) _ h)

pub after-grown : (l p : ℕ) (n : Block ℕ) (rs : List (Row ℕ)) → on_list l p rs ≡ true → Apart (nodes rs)
    → Grown (nodes rs) (nodes (map (at l (insert_after p n)) rs)) p n.num
unfolding on_list
after-grown l p n [] h a = absurd (false≢true h)
after-grown l p n (r ∷ rs) h a = ⊎_elim
    (λ e.
    let q : r.num ≡ l = eqb-true _ _ e in
    let f : taken l rs ≡ false = away-taken l rs (rw (← q) (away-right _ (block_nodes r.blocks) (nodes rs) a.0)) in
    let o : map (at l (insert_after p n)) rs ≡ rs = map_other l (insert_after p n) rs f in
    let k : on_row p r ≡ true = ⊎_elim (λ x. x) (λ x. absurd (true≢false (sym (on_list-taken l p rs x) ∙ f))) (or_cases (on_row p r) (on_list l p rs) (rw e at h)) in
    rw (e, o) (grown-in ((64 + r.num) ∷ []) (nodes rs) (blocks-grown p n r.blocks k)))
    (λ e. rw e (grown-behind ((64 + r.num) ∷ block_nodes r.blocks) (after-grown l p n rs (rw e at h) (apart-right (block_nodes r.blocks) (nodes rs) a.1))))
    (either (eqb r.num l))

-- deleting a block
away-on : (b : ℕ) (xs : List (Block ℕ)) → Away b (block_nodes xs) → on_blocks_of b xs ≡ false
away-on b [] h = refl
away-on b (x ∷ xs) h = rw (eqb-false x.num b h.0) (away-on b xs h.1)

pub away-placed : (b : ℕ) (rs : List (Row ℕ)) → Away b (nodes rs) → placed b rs ≡ false
unfolding placed
away-placed b [] h = refl
away-placed b (r ∷ rs) h =
    rw (away-on b r.blocks (away-left b (block_nodes r.blocks) (nodes rs) h.1)) (away-placed b rs (away-right b (block_nodes r.blocks) (nodes rs) h.1))

keep-none : (b : ℕ) (xs : List (Block ℕ)) → on_blocks_of b xs ≡ false → keep (other_block b) xs ≡ xs
keep-none b [] h = refl
keep-none b (x ∷ xs) h = let (p, q) = or-both (eqb x.num b) (on_blocks_of b xs) h in rw p (ap (λ (y : List (Block ℕ)). x ∷ y) (keep-none b xs q))

map-none : (b : ℕ) (rs : List (Row ℕ)) → placed b rs ≡ false → map (on_blocks (keep (other_block b))) rs ≡ rs
unfolding placed
map-none b [] h = refl
map-none b (r ∷ rs) h =
    let (p, q) = or-both (on_row b r) (placed b rs) h in
    rw (keep-none b r.blocks p) (ap (λ (y : List (Row ℕ)). r ∷ y) (map-none b rs q))

blocks-shrunk : (b : ℕ) (xs : List (Block ℕ)) → on_blocks_of b xs ≡ true → Apart (block_nodes xs) → Shrunk (block_nodes xs) (block_nodes (keep (other_block b) xs)) (b ∷ [])
blocks-shrunk b [] h a = absurd (false≢true h)
blocks-shrunk b (x ∷ xs) h a = ⊎_elim
    (λ e.
    let q : x.num ≡ b = eqb-true _ _ e in
    let k : keep (other_block b) xs ≡ xs = keep-none b xs (away-on b xs (rw (← q) a.0)) in
    rw (e, k) (record { front = []; back = block_nodes xs; was = rw q; now = refl }))
    (λ e. rw e (shrunk-behind (x.num ∷ []) (blocks-shrunk b xs (rw e at h) a.1)))
    (either (eqb x.num b))

on-away : (b : ℕ) (xs : List (Block ℕ)) (c : List ℕ) → on_blocks_of b xs ≡ true → Apart (block_nodes xs ++ c) → Away b c
on-away b [] c h a = absurd (false≢true h)
on-away b (x ∷ xs) c h a = ⊎_elim
    (λ e. rw (← eqb-true x.num b e) (away-right _ (block_nodes xs) c a.0))
    (λ e. on-away b xs c e a.1)
    (or_cases (eqb x.num b) (on_blocks_of b xs) h)

pub block-shrunk : (b : ℕ) (rs : List (Row ℕ)) → placed b rs ≡ true → Apart (nodes rs)
    → Shrunk (nodes rs) (nodes (map (on_blocks (keep (other_block b))) rs)) (b ∷ [])
unfolding placed
block-shrunk b [] h a = absurd (false≢true h)
block-shrunk b (r ∷ rs) h a = ⊎_elim
    (λ e.
    let k : map (on_blocks (keep (other_block b))) rs ≡ rs = map-none b rs (away-placed b rs (on-away b r.blocks (nodes rs) e a.1)) in
    rw k (shrunk-in ((64 + r.num) ∷ []) (nodes rs) (blocks-shrunk b r.blocks e (apart-left (block_nodes r.blocks) (nodes rs) a.1))))
    (λ e. rw (keep-none b r.blocks e)
    (shrunk-behind ((64 + r.num) ∷ block_nodes r.blocks) (block-shrunk b rs (rw e at h) (apart-right (block_nodes r.blocks) (nodes rs) a.1))))
    (either (on_row b r))

-- a list's row: its blocks changed, and the row deleted
pub record RowAt (l : ℕ) (rs : List (Row ℕ)) : Type 0 where
  pub before : List (Row ℕ)
  pub blocks : List (Block ℕ)
  pub after : List (Row ℕ)
  pub was : rs ≡ before ++ row l blocks ∷ after
  pub now : (f : List (Block ℕ) → List (Block ℕ)) → map (at l f) rs ≡ before ++ row l (f blocks) ∷ after
  pub kept : keep (other_row l) rs ≡ before ++ after
  pub others : taken l after ≡ false
  pub nums : blocks_of rs l ≡ block_nodes blocks

pub block-nums : (xs : List (Block ℕ)) → map (λ x. x.num) xs ≡ block_nodes xs
block-nums [] = refl
block-nums (x ∷ xs) = ap (λ (y : List ℕ). x.num ∷ y) (block-nums xs)

pub row_at : (l : ℕ) (rs : List (Row ℕ)) → taken l rs ≡ true → Apart (nodes rs) → RowAt l rs
unfolding taken blocks_of
row_at l [] h a = absurd (false≢true h)
row_at l (r ∷ rs) h a = ⊎_elim
    (λ (e : eqb r.num l ≡ true).
    let q : r.num ≡ l = eqb-true _ _ e in
    let f : taken l rs ≡ false = away-taken l rs (rw (← q) (away-right _ (block_nodes r.blocks) (nodes rs) a.0)) in
    record {
      before = [];
      blocks = r.blocks;
      after = rs;
      was = rw (← q);
      now = λ f'. rw (e, map_other l f' rs f) (rw q);
      kept = rw e (keep-other l rs f);
      others = f;
      nums = rw (e, blocks_of) (block-nums r.blocks);
    })
    (λ (e : eqb r.num l ≡ false).
    let g = row_at l rs (rw e at h) (apart-right (block_nodes r.blocks) (nodes rs) a.1) in
    record {
      before = r ∷ g.before;
      blocks = g.blocks;
      after = g.after;
      was = ap (λ (y : List (Row ℕ)). r ∷ y) g.was;
      now = λ f. rw e (ap (λ (y : List (Row ℕ)). r ∷ y) (g.now f));
      kept = rw e (ap (λ (y : List (Row ℕ)). r ∷ y) g.kept);
      others = g.others;
      nums = rw (e, blocks_of) g.nums;
    })
    (either (eqb r.num l))

-- writing
put-num : (b d : ℕ) (x : Block ℕ) → (put b d x).num ≡ x.num
put-num b d x = go (eqb x.num b) refl
  where
    go : (t : Bool) → eqb x.num b ≡ t → (cond t (block b (some d)) x).num ≡ x.num
    go true e = sym (eqb-true x.num b e)
    go false e = refl

block_nodes-put : (b d : ℕ) (xs : List (Block ℕ)) → block_nodes (map (put b d) xs) ≡ block_nodes xs
block_nodes-put b d [] = refl
block_nodes-put b d (x ∷ xs) = rw (block_nodes-put b d xs) (ap (λ (y : ℕ). y ∷ block_nodes xs) (put-num b d x))

pub nodes-write : (b d : ℕ) (rs : List (Row ℕ)) → nodes (map (on_blocks (map (put b d))) rs) ≡ nodes rs
nodes-write b d [] = refl
nodes-write b d (r ∷ rs) = rw (block_nodes-put b d r.blocks, nodes-write b d rs)
