-- Changes that touch no list in common: a change acts on the lists that it touches and leaves the others (`changed-within`, `changed-beyond`), so two
-- lists of changes apply in either order, and leave the same lists (`either_order`).
use mathlib.Core.Path.{◌≡◌, refl, sym, ap, ◌∙◌, subst}
use mathlib.Core.Logic.{◌⊎◌, inl, inr}
use mathlib.Core.Bool.{Bool, true, false, ◌&&◌, ◌||◌, not, cond, false≢true, true≢false}
use mathlib.Core.Option.{none, some, some-injective}
use mathlib.Core.List.{List, [], ◌∷◌, ◌++◌, map, append-nil}
use Prim.Native.Nat.{ℕ}
use lib.Dec.{eqb, eqb-suc-zero}
use Rattle.lists.specs.Basic.{is_some, or_else, any, all, keep, times}
use Rattle.lists.specs.Change.{Change, take_list, put_first, put_after, write, del_block, del_list}
use Rattle.lists.specs.State.{Block, Row, State, state, block, row, is_block_num, is_row, on_row, is_row_with, taken, placed, on_list, applies, insert_after, on_blocks, at, put, other_block, other_row, changed, blocks_of, frees, free_after, apply, apply_all}
use Rattle.lists.specs.Touched.{lists_with, touched_by, touched, apart, row_of, Alike}
use Rattle.lists.proofs.Basic.{and-true, or-both, or_cases, or_right, not-false, not-true, bind-some, all_append, all_split, all-each, eqb-true, eqb_same, keep-map, keep_append, guard-true}
use Rattle.lists.proofs.Count.{at-num, puts}
use Rattle.lists.proofs.Placed.{placed-changed}
use Rattle.lists.proofs.Apply.{apply_some}

-- is n one of these?
abbrev pub among : List ℕ → ℕ → Bool
among ls n = not (eqb (times n ls) 0)

among-tail : (l : ℕ) (ls : List ℕ) (n : ℕ) → among ls n ≡ true → among (l ∷ ls) n ≡ true
unfolding times
among-tail l ls n h = go (eqb l n) refl
  where
    go : (t : Bool) → eqb l n ≡ t → not (eqb (times n (l ∷ ls)) 0) ≡ true
    go true e = rw (e, times) (ap not (eqb-suc-zero (times n ls)))
    go false e = rw (e, times) h

all_among : (ls : List ℕ) → all (among ls) ls ≡ true
unfolding times all
all_among [] = refl
all_among (l ∷ ls) =
    let first : among (l ∷ ls) l ≡ true = rw (eqb_same l, times) (ap not (eqb-suc-zero (times l ls))) in
    rw first (all-each (among ls) (among (l ∷ ls)) ls (λ n h. among-tail l ls n h) (all_among ls))

-- of two lists with no number in common, the second's are not among the first's, and the other way round
apart-first : (ls ms : List ℕ) → apart ls ms ≡ true → all (λ n. not (among ms n)) ls ≡ true
unfolding apart
apart-first ls ms h = all-each (λ n. eqb (times n ms) 0) (λ n. not (among ms n)) ls (λ n e. rw e) h

not-among : (n : ℕ) (ls ms : List ℕ) → all (λ l. eqb (times l ms) 0) ls ≡ true → among ms n ≡ true → among ls n ≡ false
unfolding times all
not-among n [] ms h e = refl
not-among n (l ∷ ls) ms h e =
    let (a, b) = and-true (eqb (times l ms) 0) (all (λ k. eqb (times k ms) 0) ls) h in
    go (not-among n ls ms b e) a (eqb l n) refl
  where
    go : among ls n ≡ false → eqb (times l ms) 0 ≡ true → (t : Bool) → eqb l n ≡ t → not (eqb (times n (l ∷ ls)) 0) ≡ false
    go ih a true f = absurd (true≢false (sym e ∙ ap not (subst (λ (k : ℕ). eqb (times k ms) 0 ≡ true) (eqb-true l n f) a)))
    go ih a false f = rw (f, times) ih

apart-second : (ls ms : List ℕ) → apart ls ms ≡ true → all (λ n. not (among ls n)) ms ≡ true
unfolding apart
apart-second ls ms h = all-each (among ms) (λ n. not (among ls n)) ms (λ n e. ap not (not-among n ls ms h e)) (all_among ms)

module _ {D : Type 0} where
  -- the rows of the lists that pass a test
  abbrev pub only : (ℕ → Bool) → List (Row D) → List (Row D)
  only q rs = keep (λ r. q r.num) rs

  row-only : (q : ℕ → Bool) (l : ℕ) → q l ≡ true → (rs : List (Row D)) → row_of l (only q rs) ≡ row_of l rs
  unfolding row_of
  row-only q l h [] = refl
  row-only q l h (r ∷ rs) = go (is_row l r) refl (q r.num) refl (row-only q l h rs)
    where
      go : (t : Bool) → is_row l r ≡ t → (u : Bool) → q r.num ≡ u → row_of l (only q rs) ≡ row_of l rs
          → row_of l (cond (q r.num) (r ∷ only q rs) (only q rs)) ≡ row_of l (r ∷ rs)
      go true e true f ih = rw (f, e, row_of)
      go true e false f ih = absurd (true≢false (sym h ∙ ap q (sym (eqb-true r.num l e)) ∙ f))
      go false e true f ih = rw (f, e, row_of) ih
      go false e false f ih = rw (f, e, row_of) ih

  -- What `row_of` has of a list is what the look-ups find: whether it is taken, and its blocks in order.
  pub row-taken : (l : ℕ) (rs : List (Row D)) → is_some (row_of l rs) ≡ taken l rs
  unfolding row_of taken is_some
  row-taken l [] = refl
  row-taken l (r ∷ rs) = go (is_row l r) refl (row-taken l rs)
    where
      go : (t : Bool) → is_row l r ≡ t → is_some (row_of l rs) ≡ taken l rs → is_some (row_of l (r ∷ rs)) ≡ is_row l r || any (is_row l) rs
      go true e ih = rw (e, row_of)
      go false e ih = rw (e, row_of) ih

  pub row-blocks : (l : ℕ) (rs : List (Row D)) → map (λ (x : Block D). x.num) (or_else [] (row_of l rs)) ≡ blocks_of rs l
  unfolding row_of blocks_of or_else
  row-blocks l [] = refl
  row-blocks l (r ∷ rs) = go (is_row l r) refl (row-blocks l rs)
    where
      go : (t : Bool) → is_row l r ≡ t → map (λ (x : Block D). x.num) (or_else [] (row_of l rs)) ≡ blocks_of rs l
          → map (λ (x : Block D). x.num) (or_else [] (row_of l (r ∷ rs))) ≡ blocks_of (r ∷ rs) l
      go true e ih = rw (e, row_of, blocks_of)
      go false e ih = rw (e, row_of, blocks_of) ih

  -- A row that keeps its number.
  only-map : (q : ℕ → Bool) (h : Row D → Row D) → ((r : Row D) → (h r).num ≡ r.num) → (rs : List (Row D)) → only q (map h rs) ≡ map h (only q rs)
  only-map q h e rs = keep-map h (λ r. q r.num) (λ r. q r.num) (λ r. ap q (e r)) rs

  keep-keep : (p q : Row D → Bool) (rs : List (Row D)) → keep p (keep q rs) ≡ keep q (keep p rs)
  keep-keep p q [] = refl
  keep-keep p q (r ∷ rs) = go (p r) refl (q r) refl (keep-keep p q rs)
    where
      go : (t : Bool) → p r ≡ t → (u : Bool) → q r ≡ u → keep p (keep q rs) ≡ keep q (keep p rs)
          → keep p (cond (q r) (r ∷ keep q rs) (keep q rs)) ≡ keep q (cond (p r) (r ∷ keep p rs) (keep p rs))
      go true e true f ih = rw (e, f) (rw e (ap (λ (x : List (Row D)). r ∷ x) ih))
      go true e false f ih = rw (e, f) ih
      go false e true f ih = rw (e, f) (rw e ih)
      go false e false f ih = rw (e, f) ih

  -- A change acts on the lists that it touches as if there were no others.
  pub changed-within : (q : ℕ → Bool) (c : Change D) (rs qs : List (Row D)) → all q (touched_by c qs) ≡ true → only q (changed c rs) ≡ changed c (only q rs)
  unfolding changed touched_by all
  changed-within q (take_list l) rs qs h =
      keep_append (λ r. q r.num) rs (row l [] ∷ []) ∙ ap (λ (x : List (Row D)). only q rs ++ x) (rw (and-true (q l) true h).0)
  changed-within q (put_first b l) rs qs h = only-map q (at l (λ bs. block b none ∷ bs)) (at-num l (λ bs. block b none ∷ bs)) rs
  changed-within q (put_after b l p) rs qs h = only-map q (at l (insert_after p (block b none))) (at-num l (insert_after p (block b none))) rs
  changed-within q (write b d) rs qs h = only-map q (on_blocks (map (put b d))) (λ r. refl) rs
  changed-within q (del_block b) rs qs h = only-map q (on_blocks (keep (other_block b))) (λ r. refl) rs
  changed-within q (del_list l) rs qs h = keep-keep (λ r. q r.num) (other_row l) rs

  -- It leaves the others.
  same_rows : (h : Row D → Row D) (g : Row D → Bool) → ((r : Row D) → g r ≡ true → h r ≡ r) → (rs : List (Row D)) → all g rs ≡ true → map h rs ≡ rs
  unfolding all
  same_rows h g e [] k = refl
  same_rows h g e (r ∷ rs) k = let (a, b) = and-true (g r) (all g rs) k in rw (e r a, same_rows h g e rs b)

  kept-rows : (p : Row D → Bool) (rs : List (Row D)) → all p rs ≡ true → keep p rs ≡ rs
  unfolding all
  kept-rows p [] k = refl
  kept-rows p (r ∷ rs) k = let (a, b) = and-true (p r) (all p rs) k in rw (a, kept-rows p rs b)

  all-kept : (p g : Row D → Bool) → ((r : Row D) → p r ≡ true → g r ≡ true) → (rs : List (Row D)) → all g (keep p rs) ≡ true
  unfolding all
  all-kept p g e [] = refl
  all-kept p g e (r ∷ rs) = go (p r) refl (all-kept p g e rs)
    where
      go : (t : Bool) → p r ≡ t → all g (keep p rs) ≡ true → all g (cond (p r) (r ∷ keep p rs) (keep p rs)) ≡ true
      go true f ih = rw f (rw (e r f) ih)
      go false f ih = rw f ih

  -- the lists of a test do not hold block b
  unheld : (q : ℕ → Bool) (b : ℕ) (rs : List (Row D)) → all (λ n. not (q n)) (lists_with b rs) ≡ true → all (λ r. not (on_row b r)) (only q rs) ≡ true
  unfolding all lists_with
  unheld q b [] h = refl
  unheld q b (r ∷ rs) h = go (λ k. unheld q b rs k) (q r.num) refl (on_row b r) refl h
    where
      go : (all (λ n. not (q n)) (lists_with b rs) ≡ true → all (λ x. not (on_row b x)) (only q rs) ≡ true)
          → (t : Bool) → q r.num ≡ t → (u : Bool) → on_row b r ≡ u
          → all (λ n. not (q n)) (map (λ (x : Row D). x.num) (cond u (r ∷ keep (on_row b) rs) (keep (on_row b) rs))) ≡ true
          → all (λ x. not (on_row b x)) (cond (q r.num) (r ∷ only q rs) (only q rs)) ≡ true
      go ih true e true f k = absurd (false≢true (sym (ap not e) ∙ (and-true (not (q r.num)) _ k).0))
      go ih true e false f k = rw e (rw f (ih k))
      go ih false e true f k = rw e (ih (and-true (not (q r.num)) _ k).1)
      go ih false e false f k = rw e (ih k)

  put-none : (b : ℕ) (d : D) (xs : List (Block D)) → any (is_block_num b) xs ≡ false → map (put b d) xs ≡ xs
  put-none b d [] h = refl
  put-none b d (x ∷ xs) h = let (e, f) = or-both (is_block_num b x) (any (is_block_num b) xs) h in rw (e, put-none b d xs f)

  off-none : (b : ℕ) (xs : List (Block D)) → any (is_block_num b) xs ≡ false → keep (other_block b) xs ≡ xs
  off-none b [] h = refl
  off-none b (x ∷ xs) h = let (e, f) = or-both (is_block_num b x) (any (is_block_num b) xs) h in rw (e, off-none b xs f)

  at_other : (q : ℕ → Bool) (l : ℕ) (f : List (Block D) → List (Block D)) → q l ≡ false → (r : Row D) → q r.num ≡ true → at l f r ≡ r
  at_other q l f h r k = go (is_row l r) refl
    where
      go : (t : Bool) → is_row l r ≡ t → at l f r ≡ r
      go true e = absurd (true≢false (sym k ∙ ap q (eqb-true r.num l e) ∙ h))
      go false e = rw e

  at-beyond : (q : ℕ → Bool) (l : ℕ) (f : List (Block D) → List (Block D)) (rs : List (Row D)) → q l ≡ false → only q (map (at l f) rs) ≡ only q rs
  at-beyond q l f rs h =
      only-map q (at l f) (at-num l f) rs
      ∙ same_rows (at l f) (λ r. q r.num) (at_other q l f h) (only q rs) (all-kept (λ r. q r.num) (λ r. q r.num) (λ r e. e) rs)

  other_row_lem : (q : ℕ → Bool) (l : ℕ) → q l ≡ false → (r : Row D) → q r.num ≡ true → other_row l r ≡ true
  other_row_lem q l h r k = not-true (is_row l r) (go (is_row l r) refl)
    where
      go : (t : Bool) → is_row l r ≡ t → is_row l r ≡ false
      go true e = absurd (true≢false (sym k ∙ ap q (eqb-true r.num l e) ∙ h))
      go false e = e

  pub changed-beyond : (q : ℕ → Bool) (c : Change D) (rs : List (Row D)) → all (λ n. not (q n)) (touched_by c rs) ≡ true → only q (changed c rs) ≡ only q rs
  unfolding changed touched_by all
  changed-beyond q (take_list l) rs h =
      keep_append (λ r. q r.num) rs (row l [] ∷ [])
      ∙ ap (λ (x : List (Row D)). only q rs ++ x) (rw (not-false (q l) (and-true (not (q l)) true h).0))
      ∙ append-nil (only q rs)
  changed-beyond q (put_first b l) rs h = at-beyond q l _ rs (not-false (q l) (and-true (not (q l)) _ h).0)
  changed-beyond q (put_after b l p) rs h = at-beyond q l _ rs (not-false (q l) (and-true (not (q l)) _ h).0)
  changed-beyond q (write b d) rs h =
      only-map q (on_blocks (map (put b d))) (λ r. refl) rs
      ∙ same_rows (on_blocks (map (put b d))) (λ r. not (on_row b r))
      (λ r e. ap (row r.num) (put-none b d r.blocks (not-false (on_row b r) e))) (only q rs) (unheld q b rs h)
  changed-beyond q (del_block b) rs h =
      only-map q (on_blocks (keep (other_block b))) (λ r. refl) rs
      ∙ same_rows (on_blocks (keep (other_block b))) (λ r. not (on_row b r))
      (λ r e. ap (row r.num) (off-none b r.blocks (not-false (on_row b r) e))) (only q rs) (unheld q b rs h)
  changed-beyond q (del_list l) rs h =
      keep-keep (λ r. q r.num) (other_row l) rs
      ∙ kept-rows (other_row l) (only q rs)
      (all-kept (λ r. q r.num) (other_row l) (other_row_lem q l (not-false (q l) (and-true (not (q l)) true h).0)) rs)

  -- Whether a change applies is judged in the lists that it touches.
  taken-only : (q : ℕ → Bool) (l : ℕ) → q l ≡ true → (rs : List (Row D)) → taken l (only q rs) ≡ taken l rs
  unfolding taken
  taken-only q l h [] = refl
  taken-only q l h (r ∷ rs) = go (q r.num) refl (is_row l r) refl (taken-only q l h rs)
    where
      go : (t : Bool) → q r.num ≡ t → (u : Bool) → is_row l r ≡ u → taken l (only q rs) ≡ taken l rs
          → any (is_row l) (cond (q r.num) (r ∷ only q rs) (only q rs)) ≡ is_row l r || any (is_row l) rs
      go true e u f ih = rw e (ap (λ (x : Bool). is_row l r || x) ih)
      go false e true f ih = absurd (true≢false (sym h ∙ ap q (sym (eqb-true r.num l f)) ∙ e))
      go false e false f ih = rw (e, f) ih

  on-only : (q : ℕ → Bool) (l p : ℕ) → q l ≡ true → (rs : List (Row D)) → on_list l p (only q rs) ≡ on_list l p rs
  unfolding on_list
  on-only q l p h [] = refl
  on-only q l p h (r ∷ rs) = go (q r.num) refl (is_row l r) refl (on-only q l p h rs)
    where
      go : (t : Bool) → q r.num ≡ t → (u : Bool) → is_row l r ≡ u → on_list l p (only q rs) ≡ on_list l p rs
          → any (is_row_with l p) (cond (q r.num) (r ∷ only q rs) (only q rs)) ≡ is_row_with l p r || any (is_row_with l p) rs
      go true e u f ih = rw e (ap (λ (x : Bool). is_row_with l p r || x) ih)
      go false e true f ih = absurd (true≢false (sym h ∙ ap q (sym (eqb-true r.num l f)) ∙ e))
      go false e false f ih = rw (e, f) ih

  placed-only : (q : ℕ → Bool) (b : ℕ) (rs : List (Row D)) → all q (lists_with b rs) ≡ true → placed b (only q rs) ≡ placed b rs
  unfolding placed lists_with all
  placed-only q b [] h = refl
  placed-only q b (r ∷ rs) h = go (λ k. placed-only q b rs k) (q r.num) refl (on_row b r) refl h
    where
      go : (all q (lists_with b rs) ≡ true → placed b (only q rs) ≡ placed b rs) → (t : Bool) → q r.num ≡ t → (u : Bool) → on_row b r ≡ u
          → all q (map (λ (x : Row D). x.num) (cond u (r ∷ keep (on_row b) rs) (keep (on_row b) rs))) ≡ true
          → any (on_row b) (cond (q r.num) (r ∷ only q rs) (only q rs)) ≡ on_row b r || any (on_row b) rs
      go ih true e true f k = rw (e, f)
      go ih true e false f k = rw (e, f) (ih k)
      go ih false e true f k = absurd (false≢true (sym e ∙ (and-true (q r.num) _ k).0))
      go ih false e false f k = rw (e, f) (ih k)

  pub applies-only : (q : ℕ → Bool) (c : Change D) (rs : List (Row D)) → all q (touched_by c rs) ≡ true → applies c (only q rs) ≡ applies c rs
  unfolding applies touched_by all
  applies-only q (take_list l) rs h = ap not (taken-only q l (and-true (q l) true h).0 rs)
  applies-only q (put_first b l) rs h =
      let (a, k) = and-true (q l) _ h in
      rw (taken-only q l a rs, placed-only q b rs k)
  applies-only q (put_after b l p) rs h =
      let (a, k) = and-true (q l) _ h in
      let (x, y) = all_split q (lists_with b rs) (lists_with p rs) k in
      rw (taken-only q l a rs, placed-only q b rs x, on-only q l p a rs)
  applies-only q (write b d) rs h = placed-only q b rs h
  applies-only q (del_block b) rs h = placed-only q b rs h
  applies-only q (del_list l) rs h = taken-only q l (and-true (q l) true h).0 rs

  -- Block b stands on no list beyond a test just if every list that holds it passes.
  pub inside-clear : (q : ℕ → Bool) (b : ℕ) (rs : List (Row D)) → all q (lists_with b rs) ≡ true → placed b (only (λ n. not (q n)) rs) ≡ false
  unfolding placed lists_with all
  inside-clear q b [] h = refl
  inside-clear q b (r ∷ rs) h = go (λ k. inside-clear q b rs k) (q r.num) refl (on_row b r) refl h
    where
      go : (all q (lists_with b rs) ≡ true → placed b (only (λ n. not (q n)) rs) ≡ false) → (t : Bool) → q r.num ≡ t → (u : Bool) → on_row b r ≡ u
          → all q (map (λ (x : Row D). x.num) (cond u (r ∷ keep (on_row b) rs) (keep (on_row b) rs))) ≡ true
          → any (on_row b) (cond (not (q r.num)) (r ∷ only (λ n. not (q n)) rs) (only (λ n. not (q n)) rs)) ≡ false
      go ih true e true f k = rw e (ih (and-true (q r.num) _ k).1)
      go ih true e false f k = rw e (ih k)
      go ih false e true f k = absurd (false≢true (sym e ∙ (and-true (q r.num) _ k).0))
      go ih false e false f k = rw e (rw f (ih k))

  pub clear-inside : (q : ℕ → Bool) (b : ℕ) (rs : List (Row D)) → placed b (only (λ n. not (q n)) rs) ≡ false → all q (lists_with b rs) ≡ true
  unfolding placed lists_with all
  clear-inside q b [] h = refl
  clear-inside q b (r ∷ rs) h = go (λ k. clear-inside q b rs k) (q r.num) refl (on_row b r) refl h
    where
      go : (placed b (only (λ n. not (q n)) rs) ≡ false → all q (lists_with b rs) ≡ true) → (t : Bool) → q r.num ≡ t → (u : Bool) → on_row b r ≡ u
          → any (on_row b) (cond (not t) (r ∷ only (λ n. not (q n)) rs) (only (λ n. not (q n)) rs)) ≡ false
          → all q (map (λ (x : Row D). x.num) (cond (on_row b r) (r ∷ keep (on_row b) rs) (keep (on_row b) rs))) ≡ true
      go ih true e true f k = rw f (rw e (ih k))
      go ih true e false f k = rw f (ih k)
      go ih false e true f k = absurd (false≢true (sym (or-both (on_row b r) _ k).0 ∙ f))
      go ih false e false f k = rw f (ih (or-both (on_row b r) _ k).1)

  -- the blocks that a change names
  abbrev pub names : Change D → ℕ → Bool
  names (take_list l) n = false
  names (put_first b l) n = eqb b n
  names (put_after b l p) n = eqb b n || eqb p n
  names (write b d) n = eqb b n
  names (del_block b) n = eqb b n
  names (del_list l) n = false

  named-clear : (q : ℕ → Bool) (c : Change D) (rs : List (Row D)) (b : ℕ) → all q (touched_by c rs) ≡ true → names c b ≡ true → placed b (only (λ n. not (q n)) rs) ≡ false
  unfolding touched_by all
  named-clear q (take_list l) rs n h e = absurd (false≢true e)
  named-clear q (put_first b l) rs n h e = rw (← eqb-true b n e) (inside-clear q b rs (and-true (q l) _ h).1)
  named-clear q (put_after b l p) rs n h e = go (or_cases (eqb b n) (eqb p n) e)
    where
      go : (eqb b n ≡ true) ⊎ (eqb p n ≡ true) → placed n (only (λ m. not (q m)) rs) ≡ false
      go (inl f) = rw (← eqb-true b n f) (inside-clear q b rs (all_split q (lists_with b rs) (lists_with p rs) (and-true (q l) _ h).1).0)
      go (inr f) = rw (← eqb-true p n f) (inside-clear q p rs (all_split q (lists_with b rs) (lists_with p rs) (and-true (q l) _ h).1).1)
  named-clear q (write b d) rs n h e = rw (← eqb-true b n e) (inside-clear q b rs h)
  named-clear q (del_block b) rs n h e = rw (← eqb-true b n e) (inside-clear q b rs h)
  named-clear q (del_list l) rs n h e = absurd (false≢true e)

  -- the lists that a change touches pass the test, if they did among others and what it names stands on none beyond it
  touched-again : (q : ℕ → Bool) (c : Change D) (rs qs : List (Row D)) → all q (touched_by c rs) ≡ true
      → ((b : ℕ) → names c b ≡ true → placed b (only (λ n. not (q n)) qs) ≡ false) → all q (touched_by c qs) ≡ true
  unfolding touched_by all
  touched-again q (take_list l) rs qs h f = h
  touched-again q (put_first b l) rs qs h f = rw (and-true (q l) _ h).0 (clear-inside q b qs (f b (eqb_same b)))
  touched-again q (put_after b l p) rs qs h f =
      rw (and-true (q l) _ h).0
      (all_append q (lists_with b qs) (lists_with p qs) (clear-inside q b qs (f b (rw (eqb_same b)))) (clear-inside q p qs (f p (or_right (eqb b p) _ (eqb_same p)))))
  touched-again q (write b d) rs qs h f = clear-inside q b qs (f b (eqb_same b))
  touched-again q (del_block b) rs qs h f = clear-inside q b qs (f b (eqb_same b))
  touched-again q (del_list l) rs qs h f = h

  -- Changes in order: those that touch lists within a test leave what is beyond it, and what they do not put there.
  apply-is : (c : Change D) (s : State D) → applies c s.lists ≡ true → apply c s ≡ some (state (changed c s.lists) (free_after c s.lists s.free))
  unfolding apply
  apply-is c s h = guard-true _ _ h

  pub touched-step : (c : Change D) (cs : List (Change D)) (s t : State D) → apply c s ≡ some t → touched (c ∷ cs) s ≡ touched_by c s.lists ++ touched cs t
  unfolding touched or_else
  touched-step c cs s t e = rw e

  all-beyond : (q : ℕ → Bool) (cs : List (Change D)) (s t : State D) → apply_all cs s ≡ some t → all (λ n. not (q n)) (touched cs s) ≡ true → only q t.lists ≡ only q s.lists
  unfolding apply_all
  all-beyond q [] s t e h = ap (λ (x : State D). only q x.lists) (sym (some-injective _ _ e))
  all-beyond q (c ∷ cs) s t e h =
      let (u, f, g) = bind-some (apply c s) (λ x. apply_all cs x) t e in
      let (a, k) = apply_some c s u f in
      let (x, y) = all_split (λ n. not (q n)) (touched_by c s.lists) (touched cs u) (subst (λ (l : List ℕ). all (λ n. not (q n)) l ≡ true) (touched-step c cs s u f) h) in
      all-beyond q cs u t g y ∙ ap (λ (z : State D). only q z.lists) k ∙ changed-beyond q c s.lists x

  not-put : (q : ℕ → Bool) (cs : List (Change D)) (s t : State D) (b : ℕ) → apply_all cs s ≡ some t → all q (touched cs s) ≡ true
      → any (λ c. puts c b) cs ≡ false → placed b (only q s.lists) ≡ false → placed b (only q t.lists) ≡ false
  unfolding apply_all
  not-put q [] s t b e h p k = subst (λ (x : State D). placed b (only q x.lists) ≡ false) (some-injective _ _ e) k
  not-put q (c ∷ cs) s t b e h p k =
      let (u, f, g) = bind-some (apply c s) (λ x. apply_all cs x) t e in
      let (a, z) = apply_some c s u f in
      let (x, y) = all_split q (touched_by c s.lists) (touched cs u) (subst (λ (l : List ℕ). all q l ≡ true) (touched-step c cs s u f) h) in
      let (m, n) = or-both (puts c b) (any (λ c. puts c b) cs) p in
      not-put q cs u t b g y n
      (ap (λ (r : State D). placed b (only q r.lists)) z ∙ ap (placed b) (changed-within q c s.lists s.lists x) ∙ placed-changed c (only q s.lists) b m k)

  -- what changes name stands on no list beyond those that they touch
  all-clear : (q : ℕ → Bool) (cs : List (Change D)) (s t : State D) (b : ℕ) → apply_all cs s ≡ some t → all q (touched cs s) ≡ true
      → any (λ c. names c b) cs ≡ true → placed b (only (λ n. not (q n)) s.lists) ≡ false
  unfolding apply_all
  all-clear q [] s t b e h p = absurd (false≢true p)
  all-clear q (c ∷ cs) s t b e h p =
      let (u, f, g) = bind-some (apply c s) (λ x. apply_all cs x) t e in
      let (a, z) = apply_some c s u f in
      let (x, y) = all_split q (touched_by c s.lists) (touched cs u) (subst (λ (l : List ℕ). all q l ≡ true) (touched-step c cs s u f) h) in
      let same : only (λ n. not (q n)) u.lists ≡ only (λ n. not (q n)) s.lists = ap (λ (r : State D). only (λ n. not (q n)) r.lists) z
      ∙ changed-beyond (λ n. not (q n)) c s.lists (all-each q (λ n. not (not (q n))) (touched_by c s.lists) (λ n i. rw i) x) in
      go (λ i. sym (ap (placed b) same) ∙ all-clear q cs u t b g y i) x (or_cases (names c b) (any (λ c. names c b) cs) p)
    where
      go : (any (λ c. names c b) cs ≡ true → placed b (only (λ n. not (q n)) s.lists) ≡ false) → all q (touched_by c s.lists) ≡ true
          → (names c b ≡ true) ⊎ (any (λ c. names c b) cs ≡ true) → placed b (only (λ n. not (q n)) s.lists) ≡ false
      go later x (inl i) = named-clear q c s.lists b x i
      go later x (inr i) = later i

  -- The same changes on a state that has the same lists within the test.
  pub record Shifted (q : ℕ → Bool) (ds : List (Change D)) (t' t : State D) : Type 0 where
    pub left : State D
    pub acts : apply_all ds t' ≡ some left
    pub within : only q left.lists ≡ only q t.lists
    pub beyond : only (λ n. not (q n)) left.lists ≡ only (λ n. not (q n)) t'.lists

  pub shifted : (q : ℕ → Bool) (ds : List (Change D)) (s t s' : State D) → apply_all ds s ≡ some t → all q (touched ds s) ≡ true
      → only q s'.lists ≡ only q s.lists → ((b : ℕ) → any (λ d. names d b) ds ≡ true → placed b (only (λ n. not (q n)) s'.lists) ≡ false)
      → Shifted q ds s' t
  unfolding apply_all
  shifted q [] s t s' e h k f = record { left = s'; acts = refl; within = k ∙ ap (λ (x : State D). only q x.lists) (some-injective _ _ e); beyond = refl }
  shifted q (d ∷ ds) s t s' e h k f =
      let (u, m, g) = bind-some (apply d s) (λ x. apply_all ds x) t e in
      let (a, z) = apply_some d s u m in
      let (x, y) = all_split q (touched_by d s.lists) (touched ds u) (subst (λ (l : List ℕ). all q l ≡ true) (touched-step d ds s u m) h) in
      let x' : all q (touched_by d s'.lists) ≡ true = touched-again q d s.lists s'.lists x (λ b i. f b (rw i)) in
      let a' : applies d s'.lists ≡ true = sym (applies-only q d s'.lists x') ∙ ap (applies d) k ∙ applies-only q d s.lists x ∙ a in
      let u' : State D = state (changed d s'.lists) (free_after d s'.lists s'.free) in
      let b' : only (λ n. not (q n)) (changed d s'.lists) ≡ only (λ n. not (q n)) s'.lists =
      changed-beyond (λ n. not (q n)) d s'.lists (all-each q (λ n. not (not (q n))) (touched_by d s'.lists) (λ n i. rw i) x') in
      let r = shifted q ds u t u' g y
      (changed-within q d s'.lists s.lists x ∙ ap (changed d) k ∙ sym (changed-within q d s.lists s.lists x) ∙ ap (λ (w : State D). only q w.lists) (sym z))
      (λ b i. ap (placed b) b' ∙ f b (or_right (names d b) _ i)) in
      record {
        left = r.left;
        acts = rw (apply-is d s' a') r.acts;
        within = r.within;
        beyond = r.beyond ∙ b';
      }

  -- Two lists of changes that touch no list in common. What the one names the other does not put.
  abbrev pub Unput : List (Change D) → List (Change D) → Type 0
  Unput cs ds = (b : ℕ) → any (λ d. names d b) ds ≡ true → any (λ c. puts c b) cs ≡ false

  pub second-after : (cs ds : List (Change D)) (s s₁ s₂ : State D) → apply_all cs s ≡ some s₁ → apply_all ds s ≡ some s₂
      → (q : ℕ → Bool) → all q (touched ds s) ≡ true → all (λ n. not (q n)) (touched cs s) ≡ true → Unput cs ds → Shifted q ds s₁ s₂
  second-after cs ds s s₁ s₂ e f q h k p =
      shifted q ds s s₂ s₁ f h (all-beyond q cs s s₁ e k)
      (λ b i. not-put (λ n. not (q n)) cs s s₁ b e k (p b i) (all-clear q ds s s₂ b f h i))

  -- Either order: the same lists.
  pub record Commute (cs ds : List (Change D)) (s₁ s₂ : State D) : Type 0 where
    pub second : State D
    pub first : State D
    pub acts-second : apply_all ds s₁ ≡ some second
    pub acts-first : apply_all cs s₂ ≡ some first
    pub alike : Alike second.lists first.lists

  by_rows : (q : ℕ → Bool) (l : ℕ) → q l ≡ true → (rs qs : List (Row D)) → only q rs ≡ only q qs → row_of l rs ≡ row_of l qs
  by_rows q l h rs qs e = sym (row-only q l h rs) ∙ ap (row_of l) e ∙ row-only q l h qs

  pub either_order : (cs ds : List (Change D)) (s s₁ s₂ : State D) → apply_all cs s ≡ some s₁ → apply_all ds s ≡ some s₂
      → apart (touched cs s) (touched ds s) ≡ true → Unput cs ds → Unput ds cs → Commute cs ds s₁ s₂
  unfolding apart
  either_order cs ds s s₁ s₂ e f h m n =
      let x = second-after cs ds s s₁ s₂ e f q q-own q-other m in
      let y = second-after ds cs s s₂ s₁ f e p p-own p-other n in
      record {
        second = x.left;
        first = y.left;
        acts-second = x.acts;
        acts-first = y.acts;
        alike = λ l. go x y l (q l) refl (p l) refl;
      }
    where
      p : ℕ → Bool
      p = among (touched cs s)

      q : ℕ → Bool
      q = among (touched ds s)

      p-own : all p (touched cs s) ≡ true
      p-own = all_among (touched cs s)

      q-own : all q (touched ds s) ≡ true
      q-own = all_among (touched ds s)

      q-other : all (λ k. not (q k)) (touched cs s) ≡ true
      q-other = apart-first (touched cs s) (touched ds s) h

      p-other : all (λ k. not (p k)) (touched ds s) ≡ true
      p-other = apart-second (touched cs s) (touched ds s) h

      go : (x : Shifted q ds s₁ s₂) (y : Shifted p cs s₂ s₁) (l : ℕ) (t : Bool) → q l ≡ t → (u : Bool) → p l ≡ u → row_of l x.left.lists ≡ row_of l y.left.lists
      go x y l true i true j = absurd (false≢true (sym (not-among l (touched cs s) (touched ds s) h i) ∙ j))
      go x y l true i false j =
          by_rows q l i x.left.lists s₂.lists x.within
          ∙ sym (by_rows (λ k. not (p k)) l (ap not j) y.left.lists s₂.lists y.beyond)
      go x y l false i true j =
          by_rows (λ k. not (q k)) l (ap not i) x.left.lists s₁.lists x.beyond
          ∙ sym (by_rows p l j y.left.lists s₁.lists y.within)
      go x y l false i false j =
          by_rows (λ k. not (q k)) l (ap not i) x.left.lists s₁.lists x.beyond
          ∙ by_rows (λ k. not (p k)) l (ap not j) s₁.lists s.lists (all-beyond (λ k. not (p k)) cs s s₁ e (all-each p (λ k. not (not (p k))) (touched cs s) (λ k z. rw z) p-own))
          ∙ sym (by_rows (λ k. not (q k)) l (ap not i) s₂.lists s.lists (all-beyond (λ k. not (q k)) ds s s₂ f (all-each q (λ k. not (not (q k))) (touched ds s) (λ k z. rw z) q-own)))
          ∙ sym (by_rows (λ k. not (p k)) l (ap not j) y.left.lists s₂.lists y.beyond)

  on-placed : (l p : ℕ) (rs : List (Row D)) → on_list l p rs ≡ true → placed p rs ≡ true
  unfolding on_list placed
  on-placed l p [] h = h
  on-placed l p (r ∷ rs) h = go (λ k. on-placed l p rs k) (or_cases (is_row_with l p r) (any (is_row_with l p) rs) h)
    where
      go : (on_list l p rs ≡ true → placed p rs ≡ true) → (is_row_with l p r ≡ true) ⊎ (any (is_row_with l p) rs ≡ true) → on_row p r || any (on_row p) rs ≡ true
      go ih (inl k) = rw (and-true (is_row l r) (on_row p r) k).1
      go ih (inr k) = or_right (on_row p r) _ (ih k)

  -- A block that changes name was on a list before them, or one of them puts it.
  named-placed : (c : Change D) (rs : List (Row D)) (b : ℕ) → applies c rs ≡ true → names c b ≡ true → (placed b rs ≡ true) ⊎ (puts c b ≡ true)
  unfolding applies
  named-placed (take_list l) rs n a e = absurd (false≢true e)
  named-placed (put_first b l) rs n a e = inr e
  named-placed (put_after b l p) rs n a e = go (or_cases (eqb b n) (eqb p n) e)
    where
      go : (eqb b n ≡ true) ⊎ (eqb p n ≡ true) → (placed n rs ≡ true) ⊎ (eqb b n ≡ true)
      go (inl f) = inr f
      go (inr f) = inl (rw (← eqb-true p n f) (on-placed l p rs (and-true (taken l rs && not (placed b rs)) (on_list l p rs) a).1))
  named-placed (write b d) rs n a e = inl (rw (← eqb-true b n e) a)
  named-placed (del_block b) rs n a e = inl (rw (← eqb-true b n e) a)
  named-placed (del_list l) rs n a e = absurd (false≢true e)

  pub named-known : (cs : List (Change D)) (s t : State D) (b : ℕ) → apply_all cs s ≡ some t → any (λ c. names c b) cs ≡ true
      → (placed b s.lists ≡ true) ⊎ (any (λ c. puts c b) cs ≡ true)
  unfolding apply_all
  named-known [] s t b e h = absurd (false≢true h)
  named-known (c ∷ cs) s t b e h =
      let (u, f, g) = bind-some (apply c s) (λ x. apply_all cs x) t e in
      let (a, z) = apply_some c s u f in
      go a (ap (λ (x : State D). placed b x.lists) z) (λ i. named-known cs u t b g i) (or_cases (names c b) (any (λ c. names c b) cs) h)
    where
      later : {x : Bool} → x ≡ placed b (changed c s.lists) → (x ≡ true) ⊎ (any (λ c. puts c b) cs ≡ true) → (r v : Bool) → puts c b ≡ r → placed b s.lists ≡ v
          → (placed b s.lists ≡ true) ⊎ (puts c b || any (λ c. puts c b) cs ≡ true)
      later z o true v i j = inr (rw i)
      later z o false true i j = inl j
      later z (inl k) false false i j = absurd (false≢true (sym (placed-changed c s.lists b i j) ∙ sym z ∙ k))
      later z (inr k) false false i j = inr (rw i k)

      first : (placed b s.lists ≡ true) ⊎ (puts c b ≡ true) → (placed b s.lists ≡ true) ⊎ (puts c b || any (λ c. puts c b) cs ≡ true)
      first (inl k) = inl k
      first (inr k) = inr (rw k)

      go : {x : Bool} → applies c s.lists ≡ true → x ≡ placed b (changed c s.lists)
          → (any (λ c. names c b) cs ≡ true → (x ≡ true) ⊎ (any (λ c. puts c b) cs ≡ true))
          → (names c b ≡ true) ⊎ (any (λ c. names c b) cs ≡ true) → (placed b s.lists ≡ true) ⊎ (puts c b || any (λ c. puts c b) cs ≡ true)
      go a z ih (inl k) = first (named-placed c s.lists b a k)
      go a z ih (inr k) = later z (ih k) (puts c b) (placed b s.lists) refl refl

-- What three changes in a row touch: block 6 is put after 5 on list 1, written and deleted; list 3 is taken, block 7 put on it, and it is deleted. Writes of two
-- blocks of one list share it.
abbrev pub rows : State ℕ
rows = state (row 1 (block 5 none ∷ block 4 none ∷ []) ∷ row 2 [] ∷ []) []

pub chain-touches : touched (put_after 6 1 5 ∷ write 6 0 ∷ del_block 6 ∷ []) rows ≡ 1 ∷ 1 ∷ 1 ∷ 1 ∷ []
unfolding touched touched_by lists_with apply applies changed free_after frees taken placed on_list or_else
chain-touches = refl

pub taken-touches : touched (take_list 3 ∷ put_first 7 3 ∷ del_list 3 ∷ []) rows ≡ 3 ∷ 3 ∷ 3 ∷ []
unfolding touched touched_by lists_with apply applies changed free_after frees taken placed on_list or_else
taken-touches = refl

pub shared-list : apart (touched (write 5 0 ∷ []) rows) (touched (write 4 0 ∷ []) rows) ≡ false
unfolding touched touched_by lists_with apply applies changed free_after frees taken placed on_list or_else apart times all
shared-list = refl
