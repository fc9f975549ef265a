-- A block's content after a change: which changes make it written (`written-changed`), and which unwritten (`written-put`).
use mathlib.Core.Path.{◌≡◌, refl, sym, ap, ◌∙◌, subst}
use mathlib.Core.Logic.{⊎_elim}
use mathlib.Core.Bool.{Bool, true, false, ◌&&◌, ◌||◌, not, cond, or-false, true≢false, false≢true}
use mathlib.Core.Option.{Option, none, some}
use mathlib.Core.List.{List, [], ◌∷◌, ◌++◌, map}
use Prim.Native.Nat.{ℕ, zero, suc, ◌≤◌}
use native.Mathlib.Omega.{arith}
use lib.Dec.{eqb}
use Rattle.lists.specs.Basic.{any, keep, is_some}
use Rattle.lists.specs.Change.{Change, take_list, put_first, put_after, write, del_block, del_list}
use Rattle.lists.specs.State.{Block, Row, block, row, is_block_num, on_blocks_of, on_row, taken, placed, applies, insert_after, on_blocks, at, put, other_block, other_row, changed}
use Rattle.lists.specs.Lookup.{content_in, content_of, written}
use Rattle.lists.proofs.Basic.{either, or-both, or_cases, or_right, and-true, not-false, eqb-true, eqb_same}
use Rattle.lists.proofs.Count.{places_of, times_on, puts, none-placed}
use Rattle.lists.proofs.Distinct.{Distinct, puts-new}
use Rattle.lists.proofs.Lookup.{content-out, content-none}

any_none : {A : Type 0} (xs : List A) → any (λ x. false) xs ≡ false
any_none [] = refl
any_none (x ∷ xs) = any_none xs

any-keep : {A : Type 0} (p q : A → Bool) (xs : List A) → any p (keep q xs) ≡ true → any p xs ≡ true
any-keep p q [] h = h
any-keep p q (x ∷ xs) h = go (q x) (any-keep p q xs) h
  where
    go : (t : Bool) → (any p (keep q xs) ≡ true → any p xs ≡ true) → any p (cond t (x ∷ keep q xs) (keep q xs)) ≡ true → p x || any p xs ≡ true
    go true ih h = ⊎_elim (λ e. rw e) (λ e. or_right (p x) _ (ih e)) (or_cases (p x) _ h)
    go false ih h = or_right (p x) _ (ih h)

-- does the change write block b?
abbrev pub writes : {D : Type 0} → Change D → ℕ → Bool
writes (take_list l) b = false
writes (put_first n l) b = false
writes (put_after n l p) b = false
writes (write n d) b = eqb n b
writes (del_block n) b = false
writes (del_list l) b = false

module _ {D : Type 0} where
  in-same : (t : Bool) (o x y : Option D) → x ≡ y → ◌≡◌ {A = Option D} (elim t [ true ↦ o | false ↦ x ]) (elim t [ true ↦ o | false ↦ y ])
  in-same true o x y e = refl
  in-same false o x y e = e

  of-same : (o x y : Option D) → x ≡ y → ◌≡◌ {A = Option D} (elim o [ none ↦ x | some d ↦ some d ]) (elim o [ none ↦ y | some d ↦ some d ])
  of-same none x y e = e
  of-same (some d) x y e = refl

  -- the same on every row of some kind is the same in the state
  content-rows : (b : ℕ) (p : Row D → Bool) (h : Row D → Row D) → ((r : Row D) → p r ≡ false → content_in (h r).blocks b ≡ content_in r.blocks b)
      → (rs : List (Row D)) → any p rs ≡ false → content_of (map h rs) b ≡ content_of rs b
  unfolding content_of
  content-rows b p h e [] k = refl
  content-rows b p h e (r ∷ rs) k =
      let (u, v) = or-both (p r) (any p rs) k in
      rw (e r u, content_of) (of-same (content_in r.blocks b) _ _ (content-rows b p h e rs v))

  content-take : (b l : ℕ) (rs : List (Row D)) → content_of (rs ++ row l [] ∷ []) b ≡ content_of rs b
  unfolding content_of content_in
  content-take b l [] = refl
  content-take b l (r ∷ rs) = of-same (content_in r.blocks b) _ _ (content-take b l rs)

  -- block n, which is not b or stands here for the first time
  module _ (b n : ℕ) where
    content-first : (xs : List (Block D)) → eqb n b && on_blocks_of b xs ≡ false → content_in (block n none ∷ xs) b ≡ content_in xs b
    unfolding content_in
    content-first xs h = ⊎_elim
        (λ (e : eqb n b ≡ true). rw (e, content_in) (sym (content-out b xs (rw e at h))))
        (λ (e : eqb n b ≡ false). rw (e, content_in))
        (either (eqb n b))

    content-after : (p : ℕ) (xs : List (Block D)) → eqb n b && on_blocks_of b xs ≡ false → content_in (insert_after p (block n none) xs) b ≡ content_in xs b
    unfolding content_in
    content-after p [] h = refl
    content-after p (x ∷ xs) h = ⊎_elim
        (λ (e : is_block_num p x ≡ true). rw (e, content_in) (in-same (eqb x.num b) x.content _ _ (content-first xs k)))
        (λ (e : is_block_num p x ≡ false). rw (e, content_in) (in-same (eqb x.num b) x.content _ _ (content-after p xs k)))
        (either (is_block_num p x))
      where
        k : eqb n b && on_blocks_of b xs ≡ false
        k = ⊎_elim
            (λ (e : eqb n b ≡ true). rw e (or-both (eqb x.num b) (on_blocks_of b xs) (rw e at h)).1)
            (λ (e : eqb n b ≡ false). rw e)
            (either (eqb n b))

    content-at : (l : ℕ) (f : List (Block D) → List (Block D)) → ((xs : List (Block D)) → eqb n b && on_blocks_of b xs ≡ false → content_in (f xs) b ≡ content_in xs b)
        → (rs : List (Row D)) → placed n rs ≡ false → content_of (map (at l f) rs) b ≡ content_of rs b
    unfolding placed
    content-at l f e rs h = content-rows b (on_row n) (at l f) (λ r k. go r (eqb r.num l) (free r k)) rs h
      where
        free : (r : Row D) → on_row n r ≡ false → eqb n b && on_row b r ≡ false
        free r k = ⊎_elim
            (λ (u : eqb n b ≡ true). rw u (rw (eqb-true n b u) at k))
            (λ (u : eqb n b ≡ false). rw u)
            (either (eqb n b))

        go : (r : Row D) (t : Bool) → eqb n b && on_row b r ≡ false → content_in (cond t (on_blocks f r) r).blocks b ≡ content_in r.blocks b
        go r true k = e r.blocks k
        go r false k = refl

  -- a write of another block, and of this one
  module _ (b n : ℕ) (d : D) where
    content-put : eqb n b ≡ false → (xs : List (Block D)) → content_in (map (put n d) xs) b ≡ content_in xs b
    unfolding content_in
    content-put h [] = refl
    content-put h (x ∷ xs) = go (eqb x.num n) refl (content-put h xs)
      where
        go : (t : Bool) → eqb x.num n ≡ t → content_in (map (put n d) xs) b ≡ content_in xs b
            → content_in (cond t (block n (some d)) x ∷ map (put n d) xs) b ≡ content_in (x ∷ xs) b
        go true e ih = rw (eqb-true x.num n e, h, content_in) ih
        go false e ih = in-same (eqb x.num b) x.content _ _ ih

  content-written : (b : ℕ) (d : D) (xs : List (Block D)) → content_in (map (put b d) xs) b ≡ cond (on_blocks_of b xs) (some d) none
  unfolding content_in
  content-written b d [] = refl
  content-written b d (x ∷ xs) = go (eqb x.num b) refl (content-written b d xs)
    where
      go : (t : Bool) → eqb x.num b ≡ t → content_in (map (put b d) xs) b ≡ cond (on_blocks_of b xs) (some d) none
          → content_in (cond t (block b (some d)) x ∷ map (put b d) xs) b ≡ cond (t || on_blocks_of b xs) (some d) none
      go true e ih = rw (eqb_same b, content_in)
      go false e ih = rw (e, content_in) ih

  content-write : (b : ℕ) (d : D) (rs : List (Row D)) → placed b rs ≡ true → content_of (map (on_blocks (map (put b d))) rs) b ≡ some d
  unfolding placed content_of
  content-write b d [] h = absurd (false≢true h)
  content-write b d (r ∷ rs) h = rw (content-written b d r.blocks, content_of) (go (on_row b r) refl (content-write b d rs))
    where
      go : (t : Bool) → on_row b r ≡ t → (placed b rs ≡ true → content_of (map (on_blocks (map (put b d))) rs) b ≡ some d)
          → ◌≡◌ {A = Option D} (elim (cond t (some d) none) [ none ↦ content_of (map (on_blocks (map (put b d))) rs) b | some x ↦ some x ]) (some d)
      go true e ih = refl
      go false e ih = ih (rw e at h)

  -- another block deleted, and this one
  content-keep : (b n : ℕ) → eqb n b ≡ false → (xs : List (Block D)) → content_in (keep (other_block n) xs) b ≡ content_in xs b
  unfolding content_in
  content-keep b n h [] = refl
  content-keep b n h (x ∷ xs) = ⊎_elim
      (λ (e : eqb x.num n ≡ true). rw (e, eqb-true x.num n e, h, content_in) (content-keep b n h xs))
      (λ (e : eqb x.num n ≡ false). rw (e, content_in) (in-same (eqb x.num b) x.content _ _ (content-keep b n h xs)))
      (either (eqb x.num n))

  deleted-on : (b : ℕ) (xs : List (Block D)) → on_blocks_of b (keep (other_block b) xs) ≡ false
  deleted-on b [] = refl
  deleted-on b (x ∷ xs) = ⊎_elim
      (λ (e : eqb x.num b ≡ true). rw e (deleted-on b xs))
      (λ (e : eqb x.num b ≡ false). rw e (rw e (deleted-on b xs)))
      (either (eqb x.num b))

  deleted-placed : (b : ℕ) (rs : List (Row D)) → placed b (map (on_blocks (keep (other_block b))) rs) ≡ false
  unfolding placed
  deleted-placed b [] = refl
  deleted-placed b (r ∷ rs) = rw (deleted-on b r.blocks) (deleted-placed b rs)

  -- a list deleted that the block is not on
  -- a block stands on one row only
  once-on : (b : ℕ) (r : Row D) (rs : List (Row D)) → places_of b (r ∷ rs) ≤ 1 → on_row b r ≡ true → placed b rs ≡ false
  unfolding placed
  once-on b r rs k e = go (times_on b r.blocks) refl
    where
      go : (n : ℕ) → times_on b r.blocks ≡ n → placed b rs ≡ false
      go zero h = absurd (true≢false (sym e ∙ (or-both (on_row b r) false (none-placed b (r ∷ []) (omega arith))).0))
      go (suc n) h = none-placed b rs (omega arith)

  content-lists : (b : ℕ) (q : Row D → Bool) (rs : List (Row D)) → places_of b rs ≤ 1 → placed b (keep q rs) ≡ true → content_of (keep q rs) b ≡ content_of rs b
  unfolding placed content_of
  content-lists b q [] k h = refl
  content-lists b q (r ∷ rs) k h = go (q r) (content-lists b q rs (omega arith)) h
    where
      off : placed b (keep q rs) ≡ true → on_row b r ≡ false
      off h = ⊎_elim
          (λ e. absurd (true≢false (sym (any-keep (on_row b) q rs h) ∙ once-on b r rs k e)))
          (λ e. e)
          (either (on_row b r))

      go : (t : Bool) → (placed b (keep q rs) ≡ true → content_of (keep q rs) b ≡ content_of rs b) → placed b (cond t (r ∷ keep q rs) (keep q rs)) ≡ true
          → content_of (cond t (r ∷ keep q rs) (keep q rs)) b ≡ content_of (r ∷ rs) b
      go true ih h = of-same (content_in r.blocks b) _ _ (⊎_elim
          ih
          (λ e. content-none b (keep q rs) e ∙ sym (content-none b rs (once-on b r rs k (⊎_elim (λ u. u) (λ u. absurd (true≢false (sym u ∙ e))) (or_cases (on_row b r) _ h)))))
          (either (placed b (keep q rs))))
      go false ih h = rw (content-out b r.blocks (off h), content_of) (ih h)

  -- what a change leaves of a block that is then on some list, if it is no write of it
  content-kept : (c : Change D) (rs : List (Row D)) (b : ℕ) → Distinct rs → applies c rs ≡ true → placed b (changed c rs) ≡ true → writes c b ≡ false
      → content_of (changed c rs) b ≡ content_of rs b
  unfolding changed applies
  content-kept (take_list l) rs b d a h w = content-take b l rs
  content-kept (put_first n l) rs b d a h w = content-at b n l (λ xs. block n none ∷ xs) (content-first b n) rs (not-false (placed n rs) (and-true (taken l rs) _ a).1)
  content-kept (put_after n l p) rs b d a h w =
      content-at b n l (insert_after p (block n none)) (content-after b n p) rs (not-false (placed n rs) (and-true (taken l rs) _ (and-true (taken l rs && not (placed n rs)) _ a).0).1)
  content-kept (write n x) rs b d a h w = content-rows b (λ r. false) (on_blocks (map (put n x))) (λ r k. content-put b n x w r.blocks) rs (any_none rs)
  content-kept (del_block n) rs b d a h w = ⊎_elim
      (λ (e : eqb n b ≡ true). absurd (true≢false (sym h ∙ subst (λ (m : ℕ). placed b (map (on_blocks (keep (other_block m))) rs) ≡ false) (sym (eqb-true n b e)) (deleted-placed b rs))))
      (λ (e : eqb n b ≡ false). content-rows b (λ r. false) (on_blocks (keep (other_block n))) (λ r k. content-keep b n e r.blocks) rs (any_none rs))
      (either (eqb n b))
  content-kept (del_list l) rs b d a h w = content-lists b (other_row l) rs (d.blocks b) h

  content-wrote : (c : Change D) (rs : List (Row D)) (b : ℕ) → applies c rs ≡ true → writes c b ≡ true → is_some (content_of (changed c rs) b) ≡ true
  unfolding changed applies is_some
  content-wrote (take_list l) rs b a w = absurd (false≢true w)
  content-wrote (put_first n l) rs b a w = absurd (false≢true w)
  content-wrote (put_after n l p) rs b a w = absurd (false≢true w)
  content-wrote (write n x) rs b a w = rw (eqb-true n b w) (ap is_some (content-write b x rs (rw (eqb-true n b w) at a)))
  content-wrote (del_block n) rs b a w = absurd (false≢true w)
  content-wrote (del_list l) rs b a w = absurd (false≢true w)

  -- so it is written if it was, or by this very change
  pub written-changed : (c : Change D) (rs : List (Row D)) (b : ℕ) → Distinct rs → applies c rs ≡ true → placed b (changed c rs) ≡ true
      → written b (changed c rs) ≡ written b rs || writes c b
  unfolding written
  written-changed c rs b d a h = go (writes c b) refl
    where
      go : (t : Bool) → writes c b ≡ t → is_some (content_of (changed c rs) b) ≡ is_some (content_of rs b) || t
      go true e = content-wrote c rs b a e ∙ sym (or_right (is_some (content_of rs b)) true refl)
      go false e = ap is_some (content-kept c rs b d a h e) ∙ sym (or-false (is_some (content_of rs b)))

  put-unwritten : (c : Change D) (b : ℕ) → puts c b ≡ true → writes c b ≡ false
  put-unwritten (take_list l) b e = refl
  put-unwritten (put_first n l) b e = refl
  put-unwritten (put_after n l p) b e = refl
  put-unwritten (write n x) b e = absurd (false≢true e)
  put-unwritten (del_block n) b e = refl
  put-unwritten (del_list l) b e = refl

  unplaced-unwritten : (rs : List (Row D)) (b : ℕ) → placed b rs ≡ false → written b rs ≡ false
  unfolding written is_some
  unplaced-unwritten rs b h = ap is_some (content-none b rs h)

  pub written-put : (c : Change D) (rs : List (Row D)) (b : ℕ) → Distinct rs → applies c rs ≡ true → placed b (changed c rs) ≡ true → puts c b ≡ true
      → written b (changed c rs) ≡ false
  written-put c rs b d a h e = written-changed c rs b d a h ∙ rw (put-unwritten c b e, unplaced-unwritten rs b (puts-new c rs b a e))
