-- The lists of a state stand by their takings: those that were there and no change deletes, and behind them the changes' takings in force
-- (`lists-in-force`). So do those of a journal replayed, if it takes no list that is taken already (`lists-overlaid`).
use mathlib.Core.Path.{◌≡◌, refl, sym, ap, ◌∙◌}
use mathlib.Core.Bool.{Bool, true, false, ◌||◌, not, cond, or-false, or-true, false≢true}
use mathlib.Core.Option.{Option, none, some, some-injective, none-ne-some}
use mathlib.Core.List.{List, [], ◌∷◌, ◌++◌, map, append_assoc, append-nil, map-append}
use Prim.Native.Nat.{ℕ}
use lib.Dec.{eqb}
use Rattle.lists.specs.Basic.{or_else, any, keep}
use Rattle.lists.specs.Change.{Change, take_list, put_first, put_after, write, del_block, del_list}
use Rattle.lists.specs.State.{Row, State, state, empty, block, row, is_row, taken, applies, insert_after, on_blocks, at, put, other_block, other_row, changed, free_after, apply, apply_all, overlay}
use Rattle.lists.specs.Lookup.{list_nums}
use Rattle.lists.specs.Takings.{taking, deletes, undeleted, in_force}
use Rattle.lists.proofs.Basic.{or-both, bind-some, keep-map, keep_all, keep_append, eqb_same}
use Rattle.lists.proofs.Apply.{apply_some}
use Rattle.lists.proofs.Count.{at-num, takes}
use Rattle.lists.proofs.InUse.{taken-changed}

module _ {D : Type 0} where
  -- One change: what it deletes goes, and what it takes stands last.
  nums-kept : (h : Row D → Row D) → ((r : Row D) → (h r).num ≡ r.num) → (rs : List (Row D)) → list_nums (map h rs) ≡ list_nums rs
  unfolding list_nums
  nums-kept h e [] = refl
  nums-kept h e (r ∷ rs) = rw (e r, nums-kept h e rs)

  undeleted-append : (cs : List (Change D)) (xs ys : List ℕ) → undeleted cs (xs ++ ys) ≡ undeleted cs xs ++ undeleted cs ys
  unfolding undeleted
  undeleted-append cs xs ys = keep_append (λ l. not (any (λ c. deletes c l) cs)) xs ys

  -- changes that delete no list
  undeleting : (cs : List (Change D)) → ((l : ℕ) → any (λ c. deletes c l) cs ≡ false) → (ls : List ℕ) → undeleted cs ls ≡ ls
  unfolding undeleted
  undeleting cs e ls = keep_all (λ l. not (any (λ c. deletes c l) cs)) (λ l. rw (e l)) ls

  same-nums : (c : Change D) (h : Row D → Row D) → ((r : Row D) → (h r).num ≡ r.num) → ((l : ℕ) → any (λ x. deletes x l) (c ∷ []) ≡ false) → (rs : List (Row D))
      → list_nums (map h rs) ≡ undeleted (c ∷ []) (list_nums rs) ++ []
  same-nums c h e f rs = nums-kept h e rs ∙ sym (undeleting (c ∷ []) f (list_nums rs)) ∙ sym (append-nil _)

  take-nums : (l : ℕ) (rs : List (Row D)) → list_nums (rs ++ row l [] ∷ []) ≡ list_nums rs ++ l ∷ []
  unfolding list_nums
  take-nums l rs = map-append (λ (r : Row D). r.num) rs (row l [] ∷ [])

  delete-nums : (l : ℕ) (rs : List (Row D)) → list_nums (keep (other_row l) rs) ≡ undeleted {D = D} (del_list l ∷ []) (list_nums rs)
  unfolding list_nums undeleted
  delete-nums l rs = sym (keep-map (λ (r : Row D). r.num) (other_row l) (λ n. not (eqb n l || false)) (λ r. ap not (or-false (eqb r.num l))) rs)

  changed-nums : (c : Change D) (rs : List (Row D)) → list_nums (changed c rs) ≡ undeleted (c ∷ []) (list_nums rs) ++ taking c
  unfolding changed
  changed-nums (take_list l) rs = take-nums l rs ∙ ap (λ (x : List ℕ). x ++ l ∷ []) (sym (undeleting (take_list l ∷ []) (λ n. refl) (list_nums rs)))
  changed-nums (put_first b l) rs = same-nums (put_first b l) (at l (λ bs. block b none ∷ bs)) (at-num l (λ bs. block b none ∷ bs)) (λ n. refl) rs
  changed-nums (put_after b l p) rs = same-nums (put_after b l p) (at l (insert_after p (block b none))) (at-num l (insert_after p (block b none))) (λ n. refl) rs
  changed-nums (write b d) rs = same-nums (write b d) (on_blocks (map (put b d))) (λ r. refl) (λ n. refl) rs
  changed-nums (del_block b) rs = same-nums (del_block b) (on_blocks (keep (other_block b))) (λ r. refl) (λ n. refl) rs
  changed-nums (del_list l) rs = delete-nums l rs ∙ sym (append-nil _)

  apply-nums : (c : Change D) (s t : State D) → apply c s ≡ some t → list_nums t.lists ≡ undeleted (c ∷ []) (list_nums s.lists) ++ taking c
  apply-nums c s t e = let (a, f) = apply_some c s t e in rw f (changed-nums c s.lists)

  -- what one change and those behind it leave
  undeleted-more : (c : Change D) (cs : List (Change D)) (ls : List ℕ) → undeleted cs (undeleted (c ∷ []) ls) ≡ undeleted (c ∷ cs) ls
  unfolding undeleted
  undeleted-more c cs [] = refl
  undeleted-more c cs (l ∷ ls) = go (deletes c l) (undeleted-more c cs ls)
    where
      go : (t : Bool) → undeleted cs (undeleted (c ∷ []) ls) ≡ undeleted (c ∷ cs) ls
          → undeleted cs (cond (not (t || false)) (l ∷ undeleted (c ∷ []) ls) (undeleted (c ∷ []) ls))
          ≡ cond (not (t || any (λ x. deletes x l) cs)) (l ∷ undeleted (c ∷ cs) ls) (undeleted (c ∷ cs) ls)
      go true ih = ih
      go false ih = rw ih

  -- one change and those behind it: what it deletes goes, and what it takes stands behind, if none of them deletes that
  in-force-step : (c : Change D) (cs : List (Change D)) (ls ms : List ℕ) → ms ≡ undeleted (c ∷ []) ls ++ taking c
      → undeleted cs ms ++ in_force cs ≡ undeleted (c ∷ cs) ls ++ in_force (c ∷ cs)
  unfolding in_force
  in-force-step c cs ls ms e =
      ap (λ (x : List ℕ). undeleted cs x ++ in_force cs) e
      ∙ ap (λ (x : List ℕ). x ++ in_force cs) (undeleted-append cs (undeleted (c ∷ []) ls) (taking c) ∙ ap (λ (x : List ℕ). x ++ undeleted cs (taking c)) (undeleted-more c cs ls))
      ∙ append_assoc (undeleted (c ∷ cs) ls) (undeleted cs (taking c)) (in_force cs)

  none_yet : (s : State D) → list_nums s.lists ≡ undeleted {D = D} [] (list_nums s.lists) ++ in_force {D = D} []
  unfolding in_force
  none_yet s = sym (undeleting [] (λ l. refl) (list_nums s.lists)) ∙ sym (append-nil _)

  -- Changes in order.
  pub lists-in-force : (cs : List (Change D)) (s t : State D) → apply_all cs s ≡ some t
      → list_nums t.lists ≡ undeleted cs (list_nums s.lists) ++ in_force cs
  unfolding apply_all
  lists-in-force [] s t e = ap (λ (x : State D). list_nums x.lists) (sym (some-injective _ _ e)) ∙ none_yet s
  lists-in-force (c ∷ cs) s t e =
      let (u, f, g) = bind-some (apply c s) (λ x. apply_all cs x) t e in
      lists-in-force cs u t g ∙ in-force-step c cs (list_nums s.lists) (list_nums u.lists) (apply-nums c s u f)

  pub lists-by-takings : (cs : List (Change D)) (s : State D) → apply_all cs empty ≡ some s → list_nums s.lists ≡ in_force cs
  unfolding undeleted list_nums
  lists-by-takings cs s e = lists-in-force cs empty s e

  -- The history goes on: what it deletes then goes, and what it takes then stands behind. So a list deleted and taken again stands last.
  undeleted-both : (cs ds : List (Change D)) (ls : List ℕ) → undeleted (cs ++ ds) ls ≡ undeleted ds (undeleted cs ls)
  undeleted-both [] ds ls = ap (undeleted ds) (sym (undeleting [] (λ l. refl) ls))
  undeleted-both (c ∷ cs) ds ls =
      sym (undeleted-more c (cs ++ ds) ls) ∙ undeleted-both cs ds (undeleted (c ∷ []) ls) ∙ ap (undeleted ds) (undeleted-more c cs ls)

  pub in-force-append : (cs ds : List (Change D)) → in_force (cs ++ ds) ≡ undeleted ds (in_force cs) ++ in_force ds
  unfolding in_force undeleted
  in-force-append [] ds = refl
  in-force-append (c ∷ cs) ds =
      ap (λ (x : List ℕ). undeleted (cs ++ ds) (taking c) ++ x) (in-force-append cs ds)
      ∙ ap (λ (x : List ℕ). x ++ (undeleted ds (in_force cs) ++ in_force ds)) (undeleted-both cs ds (taking c))
      ∙ sym (append_assoc (undeleted ds (undeleted cs (taking c))) (undeleted ds (in_force cs)) (in_force ds))
      ∙ ap (λ (x : List ℕ). x ++ in_force ds) (sym (undeleted-append ds (undeleted cs (taking c)) (in_force cs)))

  pub taken-again : (cs : List (Change D)) (l : ℕ) → in_force (cs ++ del_list l ∷ take_list l ∷ []) ≡ undeleted {D = D} (del_list l ∷ []) (in_force cs) ++ l ∷ []
  unfolding in_force undeleted
  taken-again cs l =
      in-force-append cs (del_list l ∷ take_list l ∷ [])
      ∙ ap (λ (x : List ℕ). x ++ l ∷ [])
      (sym (undeleted-more (del_list l) (take_list l ∷ []) (in_force cs)) ∙ undeleting (take_list l ∷ []) (λ n. refl) (undeleted {D = D} (del_list l ∷ []) (in_force cs)))

  -- A journal replayed: a deletion that does not apply is one of a list that is gone, and every taking applies.
  off-kept : (l : ℕ) (rs : List (Row D)) → taken l rs ≡ false → undeleted {D = D} (del_list l ∷ []) (list_nums rs) ≡ list_nums rs
  unfolding taken undeleted list_nums
  off-kept l [] h = refl
  off-kept l (r ∷ rs) h = let (a, b) = or-both (is_row l r) (any (is_row l) rs) h in rw a (ap (λ (x : List ℕ). r.num ∷ x) (off-kept l rs b))

  skipped-nums : (c : Change D) (rs : List (Row D)) → applies c rs ≡ false → undeleted (c ∷ []) (list_nums rs) ≡ list_nums rs
  unfolding applies
  skipped-nums (take_list l) rs h = undeleting (take_list l ∷ []) (λ n. refl) (list_nums rs)
  skipped-nums (put_first b l) rs h = undeleting (put_first b l ∷ []) (λ n. refl) (list_nums rs)
  skipped-nums (put_after b l p) rs h = undeleting (put_after b l p ∷ []) (λ n. refl) (list_nums rs)
  skipped-nums (write b d) rs h = undeleting (write b d ∷ []) (λ n. refl) (list_nums rs)
  skipped-nums (del_block b) rs h = undeleting (del_block b ∷ []) (λ n. refl) (list_nums rs)
  skipped-nums (del_list l) rs h = off-kept l rs h

  none-applies : (c : Change D) (s : State D) → apply c s ≡ none → applies c s.lists ≡ false
  unfolding apply
  none-applies c s h = go (applies c s.lists) refl
    where
      go : (t : Bool) → applies c s.lists ≡ t → applies c s.lists ≡ false
      go true e = let z : some (state (changed c s.lists) (free_after c s.lists s.free)) ≡ none = rw e at h in absurd (none-ne-some _ (sym z))
      go false e = e

  -- no list is taken twice by these changes
  abbrev pub TakenOnce : List (Change D) → Type 0
  TakenOnce [] = Unit {0}
  TakenOnce (c ∷ cs) = ((l : ℕ) → takes c l ≡ true → any (λ x. takes x l) cs ≡ false) × TakenOnce cs

  -- one more, of a list that none of them takes
  pub once_more : (cs : List (Change D)) (c : Change D) → ((l : ℕ) → takes c l ≡ true → any (λ x. takes x l) cs ≡ false) → TakenOnce cs → TakenOnce (cs ++ c ∷ [])
  once_more [] c f o = (λ l h. refl, tt)
  once_more (x ∷ xs) c f o =
      (λ l h. any-more l (o.0 l h) (last l h (takes c l) refl), once_more xs c (λ l h. (or-both (takes x l) _ (f l h)).1) o.1)
    where
      last : (l : ℕ) → takes x l ≡ true → (t : Bool) → takes c l ≡ t → takes c l ≡ false
      last l h true e = absurd (false≢true (sym (or-both (takes x l) _ (f l e)).0 ∙ h))
      last l h false e = e

      any-more : (l : ℕ) → any (λ y. takes y l) xs ≡ false → takes c l ≡ false → any (λ y. takes y l) (xs ++ c ∷ []) ≡ false
      any-more l h e = more xs h
        where
          more : (ys : List (Change D)) → any (λ y. takes y l) ys ≡ false → any (λ y. takes y l) (ys ++ c ∷ []) ≡ false
          more [] h = rw e
          more (y ∷ ys) h = let (a, b) = or-both (takes y l) (any (λ z. takes z l) ys) h in rw a (more ys b)

  -- none of the lists that they take is taken
  abbrev pub TakesNew : List (Change D) → List (Row D) → Type 0
  TakesNew cs rs = (l : ℕ) → any (λ c. takes c l) cs ≡ true → taken l rs ≡ false

  skipped-takes : (c : Change D) (rs : List (Row D)) → ((l : ℕ) → takes c l ≡ true → taken l rs ≡ false) → applies c rs ≡ false → taking c ≡ []
  unfolding applies
  skipped-takes (take_list l) rs f h = absurd (false≢true (sym h ∙ ap not (f l (eqb_same l))))
  skipped-takes (put_first b l) rs f h = refl
  skipped-takes (put_after b l p) rs f h = refl
  skipped-takes (write b d) rs f h = refl
  skipped-takes (del_block b) rs f h = refl
  skipped-takes (del_list l) rs f h = refl

  -- one change of a journal, applied or skipped
  overlaid-step : (c : Change D) (s : State D) → ((l : ℕ) → takes c l ≡ true → taken l s.lists ≡ false)
      → list_nums (or_else s (apply c s)).lists ≡ undeleted (c ∷ []) (list_nums s.lists) ++ taking c
  unfolding or_else
  overlaid-step c s f = go (apply c s) refl
    where
      go : (o : Option (State D)) → apply c s ≡ o → list_nums (or_else s o).lists ≡ undeleted (c ∷ []) (list_nums s.lists) ++ taking c
      go none e =
          let a = none-applies c s e in
          sym (skipped-nums c s.lists a) ∙ sym (append-nil _) ∙ ap (λ (x : List ℕ). undeleted (c ∷ []) (list_nums s.lists) ++ x) (sym (skipped-takes c s.lists f a))
      go (some t) e = apply-nums c s t e

  -- what it does not take is not taken then either
  overlaid-taken : (c : Change D) (s : State D) (l : ℕ) → takes c l ≡ false → taken l s.lists ≡ false → taken l (or_else s (apply c s)).lists ≡ false
  unfolding or_else
  overlaid-taken c s l p h = go (apply c s) refl
    where
      go : (o : Option (State D)) → apply c s ≡ o → taken l (or_else s o).lists ≡ false
      go none e = h
      go (some t) e = let (a, f) = apply_some c s t e in rw f (taken-changed c s.lists l p h)

  pub lists-overlaid : (cs : List (Change D)) (s : State D) → TakenOnce cs → TakesNew cs s.lists
      → list_nums (overlay cs s).lists ≡ undeleted cs (list_nums s.lists) ++ in_force cs
  unfolding overlay
  lists-overlaid [] s o f = none_yet s
  lists-overlaid (c ∷ cs) s o f =
      let t = or_else s (apply c s) in
      lists-overlaid cs t o.1 later ∙ in-force-step c cs (list_nums s.lists) (list_nums t.lists) (overlaid-step c s (λ l h. f l (rw h)))
    where
      later : TakesNew cs (or_else s (apply c s)).lists
      later l h = go (takes c l) refl
        where
          go : (t : Bool) → takes c l ≡ t → taken l (or_else s (apply c s)).lists ≡ false
          go true e = absurd (false≢true (sym (o.0 l e) ∙ h))
          go false e = overlaid-taken c s l e (f l (rw h (or-true (takes c l))))
