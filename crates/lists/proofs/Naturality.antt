-- Content is carried along: a map of contents commutes with a change of a state and with a lookup in it, and no test of a state looks
-- at contents.
use mathlib.Core.Path.{◌≡◌, refl, sym, ap}
use mathlib.Core.Logic.{⊎_elim}
use mathlib.Core.Bool.{Bool, true, false, ◌&&◌}
use mathlib.Core.Option
use mathlib.Core.Option.{Option, none, some}
use mathlib.Core.List.{List, [], ◌∷◌, map, map-append}
use Prim.Native.Nat.{ℕ}
use lib.Dec.{eqb}
use Rattle.lists.specs.Basic.{guard, bind, or_else, keep}
use Rattle.lists.specs.Change.{Change, take_list, put_first, put_after, write, del_block, del_list, map_change, carried_by}
use Rattle.lists.specs.State.{Block, Row, State, block, row, state, is_block_num, is_row, on_row, is_row_with, taken, placed, on_list, applies, insert_after, on_blocks, at, put, other_block, other_row, changed, frees, free_after, apply, apply_all, overlay, map_block, map_row, map_state}
use Rattle.lists.specs.Lookup.{content_in, content_of, blocks_of, next_after, list_nums}
use Rattle.lists.proofs.Basic.{either, cond_map, any-map, keep-map}

pub guard-map : {A B : Type 0} (f : A → B) (b : Bool) (o : Option A) → guard b (Option.map f o) ≡ Option.map f (guard b o)
guard-map f true o = refl
guard-map f false o = refl

module _ {D E : Type 0} (h : D → E) where
  on-map : (b : ℕ) (x : Row D) → on_row b (map_row h x) ≡ on_row b x
  on-map b x = any-map (map_block h) (is_block_num b) (is_block_num b) (λ y. refl) x.blocks

  pub taken-map : (l : ℕ) (rs : List (Row D)) → taken l (map (map_row h) rs) ≡ taken l rs
  unfolding taken
  taken-map l rs = any-map (map_row h) (is_row l) (is_row l) (λ r. refl) rs

  pub placed-map : (b : ℕ) (rs : List (Row D)) → placed b (map (map_row h) rs) ≡ placed b rs
  unfolding placed
  placed-map b rs = any-map (map_row h) (on_row b) (on_row b) (on-map b) rs

  pub on_list-map : (l b : ℕ) (rs : List (Row D)) → on_list l b (map (map_row h) rs) ≡ on_list l b rs
  unfolding on_list
  on_list-map l b rs = any-map (map_row h) (is_row_with l b) (is_row_with l b) (λ r. ap (λ (t : Bool). is_row l r && t) (on-map b r)) rs

  insert-map : (p b : ℕ) (xs : List (Block D)) → insert_after p (block b none) (map (map_block h) xs) ≡ map (map_block h) (insert_after p (block b none) xs)
  insert-map p b [] = refl
  insert-map p b (x ∷ xs) =
      rw (insert-map p b xs) (sym (cond_map (map (map_block h)) (eqb x.num p) (x ∷ block b none ∷ xs) (x ∷ insert_after p (block b none) xs)))

  put_map : (b : ℕ) (d : D) (xs : List (Block D)) → map (put b (h d)) (map (map_block h) xs) ≡ map (map_block h) (map (put b d) xs)
  put_map b d [] = refl
  put_map b d (x ∷ xs) =
      rw (put_map b d xs) (ap (λ (y : Block E). y ∷ map (map_block h) (map (put b d) xs)) (sym (cond_map (map_block h) (eqb x.num b) (block b (some d)) x)))

  module _ (f : List (Block D) → List (Block D)) (g : List (Block E) → List (Block E)) (k : (xs : List (Block D)) → g (map (map_block h) xs) ≡ map (map_block h) (f xs)) where
    at_map : (l : ℕ) (rs : List (Row D)) → map (at l g) (map (map_row h) rs) ≡ map (map_row h) (map (at l f) rs)
    at_map l [] = refl
    at_map l (r ∷ rs) =
        rw (at_map l rs, k r.blocks) (ap (λ (y : Row E). y ∷ map (map_row h) (map (at l f) rs)) (sym (cond_map (map_row h) (eqb r.num l) (on_blocks f r) r)))

    rows-map : (rs : List (Row D)) → map (on_blocks g) (map (map_row h) rs) ≡ map (map_row h) (map (on_blocks f) rs)
    rows-map [] = refl
    rows-map (r ∷ rs) = rw (rows-map rs, k r.blocks)

  pub change-comp : {C : Type 0} (f : C → D) (c : Change C) → map_change h (map_change f c) ≡ map_change (λ d. h (f d)) c
  unfolding map_change
  change-comp f (take_list l) = refl
  change-comp f (put_first b l) = refl
  change-comp f (put_after b l p) = refl
  change-comp f (write b d) = refl
  change-comp f (del_block b) = refl
  change-comp f (del_list l) = refl

  pub carried_by-map : (c : Change D) → carried_by (map_change h c) ≡ Option.map h (carried_by c)
  unfolding map_change carried_by
  carried_by-map (take_list l) = refl
  carried_by-map (put_first b l) = refl
  carried_by-map (put_after b l p) = refl
  carried_by-map (write b d) = refl
  carried_by-map (del_block b) = refl
  carried_by-map (del_list l) = refl

  pub changed-map : (c : Change D) (rs : List (Row D)) → changed (map_change h c) (map (map_row h) rs) ≡ map (map_row h) (changed c rs)
  unfolding changed map_change
  changed-map (take_list l) rs = sym (map-append (map_row h) rs (row l [] ∷ []))
  changed-map (put_first b l) rs = at_map (λ bs. block b none ∷ bs) (λ bs. block b none ∷ bs) (λ xs. refl) l rs
  changed-map (put_after b l p) rs = at_map (insert_after p (block b none)) (insert_after p (block b none)) (insert-map p b) l rs
  changed-map (write b d) rs = rows-map (map (put b d)) (map (put b (h d))) (put_map b d) rs
  changed-map (del_block b) rs = rows-map (keep (other_block b)) (keep (other_block b)) (keep-map (map_block h) (other_block b) (other_block b) (λ x. refl)) rs
  changed-map (del_list l) rs = keep-map (map_row h) (other_row l) (other_row l) (λ r. refl) rs

  pub applies-map : (c : Change D) (rs : List (Row D)) → applies (map_change h c) (map (map_row h) rs) ≡ applies c rs
  unfolding applies map_change
  applies-map (take_list l) rs = rw (taken-map l rs)
  applies-map (put_first b l) rs = rw (taken-map l rs, placed-map b rs)
  applies-map (put_after b l p) rs = rw (taken-map l rs, placed-map b rs, on_list-map l p rs)
  applies-map (write b d) rs = placed-map b rs
  applies-map (del_block b) rs = placed-map b rs
  applies-map (del_list l) rs = taken-map l rs

  -- numbers are no contents
  nums-map : (xs : List (Block D)) → map (λ x. x.num) (map (map_block h) xs) ≡ map (λ x. x.num) xs
  nums-map [] = refl
  nums-map (x ∷ xs) = ap {B = List ℕ} (λ ns. x.num ∷ ns) (nums-map xs)

  pub blocks_of-map : (rs : List (Row D)) (l : ℕ) → blocks_of (map (map_row h) rs) l ≡ blocks_of rs l
  unfolding blocks_of
  blocks_of-map [] l = refl
  blocks_of-map (r ∷ rs) l = ⊎_elim
      (λ (e : eqb r.num l ≡ true). rw (e, blocks_of) (nums-map r.blocks))
      (λ (e : eqb r.num l ≡ false). rw (e, blocks_of) (blocks_of-map rs l))
      (either (eqb r.num l))

  pub free_after-map : (c : Change D) (rs : List (Row D)) (fs : List ℕ) → free_after (map_change h c) (map (map_row h) rs) fs ≡ free_after c rs fs
  unfolding free_after frees map_change
  free_after-map (take_list l) rs fs = refl
  free_after-map (put_first b l) rs fs = refl
  free_after-map (put_after b l p) rs fs = refl
  free_after-map (write b d) rs fs = refl
  free_after-map (del_block b) rs fs = refl
  free_after-map (del_list l) rs fs = rw (blocks_of-map rs l)

  pub apply-map : (c : Change D) (s : State D) → apply (map_change h c) (map_state h s) ≡ Option.map (map_state h) (apply c s)
  unfolding apply
  apply-map c s =
      rw (applies-map c s.lists, changed-map c s.lists, free_after-map c s.lists s.free)
      (guard-map (map_state h) (applies c s.lists) (some (state (changed c s.lists) (free_after c s.lists s.free))))

  pub apply_all-map : (cs : List (Change D)) (s : State D) → apply_all (map (map_change h) cs) (map_state h s) ≡ Option.map (map_state h) (apply_all cs s)
  unfolding apply_all
  apply_all-map [] s = refl
  apply_all-map (c ∷ cs) s = rw (apply-map c s) (go (λ t. apply_all-map cs t) (apply c s))
    where
      go : ((t : State D) → apply_all (map (map_change h) cs) (map_state h t) ≡ Option.map (map_state h) (apply_all cs t)) → (o : Option (State D))
          → bind (Option.map (map_state h) o) (λ t. apply_all (map (map_change h) cs) t) ≡ Option.map (map_state h) (bind o (λ t. apply_all cs t))
      go ih none = refl
      go ih (some t) = ih t

  or_else-map : (s : State D) (o : Option (State D)) → or_else (map_state h s) (Option.map (map_state h) o) ≡ map_state h (or_else s o)
  unfolding or_else
  or_else-map s none = refl
  or_else-map s (some t) = refl

  pub overlay-map : (cs : List (Change D)) (s : State D) → overlay (map (map_change h) cs) (map_state h s) ≡ map_state h (overlay cs s)
  unfolding overlay
  overlay-map [] s = refl
  overlay-map (c ∷ cs) s = rw (overlay, apply-map c s, or_else-map s (apply c s)) (overlay-map cs (or_else s (apply c s)))

  -- what is looked up
  pub next_after-map : (rs : List (Row D)) (l p : ℕ) → next_after (map (map_row h) rs) l p ≡ next_after rs l p
  unfolding next_after
  next_after-map rs l p = rw (blocks_of-map rs l)

  pub list_nums-map : (rs : List (Row D)) → list_nums (map (map_row h) rs) ≡ list_nums rs
  unfolding list_nums
  list_nums-map [] = refl
  list_nums-map (r ∷ rs) = ap {B = List ℕ} (λ ns. r.num ∷ ns) (list_nums-map rs)

  content_in-map : (xs : List (Block D)) (b : ℕ) → content_in (map (map_block h) xs) b ≡ Option.map h (content_in xs b)
  unfolding content_in
  content_in-map [] b = refl
  content_in-map (x ∷ xs) b = ⊎_elim
      (λ (e : eqb x.num b ≡ true). rw (e, content_in))
      (λ (e : eqb x.num b ≡ false). rw (e, content_in) (content_in-map xs b))
      (either (eqb x.num b))

  pub content_of-map : (rs : List (Row D)) (b : ℕ) → content_of (map (map_row h) rs) b ≡ Option.map h (content_of rs b)
  unfolding content_of
  content_of-map [] b = refl
  content_of-map (r ∷ rs) b = rw (content_in-map r.blocks b, content_of) (go (content_of-map rs b) (content_in r.blocks b))
    where
      go : content_of (map (map_row h) rs) b ≡ Option.map h (content_of rs b) → (o : Option D)
          → ◌≡◌ {A = Option E} (elim (Option.map h o) [ none ↦ content_of (map (map_row h) rs) b | some x ↦ some x ]) (Option.map h (elim o [ none ↦ content_of rs b | some x ↦ some x ]))
      go ih none = ih
      go ih (some x) = refl
