-- The steps of a list deletion: what k of them leave, how many there are, and that they and the empty list's going are the deletion.
use mathlib.Core.Path.{◌≡◌, refl, sym, ap, ◌∙◌}
use mathlib.Core.Logic.{⊎_elim}
use mathlib.Core.Bool.{Bool, true, false, not, cond}
use mathlib.Core.Option.{some}
use mathlib.Core.List.{List, [], ◌∷◌, ◌++◌, map, append_assoc, append-nil}
use Prim.Native.Nat.{ℕ, zero, suc, ◌≤◌}
use native.Mathlib.Omega.{arith}
use lib.Dec.{eqb}
use lib.ListN.{length, take, drop, length-drop, length-map}
use lib.Seq.{take-length, drop-length, drop-nil}
use Rattle.lists.specs.Basic.{keep}
use Rattle.lists.specs.Change.{del_list}
use Rattle.lists.specs.Numbers.{list_number}
use Rattle.lists.specs.State.{Row, state, empty, is_row, on_blocks, at, taken, other_row, blocks_of, applies, changed, frees, free_after, apply}
use Rattle.lists.specs.Clearing.{first_off, steps_off, steps_free, less_first, is_empty_row, empty_gone, AfterSteps, StepsTaken, StepsFree, StepsDelete}
use Rattle.lists.proofs.Basic.{either, or-both, any-map, map-drop, keep_all}
use Rattle.lists.proofs.Count.{rows_of, none-taken, at-num}
use Rattle.lists.proofs.Nodes.{map_other, keep-other}
use Rattle.lists.proofs.Distinct.{empty-distinct, apply_all-distinct}

take_more : {A : Type 0} (k : ℕ) (l : List A) → take k l ++ take 1 (drop k l) ≡ take (suc k) l
take_more zero l = refl
take_more (suc k) [] = refl
take_more (suc k) (x ∷ l) = ap (λ (r : List _). x ∷ r) (take_more k l)

drop_more : {A : Type 0} (k : ℕ) (l : List A) → drop 1 (drop k l) ≡ drop (suc k) l
drop_more zero l = refl
drop_more (suc k) [] = refl
drop_more (suc k) (x ∷ l) = drop_more k l

module _ {D : Type 0} where
  -- list l's blocks changed, and changed again
  at_same : (l : ℕ) (r : Row D) → at l (drop 0) r ≡ r
  at_same l r = go (is_row l r)
    where
      go : (t : Bool) → cond t (on_blocks (drop 0) r) r ≡ r
      go true = refl
      go false = refl

  at_more : (k l : ℕ) (r : Row D) → at l (drop 1) (at l (drop k) r) ≡ at l (drop (suc k)) r
  at_more k l r = ⊎_elim
      (λ (e : eqb r.num l ≡ true). simp (e, drop_more))
      (λ (e : eqb r.num l ≡ false). simp e)
      (either (eqb r.num l))

  less_none : (l : ℕ) (rs : List (Row D)) → map (at l (drop 0)) rs ≡ rs
  less_none l [] = refl
  less_none l (r ∷ rs) = rw (at_same l r, less_none l rs)

  less-more : (k l : ℕ) (rs : List (Row D)) → map (at l (drop 1)) (map (at l (drop k)) rs) ≡ map (at l (drop (suc k))) rs
  less-more k l [] = refl
  less-more k l (r ∷ rs) = rw (at_more k l r, less-more k l rs)

  pub after-steps : AfterSteps D
  unfolding first_off steps_off less_first
  after-steps zero l rs = sym (less_none l rs)
  after-steps (suc k) l rs = ap (first_off l) (after-steps k l rs) ∙ less-more k l rs

  less-blocks : (k l : ℕ) (rs : List (Row D)) → blocks_of (map (at l (drop k)) rs) l ≡ drop k (blocks_of rs l)
  unfolding blocks_of
  less-blocks k l [] = sym (drop-nil k)
  less-blocks k l (r ∷ rs) = ⊎_elim
      (λ (e : eqb r.num l ≡ true). simp (e, blocks_of) (map-drop (λ x. x.num) k r.blocks))
      (λ (e : eqb r.num l ≡ false). simp (e, blocks_of) (less-blocks k l rs))
      (either (eqb r.num l))

  pub steps-blocks : (k l : ℕ) (rs : List (Row D)) → blocks_of (steps_off k l rs) l ≡ drop k (blocks_of rs l)
  unfolding less_first
  steps-blocks k l rs = rw (after-steps k l rs) (less-blocks k l rs)

  pub steps-taken : StepsTaken D
  steps-taken l rs = (
    steps-blocks (length (blocks_of rs l)) l rs ∙ drop-length (blocks_of rs l),
    λ k h e. omega (arith, sym (length-drop k (blocks_of rs l)) ∙ ap length (sym (steps-blocks k l rs) ∙ e)),
  )

  pub steps-free : StepsFree D
  unfolding steps_free
  steps-free zero l rs fs = sym (append-nil fs)
  steps-free (suc k) l rs fs =
      rw (steps-free k l rs fs, steps-blocks k l rs) (append_assoc fs (take k (blocks_of rs l)) (take 1 (drop k (blocks_of rs l)))
      ∙ ap (λ (x : List ℕ). fs ++ x) (take_more k (blocks_of rs l)))

  -- one step more at the beginning; what steps leave alone
  pub steps_first : (k l : ℕ) (rs : List (Row D)) → steps_off k l (first_off l rs) ≡ steps_off (suc k) l rs
  unfolding steps_off
  steps_first zero l rs = refl
  steps_first (suc k) l rs = ap (first_off l) (steps_first k l rs)

  pub steps-kept : (k l : ℕ) (rs : List (Row D)) → taken l (steps_off k l rs) ≡ taken l rs
  unfolding taken less_first
  steps-kept k l rs = rw (after-steps k l rs) (any-map (at l (drop k)) (is_row l) (is_row l) (λ r. ap (λ (n : ℕ). eqb n l) (at-num l (drop k) r)) rs)

  less-others : (k l : ℕ) (rs : List (Row D)) → keep (other_row l) (map (at l (drop k)) rs) ≡ keep (other_row l) rs
  less-others k l [] = refl
  less-others k l (r ∷ rs) = ⊎_elim
      (λ (e : eqb r.num l ≡ true). simp e (less-others k l rs))
      (λ (e : eqb r.num l ≡ false). simp e (ap (λ (x : List (Row D)). r ∷ x) (less-others k l rs)))
      (either (eqb r.num l))

  pub steps-others : (k l : ℕ) (rs : List (Row D)) → keep (other_row l) (steps_off k l rs) ≡ keep (other_row l) rs
  unfolding less_first
  steps-others k l rs = rw (after-steps k l rs) (less-others k l rs)

  -- no list l
  gone-none : (l : ℕ) (rs : List (Row D)) → taken l rs ≡ false → keep (λ r. not (is_empty_row l r)) rs ≡ rs
  unfolding taken
  gone-none l [] h = refl
  gone-none l (r ∷ rs) h = let (a, b) = or-both (eqb r.num l) (taken l rs) h in rw a (ap (λ (x : List (Row D)). r ∷ x) (gone-none l rs b))

  -- list l once, with its blocks off
  gone-blocks : (n l : ℕ) (rs : List (Row D)) → n ≡ length (blocks_of rs l) → rows_of l rs ≤ 1
      → keep (λ r. not (is_empty_row l r)) (map (at l (drop n)) rs) ≡ keep (other_row l) rs
  unfolding blocks_of
  gone-blocks n l [] h k = refl
  gone-blocks n l (r ∷ rs) h k = ⊎_elim
      (λ (e : eqb r.num l ≡ true).
      let f : taken l rs ≡ false = none-taken l rs (omega (arith, rw e at k)) in
      let g : n ≡ length r.blocks = (rw (e, blocks_of) at h) ∙ length-map r.blocks (λ x. x.num) in
      let d : drop n r.blocks ≡ [] = rw g (drop-length r.blocks) in
      simp (e, d) (rw (map_other l (drop n) rs f, keep-other l rs f) (gone-none l rs f)))
      (λ (e : eqb r.num l ≡ false). simp e (ap (λ (x : List (Row D)). r ∷ x) (gone-blocks n l rs (rw (e, blocks_of) at h) (omega (arith, rw e at k)))))
      (either (eqb r.num l))

  -- all of its blocks
  pub steps-freed : (l : ℕ) (rs : List (Row D)) (fs : List ℕ) → steps_free (length (blocks_of rs l)) l rs fs ≡ fs ++ blocks_of rs l
  steps-freed l rs fs = steps-free (length (blocks_of rs l)) l rs fs ∙ ap (λ (x : List ℕ). fs ++ x) (take-length (blocks_of rs l))

  pub free-deleted : (l : ℕ) (rs : List (Row D)) (fs : List ℕ) → free_after {D = D} (del_list l) rs fs ≡ steps_free (length (blocks_of rs l)) l rs fs ++ list_number l ∷ []
  unfolding free_after frees
  free-deleted l rs fs = rw (steps-freed l rs fs, keep_all (λ (n : ℕ). true) (λ n. refl) fs) (sym (append_assoc fs (blocks_of rs l) (list_number l ∷ [])))

  pub steps-delete : StepsDelete D
  unfolding apply applies changed less_first empty_gone
  steps-delete cs s e l h =
      let d = apply_all-distinct cs empty s e empty-distinct in
      let q = gone-blocks (length (blocks_of s.lists l)) l s.lists refl (d.lists l) in
      rw h (rw (after-steps (length (blocks_of s.lists l)) l s.lists, free-deleted l s.lists s.free)
      (ap (λ (x : List (Row D)). some (state x (steps_free (length (blocks_of s.lists l)) l s.lists s.free ++ list_number l ∷ []))) (sym q)))
