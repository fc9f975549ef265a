-- How a list deletion goes: its list's blocks leave it from the first on, a step for each, and then the empty list goes.
use Rattle.std.specs.Prelude.{◌≡◌, ◌≢◌, Bool, true, false, ◌&&◌, not, List, [], ◌∷◌, ◌++◌, map, ℕ, zero, suc, ◌<◌, length, take, drop}
use Rattle.std.proofs.Math.Option.{some}
use Rattle.lists.specs.Basic.{keep}
use Rattle.lists.specs.Change.{Change, del_list}
use Rattle.lists.specs.Numbers.{list_number}
use Rattle.lists.specs.State.{Block, Row, State, state, empty, is_row, at, taken, blocks_of, apply, apply_all}

-- "Take blocks off from the first one, a step for each": list l without its first block. Nothing happens where it has none or is not taken.
unfoldable pub first_off : {D : Type 0} → ℕ → List (Row D) → List (Row D)
first_off l rs = map (at l (drop 1)) rs

-- the lists after k steps
unfoldable pub steps_off : {D : Type 0} → ℕ → ℕ → List (Row D) → List (Row D)
steps_off zero l rs = rs
steps_off (suc k) l rs = first_off l (steps_off k l rs)

-- the free numbers after k steps: each step's block stands last then, so that "blocks freed by one list deletion count in list order"
unfoldable pub steps_free : {D : Type 0} → ℕ → ℕ → List (Row D) → List ℕ → List ℕ
steps_free zero l rs fs = fs
steps_free (suc k) l rs fs = steps_free k l rs fs ++ take 1 (blocks_of (steps_off k l rs) l)

-- "the old one less the list's first k blocks, all else the same": every other list, the order of the lists, the blocks that are left and every content
unfoldable pub less_first : {D : Type 0} → ℕ → ℕ → List (Row D) → List (Row D)
less_first k l rs = map (at l (drop k)) rs

-- "then the empty list goes": list l, if it has no block
abbrev pub is_empty : {D : Type 0} → List (Block D) → Bool
is_empty [] = true
is_empty (x ∷ xs) = false

abbrev pub is_empty_row : {D : Type 0} → ℕ → Row D → Bool
is_empty_row l r = is_row l r && is_empty r.blocks

unfoldable pub empty_gone : {D : Type 0} → ℕ → List (Row D) → List (Row D)
empty_gone l rs = keep (λ r. not (is_empty_row l r)) rs

-- "after k steps of an acting list deletion the state is the old one less the list's first k blocks, all else the same"; where k is
-- more than its blocks, it has none left
abbrev pub AfterSteps : Type 0 → Type 0
AfterSteps D = (k l : ℕ) (rs : List (Row D)) → steps_off k l rs ≡ less_first k l rs

-- "and that it takes as many steps as the list has blocks": after so many steps the list is empty, and after fewer it is not
abbrev pub StepsTaken : Type 0 → Type 0
StepsTaken D =
    (l : ℕ) (rs : List (Row D)) → let n = length (blocks_of rs l) in
    (blocks_of (steps_off n l rs) l ≡ []) × ((k : ℕ) → k < n → blocks_of (steps_off k l rs) l ≢ [])

-- the k blocks off are the last free numbers, in list order
abbrev pub StepsFree : Type 0 → Type 0
StepsFree D = (k l : ℕ) (rs : List (Row D)) (fs : List ℕ) → steps_free k l rs fs ≡ fs ++ take k (blocks_of rs l)

-- "then the empty list goes. Every state [..] comes out as before": in each state that changes lead to, the steps and the empty list's going are the deletion
abbrev pub StepsDelete : Type 0 → Type 0
StepsDelete D =
    (cs : List (Change D)) (s : State D) → apply_all cs empty ≡ some s → (l : ℕ) → taken l s.lists ≡ true → let n = length (blocks_of s.lists l) in
    apply (del_list l) s ≡ some (state (empty_gone l (steps_off n l s.lists)) (steps_free n l s.lists s.free ++ list_number l ∷ []))
