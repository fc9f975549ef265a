-- Which lists changes touch, and what two orders of changes leave alike.
use Rattle.std.specs.Prelude.{◌≡◌, Bool, true, false, List, [], ◌∷◌, ◌++◌, map, ℕ, eqb}
use Rattle.std.proofs.Math.Option.{Option, none, some}
use Rattle.lists.specs.Basic.{or_else, all, keep, times}
use Rattle.lists.specs.Change.{Change, take_list, put_first, put_after, write, del_block, del_list}
use Rattle.lists.specs.State.{Block, Row, State, is_row, on_row, apply}

-- the lists that hold block b
unfoldable pub lists_with : {D : Type 0} → ℕ → List (Row D) → List ℕ
lists_with b rs = map (λ r. r.num) (keep (on_row b) rs)

-- "A list is touched if an entry names it or it holds the block an entry names.": rs are the lists that the entry meets
unfoldable pub touched_by : {D : Type 0} → Change D → List (Row D) → List ℕ
touched_by (take_list l) rs = l ∷ []
touched_by (put_first b l) rs = l ∷ lists_with b rs
touched_by (put_after b l p) rs = l ∷ (lists_with b rs ++ lists_with p rs)
touched_by (write b d) rs = lists_with b rs
touched_by (del_block b) rs = lists_with b rs
touched_by (del_list l) rs = l ∷ []

-- "replayed alone on the committed state": entry by entry, each in the state that those before it left
unfoldable pub touched : {D : Type 0} → List (Change D) → State D → List ℕ
touched [] s = []
touched (c ∷ cs) s = touched_by c s.lists ++ touched cs (or_else s (apply c s))

-- "they touch no list in common"
unfoldable pub apart : List ℕ → List ℕ → Bool
apart ls ms = all (λ l. eqb (times l ms) 0) ls

-- list l's blocks in order with their contents; none where it is not taken
unfoldable pub row_of : {D : Type 0} → ℕ → List (Row D) → Option (List (Block D))
row_of l [] = none
row_of l (r ∷ rs) = elim (is_row l r) [ true ↦ some r.blocks | false ↦ row_of l rs ]

-- "the same lists, blocks, contents and races. The order of free numbers and the inventory's order may differ."
abbrev pub Alike : {D : Type 0} → List (Row D) → List (Row D) → Type 0
Alike rs qs = (l : ℕ) → row_of l rs ≡ row_of l qs
