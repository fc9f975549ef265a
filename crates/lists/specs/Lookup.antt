-- What is looked up in a state: the content of a block, the block after another on its list, the lists in the order of their taking.
use Rattle.std.specs.Prelude.{Bool, true, false, List, [], ◌∷◌, map, ℕ, eqb, get_or}
use Rattle.std.proofs.Math.Option.{Option, none, some}
use Rattle.lists.specs.Basic.{is_some}
use Rattle.lists.specs.State.{Block, Row}
unfoldable pub use Rattle.lists.specs.State.{blocks_of}

-- the content of block b; none where it is on no list, or "was not written since its present put"
unfoldable pub content_in : {D : Type 0} → List (Block D) → ℕ → Option D
content_in [] b = none
content_in (x ∷ xs) b = elim (eqb x.num b) [ true ↦ x.content | false ↦ content_in xs b ]

unfoldable pub content_of : {D : Type 0} → List (Row D) → ℕ → Option D
content_of [] b = none
content_of (r ∷ rs) b = elim (content_in r.blocks b) [ none ↦ content_of rs b | some x ↦ some x ]

-- is it written?
unfoldable pub written : {D : Type 0} → ℕ → List (Row D) → Bool
written b rs = is_some (content_of rs b)

-- the number after p, 0 at the end
unfoldable pub next_in : ℕ → List ℕ → ℕ
next_in p [] = 0
next_in p (x ∷ xs) = elim (eqb x p) [ true ↦ get_or xs 0 0 | false ↦ next_in p xs ]

-- "the block after a given one on a list (0 for the first; 0 is returned at the end [..])"
unfoldable pub next_after : {D : Type 0} → List (Row D) → ℕ → ℕ → ℕ
next_after rs l p = next_in p (0 ∷ blocks_of rs l)

-- the lists taken, in the order of their taking, and the list taken next after list l (0 for the first; 0 at the end)
unfoldable pub list_nums : {D : Type 0} → List (Row D) → List ℕ
list_nums rs = map (λ r. r.num) rs

unfoldable pub taken_after : {D : Type 0} → List (Row D) → ℕ → ℕ
taken_after rs l = next_in l (0 ∷ list_nums rs)
