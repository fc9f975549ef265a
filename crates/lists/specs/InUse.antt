-- Which numbers are in use, and which are free.
use Rattle.std.specs.Prelude.{◌≡◌, Bool, ◌&&◌, not, cond, List, [], ◌∷◌, ℕ, ◌-◌, ◌≤◌, leb}
use Rattle.std.proofs.Math.Option.{some}
use Rattle.lists.specs.Basic.{times}
use Rattle.lists.specs.Change.{Change, take_list, put_first, put_after, write, del_block, del_list}
pub use Rattle.lists.specs.Numbers.{list_number, number_count, is_number, brings, brought}
use Rattle.lists.specs.State.{Row, State, empty, taken, placed, apply_all}

-- is the block on some list, the list taken?
unfoldable pub in_use : {D : Type 0} → ℕ → List (Row D) → Bool
in_use n rs = cond (leb n 64) (placed n rs) (taken (n - 64) rs)

-- is it the number of a block or of a list, and not in use?
unfoldable pub is_free : {D : Type 0} → ℕ → List (Row D) → Bool
is_free n rs = is_number n && not (in_use n rs)

-- a change whose blocks are 1 to 64 and whose lists are 1 to 16
abbrev pub Numbered : {D : Type 0} → Change D → Type 0
Numbered (take_list l) = (1 ≤ l) × (l ≤ 16)
Numbered (put_first b l) = ((1 ≤ b) × (b ≤ 64)) × ((1 ≤ l) × (l ≤ 16))
Numbered (put_after b l p) = ((1 ≤ b) × (b ≤ 64)) × ((1 ≤ l) × (l ≤ 16)) × ((1 ≤ p) × (p ≤ 64))
Numbered (write b d) = (1 ≤ b) × (b ≤ 64)
Numbered (del_block b) = (1 ≤ b) × (b ≤ 64)
Numbered (del_list l) = (1 ≤ l) × (l ≤ 16)

abbrev pub AllNumbered : {D : Type 0} → List (Change D) → Type 0
AllNumbered [] = Unit {0}
AllNumbered (c ∷ cs) = Numbered c × AllNumbered cs

-- The free numbers of every state that such changes lead to are listed, each once, and no other number is.
abbrev pub FreeExact : Type 0 → Type 0
FreeExact D =
    (cs : List (Change D)) (s : State D) → AllNumbered cs → apply_all cs empty ≡ some s → (n : ℕ) → times n s.free ≡ cond (is_free n s.lists) 1 0
