-- What a loop over bytes answers that are to stand on the card.
use Rattle.std.specs.Prelude.{Bool, List, ℕ, ◌+◌, eqb, get_or}
use Rattle.lists.specs.Basic.{each, from}

-- do the first n of the bytes v stand in c from a on?
unfoldable pub stands_from : List ℕ → ℕ → List ℕ → ℕ → Bool
stands_from c a v n = each (from (λ i. eqb (get_or c (a + i) 0) (get_or v i 0)) 0 n)
