-- Numbers: block b is number b, list l is number 64 + l, so that what is said of blocks and of lists alike is said once.
use Rattle.std.specs.Prelude.{Bool, ◌&&◌, List, [], ◌∷◌, ℕ, ◌+◌, eqb, leb}
use Rattle.lists.specs.Basic.{any, from}
use Rattle.lists.specs.Change.{Change, take_list, put_first, put_after, write, del_block, del_list}

abbrev pub list_number : ℕ → ℕ
list_number l = 64 + l

abbrev pub number_count : ℕ
number_count = 80

-- is it the number of a block or of a list?
abbrev pub is_number : ℕ → Bool
is_number n = leb 1 n && leb n number_count

-- all numbers, ascending
unfoldable pub all_numbers : List ℕ
all_numbers = from (λ n. n) 1 number_count

-- the number that a change brings into use: the block that it puts, the list that it takes
abbrev pub brings : {D : Type 0} → Change D → List ℕ
brings (take_list l) = list_number l ∷ []
brings (put_first b l) = b ∷ []
brings (put_after b l p) = b ∷ []
brings (write b d) = []
brings (del_block b) = []
brings (del_list l) = []

-- does it bring number n into use?
abbrev pub brought : {D : Type 0} → Change D → ℕ → Bool
brought c n = any (λ m. eqb m n) (brings c)
