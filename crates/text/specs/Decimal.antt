-- Numbers in decimal digits: the text of a number, and the number that a text says.
use Rattle.std.specs.Prelude.{Bool, true, ◌&&◌, cond, Option, None, Some, List, [], ◌∷◌, ◌++◌, ℕ, zero, suc, ◌+◌, ◌-◌, ◌*◌, ◌/◌, ◌%◌, ◌^◌, leb, ltb}

-- the digits of n, of which there are at most so many
unfoldable pub digits : ℕ → ℕ → List ℕ
digits zero n = []
digits (suc most) n =
    let more = digits most (n / 10) ++ ((48 + n % 10) ∷ []) in
    cond (ltb n 10) ((48 + n) ∷ []) more

-- without zeros in front, and `0` is one digit
unfoldable pub decimal : ℕ → List ℕ
decimal n = digits (suc n) n

unfoldable pub digits_only : List ℕ → Bool
digits_only [] = true
digits_only (b ∷ bs) = leb 48 b && leb b 57 && digits_only bs

-- the value of the digits of n and these
unfoldable pub value : ℕ → List ℕ → ℕ
value n [] = n
value n (b ∷ bs) = value (10 * n + (b - 48)) bs

-- what these bytes say behind the digits of n: a number of 64 bits, or nothing
unfoldable pub number_after : ℕ → List ℕ → Option ℕ
number_after n text = cond (digits_only text && ltb (value n text) (2 ^ 64)) (Some (value n text)) None

unfoldable pub number_of : List ℕ → Option ℕ
number_of [] = None
number_of (b ∷ bs) = number_after 0 (b ∷ bs)
