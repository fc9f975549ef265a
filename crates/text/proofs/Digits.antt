-- A number's decimal digits one by one, and numbers read digit by digit.
use mathlib.Core.Path.{◌≡◌, refl}
use mathlib.Core.Bool.{Bool, true, false, ◌&&◌, cond, and-false}
use mathlib.Core.List.{List, [], ◌∷◌, ◌++◌}
use Prim.Native.Nat.{ℕ, zero, suc, ◌+◌, ◌-◌, ◌*◌, ◌/◌, ◌%◌, ◌^◌, ◌≤◌, ◌<◌}
use native.Mathlib.Omega.{arith}
use native.Mathlib.Decide.{dec_lt}
use borrow.Author.Tests.{lt-ltb, le-ltb, ltb-false, le-leb, lt-leb}
use lib.Dec.{leb, ltb}
use Rattle.std.proofs.lemmas.Bool.Decides.{nat_tests}
use Rattle.std.specs.Char.{digit_value}
use Rattle.std.specs.Prelude.{Option, None, Some}
use lib.ListN.{length, drop, get_or}
use Rattle.std.proofs.lemmas.List.{drop_more, drop_all}
use Rattle.text.specs.Decimal.{digits, decimal, digits_only, value, number_after, number_of}

-- The text of a number.
digits-enough : (j k n : ℕ) → n < j → n < k → digits j n ≡ digits k n
unfolding digits
digits-enough zero k n f g = absurd (omega arith)
digits-enough (suc j) zero n f g = absurd (omega arith)
digits-enough (suc j) (suc k) n f g = go (dec_lt n 10) (λ h. digits-enough j k (n / 10) (omega arith) (omega arith))
  where
    go : Dec (n < 10) → (10 ≤ n → digits j (n / 10) ≡ digits k (n / 10)) → digits (suc j) n ≡ digits (suc k) n
    go (yes h) rest = rw (lt-ltb n 10 h)
    go (no h) rest = rw (le-ltb n 10 (omega arith), rest (omega arith))

pub decimal-one : (n : ℕ) → n < 10 → decimal n ≡ (48 + n) ∷ []
unfolding decimal digits
decimal-one n h = rw (lt-ltb n 10 h)

pub decimal-more : (n : ℕ) → 10 ≤ n → decimal n ≡ decimal (n / 10) ++ ((48 + n % 10) ∷ [])
unfolding decimal digits
decimal-more n h = rw (le-ltb n 10 h, digits-enough n (suc (n / 10)) (n / 10) (omega arith) (omega arith))

-- Numbers read.
value-least : (n : ℕ) (text : List ℕ) → n ≤ value n text
unfolding value
value-least n [] = omega arith
value-least n (b ∷ bs) = omega (arith, value-least (10 * n + (b - 48)) bs)

-- what a number's first digit says goes for the digits behind it
abbrev pub read_on : Option ℕ → List ℕ → Option ℕ
read_on (Some m) rest = number_after m rest
read_on None rest = None

pub number-cons : (n b : ℕ) (rest : List ℕ) → number_after n (b ∷ rest) ≡ read_on (number_after n (b ∷ [])) rest
unfolding number_after digits_only value
number-cons n b rest = go (leb 48 b && leb b 57) (ltb (10 * n + (b - 48)) (2 ^ 64)) refl
  where
    go : (d t : Bool) → ltb (10 * n + (b - 48)) (2 ^ 64) ≡ t
        → cond (d && digits_only rest && ltb (value (10 * n + (b - 48)) rest) (2 ^ 64)) (Some (value (10 * n + (b - 48)) rest)) None
        ≡ read_on (cond (d && true && t) (Some (10 * n + (b - 48))) None) rest
    go true true e = refl
    go true false e =
        rw (le-ltb (value (10 * n + (b - 48)) rest) (2 ^ 64) (omega (arith, value-least (10 * n + (b - 48)) rest, ltb-false (10 * n + (b - 48)) (2 ^ 64) e)), and-false (digits_only rest))
    go false t e = refl

pub number-none : (text : List ℕ) → length text ≡ 0 → number_of text ≡ None
unfolding number_of
number-none [] h = refl
number-none (b ∷ bs) h = absurd (omega arith)

pub number-some : (text : List ℕ) → 0 < length text → number_of text ≡ number_after 0 text
unfolding number_of
number-some [] h = absurd (omega arith)
number-some (b ∷ bs) h = refl

pub number-end : (n : ℕ) → n < 2 ^ 64 → number_after n [] ≡ Some n
unfolding number_after digits_only value
number-end n h = rw (lt-ltb n (2 ^ 64) h)

-- one digit of the text read, at which the reading stops or goes on
pub number_stops : (n : ℕ) (text : List ℕ) (i : ℕ) → i < length text → number_after n (get_or text i 0 ∷ []) ≡ None → number_after n (drop i text) ≡ None
number_stops n text i h e = rw (drop_more text i 0 h, number-cons n (get_or text i 0) (drop (i + 1) text), e)

pub number_goes : (n m : ℕ) (text : List ℕ) (i : ℕ) → i < length text → number_after n (get_or text i 0 ∷ []) ≡ Some m
    → number_after n (drop i text) ≡ number_after m (drop (i + 1) text)
number_goes n m text i h e = rw (drop_more text i 0 h, number-cons n (get_or text i 0) (drop (i + 1) text), e)

pub number_done : (n : ℕ) (text : List ℕ) (i : ℕ) → length text ≤ i → n < 2 ^ 64 → number_after n (drop i text) ≡ Some n
number_done n text i h k = rw (drop_all i text h) (number-end n k)

pub ruleset reading = (number-none, number-some, number_stops, number_goes, number_done)

-- one digit more, as the library reads it
digit-large : (b : ℕ) → 58 ≤ b → 10 ≤ digit_value b
digit-large b h = grind (arith, nat_tests)

pub digit_after : (n b : ℕ) → number_after n (b ∷ []) ≡ cond (ltb (digit_value b) 10) (cond (ltb (n * 10 + digit_value b) (2 ^ 64)) (Some (n * 10 + digit_value b)) None) None
unfolding number_after digits_only value
digit_after n b = go (dec_lt b 48) (dec_lt b 58)
  where
    go : Dec (b < 48) → Dec (b < 58)
        → cond (leb 48 b && leb b 57 && true && ltb (10 * n + (b - 48)) (2 ^ 64)) (Some (10 * n + (b - 48))) None
        ≡ cond (ltb (digit_value b) 10) (cond (ltb (n * 10 + digit_value b) (2 ^ 64)) (Some (n * 10 + digit_value b)) None) None
    go (yes h) k = rw (lt-leb 48 b h, lt-ltb b 48 h)
    go (no h) (yes k) =
        let e : 10 * n ≡ n * 10 = omega arith in
        rw (le-leb 48 b (omega arith), le-leb b 57 (omega arith), le-ltb b 48 (omega arith), lt-ltb b 58 k, lt-ltb (b - 48) 10 (omega arith), e)
    go (no h) (no k) =
        rw (le-leb 48 b (omega arith), lt-leb b 57 (omega arith), le-ltb (digit_value b) 10 (digit-large b (omega arith)))

pub ruleset digit = (digit_after, nat_tests)
