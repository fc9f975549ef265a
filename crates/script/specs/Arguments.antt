-- The words behind a command's name. A number is missing or bad alike: then the line is no command.
use Rattle.std.specs.Prelude.{Bool, cond, Option, None, Some, List, ℕ, leb, eqb}
use Rattle.std.proofs.Math.Seq.{slice}
use Rattle.std.specs.Option.{option_zip}
use Rattle.text.specs.declared.word.Word.{Word}
use Rattle.text.specs.Decimal.{number_of}
use Rattle.text.specs.Line.{word_from}

-- a word's bytes
abbrev pub text_of : List ℕ → Word → List ℕ
text_of line w = slice w.start w.end line

-- the number that a word says
abbrev pub number_at : List ℕ → Word → Option ℕ
number_at line w = number_of (text_of line w)

-- does no word stand behind the position?
unfoldable pub ended_at : List ℕ → ℕ → Bool
ended_at line from = eqb (word_from line from).start (word_from line from).end

abbrev pub pair : Option ℕ → Option ℕ → Option (ℕ × ℕ)
pair a b = option_zip a b

abbrev pub triple : Option ℕ → Option (ℕ × ℕ) → Option (ℕ × ℕ × ℕ)
triple (Some a) (Some (b, c)) = Some (a, b, c)
triple (Some a) None = None
triple None r = None

-- so many numbers behind the position, and nothing more
unfoldable pub one_from : List ℕ → ℕ → Option ℕ
one_from line from = let w = word_from line from in cond (ended_at line w.end) (number_at line w) None

unfoldable pub two_from : List ℕ → ℕ → Option (ℕ × ℕ)
two_from line from = let w = word_from line from in pair (number_at line w) (one_from line w.end)

unfoldable pub three_from : List ℕ → ℕ → Option (ℕ × ℕ × ℕ)
three_from line from = let w = word_from line from in triple (number_at line w) (two_from line w.end)

abbrev pub at_most : Option ℕ → ℕ → Option ℕ
at_most (Some n) most = cond (leb n most) (Some n) None
at_most None most = None

-- "without W it is window 1"
unfoldable pub window_from : List ℕ → ℕ → Option ℕ
window_from line from = cond (ended_at line from) (Some 1) (one_from line from)

-- with N, up to the most: that many bytes are lent, and without N the whole
unfoldable pub part_from : List ℕ → ℕ → ℕ → ℕ → Option ℕ
part_from line from whole most = cond (ended_at line from) (Some whole) (at_most (one_from line from) most)

-- `V`, `V N`
unfoldable pub lent_from : List ℕ → ℕ → ℕ → ℕ → Option (ℕ × ℕ)
lent_from line from whole most = let v = word_from line from in pair (number_at line v) (part_from line v.end whole most)

-- "N bytes lent (0 to 300, 256: all), with a race": without N all 256 are lent, and without RACE it is 0
unfoldable pub raced_from : List ℕ → ℕ → Option (ℕ × ℕ)
raced_from line from =
    let w = word_from line from in
    cond (ended_at line w.end) (pair (part_from line from 256 300) (Some 0)) (pair (at_most (number_at line w) 300) (one_from line w.end))
