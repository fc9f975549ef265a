-- The lines that the commands print. "Every output line ends in byte 10 and has no trailing blank." Those of a page alone keep theirs.
use Rattle.std.specs.Prelude.{cond, List, [], ◌∷◌, ◌++◌, ℕ, eqb}
use Rattle.std.proofs.Math.Seq.{slice}
use Rattle.text.specs.Decimal.{decimal}
use Rattle.text.specs.Hex.{hex_text}
use Rattle.listing.specs.Listing.{numbers}
use Rattle.answers.specs.Answers.{Answer}
use Rattle.script.specs.Spelling.{bytes}

-- a blank and a number
unfoldable pub spaced : ℕ → List ℕ
spaced n = 32 ∷ [] ++ decimal n

-- one, two or three numbers
unfoldable pub number_line : ℕ → List ℕ
number_line a = decimal a ++ 10 ∷ []

unfoldable pub pair_line : ℕ → ℕ → List ℕ
pair_line a b = decimal a ++ spaced b ++ 10 ∷ []

unfoldable pub triple_line : ℕ → ℕ → ℕ → List ℕ
triple_line a b c = decimal a ++ spaced b ++ spaced c ++ 10 ∷ []

-- A call's answer a. `A`: "A is the answer's number, 0 if accepted"
abbrev pub answer_line : Answer → List ℕ
answer_line a = number_line a.code

-- `A L`, `A B`, `A N`
abbrev pub numbered_line : Answer → List ℕ
numbered_line a = pair_line a.code a.value

-- `A SEGMENT ENTRY`
abbrev pub mount_line : Answer → List ℕ
mount_line a = triple_line a.code a.value a.second

-- `A STORES ENDING`: "ENDING is `drained`, `full`, `spent`, or `-` if refused"
unfoldable pub ending_name : ℕ → List ℕ
ending_name e = cond (eqb e 0) (bytes "drained") (cond (eqb e 1) (bytes "full") (bytes "spent"))

unfoldable pub ended_line : ℕ → ℕ → List ℕ → List ℕ
ended_line a stores ending = decimal a ++ spaced stores ++ 32 ∷ [] ++ ending ++ 10 ∷ []

unfoldable pub flush_line : Answer → List ℕ
flush_line a = ended_line a.code a.value (cond (eqb a.code 0) (ending_name a.second) (bytes "-"))

-- `HEX race R`, "only where R is not 0"
unfoldable pub raced_text : List ℕ → ℕ → List ℕ
raced_text content race = hex_text content ++ cond (eqb race 0) [] (bytes " race " ++ decimal race)

-- `A HEX race R`, refused: `A`
unfoldable pub content_line : List ℕ → ℕ → List ℕ
content_line content race = bytes "0 " ++ raced_text content race ++ 10 ∷ []

unfoldable pub read_line : Answer → List ℕ → List ℕ
read_line a content = cond (eqb a.code 0) (content_line content a.value) (answer_line a)

-- `A COUNT L L ..`: "COUNT lists in the order of their taking"
unfoldable pub counted_line : ℕ → List ℕ → List ℕ
counted_line n lists = bytes "0" ++ spaced n ++ numbers lists ++ 10 ∷ []

unfoldable pub inventory_line : Answer → List ℕ → List ℕ
inventory_line a lists = cond (eqb a.code 0) (counted_line a.value (slice 0 a.value lists)) (numbered_line a)

-- `A LEN`, "then the page's lines"; "refused: `A 0` alone"; "the lines keep their blanks at the end"
unfoldable pub length_and_text : ℕ → List ℕ → List ℕ
length_and_text n text = pair_line 0 n ++ text

unfoldable pub page_reply : Answer → List ℕ → List ℕ
page_reply a buffer = cond (eqb a.code 0) (length_and_text a.value (slice 0 a.value buffer)) (numbered_line a)

-- `cut STORES`
unfoldable pub cut_line : ℕ → List ℕ
cut_line n = bytes "cut " ++ decimal n ++ 10 ∷ []

-- `block B: HEX race R`
unfoldable pub block_line : ℕ → List ℕ → ℕ → List ℕ
block_line b content race = bytes "block " ++ decimal b ++ bytes ": " ++ raced_text content race ++ 10 ∷ []

-- "`list` and `show` print `block B: unwritten`"
unfoldable pub unwritten_line : ℕ → List ℕ
unwritten_line b = bytes "block " ++ decimal b ++ bytes ": unwritten" ++ 10 ∷ []
