-- The printed page of a state: lines of 40 characters for the ticket printer.
use Rattle.std.specs.Prelude.{cond, List, [], ◌∷◌, ◌++◌, map, ℕ, suc, ◌+◌, ◌-◌, ◌*◌, ◌/◌, eqb, length}
use Rattle.std.proofs.Math.Seq.{slice}
use Rattle.lists.specs.Basic.{from, joined}
use Rattle.lists.specs.State.{Row, taken}
use Rattle.lists.specs.Lookup.{blocks_of}
use Rattle.card_log.specs.Card.{Written, Outcome, sound, fault, card_length, mounted}
use Rattle.text.specs.Columns.{blanks, right_aligned}
use Rattle.listing.specs.Listing.{refusal_line}

-- "Its blocks follow in order, right-aligned in 3 columns"
unfoldable pub cells : List ℕ → List ℕ
cells bs = joined (map (right_aligned 3) bs)

-- "eleven to a line": the blocks on line k of a list, lines counted from 0
unfoldable pub on_line : ℕ → List ℕ → List ℕ
on_line k bs = slice (11 * k) (11 * k + 11) bs

-- "A list's number is right-aligned in columns 1 to 4 and column 5 is blank." "Further lines of a list leave columns 1 to 4 blank."
unfoldable pub margin : ℕ → ℕ → List ℕ
margin l k = cond (eqb k 0) (right_aligned 4 l) (blanks 4) ++ 32 ∷ []

-- "lines of exactly 40 characters and a line end (byte 10)"; "blanks fill the line"
unfoldable pub filled : List ℕ → List ℕ
filled text = text ++ blanks (40 - length text) ++ 10 ∷ []

-- line k of list l
unfoldable pub page_line : ℕ → List ℕ → ℕ → List ℕ
page_line l bs k = filled (margin l k ++ cells (on_line k bs))

-- the lines of n blocks; "An empty list has one line."
unfoldable pub line_count : ℕ → ℕ
line_count n = suc ((n - 1) / 11)

-- list l's lines, where it is taken
unfoldable pub list_page : {D : Type 0} → List (Row D) → ℕ → List (List ℕ)
list_page rs l = let bs = blocks_of rs l in cond (taken l rs) (from (page_line l bs) 0 (line_count (length bs))) []

-- "Lists ascend."
unfoldable pub page_lines : {D : Type 0} → List (Row D) → List (List ℕ)
page_lines rs = joined (from (list_page rs) 1 16)

unfoldable pub page_text : {D : Type 0} → List (Row D) → List ℕ
page_text rs = joined (page_lines rs)

-- the most bytes of a view's page: 21 lines
abbrev pub page_most : ℕ
page_most = 861

-- The page of a card's persistent state, up to 64 segments; refusals as the lister prints them.
unfoldable pub outcome_page : Outcome Written → List ℕ
outcome_page (sound r) = page_text r.state.lists
outcome_page (fault g i) = refusal_line 2

unfoldable pub card_page : List ℕ → List ℕ
card_page c = cond (card_length c) (outcome_page (mounted c)) (refusal_line 1)
