-- The text that the lister prints for a card. Its bytes are numbers here; a word stands in the comment over them.
use Rattle.std.specs.Prelude.{Bool, ◌&&◌, cond, List, [], ◌∷◌, ◌++◌, map, ℕ, ◌+◌, ◌/◌, ◌%◌, leb, ltb, eqb, length}
use Rattle.std.proofs.Math.Option.{Option, none, some}
use Rattle.lists.specs.Basic.{from, joined}
use Rattle.lists.specs.State.{Row, taken, placed}
use Rattle.lists.specs.Lookup.{content_of, blocks_of}
use Rattle.card_log.specs.Card.{Written, Outcome, sound, fault, segment_bytes, segments_in, count, mounted}
use Rattle.text.specs.Decimal.{decimal}

-- "reads a card on standard input (up to 16 segments; longer is refused 1)"
unfoldable pub listable : List ℕ → Bool
listable c = eqb (length c % segment_bytes) 0 && leb 1 (length c / segment_bytes) && leb (length c / segment_bytes) 16

-- "A refusal prints one line only: `refused`, a blank and the number." "Lines end in byte 10."
unfoldable pub refusal_line : ℕ → List ℕ
refusal_line n =
    -- `refused `
    114 ∷ 101 ∷ 102 ∷ 117 ∷ 115 ∷ 101 ∷ 100 ∷ 32 ∷ [] ++ decimal n ++ 10 ∷ []

unfoldable pub total : List ℕ → ℕ
total [] = 0
total (x ∷ xs) = x + total xs

-- "segments, those with a count above 0, entries"
unfoldable pub used : List ℕ → ℕ
used c = total (from (λ g. cond (ltb 0 (count c g)) 1 0) 0 (segments_in c))

unfoldable pub entries : List ℕ → ℕ
entries c = total (from (count c) 0 (segments_in c))

unfoldable pub head_line : List ℕ → List ℕ
head_line c =
    -- `segments `
    115 ∷ 101 ∷ 103 ∷ 109 ∷ 101 ∷ 110 ∷ 116 ∷ 115 ∷ 32 ∷ [] ++ decimal (segments_in c)
    -- ` used `
    ++ 32 ∷ 117 ∷ 115 ∷ 101 ∷ 100 ∷ 32 ∷ [] ++ decimal (used c)
    -- ` entries `
    ++ 32 ∷ 101 ∷ 110 ∷ 116 ∷ 114 ∷ 105 ∷ 101 ∷ 115 ∷ 32 ∷ [] ++ decimal (entries c) ++ 10 ∷ []

-- "its blocks in order, a blank before each"
unfoldable pub numbers : List ℕ → List ℕ
numbers bs = joined (map (λ b. 32 ∷ decimal b) bs)

-- list l's line; "an empty list ends at its colon"
unfoldable pub list_line : ℕ → List ℕ → List ℕ
list_line l bs =
    -- `list `
    108 ∷ 105 ∷ 115 ∷ 116 ∷ 32 ∷ [] ++ decimal l ++ 58 ∷ [] ++ numbers bs ++ 10 ∷ []

-- its line where it is taken
unfoldable pub list_part : {D : Type 0} → List (Row D) → ℕ → List ℕ
list_part rs l = cond (taken l rs) (list_line l (blocks_of rs l)) []

-- "each list ascending"
unfoldable pub list_lines : {D : Type 0} → List (Row D) → List ℕ
list_lines rs = joined (from (list_part rs) 1 16)

-- what a block's line says of its content, sum being what that sums up to; "The lister prints `block 4: unwritten` for such a block."
unfoldable pub content_text : {D : Type 0} → (D → ℕ) → Option D → List ℕ
content_text sum none = 117 ∷ 110 ∷ 119 ∷ 114 ∷ 105 ∷ 116 ∷ 116 ∷ 101 ∷ 110 ∷ []
content_text sum (some d) = decimal (sum d)

-- block b's line with that text
unfoldable pub block_line : ℕ → List ℕ → List ℕ
block_line b x =
    -- `block `, `: `
    98 ∷ 108 ∷ 111 ∷ 99 ∷ 107 ∷ 32 ∷ [] ++ decimal b ++ 58 ∷ 32 ∷ [] ++ x ++ 10 ∷ []

-- its line where it is on some list
unfoldable pub block_part : {D : Type 0} → (D → ℕ) → List (Row D) → ℕ → List ℕ
block_part sum rs b = cond (placed b rs) (block_line b (content_text sum (content_of rs b))) []

-- "each block ascending with the sum of its bytes"
unfoldable pub block_lines : {D : Type 0} → (D → ℕ) → List (Row D) → List ℕ
block_lines sum rs = joined (from (block_part sum rs) 1 64)

-- the sum of what was written; its race is not printed
abbrev pub sum_of : Written → ℕ
sum_of d = total d.body

-- of a card of the right length
unfoldable pub outcome_lines : List ℕ → Outcome Written → List ℕ
outcome_lines c (sound r) = head_line c ++ list_lines r.state.lists ++ block_lines sum_of r.state.lists
outcome_lines c (fault g i) = refusal_line 2

unfoldable pub listing : List ℕ → List ℕ
listing c = cond (listable c) (outcome_lines c (mounted c)) (refusal_line 1)
