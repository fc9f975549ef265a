-- Where a block's 256 bytes stand. A location is one number, so that a table holds it: from 1 on the card's slots, 16 numbers for each segment (it is
-- 16 times 256 bytes); then the places of the queue data; then those of the journal data. 0 is none.
--
-- A table's number for a block that was written is its location and 2,048 times its race: no location is above 2,048, so the number less 1 says both.
use Rattle.std.specs.Prelude.{cond, List, ℕ, ◌+◌, ◌-◌, ◌*◌, ◌/◌, ◌%◌, ltb}
use Rattle.card_log.specs.Raced.{Raced, raced}
use Rattle.card_log.specs.Card.{Content, Written, slot}

-- slot k of segment g
abbrev pub card_location : ℕ → ℕ → ℕ
card_location g k = 16 * g + 1 + k

abbrev pub queue_location : ℕ → ℕ
queue_location p = 1025 + p

abbrev pub journal_location : ℕ → ℕ
journal_location j = 1057 + j

-- the number of a write whose bytes stand at location n; of one from slot s of segment g
abbrev pub number_at : {A : Type 0} → ℕ → Raced A → ℕ
number_at n s = n + 2048 * s.race

abbrev pub card_number : ℕ → Raced ℕ → ℕ
card_number g s = number_at (card_location g s.body) s

-- the 256 bytes of location i + 1, of card c, queue data q and journal data j
unfoldable pub bytes_at : List ℕ → List ℕ → List ℕ → ℕ → Content
bytes_at c q j i = cond (ltb i 1024) (slot c i) (cond (ltb i 1056) (slot q (i - 1024)) (slot j (i - 1056)))

-- what a number says was written: its bytes and its race
unfoldable pub content_at : List ℕ → List ℕ → List ℕ → ℕ → Written
content_at c q j n = raced (bytes_at c q j ((n - 1) % 2048)) ((n - 1) / 2048)
