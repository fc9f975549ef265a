-- "Runs with known outcome": the ten that document 01 marks P, as one table and one statement. A row that starts from the disk that another
-- row's calls leave says so by that disk's name.
use Rattle.std.specs.Prelude.{◌≡◌, List, [], ◌∷◌, ◌++◌, map, ℕ, length, take, drop, replicate}
use Rattle.lists.specs.Basic.{from, joined}
use Rattle.card_log.specs.Entry.{Entry, encode, raw}
use Rattle.card_log.specs.Card.{Content, Written, count_offset}
use Rattle.card_log.specs.Flush.{Ending, drained, spent}
use Rattle.disk.specs.Record.{blank_record, with_flow}
use Rattle.disk.specs.Disk.{Disk, queued}
use Rattle.disk.specs.Call.{new_list, new_block, write_block, delete_block, delete_list, read_block, block_after, inventory, Call, format, mount, conflict_count, on_stream, in_view, begin, end, flush}
use Rattle.disk.specs.Perform.{Result, perform, perform_all}
use Rattle.answers.specs.Answers.{ending_number}

-- A step of a run, with what must come of it: a call, answered by its code, its two results and the lent bytes that it leaves; a look at the
-- card's summary, which begins so; a look at the queue, whose entries have these bytes.
pub data Step : Type 0 where
  call : Call → List ℕ → Step
  summary : List ℕ → Step
  queue : List ℕ → Step

-- the disk that a run starts from, and its steps
pub record Run : Type 0 where
  pub start : Disk
  pub steps : List Step

abbrev pub answer_of : Result → List ℕ
answer_of r = r.answer.code ∷ r.answer.value ∷ r.answer.second ∷ r.lent

abbrev pub bytes_of : Entry Written → List ℕ
bytes_of e = encode (raw 0 e)

-- what comes of steps, one by one
unfoldable pub outcome : Disk → List Step → List (List ℕ)
outcome d [] = []
outcome d (call c x ∷ ss) = let r = perform c d in answer_of r ∷ outcome r.disk ss
outcome d (summary x ∷ ss) = take (length x) (drop count_offset d.card) ∷ outcome d ss
outcome d (queue x ∷ ss) = joined (map bytes_of (queued d)) ∷ outcome d ss

-- what must come of a step
unfoldable pub wanted : Step → List ℕ
wanted (call c x) = x
wanted (summary x) = x
wanted (queue x) = x

-- the call is accepted; it returns n; it is refused with n
abbrev accepts : Call → Step
accepts c = call c (0 ∷ 0 ∷ 0 ∷ [])

abbrev gives : Call → ℕ → Step
gives c n = call c (0 ∷ n ∷ 0 ∷ [])

abbrev refuses : Call → ℕ → Step
refuses c n = call c (n ∷ 0 ∷ 0 ∷ [])

-- a flush with allowance a does n stores and ends so
abbrev flushes : ℕ → ℕ → Ending → Step
flushes a n e = call (flush a) (0 ∷ n ∷ ending_number e ∷ [])

-- the persistent view's block b is read into bytes of 170: answered n with race r, they hold x then
abbrev untouched : Content
untouched = replicate 256 170

abbrev reads_raced : ℕ → ℕ → ℕ → Content → Step
reads_raced b n r x = call (in_view 5 (read_block b untouched)) (n ∷ r ∷ 0 ∷ x)

abbrev reads : ℕ → ℕ → Content → Step
reads b n x = reads_raced b n 0 x

-- the lists of view v, in the inventory's order
abbrev lists : ℕ → List ℕ → Step
lists v ls = call (in_view v (inventory (replicate 16 9))) (0 ∷ length ls ∷ 0 ∷ ls ++ drop (length ls) (replicate 16 9))

abbrev run : Disk → List Step → Run
run d ss = record { start = d; steps = ss }

-- one segment and both data buffers full of 170, and a record that no call would take but a formatting or a mounting
unfoldable pub blank : Disk
blank = record {
  card = replicate 4096 170;
  queue_data = replicate 8192 170;
  journal_data = replicate 15360 170;
  rec = with_flow blank_record 170 170 170;
}

-- a 7 and 255 zeros
abbrev pub seven : Content
seven = 7 ∷ replicate 255 0

-- what the units write: 0, 1, …, 255
abbrev ascending : Content
ascending = from (λ k. k) 0 256

-- "then unit 1: NewBlock after 1 gives 2, Write to 2, End"
abbrev unit : List Step
unit = accepts (begin 1 1) ∷ gives (on_stream 1 (new_block 1 1)) 2 ∷ accepts (on_stream 1 (write_block 2 0 ascending)) ∷ accepts (end 1) ∷ []

unfoldable pub runs : List Run
runs =
    -- the disks that rows start from: with the write queued; with it flushed; with unit 1 open; with unit 1 ended
    let written = perform_all (format ∷ on_stream 0 new_list ∷ on_stream 0 (new_block 1 0) ∷ on_stream 0 (write_block 1 0 seven) ∷ []) blank in
    let stored = (perform (flush 267) written).disk in
    let unit_open = perform_all (begin 1 1 ∷ on_stream 1 (new_block 1 1) ∷ on_stream 1 (write_block 2 0 ascending) ∷ []) stored in
    let unit_ended = (perform (end 1) unit_open).disk in
    -- "From a formatted one-segment card: NewList gives 1; NewBlock first on 1 gives 1; Write to 1 of a 7 and 255 zeros."
    run blank (accepts format ∷ gives (on_stream 0 new_list) 1 ∷ gives (on_stream 0 (new_block 1 0)) 1 ∷ accepts (on_stream 0 (write_block 1 0 seven)) ∷ [])
    -- P "the flush takes 3+4+260 = 267 stores; the summary begins 3, 2 1, 3 1 1, 9 1 0"
    ∷ run written (flushes 65535 267 drained ∷ summary (3 ∷ 2 ∷ 1 ∷ 3 ∷ 1 ∷ 1 ∷ 9 ∷ 1 ∷ 0 ∷ []) ∷ [])
    -- P "Document 01's 266-store case now shows block 1 unwritten."
    ∷ run written (flushes 266 266 spent ∷ accepts mount ∷ reads 1 15 untouched ∷ [])
    -- P "267: holding the 7"
    ∷ run written (flushes 267 267 drained ∷ accepts mount ∷ reads 1 0 seven ∷ [])
    -- P "entries 135 2 1 1, 137 2 1, 16 2"
    ∷ run stored (unit ++ flushes 65535 268 drained ∷ summary (6 ∷ 2 ∷ 1 ∷ 3 ∷ 1 ∷ 1 ∷ 9 ∷ 1 ∷ 0 ∷ 135 ∷ 2 ∷ 1 ∷ 1 ∷ 137 ∷ 2 ∷ 1 ∷ 16 ∷ 2 ∷ []) ∷ [])
    -- P "those take 268 stores: after 267 mounting has block 1 only"
    ∷ run unit_ended (flushes 267 267 spent ∷ accepts mount ∷ reads 1 0 seven ∷ reads 2 8 untouched ∷ [])
    -- P "after 268 both"
    ∷ run unit_ended (flushes 268 268 drained ∷ accepts mount ∷ reads 1 0 seven ∷ reads 2 0 ascending ∷ [])
    -- P "before End, view 0 has no block after 1"
    ∷ run unit_open (gives (in_view 0 (block_after 1 1)) 0 ∷ [])
    -- P "view 1 has 2"
    ∷ run unit_open (gives (in_view 1 (block_after 1 1)) 2 ∷ [])
    -- P "unit 2 writes block 1, stream 0 deletes it, End 2: refused 12"; the unit is then closed, and the conflict counted for its window
    ∷ run stored (
    accepts (begin 2 7) ∷ accepts (on_stream 2 (write_block 1 0 ascending)) ∷ accepts (begin 3 8) ∷ accepts (on_stream 0 (delete_block 1))
    ∷ refuses (end 2) 12 ∷ refuses (end 2) 4 ∷ gives (conflict_count 7) 1 ∷ gives (conflict_count 8) 0 ∷ accepts mount ∷ gives (conflict_count 7) 0 ∷ [])
    -- "A window outside 1 to 16 is refused 5.": before question 6, behind question 4
    ∷ run stored (refuses (conflict_count 17) 5 ∷ refuses (begin 5 0) 4 ∷ accepts (begin 1 16) ∷ refuses (begin 1 0) 5 ∷ refuses (begin 1 1) 6 ∷ [])
    -- P "an empty unit's End queues 16 0"
    ∷ run stored (accepts (begin 1 1) ∷ accepts (end 1) ∷ queue (16 ∷ 0 ∷ []) ∷ [])
    -- P "Bit 6 of the map says that a race byte follows, after the slot": 256 + 4 + 1 = 261 stores; "Read returns the race beside the content"
    ∷ run stored (accepts (on_stream 0 (write_block 1 24 ascending)) ∷ flushes 65535 261 drained ∷ summary (4 ∷ 2 ∷ 1 ∷ 3 ∷ 1 ∷ 1 ∷ 9 ∷ 1 ∷ 0 ∷ 73 ∷ 1 ∷ 1 ∷ 24 ∷ []) ∷ accepts mount ∷ reads_raced 1 0 24 ascending ∷ [])
    -- P "maps 73 and 201 become legal"; "A race above 24 in a call is refused 5."
    ∷ run stored (accepts (begin 1 1) ∷ refuses (on_stream 1 (write_block 1 25 seven)) 5 ∷ accepts (on_stream 1 (write_block 1 24 seven)) ∷ accepts (end 1) ∷ queue (201 ∷ 1 ∷ 0 ∷ 24 ∷ 16 ∷ 1 ∷ []) ∷ [])
    -- "NewList inside a unit is journalled like everything else", its number "held by the unit and so free for no stream", "and only that unit's view has the
    -- list. An accepted End takes it, and E3's order counts from then"
    ∷ run stored (
    accepts (begin 1 1) ∷ gives (on_stream 1 new_list) 2 ∷ gives (on_stream 0 new_list) 3 ∷ gives (on_stream 1 (new_block 2 0)) 2 ∷ refuses (on_stream 0 (new_block 2 0)) 7
    ∷ lists 1 (1 ∷ 3 ∷ 2 ∷ []) ∷ lists 0 (1 ∷ 3 ∷ []) ∷ accepts (end 1) ∷ queue (2 ∷ 3 ∷ 130 ∷ 2 ∷ 131 ∷ 2 ∷ 2 ∷ 16 ∷ 2 ∷ []) ∷ lists 0 (1 ∷ 3 ∷ 2 ∷ []) ∷ [])
    -- "A lost unit leaves it in no view"
    ∷ run stored (
    accepts (begin 1 1) ∷ gives (on_stream 1 new_list) 2 ∷ accepts (on_stream 1 (delete_block 1)) ∷ accepts (on_stream 0 (delete_block 1)) ∷ refuses (end 1) 12
    ∷ lists 0 (1 ∷ []) ∷ queue (33 ∷ 1 ∷ []) ∷ [])
    -- "numbers never used come first, ascending": block 1 and list 1, once deleted, are given after all others, over a mount too
    ∷ run stored (
    accepts (on_stream 0 (delete_list 1)) ∷ gives (on_stream 0 new_list) 2 ∷ gives (on_stream 0 (new_block 2 0)) 2 ∷ flushes 65535 10 drained ∷ accepts mount
    ∷ gives (on_stream 0 new_list) 3 ∷ gives (on_stream 0 (new_block 3 0)) 3 ∷ [])
    ∷ []

-- each step of each run comes out as it must
abbrev pub KnownOutcomes : Type 0
KnownOutcomes = map (λ (r : Run). outcome r.start r.steps) runs ≡ map (λ (r : Run). map wanted r.steps) runs
