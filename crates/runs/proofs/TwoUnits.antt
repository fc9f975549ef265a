-- Two units that touch no list in common, computed: the premise of `EitherOrder` is one that units which put, write, delete and take lists can meet, and without
-- it the second End may be refused.
use Prim.{Unit, tt}
use mathlib.Core.Path.{◌≡◌, refl}
use mathlib.Core.Bool.{true, false}
use mathlib.Core.Option.{Option, none, some}
use mathlib.Core.List.{List, [], ◌∷◌, map}
use Prim.Native.Nat.{ℕ}
use native.Mathlib.Omega.{arith}
use Rattle.lists.specs.Basic.{from}
use Rattle.lists.specs.State.{Block, Row, block}
use Rattle.lists.specs.Lookup.{list_nums}
use Rattle.lists.specs.Touched.{lists_with, touched_by, touched, apart, row_of}
use Rattle.card_log.specs.Raced.{raced}
use Rattle.card_log.specs.Card.{Written}
use Rattle.disk.specs.Disk.{Disk, journal_of, committed}
use Rattle.disk.specs.Call.{new_list, new_block, write_block, delete_block, format, on_stream, begin, end}
use Rattle.disk.specs.Questions.{queue_room, refusal}
use Rattle.disk.specs.Perform.{perform, perform_all}
use Rattle.disk.specs.TwoUnits.{Independent}
use Rattle.runs.specs.KnownRuns.{blank, seven}
use Rattle.runs.proofs.Computing.{computing}

-- opens what the premise computes with, beside the calls
touching : Unit {0}
unfolding computing blank lists_with touched_by touched apart row_of
touching = tt

-- Lists 1 and 2, with block 1 on the one and blocks 3 and 2 on the other. Unit 1 puts block 4 behind block 1, writes it for race 7, deletes block 1 and takes list
-- 3; unit 2 takes list 4, puts block 5 on it, deletes block 3 and writes block 2.
pub windows : Disk
windows =
    perform_all (
    format ∷ on_stream 0 new_list ∷ on_stream 0 new_list ∷ on_stream 0 (new_block 1 0) ∷ on_stream 0 (new_block 2 0) ∷ on_stream 0 (new_block 2 0)
    ∷ begin 1 1 ∷ begin 2 2
    ∷ on_stream 1 (new_block 1 1) ∷ on_stream 1 (write_block 4 7 seven) ∷ on_stream 1 (delete_block 1) ∷ on_stream 1 new_list
    ∷ on_stream 2 new_list ∷ on_stream 2 (new_block 4 0) ∷ on_stream 2 (delete_block 3) ∷ on_stream 2 (write_block 2 0 seven) ∷ []) blank

pub independent : Independent 1 2 windows
unfolding touching windows
independent = record { other = λ e. omega (arith, e); first = refl; second = refl; room = refl; apart = refl }

-- what the two Ends leave, u's first
pub left : ℕ → ℕ → List (Row Written)
left u v = (committed (perform_all (end u ∷ end v ∷ []) windows)).lists

-- lists 1 to 4 with their blocks, contents and races, and list 5, which nobody took
pub ends : List (Option (List (Block Written)))
ends = some (block 4 (some (raced seven 7)) ∷ []) ∷ some (block 2 (some (raced seven 0)) ∷ []) ∷ some [] ∷ some (block 5 none ∷ []) ∷ none ∷ []

-- The same in either order, and the inventory's order is not.
pub either-lists :
    (map (λ l. row_of l (left 1 2)) (from (λ l. l) 1 5) ≡ ends) × (map (λ l. row_of l (left 2 1)) (from (λ l. l) 1 5) ≡ ends)
    × (list_nums (left 1 2) ≡ 1 ∷ 2 ∷ 3 ∷ 4 ∷ []) × (list_nums (left 2 1) ≡ 1 ∷ 2 ∷ 4 ∷ 3 ∷ [])
unfolding touching windows left ends
either-lists = (refl, refl, refl, refl)

-- Both units on list 1: unit 1 deletes the block that unit 2 writes.
pub sharing : Disk
sharing =
    perform_all (
    format ∷ on_stream 0 new_list ∷ on_stream 0 (new_block 1 0) ∷ begin 1 1 ∷ begin 2 2 ∷ on_stream 1 (delete_block 1) ∷ on_stream 2 (write_block 1 0 seven) ∷ []) blank

-- Each would be accepted if it ended now, but the second is refused 12.
pub premise-needed :
    (refusal (end 1) sharing ≡ 0) × (refusal (end 2) sharing ≡ 0) × (queue_room sharing 4 ≡ true)
    × (apart (touched (journal_of sharing 1) (committed sharing)) (touched (journal_of sharing 2) (committed sharing)) ≡ false)
    × (refusal (end 2) (perform (end 1) sharing).disk ≡ 12)
unfolding touching sharing
premise-needed = (refl, refl, refl, refl, refl)
