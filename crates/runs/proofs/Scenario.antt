-- Three lists of events on a card of two segments, computed to their ends: they may happen, and come to what demand 3 and the inventory's order say. So
-- `valid` is no condition that a list with cuts, dead members and refusals cannot meet.
use Prim.{Unit, tt}
use mathlib.Core.Path.{◌≡◌, refl}
use mathlib.Core.Bool.{true}
use mathlib.Core.Option.{none}
use mathlib.Core.List.{List, [], ◌∷◌, ◌++◌}
use Prim.Native.Nat.{ℕ}
use lib.ListN.{replicate}
use Rattle.lists.specs.Basic.{from, joined}
use Rattle.lists.specs.Change.{Change, take_list, put_first}
use Rattle.lists.specs.State.{State, state, row, block}
use Rattle.lists.specs.Takings.{undeleted, in_force}
use Rattle.card_log.specs.Card.{Written}
use Rattle.disk.specs.Record.{blank_record, listed_in, with_flow}
use Rattle.disk.specs.Disk.{Disk, view}
use Rattle.disk.specs.Call.{new_list, new_block, delete_list, inventory, Call, mount, on_stream, in_view, begin, end, flush}
use Rattle.disk.specs.Perform.{perform}
use Rattle.runs.proofs.Computing.{computing}
use Rattle.crash.specs.Event.{Part, Rest, Event, called, cut_flush, cut_format, part_of, put_back, lend, give_back, is_whole, lent_whole, leaves, is_accepted, answered, step, may_happen}
use Rattle.crash.specs.Book.{empty_book, batch_of, with_batch, join_history, join, member_of, join_unit, cost, entries_of, placed_entries, last_in_use, place_of, move_to, book_store, book_flush, keep_first, book_format, is_number, closing_on_card, longest, on_card, settle, book_accepted, book_refused, book_called, book_step}
use Rattle.crash.specs.Demand3.{Scene, scene_step, play, valid, begun}
use Rattle.crash.specs.History.{lists_in}

-- two segments and both data buffers full of 170
pub blank : Disk
blank = record { card = replicate 8192 170; queue_data = replicate 8192 170; journal_data = replicate 15360 170; rec = blank_record }

front : ℕ → Part
front n = record { from = 0; size = n }

-- a call that is lent all, and one that is lent all but the card's last byte
wholly : Call → Event
wholly c = called c (record { card = front 8192; queue_data = front 8192; journal_data = front 15360 })

partly : Call → Event
partly c = called c (record { card = front 8191; queue_data = front 8192; journal_data = front 15360 })

-- what a cut leaves beside the card: other bytes, and a record that is not sound
other : Rest
other = record { queue_data = replicate 8192 9; journal_data = replicate 15360 9; rec = with_flow blank_record 170 170 170 }

pub events : List Event
events =
    wholly (on_stream 0 new_list)
    ∷ wholly (on_stream 0 (new_block 1 0))
    -- a unit, its flush cut: the two plain entries' 7 stores are done, its member's 5, and 1 of its commit's 3
    ∷ wholly (begin 1 1)
    ∷ wholly (on_stream 1 (new_block 1 1))
    ∷ wholly (end 1)
    ∷ cut_flush 100 13 other
    -- a mount that is lent too little is refused; after the next, unit 1's member stands dead before unit 2's
    ∷ partly mount
    ∷ wholly mount
    ∷ wholly (begin 2 1)
    ∷ wholly (on_stream 2 (new_block 1 0))
    ∷ wholly (end 2)
    ∷ wholly (flush 7)
    -- a formatting, cut after segment 1's store and before segment 0's
    ∷ cut_format 1 other
    ∷ wholly mount
    ∷ []

pub last : Scene
last = play (begun blank) events

-- list 1 with blocks 2 and 1, both unwritten; no number was freed
pub mounted_state : State Written
mounted_state = state (row 1 (block 2 none ∷ block 1 none ∷ []) ∷ []) (from (λ n. n) 3 62 ++ from (λ n. n) 66 15)

-- opens what the events and the book compute with
playing : Unit {0}
unfolding computing blank front wholly partly other events part_of put_back lend give_back is_whole lent_whole leaves is_accepted answered step may_happen empty_book batch_of with_batch join_history join member_of join_unit cost entries_of placed_entries last_in_use place_of move_to book_store book_flush keep_first book_format is_number closing_on_card longest on_card settle book_accepted book_refused book_called book_step scene_step play valid begun
playing = tt

pub may-happen : valid (begun blank) events ≡ true
unfolding playing
may-happen = refl

-- what a scene has come to: the history that is on the card, and the committed state
unfoldable pub told : Scene → List (List (Change Written)) × State Written
told s = (on_card s.book, view s.world.disk 0)

-- unit 1 is lost whole, unit 2 is there, and the cut formatting took nothing of segment 0
pub comes-to : told last ≡ ((take_list 1 ∷ []) ∷ (put_first 1 1 ∷ []) ∷ (put_first 2 1 ∷ []) ∷ [], mounted_state)
unfolding playing last mounted_state told
comes-to = refl

-- A number that rests: lists 1 and 2 are taken and 1 deleted; after a mount 3 is given, and unit 1 deletes list 2.
pub resting : List Event
resting =
    wholly (on_stream 0 new_list)
    ∷ wholly (on_stream 0 new_list)
    ∷ wholly (on_stream 0 (delete_list 1))
    ∷ wholly (flush 100)
    ∷ wholly mount
    ∷ wholly (on_stream 0 new_list)
    ∷ wholly (begin 1 1)
    ∷ wholly (on_stream 1 (delete_list 2))
    ∷ []

pub again : Scene
again = play (begun blank) resting

-- the lists of views 0, 5 and 1 by the book, what the inventory of view 0 fills in, and the free numbers
unfoldable pub listed : Scene → List (List ℕ)
listed s =
    lists_in s.book 0 ∷ lists_in s.book 5 ∷ lists_in s.book 1
    ∷ (perform (in_view 0 (inventory (replicate 16 9))) s.world.disk).lent
    ∷ listed_in s.world.disk.rec
    ∷ []

-- 3 stands behind list 2, whose taking is the earlier one; the persistent view has list 2 alone, the unit's list 3 alone; list 1 is the last free one
pub again-listed :
    (valid (begun blank) resting ≡ true)
    × (listed again ≡ (2 ∷ 3 ∷ []) ∷ (2 ∷ []) ∷ (3 ∷ []) ∷ (2 ∷ 3 ∷ replicate 14 9) ∷ (from (λ n. n) 1 64 ++ from (λ n. n) 68 13 ++ 65 ∷ []) ∷ [])
unfolding playing resting again listed lists_in joined in_force undeleted
again-listed = (refl, refl)

-- Lists that go with their units: unit 1 takes list 2 and puts a block on it, and the power fails one store before its commit. After the mount unit 2 takes
-- list 2, stream 0 list 3, and unit 2 ends.
pub taking : List Event
taking =
    wholly (on_stream 0 new_list)
    ∷ wholly (begin 1 1)
    ∷ wholly (on_stream 1 new_list)
    ∷ wholly (on_stream 1 (new_block 2 0))
    ∷ wholly (end 1)
    ∷ cut_flush 100 12 other
    ∷ wholly mount
    ∷ wholly (begin 2 1)
    ∷ wholly (on_stream 2 new_list)
    ∷ wholly (on_stream 0 new_list)
    ∷ wholly (end 2)
    ∷ wholly (flush 100)
    ∷ wholly mount
    ∷ []

pub took : Scene
took = play (begun blank) taking

-- of unit 1 nothing is left; unit 2's list counts from its End
pub took-lists :
    (valid (begun blank) taking ≡ true)
    × (told took ≡ ((take_list 1 ∷ []) ∷ (take_list 3 ∷ []) ∷ (take_list 2 ∷ []) ∷ [], state (row 1 [] ∷ row 3 [] ∷ row 2 [] ∷ []) (from (λ n. n) 1 64 ++ from (λ n. n) 68 13)))
unfolding playing taking took told
took-lists = (refl, refl)
