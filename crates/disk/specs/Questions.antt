-- The questions, in order, and the refusal of a call.
use Rattle.std.specs.Prelude.{Bool, true, false, ◌&&◌, ◌||◌, not, List, [], ◌∷◌, ℕ, ◌+◌, ◌-◌, leb, eqb, ltb, length}
use Rattle.std.proofs.Math.Option.{Option, none, some}
use Rattle.lists.specs.Basic.{is_some}
use Rattle.lists.specs.State.{Row, taken, placed, on_list, apply_all}
use Rattle.lists.specs.Lookup.{written}
use Rattle.card_log.specs.Entry.{is_block, is_list, is_race}
use Rattle.card_log.specs.Card.{Written, slot_bytes, mounted}
use Rattle.listing.specs.Page.{page_text}
use Rattle.disk.specs.Record.{is_open, listed_in, queue_places, journal_places, unit_count, window_count}
use Rattle.disk.specs.Disk.{Disk, unit_of, journal_of, reader_of, committed, view}
use Rattle.disk.specs.Sound.{lengths_right, record_sound, is_open_unit}
use Rattle.disk.specs.Call.{Edit, new_list, new_block, write_block, delete_block, delete_list, Look, read_block, block_after, inventory, page, Call, format, mount, conflict_count, on_stream, in_view, begin, end, flush}

-- "2. Mounting: is the log acceptable"
unfoldable pub mountable : Disk → Bool
mountable d = is_some (reader_of (mounted d.card))

-- "4. Is the stream or view open and known?"
unfoldable pub stream_open : Disk → ℕ → Bool
stream_open d s = eqb s 0 || is_open_unit d s

unfoldable pub view_open : Disk → ℕ → Bool
view_open d v = eqb v 5 || stream_open d v

-- "9. Is the predecessor on that list?" (0 allowed)
unfoldable pub predecessor_right : List (Row Written) → ℕ → ℕ → Bool
predecessor_right rs l p = eqb p 0 || on_list l p rs

-- "NewBlock and NewList now give the number that has been free longest": the first that the record lists of its kind. The first of k numbers behind
-- number m, counted from there:
unfoldable pub first_free : ℕ → ℕ → List ℕ → Option ℕ
first_free m k [] = none
first_free m k (n ∷ ns) = elim (ltb m n && leb n (m + k)) [ true ↦ some (n - m) | false ↦ first_free m k ns ]

unfoldable pub free_block : Disk → Option ℕ
free_block d = first_free 0 64 (listed_in d.rec)

unfoldable pub free_list : Disk → Option ℕ
free_list d = first_free 64 16 (listed_in d.rec)

-- "11. Has the journal fewer than 15?" (streams 1 to 4)
unfoldable pub journal_room : Disk → ℕ → Bool
journal_room d s = eqb s 0 || ltb (unit_of d s).len journal_places

-- "12. End: does every entry apply?"
unfoldable pub end_applies : Disk → ℕ → Bool
end_applies d u = is_some (apply_all (journal_of d u) (committed d))

-- "13. Does the queue take what is added": n entries
unfoldable pub queue_room : Disk → ℕ → Bool
queue_room d n = leb (d.rec.ring.len + n) queue_places

-- (stream 0)
unfoldable pub stream_room : Disk → ℕ → Bool
stream_room d s = not (eqb s 0) || queue_room d 1

-- what an edit asks behind question 4; "A change is judged in the view of its stream's number."
unfoldable pub edit_questions : ℕ → Edit → Disk → List (ℕ × Bool)
-- "For this call on streams 1 to 4, 11 can be met and 13 cannot."
edit_questions s new_list d = (10, is_some (free_list d)) ∷ (11, journal_room d s) ∷ (13, stream_room d s) ∷ []
edit_questions s (new_block l p) d =
    (5, is_list l && leb p 64) ∷ (7, taken l (view d s).lists) ∷ (9, predecessor_right (view d s).lists l p)
    ∷ (10, is_some (free_block d)) ∷ (11, journal_room d s) ∷ (13, stream_room d s) ∷ []
edit_questions s (write_block b n x) d =
    -- "A race above 24 in a call is refused 5."
    (5, is_block b && is_race n && eqb (length x) slot_bytes) ∷ (8, placed b (view d s).lists) ∷ (11, journal_room d s) ∷ (13, stream_room d s) ∷ []
edit_questions s (delete_block b) d = (5, is_block b) ∷ (8, placed b (view d s).lists) ∷ (11, journal_room d s) ∷ (13, stream_room d s) ∷ []
edit_questions s (delete_list l) d = (5, is_list l) ∷ (7, taken l (view d s).lists) ∷ (11, journal_room d s) ∷ (13, stream_room d s) ∷ []

-- what a look-up asks there, of the lists of its view
unfoldable pub look_questions : Look → List (Row Written) → List (ℕ × Bool)
-- "Reading a block that, by that view's state, was not written since its present put is now refused [..]. The refusal is 15, after question 9."
look_questions (read_block b x) rs = (5, is_block b && eqb (length x) slot_bytes) ∷ (8, placed b rs) ∷ (15, written b rs) ∷ []
look_questions (block_after l p) rs = (5, is_list l && leb p 64) ∷ (7, taken l rs) ∷ (9, predecessor_right rs l p) ∷ []
look_questions (inventory x) rs = (5, eqb (length x) 16) ∷ []
-- "A buffer shorter than the text is refused 14, after question 9."
look_questions (page x) rs = (14, leb (length (page_text rs)) (length x)) ∷ []

-- "A window outside 1 to 16 is refused 5."
abbrev pub is_window : ℕ → Bool
is_window w = leb 1 w && leb w window_count

-- the questions of a call in order, each with its number; "A call passes over what it doesn't use."
unfoldable pub questions : Call → Disk → List (ℕ × Bool)
questions format d = (1, lengths_right d) ∷ []
questions mount d = (1, lengths_right d) ∷ (2, mountable d) ∷ []
questions (conflict_count w) d = (1, lengths_right d) ∷ (3, record_sound d) ∷ (5, is_window w) ∷ []
questions (on_stream s e) d = (1, lengths_right d) ∷ (3, record_sound d) ∷ (4, stream_open d s) ∷ edit_questions s e d
questions (in_view v k) d = (1, lengths_right d) ∷ (3, record_sound d) ∷ (4, view_open d v) ∷ look_questions k (view d v).lists
questions (begin u w) d = (1, lengths_right d) ∷ (3, record_sound d) ∷ (4, leb 1 u && leb u unit_count) ∷ (5, is_window w) ∷ (6, not (is_open (unit_of d u))) ∷ []
questions (end u) d =
    (1, lengths_right d) ∷ (3, record_sound d)
    ∷ (4, is_open_unit d u) ∷ (12, end_applies d u) ∷ (13, queue_room d ((unit_of d u).len + 1)) ∷ []
questions (flush a) d = (1, lengths_right d) ∷ (3, record_sound d) ∷ (5, leb a 65535) ∷ []

-- the number of a question answered no, or what the later ones give
unfoldable pub ask : Bool → ℕ → ℕ → ℕ
ask true n k = k
ask false n k = n

unfoldable pub first_no : List (ℕ × Bool) → ℕ
first_no [] = 0
first_no (q ∷ qs) = ask q.1 q.0 (first_no qs)

-- "On no, the number is returned"; 0: the call is accepted
unfoldable pub refusal : Call → Disk → ℕ
refusal c d = first_no (questions c d)
