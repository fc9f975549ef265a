-- What each call answers, and all that it leaves: of the record, of the card, of both data buffers and of the lent destination.
use Rattle.std.specs.Prelude.{true, false, ◌&&◌, not, List, [], ◌∷◌, ◌++◌, map, ℕ, zero, suc, ◌+◌, ◌-◌, ◌*◌, ◌%◌, eqb, length, drop, take}
use Rattle.std.proofs.Math.Option.{Option, none, some}
use Rattle.lists.specs.Basic.{or_else, keep, times}
use Rattle.lists.specs.Change.{Change, take_list, put_first, put_after, write, del_block, del_list, carried_by}
use Rattle.lists.specs.State.{Row, State, frees, overlay}
use Rattle.lists.specs.InUse.{list_number, in_use}
use Rattle.lists.specs.Numbers.{all_numbers}
use Rattle.lists.specs.Lookup.{content_of, next_after, list_nums}
use Rattle.card_log.specs.Raced.{raced}
use Rattle.card_log.specs.Entry.{Entry, plain, member, commit, carried}
use Rattle.card_log.specs.Cell.{cell_of}
use Rattle.card_log.specs.Card.{Written, slot_bytes, segments_in, Outcome, sound, fault, mounted, splice}
use Rattle.card_log.specs.Store.{do_stores, format_stores, tail}
use Rattle.card_log.specs.Flush.{Flow, Flushed, flush_from}
use Rattle.answers.specs.Answers.{Answer, ending_number}
use Rattle.listing.specs.Page.{page_text}
use Rattle.disk.specs.Record.{Record, ring_place, holder_of, listed_in, with_listed, with_flow, appended, journal_grown, unit_turned, holding, releasing, conflict_counted, count_of, fresh_record, queue_places}
use Rattle.disk.specs.Disk.{Disk, with_record, unit_of, journal_place, journal_of, queued, persistent, committed, view, listing}
use Rattle.disk.specs.Call.{Edit, new_list, new_block, write_block, delete_block, delete_list, Look, read_block, block_after, inventory, page, Call, format, mount, conflict_count, on_stream, in_view, begin, end, flush, ends, destination}
use Rattle.disk.specs.Questions.{free_block, free_list, refusal}

pub record Result : Type 0 where
  pub disk : Disk
  pub answer : Answer
  pub lent : List ℕ

-- "Only the 256 bytes of a write being added change there; other entries change none."
unfoldable pub splice_some : List ℕ → ℕ → Option Written → List ℕ
splice_some d i none = d
splice_some d i (some v) = splice d i v.body

-- the entry joins the queue, its data at its place
unfoldable pub enqueue : Entry Written → Disk → Disk
enqueue e d =
    let r = d.rec in
    let p = ring_place r r.ring.len in
    record {
      card = d.card;
      queue_data = splice_some d.queue_data (slot_bytes * p) (carried e);
      journal_data = d.journal_data;
      rec = appended (cell_of e) r;
    }

unfoldable pub enqueue_all : List (Entry Written) → Disk → Disk
enqueue_all [] d = d
enqueue_all (e ∷ es) d = enqueue_all es (enqueue e d)

-- the change joins unit u's journal, its data at its place
unfoldable pub journal_add : ℕ → Change Written → Disk → Disk
journal_add u c d =
    let x = unit_of d u in
    record {
      card = d.card;
      queue_data = d.queue_data;
      journal_data = splice_some d.journal_data (slot_bytes * journal_place u x.len) (carried_by c);
      rec = journal_grown u (cell_of (plain c)) d.rec;
    }

-- "Changes come on stream 0 (simple; queued) or 1 to 4 (journalled, no log entry)."
unfoldable pub change : ℕ → Change Written → Disk → Disk
change s c d = elim s [ zero ↦ enqueue (plain c) d | suc u ↦ journal_add (suc u) c d ]

-- "A block made in a unit is held by it until it ends."; of a list that NewList gives inside a unit "the number is held by the unit"
unfoldable pub hold : ℕ → ℕ → Disk → Disk
hold s n d = elim s [ zero ↦ d | suc u ↦ with_record d (holding n (suc u) d.rec) ]

-- the free numbers in another order
unfoldable pub relisted : List ℕ → Disk → Disk
relisted fs d = with_record d (with_listed fs d.rec)

-- a number given leaves it, on whatever stream
unfoldable pub given : ℕ → Disk → Disk
given n d = relisted (keep (λ m. not (eqb m n)) (listed_in d.rec)) d

-- numbers freed on stream 0 join it at its end; what a unit frees it frees when it ends
unfoldable pub freed : ℕ → List ℕ → Disk → Disk
freed s ns d = elim s [ zero ↦ relisted (listed_in d.rec ++ ns) d | suc u ↦ d ]

-- what the record notes of a change, made in these lists
unfoldable pub noted : ℕ → Change Written → List (Row Written) → Disk → Disk
noted s (take_list l) rs d = given (list_number l) (hold s (list_number l) d)
noted s (put_first b l) rs d = given b (hold s b d)
noted s (put_after b l p) rs d = given b (hold s b d)
noted s (write b x) rs d = d
noted s (del_block b) rs d = freed s (frees (del_block b) rs) d
noted s (del_list l) rs d = freed s (frees (del_list l) rs) d

-- a change that comes on a stream; "NewList inside a unit is journalled like everything else"
unfoldable pub made : ℕ → Change Written → Disk → Disk
made s c d = noted s c (committed d).lists (change s c d)

-- put first where the predecessor is 0
unfoldable pub put_at : ℕ → ℕ → ℕ → Change Written
put_at b l p = elim p [ zero ↦ put_first b l | suc q ↦ put_after b l (suc q) ]

-- "NewBlock and NewList now give the number that has been free longest": the number given, 0 where none is
unfoldable pub number_given : Edit → Disk → ℕ
number_given new_list d = or_else 0 (free_list d)
number_given (new_block l p) d = or_else 0 (free_block d)
number_given (write_block b n x) d = 0
number_given (delete_block b) d = 0
number_given (delete_list l) d = 0

-- the change that an edit makes, n being the number given
unfoldable pub change_for : Edit → ℕ → Change Written
change_for new_list n = take_list n
change_for (new_block l p) n = put_at n l p
change_for (write_block b r x) n = write b (raced x r)
change_for (delete_block b) n = del_block b
change_for (delete_list l) n = del_list l

-- "Read returns the race beside the content": the race, and the bytes that destination x holds then
unfoldable pub read_to : List ℕ → Option Written → ℕ × List ℕ
read_to x none = (0, x)
read_to x (some w) = (w.race, w.body)

-- what a look-up finds in a state: the number returned, and the bytes that the destination holds then
unfoldable pub found : Look → State Written → ℕ × List ℕ
found (read_block b x) s = read_to x (content_of s.lists b)
found (block_after l p) s = (next_after s.lists l p, [])
-- "gives a view's lists by when the taking each has in that view stands in the serial history, earliest first": a state's lists stand in this order
found (inventory x) s = let ls = list_nums s.lists in (length ls, ls ++ drop (length ls) x)
-- "The text goes into a lent buffer, its length is returned, and bytes after it don't change."
found (page x) s = let text = page_text s.lists in (length text, text ++ drop (length text) x)

unfoldable pub opening : ℕ → ℕ → Disk → Disk
opening u w d = with_record d (unit_turned w u d.rec)

-- The numbers that unit u gives up where a state's lists and free numbers are as s has them: "numbers released by a closing unit ascending, after those
-- its commit freed; one that its commit put or took and also freed counts as freed there"
unfoldable pub given_up : {D : Type 0} → ℕ → State D → Record → List ℕ
given_up u s r = keep (λ n. eqb (holder_of r n) u && not (in_use n s.lists) && eqb (times n s.free) 0) all_numbers

-- "the unit closes, its journal goes, its held numbers are released": they join the free numbers of s at their end
unfoldable pub closing : ℕ → State Written → Disk → Disk
closing u s d = relisted (s.free ++ given_up u s d.rec) (with_record d (releasing u (unit_turned 0 u d.rec)))

-- "An End refused 12 raises the count of the window its unit's Begin named and no other"
unfoldable pub conflicted : ℕ → Disk → Disk
conflicted w d = with_record d (conflict_counted w d.rec)

-- "End queues the journal as members, then a commit"
unfoldable pub unit_entries : List (Change Written) → List (Entry Written)
unit_entries cs = map member cs ++ commit (length cs) ∷ []

-- the flow that the disk stands in, and the disk that a flow leaves
unfoldable pub flow_of : Disk → Flow
flow_of d = record { card = d.card; place = tail d.card; queue = queued d; done = d.rec.ring.done }

unfoldable pub flushed : ℕ → Disk → Flushed
flushed a d = flush_from (segments_in d.card) a 0 (flow_of d)

-- "the head place moves on by one as an entry is drained"
unfoldable pub after_flush : Disk → Flow → Disk
after_flush d f =
    let r = d.rec in
    record {
      card = f.card;
      queue_data = d.queue_data;
      journal_data = d.journal_data;
      rec = with_flow r ((r.ring.head + (r.ring.len - length f.queue)) % queue_places) (length f.queue) f.done;
    }

-- the card after the first k stores of a formatting
unfoldable pub formatted : ℕ → List ℕ → List ℕ
formatted k c = do_stores (take k (format_stores (segments_in c))) c

abbrev pub reply : Disk → ℕ → ℕ → List ℕ → Result
reply d n m x = record { disk = d; answer = record { code = 0; value = n; second = m }; lent = x }

-- what an accepted call does and returns
unfoldable pub accepted : Call → Disk → Result
-- "numbers never used come first, ascending"
accepted format d = reply (record { card = formatted (segments_in d.card) d.card; queue_data = d.queue_data; journal_data = d.journal_data; rec = fresh_record all_numbers }) 0 0 []
-- "After mounting, the log's order of freeing counts and holds that no acting entry shows are forgotten"
accepted mount d = reply (with_record d (fresh_record (persistent d).free)) 0 0 []
accepted (conflict_count w) d = reply d (count_of d.rec w) 0 []
accepted (on_stream s e) d = let n = number_given e d in reply (made s (change_for e n) d) n 0 []
accepted (in_view v k) d = let f = found k (view d v) in reply d f.0 0 f.1
accepted (begin u w) d = reply (opening u w d) 0 0 []
-- entry by entry the members act on the record's order too, as they do on a state's
accepted (end u) d = reply (closing u (overlay (journal_of d u) (listing d)) (enqueue_all (unit_entries (journal_of d u)) d)) 0 0 []
accepted (flush a) d = let f = flushed a d in reply (after_flush d f.flow) f.stores (ending_number f.ending) []

-- "Beyond refusal 12's closing, a refusal changes nothing."
unfoldable pub refused : Call → ℕ → Disk → Disk
refused c n d = elim (ends c) [ none ↦ d | some u ↦ elim (eqb n 12) [ true ↦ conflicted (unit_of d u).window (closing u (listing d) d) | false ↦ d ] ]

-- "2, with segment and entry (from 0) of the first fault"; "other returned numbers are 0"
unfoldable pub fault_at : Outcome Written → ℕ → Answer
fault_at (sound r) n = record { code = n; value = 0; second = 0 }
fault_at (fault g i) n = record { code = n; value = g; second = i }

unfoldable pub refusal_answer : ℕ → Disk → Answer
refusal_answer n d = elim (eqb n 2) [ true ↦ fault_at (mounted d.card) n | false ↦ record { code = n; value = 0; second = 0 } ]

-- what a call makes of the disk
unfoldable pub perform : Call → Disk → Result
perform c d =
    let n = refusal c d in
    elim n [
      | zero ↦ accepted c d
      | suc m ↦ record { disk = refused c (suc m) d; answer = refusal_answer (suc m) d; lent = destination c }
    ]

unfoldable pub perform_all : List Call → Disk → Disk
perform_all [] d = d
perform_all (c ∷ cs) d = perform_all cs (perform c d).disk
