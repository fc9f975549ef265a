-- A write added on a stream: the disk that the definition leaves by the record with the entry more and the content copied.
use mathlib.Core.Path.{◌≡◌, refl}
use mathlib.Core.Bool.{true, false, ◌&&◌}
use mathlib.Core.List.{List, [], ◌∷◌}
use Prim.Native.Nat.{ℕ, zero, suc, ◌≤◌}
use native.Mathlib.Omega.{arith}
use lib.Dec.{eqb, eqb-suc-zero}
use lib.ListN.{length}
use Rattle.lists.specs.Change.{write, map_change, carried_by}
use Rattle.lists.specs.State.{placed}
use Rattle.lists.specs.promises.Tables.{Tables, IsBlock, OfShown}
use Rattle.lists.proofs.Basic.{and-true, leb-true, eqb-true}
use Rattle.card_log.specs.declared.entry.LogEntry.TheVariants.{Write}
use Rattle.card_log.specs.Raced.{raced}
use Rattle.card_log.specs.Card.{Content, slot_bytes}
use Rattle.card_log.specs.Entry.{map_entry, raw, is_block, is_race, carried, as_entry}
use Rattle.card_log.specs.Cell.{cell_of}
use Rattle.disk.specs.Record.{Record}
use Rattle.std.specs.Prelude.{Result, Ok, Err}
use Rattle.answers.specs.declared.Refusal.{Refusal}
use Rattle.disk.specs.Disk.{Disk, disk, with_record, unit_of, view}
use Rattle.disk.specs.Questions.{journal_room, edit_questions, questions, refusal}
use Rattle.disk.specs.Call.{Call, write_block, on_stream, destination}
use Rattle.disk.specs.Perform.{accepted, change, noted, made, number_given, change_for, enqueue, journal_add, splice_some}
use Rattle.answers.specs.Answers.{reply_answer}
use Rattle.disk.proofs.Questions.{yes-all, queue-data, journal-data, journal-room}
use Rattle.disk.proofs.Clauses.{right}
use Rattle.calls.specs.Performs.{Performs}
use Rattle.inspect.specs.promises.Inspect.{Sees}
use Rattle.calls.specs.promises.Adds.{added, AddsAfter, InRange, place_next, HasPlace, Copies}
use Rattle.calls.proofs.Refusing.{inside, seen-ranges, usual-performs-refused, performs-accepted}
use Rattle.calls.proofs.Adding.{Decides, seen-decides}
use Rattle.inspect.proofs.Locating.{placed-here}
use Rattle.disk.specs.Sound.{lengths_right, record_sound}
use Rattle.inspect.proofs.Looking.{Lawful, unit_lawful}

change-written : (s : ℕ) (d : Disk) (b n : ℕ) (x : Content) (q j : List ℕ) → Copies s (place_next s d.rec) x d.queue_data d.journal_data q j
    → change s (write b (raced x n)) d ≡ disk d.card q j (added s (Write b 0 n) d.rec)
unfolding change enqueue journal_add carried carried_by cell_of raw map_entry map_change as_entry added unit_of splice_some
change-written zero d b n x q j k = rw (k.queue, k.journal)
change-written (suc u) d b n x q j k = rw (k.queue, k.journal, eqb-suc-zero u)

-- the numbers that question 5 lets pass
pub write-range : (b n m : ℕ) → is_block b && is_race n && eqb m 256 ≡ true → IsBlock b × (n ≤ 24) × (m ≡ 256)
write-range b n m h =
    let (a, e) = and-true (is_block b && is_race n) (eqb m 256) h in
    let (p, q) = and-true (is_block b) (is_race n) a in
    (inside 64 b p, leb-true n 24 q, eqb-true m 256 e)

-- unit 1 stands for none
unit-some : (d : Disk) (s : ℕ) → lengths_right d ≡ true → record_sound d ≡ true → s ≤ 4 → Lawful d s
unit-some d zero l h n = let w = unit_lawful d 1 l h (omega arith) (omega arith) in record { room = w.room; lawful = w.lawful }
unit-some d (suc s) l h n = unit_lawful d (suc s) l h (omega arith) n

-- what finding the place needs
pub write-ranges : (d : Disk) (s : ℕ) (t : Tables) → Sees false d s t → InRange s d.rec
write-ranges d s t z = ((seen-ranges z).0, (right d z.lengths z.sound).log.room, (seen-ranges z).1, (unit-some d s z.lengths z.sound (seen-ranges z).0).room)

module _ (d : Disk) (s b n : ℕ) (x : Content) (r : Record) (t : Tables) (z : Sees false d s t) where
  abbrev call : Call
  call = on_stream s (write_block b n x)

  -- what the last questions leave, their answer being a
  abbrev Written : Result (Unit {0}) Refusal → Type 0
  Written a = OfShown t (λ rs. AddsAfter ((5, is_block b && is_race n && eqb (length x) slot_bytes) ∷ (8, placed b rs) ∷ []) s (Write b 0 n) d.rec a r)

  decides : (a : Result (Unit {0}) Refusal) → Written a → Decides call d (added s (Write b 0 n) d.rec) a r
  unfolding refusal questions edit_questions
  decides a f =
      seen-decides call d s 8 (is_block b && is_race n && eqb (length x) slot_bytes) (placed b (view d s).lists) (placed b) (λ rs. added s (Write b 0 n) d.rec) t a r refl z (placed-here d t (view d s) z.located b) f

  pub write-refused : (y : Refusal) → Written (Err y) → Performs call d (with_record d r) (reply_answer (Err y)) []
  unfolding reply_answer destination
  write-refused y f = let k = decides (Err y) f in rw k.0 (usual-performs-refused call d y tt k.1)

  pub write-accepted : Written (Ok tt) → (q j : List ℕ) → Copies s (place_next s d.rec) x d.queue_data d.journal_data q j → Performs call d (disk d.card q j r) (reply_answer (Ok tt)) []
  unfolding reply_answer accepted made noted number_given change_for
  write-accepted f q j k = let w = decides (Ok tt) f in rw w.0 (performs-accepted call d _ w.1 (rw (change-written s d b n x q j k)))

  -- what copying needs then
  pub write-fits : Written (Ok tt) → (length d.queue_data ≡ 8192) × (length d.journal_data ≡ 15360) × (length x ≡ 256) × HasPlace s (place_next s d.rec)
  unfolding questions edit_questions unit_of
  write-fits f =
      let yes = yes-all call d (decides (Ok tt) f).1 in (
        queue-data d z.lengths,
        journal-data d z.lengths,
        (write-range b n (length x) (yes 3)).2,
        room s (seen-ranges z).0 (yes 5),
      )
    where
      room : (s : ℕ) → s ≤ 4 → journal_room d s ≡ true → HasPlace s (place_next s d.rec)
      room zero l y = omega arith
      room (suc u) l y = rw (eqb-suc-zero u) (let h = journal-room d u y in omega arith)
