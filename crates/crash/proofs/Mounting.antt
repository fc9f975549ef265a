-- Demand 3's claim about a card from what holds between card and book: the card carries the book's segments, and these show a prefix.
use mathlib.Core.Path.{◌≡◌, refl, ap, ◌∙◌}
use mathlib.Core.Bool.{true}
use mathlib.Core.List.{List, map}
use Prim.Native.Nat.{ℕ, ◌*◌, ◌/◌, ◌%◌, ◌≤◌, ◌<◌}
use native.Mathlib.Omega.{arith}
use lib.ListN.{length, length-map}
use lib.Seq.{take-append_seam}
use Rattle.lists.specs.Basic.{is_some, joined}
use Rattle.lists.specs.State.{State, empty, apply_all}
use Rattle.lists.proofs.Basic.{eq-true, le-true}
use Rattle.card_log.specs.Reader.{Reader, start, replay}
use Rattle.card_log.specs.Card.{Written, card_length, sound, mounted}
use Rattle.card_log.proofs.Segment.{Carries, carries-walk}
use Rattle.disk.specs.Record.{fresh_record, listed_in, with_listed}
use Rattle.disk.specs.Disk.{with_record, reader_of, state_of, persistent, view}
use Rattle.disk.specs.Sound.{lengths_right}
use Rattle.disk.specs.Call.{mount}
use Rattle.disk.specs.Questions.{mountable, questions, ask, first_no, refusal}
use Rattle.disk.specs.Perform.{accepted, perform}
use Rattle.disk.proofs.Fresh.{fresh-view}
use Rattle.crash.specs.Event.{Rest, leaves}
use Rattle.crash.specs.Book.{Book, Act, on_card, entries_of, placed_entries}
use Rattle.crash.specs.Demand3.{Lent, Kept}
use Rattle.crash.proofs.History.{entries-label, replay-acts}
use Rattle.crash.proofs.Book.{entries-joined}
use Rattle.crash.proofs.Told.{Shown}

length-right : (c : List ℕ) (n : ℕ) → length c ≡ 4096 * n → 0 < n → n ≤ 64 → card_length c ≡ true
unfolding card_length
length-right c n l p m =
    rw (eq-true (length c % 4096) 0 (omega arith), le-true 1 (length c / 4096) (omega arith)) (le-true (length c / 4096) 64 (omega arith))

module _ (c : List ℕ) (x : Rest) (z : Reader Written) (w : mounted c ≡ sound z) where
  mount-accepts : card_length c ≡ true → Lent x → refusal mount (leaves c x) ≡ 0
  unfolding refusal questions first_no leaves lengths_right mountable is_some reader_of ask
  mount-accepts l m = rw (l, eq-true (length x.queue_data) 8192 m.0, eq-true (length x.journal_data) 15360 m.1) (rw w)

  mount-shows : refusal mount (leaves c x) ≡ 0 → (v : ℕ) → view (perform mount (leaves c x)).disk v ≡ z.state
  unfolding perform accepted persistent leaves reader_of state_of
  mount-shows q v = rw (q, perform) (fresh-view (with_record (leaves c x) (fresh_record (persistent (leaves c x)).free)) (persistent (leaves c x)).free refl v ∙ ap {B = State Written} (λ o. state_of (reader_of o)) w)

  -- the record's own order of the free numbers is the state's
  mount-lists : refusal mount (leaves c x) ≡ 0 → listed_in (perform mount (leaves c x)).disk.rec ≡ z.state.free
  unfolding perform accepted fresh_record with_listed listed_in persistent leaves reader_of state_of
  mount-lists q = rw (q, perform) (take-append_seam (persistent (leaves c x)).free _ ∙ ap {B = List ℕ} (λ o. (state_of (reader_of o)).free) w)

pub kept : (c : List ℕ) (b : Book) → Carries c (placed_entries b) → length b.segs ≤ 64 → Shown b.segs b.history → Kept c b
unfolding placed_entries on_card
kept c b h m s =
    record {
      state = s.reader.state;
      prefix = ap (λ (l : List Act). apply_all (joined l) empty) s.prefix ∙ replay-acts s.entries start s.reader s.replays;
      mounts = λ x l. accepts x l;
      shows = λ x l v. mount-shows c x s.reader walks (accepts x l) v;
      order = λ x l. mount-lists c x s.reader walks (accepts x l);
    }
  where
    walks : mounted c ≡ sound s.reader
    walks = carries-walk c (map entries_of b.segs) s.reader h
        (ap (replay start) (entries-joined b.segs ∙ ap entries_of s.log ∙ entries-label 0 s.entries) ∙ s.replays)

    accepts : (x : Rest) → Lent x → refusal mount (leaves c x) ≡ 0
    accepts x l = mount-accepts c x s.reader walks
        (length-right c (length (map entries_of b.segs)) h.size h.some-segment (omega (arith, length-map b.segs entries_of))) l
