-- What the answers of the questions, the walk and the clauses behind the log say of the whole.
use mathlib.Core.Path.{◌≡◌, refl, sym, ap, ◌∙◌}
use mathlib.Core.Bool.{Bool, true, false, ◌&&◌}
use mathlib.Core.Option.{Option, some, map}
use mathlib.Core.List.{List, []}
use Prim.Native.Nat.{ℕ, ◌*◌, ◌≤◌, ◌<◌}
use lib.Dec.{eqb}
use lib.ListN.{length}
use Rattle.lists.specs.State.{map_state}
use Rattle.lists.specs.promises.Tables.{Tables}
use Rattle.lists.proofs.Basic.{and-true, each_at, leb-true, ltb-true, eqb-true, some_of}
use Rattle.card_log.specs.Reader.{Reader, replay}
use Rattle.card_log.specs.Card.{Written, card_length, segments_in, Outcome, fault, walk_card}
use Rattle.card_log.specs.Store.{tail}
use Rattle.card_log.specs.promises.Location.{card_number}
use Rattle.card_log.specs.promises.Within.{Within}
use Rattle.card_log.specs.promises.Feed.{Memory}
use Rattle.card_log.specs.promises.Walk.{Sounds}
use Rattle.card_log.specs.declared.place.Place.{Place}
use Rattle.card_log.proofs.Naturality.{map_reader}
use Rattle.card_log.proofs.Locations.{sound-at, fault-at}
use Rattle.disk.specs.Record.{Record, shaped}
use Rattle.disk.specs.Disk.{Disk, disk, reader_of, state_of, persistent, committed, view}
use Rattle.disk.specs.Sound.{lengths_right, record_sound}
use Rattle.inspect.specs.promises.Located.{contents, queue_here}
use Rattle.inspect.specs.promises.Clauses.{numbers_right, units_right, settled_right, Settled, Settles}
use Rattle.inspect.specs.promises.Inspect.{behind_log, checked, LentRight, AsksLent, ExaminesLog, Examines}
use Rattle.std.specs.Prelude.{Result, Ok, Err, MatchResult}
use Rattle.std.specs.Result.{IsErrAnd}
use Rattle.answers.specs.Answers.{number}
use Rattle.answers.specs.declared.Refusal.{Refusal}
use Rattle.answers.specs.declared.Refusal.TheVariants.{WrongLength, RecordUnsound}
use Rattle.disk.specs.Questions.{first_no}
use Rattle.inspect.proofs.Asking.{ask-yes, ask-no, exit_is}
use Rattle.inspect.proofs.Behind.{tail_within}
use Rattle.inspect.proofs.Locating.{committed-here}
use Rattle.inspect.proofs.Ordering.{order-few}
use Rattle.inspect.proofs.Answering.{parts, fault-behind, settled_is}

-- What is asked next may take for granted what was asked before.
pub lengths-asked : (d : Disk) → lengths_right d ≡ true → (card_length d.card ≡ true) × (length d.queue_data ≡ 8192)
unfolding lengths_right
lengths-asked d h =
    let (a, b) = and-true (card_length d.card) (eqb (length d.queue_data) 8192) (and-true (card_length d.card && eqb (length d.queue_data) 8192) (eqb (length d.journal_data) 15360) h).0 in
    (a, eqb-true (length d.queue_data) 8192 b)

pub numbers-asked : (r : Record) → numbers_right r ≡ true → (r.ring.len ≤ 32) × (r.ring.head < 32) × (r.tally.listed ≤ 80)
unfolding numbers_right
numbers-asked r h = (leb-true r.ring.len 32 (each_at _ h 0), ltb-true r.ring.head 32 (each_at _ h 1), order-few r (each_at _ h 2))

-- what the clauses behind the log may, p being the place behind it
pub settle-asked : (c q : List ℕ) (r : Record) (p : Place) (n : ℕ) (m : Memory)
    → (card_length c ≡ true) × (length q ≡ 8192) × (r.ring.len ≤ 32) × (r.ring.head < 32) × (r.tally.listed ≤ 80) → Sounds c p n m
    → (card_length c ≡ true) × (length q ≡ 8192) × (r.ring.len ≤ 32) × (r.ring.head < 32) × (r.tally.listed ≤ 80) × (p ≡ tail c) × Within p × (p.segment < segments_in c) × (n ≤ 64 * 255)
settle-asked c q r p n m a s =
    let k : Within p × (p.segment < segments_in c) = rw s.place (tail_within c _ a.0 (sound-at c [] [] s.reader a.0 s.walked)) in
    (a.0, a.1, a.2, a.3, a.4, s.place, k.0, k.1, s.short)

-- The questions in turn.
module _ (d : Disk) where
  pub lengths-wrong : (r : Result (Unit {0}) Refusal) (x : Refusal) → IsErrAnd r (λ y. y ≡ x) → x ≡ WrongLength → lengths_right d ≡ false → AsksLent d r
  unfolding number
  lengths-wrong r x e i h = rw (exit_is r x e, i) (ask-no 1 (lengths_right d) _ h)

  module _ (sh : shaped d.rec ≡ true) (ls : lengths_right d ≡ true) where
    unsound : record_sound d ≡ false → first_no (checked d) ≡ number RecordUnsound
    unfolding number
    unsound h = ask-yes 1 (lengths_right d) _ ls ∙ ask-no 3 (record_sound d) [] h

    pub numbers-wrong : (r : Result (Unit {0}) Refusal) (x : Refusal) → IsErrAnd r (λ y. y ≡ x) → x ≡ RecordUnsound → numbers_right d.rec ≡ false → AsksLent d r
    numbers-wrong r x e i h = rw (exit_is r x e, i) (unsound (parts d sh ∙ ap (λ (b : Bool). b && (units_right d.rec && behind_log d)) h))

    module _ (ns : numbers_right d.rec ≡ true) where
      rest : record_sound d ≡ units_right d.rec && behind_log d
      rest = parts d sh ∙ ap (λ (b : Bool). b && (units_right d.rec && behind_log d)) ns

      pub units-asked : (b : Bool) (r : Result (Unit {0}) Refusal) → b ≡ units_right d.rec → MatchResult r (λ y. b ≡ true) (λ x. (x ≡ RecordUnsound) × (b ≡ false)) → AsksLent d r
      units-asked b (Ok y) e h = record { lengths = ls; numbers = ns; units = sym e ∙ h }
      units-asked b (Err x) e h = rw h.0 (unsound (rest ∙ ap (λ (b : Bool). b && behind_log d) (sym e ∙ h.1)))

-- what the rest of question 3 may take for granted
pub lent-asked : (d : Disk) → LentRight d → (card_length d.card ≡ true) × (length d.queue_data ≡ 8192) × (d.rec.ring.len ≤ 32) × (d.rec.ring.head < 32) × (d.rec.tally.listed ≤ 80)
lent-asked d w =
    let (a, b) = lengths-asked d w.lengths in
    let (k, h, o) = numbers-asked d.rec w.numbers in
    (a, b, k, h, o)

pub log-examined : (v : ℕ) (d : Disk) (t : Tables) (r : Result Place Refusal) → shaped d.rec ≡ true → LentRight d → ExaminesLog v d r t → Examines v d r t
log-examined v d t r sh w = go r
  where
    last : record_sound d ≡ behind_log d
    last = rest d sh w.lengths w.numbers ∙ ap (λ (b : Bool). b && behind_log d) w.units

    go : (r : Result Place Refusal) → ExaminesLog v d r t → Examines v d r t
    go (Ok p) h = record { lengths = w.lengths; sound = last ∙ h.sound; place = h.place; located = h.located }
    go (Err x) h = rw h.0 (unsound d sh w.lengths (last ∙ h.1))

-- The walk and what is behind the log.
module _ (c q j : List ℕ) (r : Record) (l : card_length c ≡ true) where
  pub faulty : (v g i : ℕ) (t : Tables) → walk_card card_number c ≡ fault g i → ExaminesLog v (disk c q j r) (Err RecordUnsound) t
  faulty v g i t w = (refl, fault-behind (disk c q j r) g i (fault-at c g i l w))

  module _ (p : Place) (n : ℕ) (m : Memory) (s : Sounds c p n m) where
    answered : (b : Bool) → Settled c q m n r b → behind_log (disk c q j r) ≡ b
    answered b k = settled_is (disk c q j r) s.reader l s.walked ∙ sym (k s.reader s.kept)

    pub unsettled : (v : ℕ) (t : Tables) (b : Bool) → Settled c q m n r b → b ≡ false → (y : Result Place Refusal) (x : Refusal) → IsErrAnd y (λ z. z ≡ x) → x ≡ RecordUnsound → ExaminesLog v (disk c q j r) y t
    unsettled v t b k z y x e i = rw (exit_is y x e) (i, answered b k ∙ z)

    -- the tables go on showing the log's state
    pub settled-log : (b : Bool) → Settled c q m n r b → b ≡ true → ExaminesLog 5 (disk c q j r) (Ok p) m.tables
    unfolding view persistent state_of reader_of
    settled-log b k z = record {
      sound = answered b k ∙ z;
      place = s.place;
      located = record { here = s.reader.state; shows = s.kept.shows; means = log-state };
    }
      where
        log-state : view (disk c q j r) 5 ≡ map_state (contents (disk c q j r)) s.reader.state
        log-state = ap (λ (o : Outcome Written). state_of (reader_of o)) (sound-at c q j s.reader l s.walked)

    -- or they show the state behind the queue
    pub settled-queue : (b : Bool) (t : Tables) → Settles c q m n r b t → b ≡ true → ExaminesLog 0 (disk c q j r) (Ok p) t
    unfolding settled_right view committed state_of
    settled-queue b t k z =
        let a : settled_right c q r s.reader ≡ true = sym (k.answer s.reader s.kept) ∙ z in
        let (y, e) = some_of (replay s.reader (queue_here r)) (each_at _ a 1) in
        record {
          sound = answered b k.answer ∙ z;
          place = s.place;
          located = record { here = y.state; shows = k.shows s.reader y s.kept z e; means = queue-state y e };
        }
      where
        queue-state : (y : Reader ℕ) → replay s.reader (queue_here r) ≡ some y → view (disk c q j r) 0 ≡ map_state (contents (disk c q j r)) y.state
        queue-state y e =
            let h = contents (disk c q j r) in
            ap (λ (o : Option (Reader Written)). state_of o) (committed-here (disk c q j r) s.reader s.walked l ∙ ap (map (map_reader h)) e)
