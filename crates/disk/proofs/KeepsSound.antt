-- Every accepted call but flush, and refusal 12, leaves a record that is sound by question 3. Each step of a call keeps all clauses by itself: a number
-- is held before its put or take is journalled, and a unit closes before its entries join the queue, which leaves the same disk.
use mathlib.Core.Path.{◌≡◌, refl, sym, ap, ◌∙◌, subst}
use mathlib.Core.Logic.{inl, ◌≢◌}
use mathlib.Core.Bool.{Bool, true, false, ◌&&◌, or-false, false≢true}
use mathlib.Core.Option.{some}
use mathlib.Core.List.{List, [], ◌∷◌, ◌++◌}
use Prim.Native.Nat.{ℕ, zero, suc, ◌+◌, ◌-◌, ◌*◌, ◌≤◌, ◌<◌}
use native.Mathlib.Omega.{arith}
use lib.Dec.{leb, eqb, eqb-suc-zero}
use lib.ListN.{length, length-set, length-replicate, get_or-replicate}
use lib.Seq.{take_all}
use Rattle.lists.specs.Basic.{all, joined}
use Rattle.lists.specs.Change.{Change, take_list, put_first, put_after, write, del_block, del_list, map_change}
use Rattle.lists.specs.State.{State, state, applies, changed, free_after, apply, apply_all, overlay}
use Rattle.lists.specs.InUse.{list_number, in_use, brings}
use Rattle.lists.specs.Numbers.{all_numbers}
use Rattle.lists.proofs.Basic.{and-true, not-false, eqb_same, eqb-true, leb-true, some_of, get_or-same, joined-nils}
use Rattle.lists.proofs.InUse.{brought, in-use-changed, in-use-all}
use Rattle.card_log.specs.Entry.{Entry, plain, member, map_entry, raw, legal, legal_change, is_block, is_list}
use Rattle.card_log.specs.Reader.{Reader, settled, start, read, replay}
use Rattle.card_log.specs.Card.{Written, card_length, segments_in, sound, mounted}
use Rattle.card_log.specs.Store.{format_stores}
use Rattle.card_log.proofs.CardLength.{card-size, same_length}
use Rattle.card_log.proofs.Segment.{Carries, carries-walk}
use Rattle.card_log.proofs.Formatting.{nils, format-length, formatted-carries}
use Rattle.card_log.proofs.Places.{Good, plain-sized}
use Rattle.card_log.proofs.Flows.{AllGood}
use Rattle.disk.specs.Record.{no_unit, fresh_unit, blank_record, fresh_record, holder_of, listed_in, with_listed, is_open}
use Rattle.disk.specs.Disk.{Disk, with_record, unit_of, journal_of, reader_of, persistent, committed, listing}
use Rattle.disk.specs.Sound.{open_unit, is_open_unit, head_standing}
use Rattle.disk.specs.Call.{Edit, format, mount, on_stream, begin, end, ends}
use Rattle.disk.specs.Questions.{mountable, stream_open, journal_room, end_applies, queue_room, stream_room, questions, refusal}
use Rattle.disk.specs.Perform.{enqueue, enqueue_all, journal_add, change, hold, relisted, given, freed, opening, given_up, closing, noted, made, number_given, change_for, conflicted, unit_entries, formatted, accepted, refused}
use Rattle.disk.proofs.Queue.{beside-one, beside-all}
use Rattle.disk.proofs.Journal.{journal-data-add, journal-size, unit-entries, unit-sized}
use Rattle.disk.proofs.Questions.{yes-all, past, card-length, queue-data, journal-data, unit-range, queue-room, stream-room, journal-room}
use Rattle.disk.proofs.Fresh.{fresh-queue, fresh-journal, fresh-reader}
use Rattle.disk.proofs.Clauses.{UnitsRight, Right, committed-is, right}
use Rattle.disk.proofs.Held.{closing-released, hold-holder, journals-apart}
use Rattle.disk.proofs.Changes.{Makes, edit-makes, apply-applies, unit-good, replay-unit}
use Rattle.disk.proofs.Growth.{enqueue-log, enqueue_all-log, log-same}
use Rattle.disk.proofs.Units.{units-state, units-same, hold-units, journal-units, opening-units, closing-units}

-- Steps that leave the log and its queue alone.
relisted-right : (fs : List ℕ) (d : Disk) → Right d → Right (relisted fs d)
unfolding relisted with_listed
relisted-right fs d k = record {
  reader = k.reader;
  log = log-same d (relisted fs d) k.reader refl refl refl refl refl refl k.log;
  units = units-same d (relisted fs d) k.reader.state refl refl refl k.units;
  journal_data = k.journal_data;
  conflicts = k.conflicts;
}

conflicted-right : (w : ℕ) (d : Disk) → Right d → Right (conflicted w d)
unfolding conflicted
conflicted-right w d k = record {
  reader = k.reader;
  log = log-same d (conflicted w d) k.reader refl refl refl refl refl refl k.log;
  units = units-same d (conflicted w d) k.reader.state refl refl refl k.units;
  journal_data = k.journal_data;
  conflicts = length-set d.rec.tally.conflicts (w - 1) _ ∙ k.conflicts;
}

opening-right : (u w : ℕ) (d : Disk) → 1 ≤ u → u ≤ 4 → 1 ≤ w → w ≤ 16 → is_open (unit_of d u) ≡ false → Right d → Right (opening u w d)
unfolding opening
opening-right u w d p q x y c k = record {
  reader = k.reader;
  log = log-same d (opening u w d) k.reader refl refl refl refl refl refl k.log;
  units = opening-units u w d k.reader.state p q x y k.units c;
  journal_data = k.journal_data;
  conflicts = k.conflicts;
}

closing-right : (u : ℕ) (t : State Written) (d : Disk) → 1 ≤ u → u ≤ 4 → Right d → Right (closing u t d)
unfolding closing relisted with_listed
closing-right u t d p q k = record {
  reader = k.reader;
  log = log-same d (closing u t d) k.reader refl refl refl refl refl refl k.log;
  units = closing-units u t d k.reader.state p q k.units;
  journal_data = k.journal_data;
  conflicts = k.conflicts;
}

-- a free number is taken to hold
hold-right : (s b : ℕ) (d : Disk) → stream_open d s ≡ true → 1 ≤ b → b ≤ 80 → holder_of d.rec b ≡ 0 → in_use b (committed d).lists ≡ false → Right d → Right (hold s b d)
unfolding hold stream_open
hold-right zero b d o x y z n k = k
hold-right (suc u) b d o x y z n k = record {
  reader = k.reader;
  log = log-same d (hold (suc u) b d) k.reader refl refl refl refl refl refl k.log;
  units = hold-units u b d k.reader.state (rw (eqb-suc-zero u) at o) x y z (rw (committed-is d k.reader k.log.replays) at n) k.units;
  journal_data = k.journal_data;
  conflicts = k.conflicts;
}

-- A change in a unit; what it brings into use is held by the unit.
member-legal : (c : Change Written) → Good (plain c) → legal (raw 0 (member c)) ≡ true
unfolding legal raw map_entry
member-legal c g = g.lawful

journal-right : (u : ℕ) (c : Change Written) (d : Disk) → is_open_unit d u ≡ true → (unit_of d u).len < 15 → Good (plain c)
    → ((b : ℕ) → brought c b ≡ true → holder_of d.rec b ≡ u) → Right d → Right (journal_add u c d)
unfolding journal_add
journal-right u c d o m g f k =
    let (p, q, _) = unit-range d u o in
    record {
      reader = k.reader;
      log = log-same d (journal_add u c d) k.reader refl refl refl refl refl refl k.log;
      units = journal-units u c d k.reader.state o k.journal_data m (plain-sized c g) (member-legal c g) f k.units;
      journal_data = journal-data-add u c d p q k.journal_data m (plain-sized c g);
      conflicts = k.conflicts;
    }

-- Entries that join the queue.
enqueue_all-right : (es : List (Entry Written)) (d : Disk) (k : Right d) (z : Reader Written) → d.rec.ring.len + length es ≤ 32 → AllGood es
    → replay k.reader es ≡ some z → UnitsRight d z.state → Right (enqueue_all es d)
enqueue_all-right es d k z m g r u =
    let b = beside-all es d in
    record {
      reader = z;
      log = enqueue_all-log es d k.reader z k.log m g r;
      units = units-same d (enqueue_all es d) z.state b.journal_data b.units b.holder u;
      journal_data = rw b.journal_data k.journal_data;
      conflicts = rw b.conflicts k.conflicts;
    }

pub plain-read : (z : Reader Written) (c : Change Written) (s : State Written) → apply c z.state ≡ some s → read z (plain c) ≡ some (settled s)
unfolding read
plain-read z c s a = rw a

-- a change on stream 0; what it brings into use is held by no unit
plain-right : (c : Change Written) (d : Disk) → d.rec.ring.len < 32 → Good (plain c) → applies c (committed d).lists ≡ true
    → ((b : ℕ) → brought c b ≡ true → holder_of d.rec b ≡ 0) → Right d → Right (enqueue (plain c) d)
plain-right c d m g a f k =
    let b = beside-one (plain c) d in
    record {
      reader = settled t;
      log = enqueue-log (plain c) d k.reader (settled t) k.log m g (plain-read k.reader c t (apply-applies c s (rw e at a)));
      units = units-same d (enqueue (plain c) d) t b.journal_data b.units b.holder (units-state d s t (λ n p q o h. in-use-changed c s.lists n (apart n o (brought c n) refl) h) k.units);
      journal_data = rw b.journal_data k.journal_data;
      conflicts = rw b.conflicts k.conflicts;
    }
  where
    s : State Written
    s = k.reader.state

    t : State Written
    t = state (changed c s.lists) (free_after c s.lists s.free)

    e : committed d ≡ s
    e = committed-is d k.reader k.log.replays

    apart : (n : ℕ) → is_open_unit d (holder_of d.rec n) ≡ true → (x : Bool) → brought c n ≡ x → brought c n ≡ false
    apart n o true x = let (p, q, _) = unit-range d (holder_of d.rec n) o in absurd (omega (arith, f n x))
    apart n o false x = x

-- A change on a stream: what it brings into use is held by that unit, or by none on stream 0.
change-right : (s : ℕ) (c : Change Written) (d : Disk) → stream_open d s ≡ true → journal_room d s ≡ true → stream_room d s ≡ true → Good (plain c)
    → (s ≡ 0 → applies c (committed d).lists ≡ true) → ((b : ℕ) → brought c b ≡ true → holder_of d.rec b ≡ s) → Right d → Right (change s c d)
unfolding change stream_open
change-right zero c d o j r g a f k = plain-right c d (stream-room d r) g (a refl) f k
change-right (suc u) c d o j r g a f k = journal-right (suc u) c d (rw (eqb-suc-zero u) at o) (journal-room d u j) g f k

-- the number is held first
hold-change : (s b : ℕ) (c : Change Written) (d : Disk) → hold s b (change s c d) ≡ change s c (hold s b d)
unfolding hold change journal_add unit_of
hold-change zero b c d = refl
hold-change (suc u) b c d = refl

hold-open : (s b : ℕ) (d : Disk) → stream_open (hold s b d) s ≡ stream_open d s
unfolding hold stream_open open_unit unit_of
hold-open zero b d = refl
hold-open (suc u) b d = refl

hold-journal : (s b : ℕ) (d : Disk) → journal_room (hold s b d) s ≡ journal_room d s
unfolding hold journal_room unit_of
hold-journal zero b d = refl
hold-journal (suc u) b d = refl

hold-stream : (s b : ℕ) (d : Disk) → stream_room (hold s b d) s ≡ stream_room d s
unfolding hold stream_room queue_room
hold-stream zero b d = refl
hold-stream (suc u) b d = refl

hold-zero : (s b : ℕ) (d : Disk) → s ≡ 0 → hold s b d ≡ d
unfolding hold
hold-zero zero b d e = refl
hold-zero (suc u) b d e = absurd (omega arith)

-- What an accepted edit makes, as the record notes it.
module _ (s : ℕ) (c : Change Written) (d : Disk) (o : stream_open d s ≡ true) (m : Makes s c d) (k : Right d) where
  quiet : ((n : ℕ) → brought c n ≡ false) → Right (change s c d)
  quiet w = change-right s c d o m.journal m.queue m.good m.applying (λ n e. absurd (false≢true (sym (w n) ∙ e))) k

  -- the number that it brings into use is held before
  given-right : (n : ℕ) → 1 ≤ n → n ≤ 80 → brings c ≡ n ∷ [] → Right (hold s n (change s c d))
  given-right n lo hi w =
      let only : (x : ℕ) → brought c x ≡ eqb n x = λ x. rw (w, or-false) in
      let (z, u) = m.free n (only n ∙ eqb_same n) in
      let q : holder_of (hold s n d).rec n ≡ s = hold-holder s n d lo (omega (arith, k.units.table)) z in
      subst Right (sym (hold-change s n c d))
      (change-right s c (hold s n d) (hold-open s n d ∙ o) (hold-journal s n d ∙ m.journal) (hold-stream s n d ∙ m.queue) m.good
      (λ x. rw (hold-zero s n d x) (m.applying x))
      (λ x p. subst (λ (y : ℕ). holder_of (hold s n d).rec y ≡ s) (eqb-true n x (sym (only x) ∙ p)) q)
      (hold-right s n d o lo hi z u k))

  put_right : (b : ℕ) → is_block b ≡ true → brings c ≡ b ∷ [] → Right (given b (hold s b (change s c d)))
  unfolding given
  put_right b i w =
      let (x, y) = and-true (leb 1 b) (leb b 64) i in
      relisted-right _ (hold s b (change s c d)) (given-right b (leb-true 1 b x) (omega (arith, leb-true b 64 y)) w)

  take-right : (l : ℕ) → is_list l ≡ true → brings c ≡ list_number l ∷ [] → Right (given (list_number l) (hold s (list_number l) (change s c d)))
  unfolding given
  take-right l i w =
      let (x, y) = and-true (leb 1 l) (leb l 16) i in
      relisted-right _ (hold s (list_number l) (change s c d)) (given-right (list_number l) (omega arith) (omega (arith, leb-true l 16 y)) w)

freed-right : (s : ℕ) (ns : List ℕ) (d : Disk) → Right d → Right (freed s ns d)
unfolding freed
freed-right zero ns d k = relisted-right (listed_in d.rec ++ ns) d k
freed-right (suc u) ns d k = k

made-right : (s : ℕ) (c : Change Written) (d : Disk) → stream_open d s ≡ true → Makes s c d → Right d → Right (made s c d)
unfolding made noted legal raw map_entry map_change legal_change
made-right s (take_list l) d o m k = take-right s (take_list l) d o m k l m.good.lawful refl
made-right s (put_first b l) d o m k = put_right s (put_first b l) d o m k b (and-true (is_block b) (is_list l) m.good.lawful).0 refl
made-right s (put_after b l p) d o m k =
    put_right s (put_after b l p) d o m k b (and-true (is_block b) (is_list l) (and-true (is_block b && is_list l) (is_block p) m.good.lawful).0).0 refl
made-right s (write b x) d o m k = quiet s (write b x) d o m k (λ n. refl)
made-right s (del_block b) d o m k = freed-right s _ (change s (del_block b) d) (quiet s (del_block b) d o m k (λ n. refl))
made-right s (del_list l) d o m k = freed-right s _ (change s (del_list l) d) (quiet s (del_list l) d o m k (λ n. refl))

pub edit-right : (s : ℕ) (e : Edit) (d : Disk) → refusal (on_stream s e) d ≡ 0 → Right (accepted (on_stream s e) d).disk
unfolding questions accepted
edit-right s e d h =
    let y = yes-all (on_stream s e) d h in
    made-right s (change_for e (number_given e d)) d (y 2) (edit-makes s e d h) (right d (y 0) (y 1))

pub begin-right : (u w : ℕ) (d : Disk) → refusal (begin u w) d ≡ 0 → Right (accepted (begin u w) d).disk
unfolding questions accepted
begin-right u w d h =
    let y = yes-all (begin u w) d h in
    let (a, b) = and-true (leb 1 u) (leb u 4) (y 2) in
    let (m, n) = and-true (leb 1 w) (leb w 16) (y 3) in
    opening-right u w d (leb-true 1 u a) (leb-true u 4 b) (leb-true 1 w m) (leb-true w 16 n) (not-false (is_open (unit_of d u)) (y 4)) (right d (y 0) (y 1))

-- Refusal 12.
pub conflict-right : (u : ℕ) (d : Disk) → refusal (end u) d ≡ 12 → Right (refused (end u) 12 d)
unfolding refusal questions refused ends
conflict-right u d h =
    let y = past 3 (questions (end u) d) 12 (omega arith) h in
    let (p, q, _) = unit-range d u (y 2 (omega arith)) in
    conflicted-right (unit_of d u).window (closing u (listing d) d) (closing-right u (listing d) d p q (right d (y 0 (omega arith)) (y 1 (omega arith))))

-- End: the unit closes first, and then its journal and the commit join the queue.
closing-enqueue : (u : ℕ) (x : State Written) (e : Entry Written) (d : Disk) → closing u x (enqueue e d) ≡ enqueue e (closing u x d)
unfolding closing given_up relisted with_listed enqueue unit_of
closing-enqueue u x e d = refl

closing-enqueue_all : (u : ℕ) (x : State Written) (es : List (Entry Written)) (d : Disk) → closing u x (enqueue_all es d) ≡ enqueue_all es (closing u x d)
unfolding enqueue_all
closing-enqueue_all u x [] d = refl
closing-enqueue_all u x (e ∷ es) d = closing-enqueue_all u x es (enqueue e d) ∙ ap (enqueue_all es) (closing-enqueue u x e d)

closing-len : (u : ℕ) (x : State Written) (d : Disk) → (closing u x d).rec.ring.len ≡ d.rec.ring.len
unfolding closing relisted with_listed
closing-len u x d = refl

-- the other units hold nothing that this one's journal brings into use
ended-units : (u : ℕ) (x : State Written) (d : Disk) (s t : State Written) → 1 ≤ u → u ≤ 4 → apply_all (journal_of d u) s ≡ some t → UnitsRight d s → UnitsRight (closing u x d) t
ended-units u x d s t p q a k =
    units-state (closing u x d) s t
    (λ b v y o n. in-use-all (journal_of d u) s t b (journals-apart d.rec u (journal_of d u) b (other b o) (k.units u p q).sound) n a)
    (closing-units u x d s p q k)
  where
    other : (b : ℕ) → is_open_unit (closing u x d) (holder_of (closing u x d).rec b) ≡ true → holder_of d.rec b ≢ u
    other b o e = let (v, y, _) = unit-range (closing u x d) (holder_of (closing u x d).rec b) o in omega (arith, closing-released u x d b e)

pub end-right : (u : ℕ) (d : Disk) → refusal (end u) d ≡ 0 → Right (accepted (end u) d).disk
unfolding questions accepted end_applies closing-right
end-right u d h =
    let y = yes-all (end u) d h in
    let k = right d (y 0) (y 1) in
    let (p, q, _) = unit-range d u (y 2) in
    let cs = journal_of d u in
    let (t, a) = some_of (apply_all cs (committed d)) (y 3) in
    let e : apply_all cs k.reader.state ≡ some t = ap (apply_all cs) (sym (committed-is d k.reader k.log.replays)) ∙ a in
    let x = k.units.units u p q in
    let f = overlay cs (listing d) in
    subst Right (sym (closing-enqueue_all u f (unit_entries cs) d))
    (enqueue_all-right (unit_entries cs) (closing u f d) (closing-right u f d p q k) (settled t)
    (omega (arith, closing-len u f d, queue-room d ((unit_of d u).len + 1) (y 4), unit-entries cs, journal-size d u))
    (unit-good d.rec u cs x.sound (omega (arith, journal-size d u, x.room)) (unit-sized d u p q k.journal_data x.room))
    (replay-unit k.reader cs t e) (ended-units u f d k.reader.state t p q e k.units))

-- Mounting and formatting: the record is set anew.
module _ (d : Disk) (fs : List ℕ) (r : d.rec ≡ fresh_record fs) where
  fresh-unit : (u : ℕ) → 1 ≤ u → u ≤ 4 → unit_of d u ≡ fresh_unit
  unfolding unit_of fresh_record with_listed blank_record
  fresh-unit u p q = rw r (get_or-replicate 4 (u - 1) fresh_unit no_unit (omega arith))

  fresh-units : (s : State Written) → UnitsRight d s
  unfolding fresh_record with_listed blank_record fresh_unit all
  fresh-units s = record {
    four = rw r;
    table = rw r;
    units = λ u p q. let e = fresh-unit u p q in record { places = rw e; room = rw e (omega arith); window = rw e (omega arith); closed = λ h. rw e; sound = rw (fresh-journal d fs r u) };
    holders = λ b p q. inl (rw r (get_or-same 80 (b - 1) 0));
  }

  fresh-right : (z : Reader Written) → card_length d.card ≡ true → length d.queue_data ≡ 8192 → length d.journal_data ≡ 15360
      → reader_of (mounted d.card) ≡ some z → Right d
  unfolding fresh_record with_listed blank_record all head_standing
  fresh-right z c q j w = record {
    reader = z;
    log = record {
      card = c;
      queue_data = q;
      places = rw r;
      room = rw r (omega arith);
      head = rw r (omega arith);
      lawful = rw (fresh-queue d fs r);
      replays = fresh-reader d fs r ∙ w;
      stands = rw (fresh-queue d fs r, r);
    };
    units = fresh-units z.state;
    journal_data = j;
    conflicts = rw r;
  }

pub mount-right : (d : Disk) → refusal mount d ≡ 0 → Right (accepted mount d).disk
unfolding questions accepted mountable
mount-right d h =
    let y = yes-all mount d h in
    let (z, e) = some_of (reader_of (mounted d.card)) (y 1) in
    fresh-right (with_record d (fresh_record (persistent d).free)) (persistent d).free refl z (card-length d (y 0)) (queue-data d (y 0)) (journal-data d (y 0)) e

-- a formatted card holds nothing
pub sound-reader : (c : List ℕ) (z : Reader Written) → mounted c ≡ sound z → reader_of (mounted c) ≡ some z
unfolding reader_of
sound-reader c z e = rw e

none-replayed : (n : ℕ) → replay start (joined (nils n)) ≡ some start
unfolding replay
none-replayed n = rw (joined-nils n)

formatted-empty : (c : List ℕ) → card_length c ≡ true → Carries (formatted (segments_in c) c) (nils (segments_in c))
unfolding formatted
formatted-empty c h =
    let n = segments_in c in
    let (a, b) = card-size c h in
    rw (take_all n (format_stores n) (omega (arith, format-length n))) (formatted-carries n c b a)

pub formatted-start : (c : List ℕ) → card_length c ≡ true → reader_of (mounted (formatted (segments_in c) c)) ≡ some start
formatted-start c l =
    let n = segments_in c in
    sound-reader (formatted n c) start (carries-walk (formatted n c) (nils n) start (formatted-empty c l) (none-replayed n))

pub format-right : (d : Disk) → refusal format d ≡ 0 → Right (accepted format d).disk
unfolding questions accepted
format-right d h =
    let y = yes-all format d h in
    let l = card-length d (y 0) in
    let n = segments_in d.card in
    let c = formatted n d.card in
    let k : Carries c (nils n) = formatted-empty d.card l in
    fresh-right (record { card = c; queue_data = d.queue_data; journal_data = d.journal_data; rec = fresh_record all_numbers }) all_numbers refl start
    (same_length d.card c (k.size ∙ ap (λ (m : ℕ). 4096 * m) (length-replicate n []) ∙ sym (card-size d.card l).0) l)
    (queue-data d (y 0)) (journal-data d (y 0)) (formatted-start d.card l)
