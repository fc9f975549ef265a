-- The order of the free numbers behind every accepted call (`accepted-order`) and behind refusal 12 (`conflict-order`): each free number is listed once,
-- and no other.
use mathlib.Core.Path.{◌≡◌, refl, sym, ap, ◌∙◌, subst}
use mathlib.Core.Bool.{true}
use mathlib.Core.Option.{Option, some}
use mathlib.Core.List.{List}
use Prim.Native.Nat.{ℕ}
use native.Mathlib.Omega.{arith}
use Rattle.lists.specs.State.{State, apply_all}
use Rattle.lists.specs.Numbers.{all_numbers}
use Rattle.lists.proofs.Basic.{some_of}
use Rattle.card_log.specs.Reader.{Reader, start}
use Rattle.card_log.specs.Card.{Written, segments_in, mounted}
use Rattle.card_log.proofs.Reached.{mounted-reached}
use Rattle.disk.specs.Record.{fresh_record}
use Rattle.disk.specs.Disk.{Disk, with_record, unit_of, queued, journal_of, reader_of, state_of, persistent, committed, listing}
use Rattle.disk.specs.Sound.{record_sound}
use Rattle.disk.specs.Call.{Call, format, mount, conflict_count, on_stream, in_view, begin, end, flush, ends}
use Rattle.disk.specs.Questions.{mountable, questions, refusal}
use Rattle.disk.specs.Perform.{enqueue_all, relisted, number_given, change_for, opening, closing, conflicted, unit_entries, formatted, after_flush, accepted, refused}
use Rattle.disk.proofs.Queue.{beside-all, queued-opening, queued-closing, queued-conflicted, reader-same}
use Rattle.disk.proofs.Questions.{yes-all, past, card-length, unit-range}
use Rattle.disk.proofs.Fresh.{fresh-reader}
use Rattle.disk.proofs.Clauses.{Right, OrderRight, committed-is, right, order-right, sound-of}
use Rattle.disk.proofs.Changes.{edit-makes}
use Rattle.disk.proofs.Ended.{ended, ended-state}
use Rattle.disk.proofs.Draining.{left}
use Rattle.disk.proofs.Views.{committed-stays}
use Rattle.disk.proofs.KeepsSound.{formatted-start}
use Rattle.disk.proofs.ListedOnce.{order_same, fresh-order}
use Rattle.disk.proofs.ChangeOrder.{made-order}
use Rattle.disk.proofs.ClosingOrder.{ended-order, dropped-order}

-- the order of a sound disk, over the state of its reader
pub reader-order : (d : Disk) (k : Right d) → record_sound d ≡ true → OrderRight d k.reader.state
reader-order d k h = subst (OrderRight d) (committed-is d k.reader k.log.replays) (order-right d h)

committed-same : (d e : Disk) → e.card ≡ d.card → queued e ≡ queued d → committed e ≡ committed d
unfolding committed
committed-same d e a b = ap state_of (reader-same d e a b)

-- Calls that leave it alone.
kept-order : (d e : Disk) → committed e ≡ committed d → e.rec.tally.order ≡ d.rec.tally.order → e.rec.tally.listed ≡ d.rec.tally.listed → e.rec.held.holder ≡ d.rec.held.holder
    → OrderRight d (committed d) → OrderRight e (committed e)
kept-order d e s a b h o = order_same d e (committed d) (committed e) a b h (ap (λ (x : State Written). x.lists) s) o

begin-order : (u w : ℕ) (d : Disk) → record_sound d ≡ true → OrderRight (opening u w d) (committed (opening u w d))
unfolding opening
begin-order u w d h = kept-order d (opening u w d) (committed-same d (opening u w d) refl (queued-opening u w d)) refl refl refl (order-right d h)

flush-order : (a : ℕ) (d : Disk) → Right d → record_sound d ≡ true → OrderRight (left a d) (committed (left a d))
unfolding after_flush
flush-order a d k h = kept-order d (left a d) (committed-stays a d k) refl refl refl (order-right d h)

-- A record set anew.
anew-order : (d : Disk) (fs : List ℕ) (z : Reader Written) → d.rec ≡ fresh_record fs → reader_of (mounted d.card) ≡ some z → z.state.free ≡ fs → OrderRight d (committed d)
anew-order d fs z r w e =
    rw (committed-is d z (fresh-reader d fs r ∙ w)) (fresh-order d fs z.state r e (mounted-reached d.card z (sound-of (mounted d.card) z w)).state)

mount-order : (d : Disk) → refusal mount d ≡ 0 → OrderRight (accepted mount d).disk (committed (accepted mount d).disk)
unfolding questions accepted mountable persistent state_of
mount-order d h =
    let (z, e) = some_of (reader_of (mounted d.card)) (yes-all mount d h 1) in
    anew-order (with_record d (fresh_record (persistent d).free)) (persistent d).free z refl e (sym (ap (λ (o : Option (Reader Written)). (state_of o).free) e))

format-order : (d : Disk) → refusal format d ≡ 0 → OrderRight (accepted format d).disk (committed (accepted format d).disk)
unfolding questions accepted
format-order d h =
    let c = formatted (segments_in d.card) d.card in
    anew-order (record { card = c; queue_data = d.queue_data; journal_data = d.journal_data; rec = fresh_record all_numbers }) all_numbers start refl
    (formatted-start d.card (card-length d (yes-all format d h 0))) refl

-- End.
end-order : (u : ℕ) (d : Disk) → refusal (end u) d ≡ 0 → OrderRight (accepted (end u) d).disk (committed (accepted (end u) d).disk)
unfolding questions accepted
end-order u d h =
    let y = yes-all (end u) d h in
    let k = right d (y 0) (y 1) in
    let (p, q, _) = unit-range d u (y 2) in
    let cs = journal_of d u in
    let e = ap (apply_all cs) (sym (committed-is d k.reader k.log.replays)) ∙ ended-state u d h in
    ended-order u d p q k (reader-order d k (y 1)) (committed (ended u d h)) e (enqueue_all (unit_entries cs) d) (beside-all (unit_entries cs) d).holder

pub accepted-order : (c : Call) (d : Disk) → refusal c d ≡ 0 → OrderRight (accepted c d).disk (committed (accepted c d).disk)
unfolding questions accepted
accepted-order format d h = format-order d h
accepted-order mount d h = mount-order d h
accepted-order (conflict_count w) d h = order-right d (yes-all (conflict_count w) d h 1)
accepted-order (on_stream s e) d h =
    let y = yes-all (on_stream s e) d h in
    let k = right d (y 0) (y 1) in
    made-order s (change_for e (number_given e d)) d (edit-makes s e d h) k (reader-order d k (y 1))
accepted-order (in_view v k) d h = order-right d (yes-all (in_view v k) d h 1)
accepted-order (begin u w) d h = begin-order u w d (yes-all (begin u w) d h 1)
accepted-order (end u) d h = end-order u d h
accepted-order (flush a) d h = let y = yes-all (flush a) d h in flush-order a d (right d (y 0) (y 1)) (y 1)

-- Refusal 12.
pub conflict-order : (u : ℕ) (d : Disk) → refusal (end u) d ≡ 12 → OrderRight (refused (end u) 12 d) (committed (refused (end u) 12 d))
unfolding refusal questions refused ends conflicted closing relisted
conflict-order u d h =
    let y = past 3 (questions (end u) d) 12 (omega arith) h in
    let k = right d (y 0 (omega arith)) (y 1 (omega arith)) in
    let w = (unit_of d u).window in
    let e = closing u (listing d) d in
    let c : committed e ≡ k.reader.state = committed-same d e refl (queued-closing u (listing d) d) ∙ committed-is d k.reader k.log.replays in
    kept-order e (conflicted w e) (committed-same e (conflicted w e) refl (queued-conflicted w e)) refl refl refl
    (rw c (dropped-order u d k (reader-order d k (y 1 (omega arith)))))
