-- What an accepted End leaves (`ended-state`: the journal's changes have acted on the committed state), of the other units (`ended-unit`, `ended-journal`) and of
-- the queue (`ended-length`).
use mathlib.Core.Path.{◌≡◌, refl, sym, ap, ◌∙◌}
use mathlib.Core.Logic.{◌≢◌}
use mathlib.Core.Option.{some}
use Prim.Native.Nat.{ℕ, ◌+◌, ◌≤◌}
use native.Mathlib.Omega.{arith}
use Rattle.lists.specs.State.{State, apply_all, overlay}
use Rattle.lists.proofs.Basic.{some_of}
use Rattle.card_log.specs.Card.{Written}
use Rattle.card_log.specs.Reader.{settled}
use Rattle.disk.specs.Record.{with_listed}
use Rattle.disk.specs.Disk.{Disk, unit_of, journal_of, state_of, committed, listing}
use Rattle.disk.specs.Call.{end}
use Rattle.disk.specs.Questions.{end_applies, questions, refusal}
use Rattle.disk.specs.Perform.{enqueue_all, unit_entries, closing, relisted, accepted}
use Rattle.disk.proofs.Queue.{beside-all, enqueue_all-length, queued-closing, reader-same}
use Rattle.disk.proofs.Journal.{unit-same, unit-closing-other, journal-size, journal-closing-other, journal-enqueue_all, unit-entries, unit-sized}
use Rattle.disk.proofs.Questions.{yes-all, unit-range, queue-room}
use Rattle.disk.proofs.Clauses.{right, committed-is}
use Rattle.disk.proofs.Changes.{unit-good, replay-unit}
use Rattle.disk.proofs.Growth.{enqueue_all-log}

module _ (u : ℕ) (d : Disk) (h : refusal (end u) d ≡ 0) where
  abbrev pub ended : Disk
  ended = (accepted (end u) d).disk

  abbrev over : State Written
  over = overlay (journal_of d u) (listing d)

  abbrev grown : Disk
  grown = enqueue_all (unit_entries (journal_of d u)) d

  pub ended-state : apply_all (journal_of d u) (committed d) ≡ some (committed ended)
  unfolding questions accepted end_applies closing relisted committed
  ended-state =
      let y = yes-all (end u) d h in
      let k = right d (y 0) (y 1) in
      let (p, q, _) = unit-range d u (y 2) in
      let cs = journal_of d u in
      let (t, a) = some_of (apply_all cs (committed d)) (y 3) in
      let e : apply_all cs k.reader.state ≡ some t = ap (apply_all cs) (sym (committed-is d k.reader k.log.replays)) ∙ a in
      let x = k.units.units u p q in
      let l = enqueue_all-log (unit_entries cs) d k.reader (settled t) k.log
      (omega (arith, queue-room d ((unit_of d u).len + 1) (y 4), unit-entries cs, journal-size d u))
      (unit-good d.rec u cs x.sound (omega (arith, journal-size d u, x.room)) (unit-sized d u p q k.journal_data x.room))
      (replay-unit k.reader cs t e) in
      let c : committed (closing u over grown) ≡ t =
      ap state_of (reader-same grown (closing u over grown) refl (queued-closing u over grown)) ∙ committed-is grown (settled t) l.replays in
      a ∙ ap some (sym c)

  -- another unit is as it was
  module _ (v : ℕ) (p : 1 ≤ u) (q : 1 ≤ v) (n : u ≢ v) where
    pub ended-unit : unit_of ended v ≡ unit_of d v
    unfolding accepted
    ended-unit = unit-closing-other u v p q n over grown ∙ unit-same d grown v (beside-all (unit_entries (journal_of d u)) d).units

    pub ended-journal : journal_of ended v ≡ journal_of d v
    unfolding accepted
    ended-journal = journal-closing-other u v over grown p q n ∙ journal-enqueue_all (unit_entries (journal_of d u)) d v

  pub ended-length : ended.rec.ring.len ≡ d.rec.ring.len + ((unit_of d u).len + 1)
  unfolding accepted closing relisted with_listed
  ended-length = enqueue_all-length (unit_entries (journal_of d u)) d ∙ omega (arith, unit-entries (journal_of d u), journal-size d u)
