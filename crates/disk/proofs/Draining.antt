-- A flush of a sound disk: what its card and queue say before and after (`turn`), and that it leaves a sound record (`flush-right`).
use mathlib.Core.Path.{◌≡◌, refl, sym, ap, ◌∙◌}
use mathlib.Core.Bool.{true}
use mathlib.Core.Option.{some}
use mathlib.Core.List.{List}
use Prim.Native.Nat.{ℕ, ◌*◌}
use native.Mathlib.Omega.{arith}
use lib.ListN.{length, length-drop}
use Rattle.lists.specs.Basic.{joined}
use Rattle.lists.proofs.Basic.{bind-some, all_drop}
use Rattle.card_log.specs.Entry.{Entry, legal, raw}
use Rattle.card_log.specs.Reader.{Reader, start, replay}
use Rattle.card_log.specs.Card.{Written, segments_in, mounted}
use Rattle.card_log.specs.Flush.{Flow}
use Rattle.card_log.proofs.CardLength.{card-size, same_length}
use Rattle.card_log.proofs.Replay.{replay-append}
use Rattle.card_log.proofs.Segment.{Carries, carries-walk, carries-segments}
use Rattle.card_log.proofs.Regain.{carries-read}
use Rattle.card_log.proofs.Flows.{tail-end, Flows, flow_for, Flushes, flush-flows}
use Rattle.disk.specs.Disk.{Disk, queued, reader_of, committed_reader}
use Rattle.disk.specs.Sound.{head_standing}
use Rattle.disk.specs.Call.{flush}
use Rattle.disk.specs.Questions.{questions, refusal}
use Rattle.disk.specs.Perform.{flow_of, flushed, after_flush, accepted}
use Rattle.disk.proofs.Queue.{queue-length, queued-sized, queued-flushed, flushed-head}
use Rattle.disk.proofs.Questions.{yes-all}
use Rattle.disk.proofs.Clauses.{LogRight, Right, right, sound-of}
use Rattle.disk.proofs.Changes.{good-all}
use Rattle.disk.proofs.Units.{units-same}
use Rattle.disk.proofs.KeepsSound.{sound-reader}
use Rattle.disk.proofs.Standing.{standing-head, head-standing}

-- The segments that a sound disk's card carries, with the queue behind them.
pub record Open (d : Disk) (z : Reader Written) : Type 0 where
  pub segs : List (List (Entry Written))
  pub flows : Flows d.card segs (queued d) d.rec.ring.done
  pub reader : Reader Written
  pub walks : reader_of (mounted d.card) ≡ some reader
  pub first : replay start (joined segs) ≡ some reader
  pub onward : replay reader (queued d) ≡ some z

pub open-log : (d : Disk) (z : Reader Written) → LogRight d z → Open d z
unfolding committed_reader
open-log d z l =
    let (r, p, u) = bind-some (reader_of (mounted d.card)) (λ r. replay r (queued d)) z l.replays in
    let (a, b) = card-size d.card l.card in
    let (ess, k, v) = carries-read (segments_in d.card) d.card r b a (sound-of (mounted d.card) r p) in
    let g = good-all (queued d) l.lawful (queued-sized d l.queue_data) in
    record {
      segs = ess;
      flows = record { carries = k; good = g; head = standing-head d.card ess k (queued d) d.rec.ring.done g l.stands };
      reader = r;
      walks = p;
      first = v;
      onward = u;
    }

-- the disk that a flush of a stores leaves
abbrev pub left : ℕ → Disk → Disk
left a d = after_flush d (flushed a d).flow

pub flow-of : (d : Disk) (ess : List (List (Entry Written))) → Carries d.card ess → flow_of d ≡ flow_for d.card ess (queued d) d.rec.ring.done
unfolding flow_of flow_for
flow-of d ess h i = record { card = d.card; place = tail-end d.card ess h i; queue = queued d; done = d.rec.ring.done }

flush-flow : (a : ℕ) (d : Disk) (z : Reader Written) (o : Open d z) → Flushes (flushed a d).flow o.segs (queued d)
unfolding flushed
flush-flow a d z o =
    let c = o.flows.carries in
    rw (flow-of d o.segs c, carries-segments d.card o.segs c) (flush-flows a 0 d.card o.segs (queued d) d.rec.ring.done o.flows)

pub record Turn (a : ℕ) (d : Disk) (z : Reader Written) : Type 0 where
  pub before : Open d z
  pub after : Flushes (flushed a d).flow before.segs (queued d)
  pub card : (left a d).card ≡ after.card
  pub queue : queued (left a d) ≡ after.queue
  pub done : (left a d).rec.ring.done ≡ after.done

module _ (d : Disk) (f : Flow) (c : List ℕ) (ess : List (List (Entry Written))) (q : List (Entry Written)) (k : ℕ) (e : f ≡ flow_for c ess q k) where
  flow-card : (after_flush d f).card ≡ c
  unfolding after_flush flow_for
  flow-card = ap (λ (x : Flow). x.card) e

  flow-queue : f.queue ≡ q
  unfolding flow_for
  flow-queue = ap (λ (x : Flow). x.queue) e

  flow-done : (after_flush d f).rec.ring.done ≡ k
  unfolding after_flush flow_for
  flow-done = ap (λ (x : Flow). x.done) e

pub turn : (a : ℕ) (d : Disk) (z : Reader Written) → LogRight d z → Turn a d z
turn a d z l =
    let o = open-log d z l in
    let f = flush-flow a d z o in
    let y = (flushed a d).flow in
    let q : y.queue ≡ f.queue = flow-queue d y f.card f.segs f.queue f.done f.flow in
    record {
      before = o;
      after = f;
      card = flow-card d y f.card f.segs f.queue f.done f.flow;
      queue = queued-flushed d y f.gone (omega (arith, f.left, queue-length d)) (q ∙ f.rest) ∙ q;
      done = flow-done d y f.card f.segs f.queue f.done f.flow;
    }

pub left-queue : (a : ℕ) (d : Disk) → Right d → queued (left a d) ≡ (flushed a d).flow.queue
left-queue a d k =
    let t = turn a d k.reader k.log in
    let f = t.after in
    t.queue ∙ sym (flow-queue d (flushed a d).flow f.card f.segs f.queue f.done f.flow)

-- The log that a flush leaves: the card's reader, and the queue behind it.
pub record Onward (a : ℕ) (d : Disk) (z : Reader Written) : Type 0 where
  pub turned : Turn a d z
  pub now : Reader Written
  pub walks : reader_of (mounted (left a d).card) ≡ some now
  pub first : replay start (joined turned.after.segs) ≡ some now
  pub onward : replay now (queued (left a d)) ≡ some z

pub onward-log : (a : ℕ) (d : Disk) (z : Reader Written) → LogRight d z → Onward a d z
onward-log a d z l =
    let t = turn a d z l in
    let o = t.before in
    let f = t.after in
    let (r, p, u) = bind-some (replay start (joined f.segs)) (λ r. replay r f.queue) z
    (sym (replay-append start (joined f.segs) f.queue) ∙ ap (replay start) f.log
    ∙ replay-append start (joined o.segs) (queued d) ∙ rw o.first o.onward) in
    record {
      turned = t;
      now = r;
      walks = ap (λ (c : List ℕ). reader_of (mounted c)) t.card ∙ sound-reader f.card r (carries-walk f.card f.segs r f.flows.carries p);
      first = p;
      onward = rw t.queue u;
    }

flush-reader : (a : ℕ) (d : Disk) (z : Reader Written) → Onward a d z → committed_reader (left a d) ≡ some z
unfolding committed_reader
flush-reader a d z o = rw o.walks o.onward

pub flush-size : (a : ℕ) (d : Disk) (z : Reader Written) → Turn a d z → length (left a d).card ≡ length d.card
flush-size a d z t =
    ap length t.card ∙ t.after.flows.carries.size ∙ ap (λ (n : ℕ). 4096 * n) t.after.size ∙ sym t.before.flows.carries.size

flush-stands : (a : ℕ) (d : Disk) (z : Reader Written) → Turn a d z → head_standing (left a d).card (left a d).rec.ring.done (queued (left a d)) ≡ true
flush-stands a d z t =
    let f = t.after in
    rw (t.queue, t.card, t.done) (head-standing f.card f.segs f.flows.carries f.queue f.done f.flows.good f.flows.head)

pub flush-log : (a : ℕ) (d : Disk) (z : Reader Written) → LogRight d z → LogRight (left a d) z
unfolding after_flush
flush-log a d z l =
    let o = onward-log a d z l in
    let t = o.turned in
    let f = t.after in
    record {
      card = same_length d.card (left a d).card (flush-size a d z t) l.card;
      queue_data = l.queue_data;
      places = l.places;
      room = omega (arith, queue-length (left a d), queue-length d, l.room, ap length t.queue, ap length f.rest, length-drop f.gone (queued d));
      head = flushed-head d (flushed a d).flow;
      lawful = rw (t.queue ∙ f.rest) (all_drop (λ e. legal (raw 0 e)) f.gone (queued d) l.lawful);
      replays = flush-reader a d z o;
      stands = flush-stands a d z t;
    }

unfoldable pub left-right : (a : ℕ) (d : Disk) → Right d → Right (left a d)
unfolding after_flush
left-right a d k = record {
  reader = k.reader;
  log = flush-log a d k.reader k.log;
  units = units-same d (left a d) k.reader.state refl refl refl k.units;
  journal_data = k.journal_data;
  conflicts = k.conflicts;
}

pub flush-right : (a : ℕ) (d : Disk) → refusal (flush a) d ≡ 0 → Right (accepted (flush a) d).disk
unfolding questions accepted
flush-right a d h = let y = yes-all (flush a) d h in left-right a d (right d (y 0) (y 1))
