-- A flush and the views: the committed state and the units' views stay, the persistent one goes on by the entries that left the queue, and after a
-- drained flush it is the committed one.
use mathlib.Core.Path.{◌≡◌, refl, sym, ap, ◌∙◌}
use mathlib.Core.Logic.{◌≢◌}
use mathlib.Core.Bool.{cond}
use mathlib.Core.Option.{Option, none, some}
use mathlib.Core.List.{List, [], ◌++◌, append_assoc}
use Prim.Native.Nat.{ℕ}
use native.Mathlib.Omega.{arith}
use lib.Dec.{eqb}
use lib.ListN.{length, drop, take, length-append, take-append-drop}
use lib.Seq.{take_at}
use Rattle.lists.specs.Basic.{bind, joined}
use Rattle.lists.specs.State.{overlay}
use Rattle.lists.proofs.Basic.{eqb-false}
use Rattle.card_log.specs.Entry.{Entry}
use Rattle.card_log.specs.Reader.{Reader, start, replay}
use Rattle.card_log.specs.Card.{Written, segments_in, mounted}
use Rattle.card_log.specs.Flush.{drained}
use Rattle.card_log.proofs.Replay.{replay-append}
use Rattle.card_log.proofs.Sequence.{drained-empty}
use Rattle.disk.specs.Disk.{Disk, queued, reader_of, committed_reader, state_of, persistent, committed, view}
use Rattle.disk.specs.Perform.{flow_of, flushed}
use Rattle.disk.proofs.Journal.{journal-flushed}
use Rattle.disk.proofs.Clauses.{Right, committed-is}
use Rattle.disk.proofs.Draining.{left, Turn, onward-log, flush-log, left-queue}

module _ (a : ℕ) (d : Disk) (k : Right d) where
  pub committed-stays : committed (left a d) ≡ committed d
  committed-stays =
      committed-is (left a d) k.reader (flush-log a d k.reader k.log).replays ∙ sym (committed-is d k.reader k.log.replays)

  pub view-stays : (v : ℕ) → v ≢ 5 → view (left a d) v ≡ view d v
  unfolding view
  view-stays v n =
      rw (eqb-false v 5 n) (λ i. cond (eqb v 0) (committed-stays i) (overlay (journal-flushed d (flushed a d).flow v i) (committed-stays i)))

-- The entries that left the queue.
cancel : {A : Type 0} (xs ys z : List A) → xs ++ z ≡ ys ++ z → xs ≡ ys
cancel xs ys z e =
    let n : length xs ≡ length ys = omega (arith, length-append xs z, length-append ys z, ap length e) in
    sym (take_at xs z (length xs) refl) ∙ ap (take (length xs)) e ∙ take_at ys z (length xs) (sym n)

turn-segs : (a : ℕ) (d : Disk) (z : Reader Written) (t : Turn a d z) → joined t.after.segs ≡ joined t.before.segs ++ take t.after.gone (queued d)
turn-segs a d z t =
    let f = t.after in
    let q = queued d in
    cancel (joined f.segs) (joined t.before.segs ++ take f.gone q) (drop f.gone q)
    (ap (λ (l : List (Entry Written)). joined f.segs ++ l) (sym f.rest) ∙ f.log
    ∙ ap (λ (l : List (Entry Written)). joined t.before.segs ++ l) (sym (take-append-drop f.gone q))
    ∙ sym (append_assoc (joined t.before.segs) (take f.gone q) (drop f.gone q)))

-- n entries left the queue, and the card's reader went on by these
pub record Moved (a : ℕ) (d : Disk) : Type 0 where
  pub before : Reader Written
  pub walked : reader_of (mounted d.card) ≡ some before
  pub gone : ℕ
  pub now : Reader Written
  pub walks : reader_of (mounted (left a d).card) ≡ some now
  pub steps : replay before (take gone (queued d)) ≡ some now
  pub rest : queued (left a d) ≡ drop gone (queued d)

moved-steps : (r q : Reader Written) (x y es : List (Entry Written)) → replay start x ≡ some r → y ≡ x ++ es → replay start y ≡ some q → replay r es ≡ some q
moved-steps r q x y es h e k = rw h at (sym (replay-append start x es) ∙ ap (replay start) (sym e) ∙ k)

pub flush-moves : (a : ℕ) (d : Disk) → Right d → Moved a d
flush-moves a d k =
    let o = onward-log a d k.reader k.log in
    let t = o.turned in
    record {
      before = t.before.reader;
      walked = t.before.walks;
      gone = t.after.gone;
      now = o.now;
      walks = o.walks;
      steps = moved-steps t.before.reader o.now (joined t.before.segs) (joined t.after.segs) (take t.after.gone (queued d)) t.before.first
          (turn-segs a d k.reader t) o.first;
      rest = t.queue ∙ t.after.rest;
    }

-- A drained flush.
queue-none : (d : Disk) → queued d ≡ [] → committed_reader d ≡ reader_of (mounted d.card)
unfolding committed_reader replay
queue-none d e = rw e (same (reader_of (mounted d.card)))
  where
    same : (o : Option (Reader Written)) → bind o (λ r. some r) ≡ o
    same none = refl
    same (some r) = refl

pub drained-queue : (a : ℕ) (d : Disk) → Right d → (flushed a d).ending ≡ drained → queued (left a d) ≡ []
unfolding flushed
drained-queue a d k h = left-queue a d k ∙ drained-empty (segments_in d.card) a 0 (flow_of d) h

pub drained-persistent : (a : ℕ) (d : Disk) → Right d → (flushed a d).ending ≡ drained → persistent (left a d) ≡ committed d
unfolding persistent committed
drained-persistent a d k h = ap state_of (sym (queue-none (left a d) (drained-queue a d k h))) ∙ committed-stays a d k
