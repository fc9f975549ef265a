-- "With allowance m+n it leaves what m, then n leaves, m+n being in range.": `flush-sum`.
use mathlib.Core.Path.{◌≡◌, refl, sym, ap, ◌∙◌}
use Prim.Native.Nat.{ℕ, zero, suc, ◌+◌, ◌-◌, ◌%◌, ◌≤◌}
use native.Mathlib.Omega.{arith}
use native.Mathlib.Nat.{mod-add-mod}
use lib.ListN.{length, length-drop}
use Rattle.lists.proofs.Basic.{leb-true, le-true}
use Rattle.card_log.specs.Card.{segments_in}
use Rattle.card_log.specs.Flush.{Flow, Flushed, Next, stored, stopped, next_store, flush_from}
use Rattle.card_log.proofs.Allowance.{stopped-flush, moved-flush, flush-add}
use Rattle.disk.specs.Record.{with_flow}
use Rattle.disk.specs.Disk.{Disk, queued}
use Rattle.disk.specs.Call.{flush}
use Rattle.disk.specs.Questions.{questions, first_no, ask, refusal}
use Rattle.disk.specs.Perform.{flow_of, flushed, after_flush, accepted}
use Rattle.answers.specs.Answers.{ending_number}
use Rattle.disk.specs.Statements.{FlushSum}
use Rattle.disk.proofs.Queue.{queue-length}
use Rattle.disk.proofs.Questions.{yes-all}
use Rattle.disk.proofs.ListedOnce.{order_same}
use Rattle.disk.proofs.AcceptedOrder.{reader-order}
use Rattle.disk.proofs.Clauses.{Right, right, right-lengths, right-sound, OrderRight}
use Rattle.disk.proofs.Performing.{perform-accepted}
use Rattle.disk.proofs.Draining.{left, left-queue, left-right, turn}
use Rattle.disk.proofs.Sequence.{left-flow, left-segments}

-- Stores done before are only counted.
record Same (x y : Flushed) (j k : ℕ) : Type 0 where
  flow : x.flow ≡ y.flow
  stores : x.stores + k ≡ y.stores + j
  ending : x.ending ≡ y.ending

counted : (a n j k : ℕ) (f : Flow) → Same (flush_from n a j f) (flush_from n a k f) j k
unfolding flush_from
counted zero n j k f = go (next_store n f) refl
  where
    go : (x : Next) → next_store n f ≡ x → Same (flush_from n zero j f) (flush_from n zero k f) j k
    go (stored g) q = rw (q, flush_from) (record { flow = refl; stores = omega arith; ending = refl })
    go (stopped e) q = rw (q, flush_from) (record { flow = refl; stores = omega arith; ending = refl })
counted (suc a) n j k f = go (λ g. counted a n (suc j) (suc k) g) (next_store n f) refl
  where
    go : ((g : Flow) → Same (flush_from n a (suc j) g) (flush_from n a (suc k) g) (suc j) (suc k)) → (x : Next) → next_store n f ≡ x
        → Same (flush_from n (suc a) j f) (flush_from n (suc a) k f) j k
    go ih (stored g) q = let h = ih g in rw (moved-flush n a j f g q, moved-flush n a k f g q) (record { flow = h.flow; stores = omega (arith, h.stores); ending = h.ending })
    go ih (stopped e) q = rw (stopped-flush n (suc a) j f e q, stopped-flush n (suc a) k f e q) (record { flow = refl; stores = omega arith; ending = refl })

-- A flush of a flushed disk drains the queue's head by both.
ring-sum : (h i j l : ℕ) → l ≤ j → j ≤ i → ((h + (i - j)) % 32 + (j - l)) % 32 ≡ (h + (i - l)) % 32
ring-sum h i j l p q = mod-add-mod (h + (i - j)) 32 (j - l) ∙ ap (λ (x : ℕ). x % 32) (let e : h + (i - j) + (j - l) ≡ h + (i - l) = omega arith in e)

after-twice : (d : Disk) (f g : Flow) → length g.queue ≤ length f.queue → length f.queue ≤ d.rec.ring.len → after_flush (after_flush d f) g ≡ after_flush d g
unfolding after_flush
after-twice d f g p q i = record {
  card = g.card;
  queue_data = d.queue_data;
  journal_data = d.journal_data;
  rec = with_flow d.rec (ring-sum d.rec.ring.head d.rec.ring.len (length f.queue) (length g.queue) p q i) (length g.queue) g.done;
}

shorter : (a : ℕ) (d : Disk) → Right d → length (flushed a d).flow.queue ≤ d.rec.ring.len
shorter a d k =
    let t = turn a d k.reader k.log in
    omega (arith, queue-length d, ap length (left-queue a d k), ap length t.queue, ap length t.after.rest, length-drop t.after.gone (queued d))

left-len : (a : ℕ) (d : Disk) → (left a d).rec.ring.len ≡ length (flushed a d).flow.queue
unfolding after_flush
left-len a d = refl

module _ (m n : ℕ) (d : Disk) (k : Right d) where
  abbrev first : Flushed
  first = flushed m d

  abbrev later : Flushed
  later = flushed n (left m d)

  -- the second flush goes on where the first stopped
  later-is : later ≡ flush_from (segments_in d.card) n 0 first.flow
  unfolding flushed
  later-is i = flush_from (left-segments m d k i) n 0 (left-flow m d k i)

  both_is : flushed (m + n) d ≡ flush_from (segments_in d.card) n first.stores first.flow
  unfolding flushed
  both_is = flush-add m n (segments_in d.card) 0 (flow_of d)

  both-same : Same (flushed (m + n) d) later first.stores 0
  both-same = rw (both_is, later-is) (counted n (segments_in d.card) first.stores 0 first.flow)

  stores-sum : (flushed (m + n) d).stores ≡ first.stores + later.stores
  stores-sum = omega (arith, both-same.stores)

  left-sum : left (m + n) d ≡ left n (left m d)
  left-sum =
      let k' = left-right m d k in
      ap (after_flush d) both-same.flow
      ∙ sym (after-twice d first.flow later.flow (omega (arith, shorter n (left m d) k', left-len m d)) (shorter m d k))

left-order : (a : ℕ) (d : Disk) (k : Right d) → OrderRight d k.reader.state → OrderRight (left a d) (left-right a d k).reader.state
unfolding after_flush left-right
left-order a d k o = order_same d (left a d) k.reader.state k.reader.state refl refl refl refl o

pub flush-accepted : (a : ℕ) (d : Disk) (k : Right d) → OrderRight d k.reader.state → a ≤ 65535 → refusal (flush a) d ≡ 0
unfolding refusal questions first_no ask
flush-accepted a d k o l = rw (right-lengths d k, right-sound d k o, le-true a 65535 l)

pub flush-sum : FlushSum
unfolding questions accepted
flush-sum m n d h =
    let q = yes-all (flush (m + n)) d h in
    let k = right d (q 0) (q 1) in
    let o = reader-order d k (q 1) in
    let l = leb-true (m + n) 65535 (q 2) in
    rw (perform-accepted (flush (m + n)) d h, perform-accepted (flush m) d (flush-accepted m d k o (omega arith)))
    (rw (perform-accepted (flush n) (left m d) (flush-accepted n (left m d) (left-right m d k) (left-order m d k o) (omega arith))) (left-sum m n d k, stores-sum m n d k, ap ending_number (both-same m n d k).ending))
