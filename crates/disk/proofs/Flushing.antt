-- What an accepted flush leaves and reports, on any disk, in one record (`flushes`).
use mathlib.Core.Path.{◌≡◌, refl, sym, ap, ◌∙◌}
use mathlib.Core.Logic.{◌≢◌}
use mathlib.Core.List.{[]}
use Prim.Native.Nat.{ℕ, ◌-◌, ◌≤◌, ◌<◌}
use native.Mathlib.Omega.{arith}
use lib.ListN.{length, drop, take}
use Rattle.lists.proofs.Basic.{leb-true}
use Rattle.card_log.specs.Card.{segments_in}
use Rattle.card_log.specs.Store.{do_stores}
use Rattle.card_log.specs.Flush.{Ending, drained, full, spent}
use Rattle.card_log.proofs.Sequence.{Ended, ended}
use Rattle.card_log.proofs.Stores.{AllBytes, AllIn}
use Rattle.disk.specs.Disk.{Disk, queued, persistent, committed, view}
use Rattle.disk.specs.Call.{flush}
use Rattle.disk.specs.Questions.{questions, refusal}
use Rattle.disk.specs.Perform.{Result, flow_of, flushed, accepted, perform}
use Rattle.answers.specs.Answers.{ending_number}
use Rattle.disk.specs.Statements.{todo, ReportedStores, CutAfter}
use Rattle.disk.proofs.Questions.{yes-all}
use Rattle.disk.proofs.Clauses.{Right, right}
use Rattle.disk.proofs.Performing.{perform-accepted}
use Rattle.disk.proofs.Views.{committed-stays, view-stays, drained-queue, drained-persistent}
use Rattle.disk.proofs.Sequence.{flow-ready, flush-stored, reported, cut_left, todo-in}
use Rattle.disk.proofs.AcceptedOrder.{reader-order}
use Rattle.disk.proofs.Allowance.{flush-accepted}

-- The result r of a flush with allowance a on the disk d. The stores to do form one sequence, `todo`: the flush did the next ones up to its
-- allowance, the rest is still to do, and it reports the difference. It is spent just where stores are left. It changes neither the committed state
-- nor an open unit's view; drained, the queue is empty and the persistent state is the committed one.
pub record Flush (a : ℕ) (d : Disk) (r : Result) : Type 0 where
  pub card : r.disk.card ≡ do_stores (take a (todo d)) d.card
  pub onward : todo r.disk ≡ drop a (todo d)
  pub stores : r.answer.value ≡ length (todo d) - length (todo r.disk)
  pub spends : r.answer.second ≡ ending_number spent → a < length (todo d)
  pub stops : r.answer.second ≢ ending_number spent → length (todo d) ≤ a
  pub drains : r.answer.second ≡ ending_number drained → queued r.disk ≡ []
  pub shows : r.answer.second ≡ ending_number drained → persistent r.disk ≡ committed r.disk
  pub committed-same : committed r.disk ≡ committed d
  pub view-same : (v : ℕ) → v ≢ 5 → view r.disk v ≡ view d v
  pub inside : AllBytes d.queue_data → AllIn (segments_in d.card) (todo d)

ending-number : (e x : Ending) → ending_number e ≡ ending_number x → e ≡ x
unfolding ending_number
ending-number drained drained h = refl
ending-number drained full h = absurd (omega arith)
ending-number drained spent h = absurd (omega arith)
ending-number full drained h = absurd (omega arith)
ending-number full full h = refl
ending-number full spent h = absurd (omega arith)
ending-number spent drained h = absurd (omega arith)
ending-number spent full h = absurd (omega arith)
ending-number spent spent h = refl

module _ (a : ℕ) (d : Disk) (k : Right d) where
  flush-ended : Ended (segments_in d.card) a 0 (flow_of d)
  flush-ended = ended a (segments_in d.card) 0 (flow_of d) (flow-ready d k)

  flush-spends : (flushed a d).ending ≡ spent → a < length (todo d)
  unfolding flushed todo
  flush-spends h = flush-ended.spends h

  flush-stops : (flushed a d).ending ≢ spent → length (todo d) ≤ a
  unfolding flushed todo
  flush-stops h = flush-ended.stops h

sound-disk : (a : ℕ) (d : Disk) → refusal (flush a) d ≡ 0 → Right d
unfolding questions
sound-disk a d h = right d (yes-all (flush a) d h 0) (yes-all (flush a) d h 1)

pub flushes : (a : ℕ) (d : Disk) → refusal (flush a) d ≡ 0 → Flush a d (perform (flush a) d)
unfolding accepted
flushes a d h =
    let k = sound-disk a d h in
    let s = flush-stored a d k in
    let e = (flushed a d).ending in
    rw (perform-accepted (flush a) d h) (record {
      card = s.card;
      onward = s.onward;
      stores = reported a d k;
      spends = λ n. flush-spends a d k (ending-number e spent n);
      stops = λ n. flush-stops a d k (λ x. n (ap ending_number x));
      drains = λ n. drained-queue a d k (ending-number e drained n);
      shows = λ n. drained-persistent a d k (ending-number e drained n) ∙ sym (committed-stays a d k);
      committed-same = committed-stays a d k;
      view-same = λ v n. view-stays a d k v n;
      inside = todo-in d k;
    })

pub reported-stores : ReportedStores
reported-stores a d h = (flushes a d h).stores

pub cut-after : CutAfter
unfolding accepted questions
cut-after a k d h l =
    let r = sound-disk a d h in
    let m : k ≤ (flushed a d).stores = rw (perform-accepted (flush a) d h) at l in
    let n = leb-true a 65535 (yes-all (flush a) d h 2) in
    let s = flush-stored a d r in
    cut_left a k d r m ∙ sym (ap (λ (x : Result). x.disk.card) (perform-accepted (flush k) d (flush-accepted k d r (reader-order d r (yes-all (flush a) d h 1)) (omega (arith, s.stores)))))
