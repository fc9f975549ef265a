-- The loop's invariant: the record is as it was, and the flush from where it stands is the flush whole. Assumes nothing.
use mathlib.Core.Path.{◌≡◌, refl, sym, subst}
use Prim.Native.Nat.{◌+◌, ◌%◌}
use native.Mathlib.Omega.{arith}
use Rattle.disk.specs.Record.{record_in}
use Rattle.card_log.specs.Entry.{Entry}
use Rattle.card_log.specs.Card.{Written}
use Rattle.calls.specs.promises.Flushing.{HeadReady}
use Rattle.calls.proofs.Storing.{few-stores}
use Rattle.calls.proofs.Draining.{data_at, data-size, entry-met, heads-met, going_start, going-head, going_on, flushes-full, flushes-spent, flushes-drained}
use Rattle.calls.proofs.drain.drain.Goals as goal

pub loop-gone-init : goal.loop-gone-init
loop-gone-init c =
    let a = c.args in
    (refl, c.requires, rw c.done-done.ensures (going_start a.card.now a.queue_data.now (record_in a.rec.now) a.allowance a.behind c.requires))

pub store_head-requires : goal.store_head-requires
store_head-requires c =
    let a = c.args in
    let r = record_in a.rec.now in
    let l = c.loop-gone in
    let q = c.queue_entry-queued in
    let x = entry-met a.queue_data.now r _ l.gone q.result.member q.result.entry c.head-first.ensures (rw l.invariant.0 at q.ensures.0) (rw l.invariant.0 at q.ensures.1) in (
      subst (λ (e : Entry Written). HeadReady l.card l.place e l.done) (sym x) (going-head a.card.now a.queue_data.now r a.allowance a.behind l.card l.place l.done l.left l.gone l.invariant.2 (omega (arith, c.len-entries.ensures))),
      data-size a.queue_data.now ((c.head-first.result + l.gone) % 32) l.invariant.1.queue_data (omega arith),
    )

pub returns-in-Full : goal.returns-in-Full
returns-in-Full c =
    let a = c.args in
    let r = record_in a.rec.now in
    let l = c.loop-gone in
    let q = c.queue_entry-queued in
    let x = entry-met a.queue_data.now r _ l.gone q.result.member q.result.entry c.head-first.ensures (rw l.invariant.0 at q.ensures.0) (rw l.invariant.0 at q.ensures.1) in
    rw (c.ended.ensures.told, c.ended.ensures.left, l.invariant.0)
    (flushes-full a.card.now a.queue_data.now r a.allowance a.behind l.invariant.1 l.card l.place l.done l.left l.gone l.invariant.2 (omega (arith, c.len-entries.ensures)) _
    (rw c.in-Full.is at (heads-met l.card l.place _ _ l.done l.left c.store_head.result _ x c.store_head.ensures)))

pub ended-requires-in-Spent : goal.ended-requires-in-Spent
ended-requires-in-Spent c =
    let a = c.args in
    let r = record_in a.rec.now in
    let l = c.loop-gone in
    let q = c.queue_entry-queued.result in
    let i = (c.head-first.result + l.gone) % 32 in
    let h = rw c.in-Spent.is at c.store_head.ensures in
    let f = few-stores (data_at a.queue_data.now i) (data-size a.queue_data.now i l.invariant.1.queue_data (omega arith)) q.member q.entry l.place in
    rw l.invariant.0 (l.invariant.2.among, l.invariant.1.room, l.invariant.1.head, omega (arith, h.0, f))

pub returns-in-Spent : goal.returns-in-Spent
returns-in-Spent c =
    let a = c.args in
    let r = record_in a.rec.now in
    let l = c.loop-gone in
    let q = c.queue_entry-queued in
    let x = entry-met a.queue_data.now r _ l.gone q.result.member q.result.entry c.head-first.ensures (rw l.invariant.0 at q.ensures.0) (rw l.invariant.0 at q.ensures.1) in
    rw (c.ended-in-Spent.ensures.told, c.ended-in-Spent.ensures.left, l.invariant.0)
    (flushes-spent a.card.now a.queue_data.now r a.allowance a.behind l.invariant.1 l.card l.place l.done l.left l.gone l.invariant.2 (omega (arith, c.len-entries.ensures)) _ _
    (rw c.in-Spent.is at (heads-met l.card l.place _ _ l.done l.left c.store_head.result _ x c.store_head.ensures)))

pub loop-gone-preserved : goal.loop-gone-preserved
loop-gone-preserved c =
    let a = c.args in
    let r = record_in a.rec.now in
    let l = c.loop-gone in
    let q = c.queue_entry-queued in
    let x = entry-met a.queue_data.now r _ l.gone q.result.member q.result.entry c.head-first.ensures (rw l.invariant.0 at q.ensures.0) (rw l.invariant.0 at q.ensures.1) in (
      l.invariant.0,
      l.invariant.1,
      going_on a.card.now a.queue_data.now r a.allowance a.behind l.card l.place l.done l.left l.gone l.invariant.2 (omega (arith, c.len-entries.ensures)) _ _ _ (omega arith)
          (rw c.in-Drained.is at (heads-met l.card l.place _ _ l.done l.left c.store_head.result _ x c.store_head.ensures)),
    )

pub returns : goal.returns
returns c =
    let a = c.args in
    let r = record_in a.rec.now in
    let l = c.loop-gone in
    let e : c.len-entries.result ≡ l.gone = omega arith in
    rw (c.ended-2.ensures.told, c.ended-2.ensures.left, e, l.invariant.0) (flushes-drained a.card.now a.queue_data.now r a.allowance a.behind l.invariant.1 l.card l.place l.done l.left l.gone l.invariant.2 (omega (arith, c.len-entries.ensures)))
