-- The loop's invariant: the listing from where it stands is the listing whole. Assumes nothing.
use mathlib.Core.Path.{sym, ◌∙◌, subst}
use Prim.Native.Nat.{◌+◌, ◌%◌, ◌≤◌, ◌<◌}
use native.Mathlib.Omega.{arith}
use Rattle.card_log.specs.Entry.{Entry}
use Rattle.card_log.specs.Card.{Written, segments_in}
use Rattle.disk.specs.Record.{record_in}
use Rattle.calls.proofs.Draining.{data-size, entry-met}
use Rattle.driver.specs.promises.Listing.{HeadListable}
use Rattle.driver.proofs.Queueing.{lists-met, going_start, going-head, going_on, whole-todo, whole-ended, whole-drained}
use Rattle.driver.proofs.queue.list_queue.Goals as goal

pub loop-gone-init : goal.loop-gone-init
loop-gone-init c =
    let a = c.args in
    (c.requires.0, rw c.done-done.ensures (going_start a.card.now a.queue_data.now (record_in a.rec.now) a.behind a.most a.stores.now c.requires.0))

pub list_head-requires : goal.list_head-requires
list_head-requires c =
    let l = c.loop-gone in
    let a = c.args in
    let r = record_in a.rec.now in
    let q = c.queue_entry-queued in
    let h = c.head-first in
    let x = entry-met a.queue_data.now r _ l.gone q.result.member q.result.entry h.ensures q.ensures.0 q.ensures.1 in
    let n : l.gone < r.ring.len = omega (arith, c.len-entries.ensures) in (
      subst (λ (e : Entry Written). HeadListable (segments_in a.card.now) l.place e l.done) (sym x)
          (going-head a.card.now a.queue_data.now r a.behind a.most a.stores.now l.stores l.place l.done l.at l.gone l.invariant.1 n l.invariant.0),
      data-size a.queue_data.now ((h.result + l.gone) % 32) l.invariant.0.queue_data (omega arith),
      l.invariant.1.most,
      omega (arith, c.requires.1, l.invariant.1.size),
    )

pub returns-in-Break : goal.returns-in-Break
returns-in-Break c =
    let l = c.loop-gone in
    let a = c.args in
    let r = record_in a.rec.now in
    let q = c.queue_entry-queued in
    let h = c.head-first in
    let x = entry-met a.queue_data.now r _ l.gone q.result.member q.result.entry h.ensures q.ensures.0 q.ensures.1 in
    let n : l.gone < r.ring.len = omega (arith, c.len-entries.ensures) in
    let k = c.list_head in
    λ j. whole-todo a.card.now a.queue_data.now r a.behind a.most a.stores.now j l.invariant.0.place
    ∙ whole-ended a.card.now a.queue_data.now r a.behind a.most a.stores.now l.stores l.place l.done l.at l.gone l.invariant.1 n _ _
    (rw c.in-Break.is at (lists-met (segments_in a.card.now) l.place _ _ l.done a.most l.at l.stores k.result _ x k.ensures))

pub loop-gone-preserved : goal.loop-gone-preserved
loop-gone-preserved c =
    let l = c.loop-gone in
    let a = c.args in
    let r = record_in a.rec.now in
    let q = c.queue_entry-queued in
    let h = c.head-first in
    let x = entry-met a.queue_data.now r _ l.gone q.result.member q.result.entry h.ensures q.ensures.0 q.ensures.1 in
    let n : l.gone < r.ring.len = omega (arith, c.len-entries.ensures) in
    let k = c.list_head in (
      l.invariant.0,
      going_on a.card.now a.queue_data.now r a.behind a.most a.stores.now l.stores l.place l.done l.at l.gone l.invariant.1 n _ _ _ (omega arith)
          (rw c.in-Continue.is at (lists-met (segments_in a.card.now) l.place _ _ l.done a.most l.at l.stores k.result _ x k.ensures)),
    )

pub returns : goal.returns
returns c =
    let l = c.loop-gone in
    let a = c.args in
    let r = record_in a.rec.now in
    let n : r.ring.len ≤ l.gone = omega (arith, c.len-entries.ensures) in
    λ j. whole-todo a.card.now a.queue_data.now r a.behind a.most a.stores.now j l.invariant.0.place
    ∙ whole-drained a.card.now a.queue_data.now r a.behind a.most a.stores.now l.stores l.place l.done l.at l.gone l.invariant.1 n
