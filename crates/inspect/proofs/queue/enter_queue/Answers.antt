-- The invariant: the entries passed are lawful, and those that are left lead from the reader kept to where the whole queue leads. Assumes nothing.
use mathlib.Core.Path.{sym, ◌∙◌}
use native.Mathlib.Omega.{arith}
use borrow.Author.Tests.{not-true, not-false}
use Rattle.card_log.specs.promises.Feed.{memory}
use Rattle.disk.specs.Record.{record_in}
use Rattle.inspect.proofs.Queueing.{fed-none, fed-unlawful, fed-refused, fed-more, fed-all}
use Rattle.inspect.proofs.queue.enter_queue.Goals as goal

pub loop-k-init : goal.loop-k-init
loop-k-init c =
    let s = c.args in
    (c.head-first.ensures, omega arith, λ x h. fed-none (record_in s.rec.now) x s.run (memory s.nodes.now s.members.now) h)

pub returns-then-not-is_legal : goal.returns-then-not-is_legal
returns-then-not-is_legal c =
    λ x h.
    let l = c.loop-k in
    let a = c.is_legal in
    let e = rw (c.queue_entry-queued.ensures.0, c.queue_entry-queued.ensures.1, l.invariant.0) at a.ensures in
    fed-unlawful _ x l.k _ _ (l.invariant.2 x h) (omega arith) (sym e ∙ not-true a.result c.if-not-is_legal.true-raw)

pub feed-requires : goal.feed-requires
feed-requires c =
    let a = c.is_legal in
    (omega arith, omega arith, sym a.ensures ∙ not-false a.result c.if-not-is_legal.false-raw)

pub returns-in-Refused : goal.returns-in-Refused
returns-in-Refused c =
    λ x h.
    let f = c.feed in
    let l = c.loop-k in
    let a = c.is_legal in
    let w = l.invariant.2 x h in
    let e = f.ensures.reads w.reader w.kept (sym a.ensures ∙ not-false a.result c.if-not-is_legal.false-raw) (omega arith) in
    fed-refused _ x l.k _ _ w (omega arith) (rw (c.in-Refused.is, c.queue_entry-queued.ensures.0, c.queue_entry-queued.ensures.1, l.invariant.0) at e)

pub loop-k-preserved : goal.loop-k-preserved
loop-k-preserved c =
    let f = c.feed in
    let l = c.loop-k in
    let a = c.is_legal in
    let legal = sym a.ensures ∙ not-false a.result c.if-not-is_legal.false-raw in
    let told = c.in-Run.is in
    let t = memory f.new.nodes f.new.members in (
      l.invariant.0,
      omega (arith, rw told at f.ensures.short),
      λ x h.
          let w = l.invariant.2 x h in
          let (y, e, k) = rw (told, c.queue_entry-queued.ensures.0, c.queue_entry-queued.ensures.1, l.invariant.0) at (f.ensures.reads w.reader w.kept legal (omega arith)) in
          fed-more _ x l.k _ _ w (omega arith) (rw (c.queue_entry-queued.ensures.0, c.queue_entry-queued.ensures.1, l.invariant.0) at legal) _ t y e k,
    )

pub returns : goal.returns
returns c = λ x h. fed-all _ x _ _ _ (c.loop-k.invariant.2 x h) (omega arith)
