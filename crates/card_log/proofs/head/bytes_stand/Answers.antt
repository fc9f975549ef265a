-- The invariant: the bytes from i on stand exactly if all of them do. Assumes nothing.
use mathlib.Core.Path.{sym, ◌∙◌}
use native.Mathlib.Omega.{arith}
use Rattle.card_log.proofs.Begun.{left-all, left-same, left_other, left-none}
use Rattle.card_log.proofs.head.bytes_stand.Goals as goal

pub loop-i-init : goal.loop-i-init
loop-i-init c = (omega arith, left-all c.args.card.now c.args.at c.args.bytes.now c.args.n)

pub overflow_add-at : goal.overflow_add-at
overflow_add-at c = omega arith

pub bounds-card-at : goal.bounds-card-at
bounds-card-at c = omega arith

pub bounds-bytes-i : goal.bounds-bytes-i
bounds-bytes-i c = omega arith

pub returns-then-card-at : goal.returns-then-card-at
returns-then-card-at c =
    let s = c.args in
    let l = c.loop-i in
    sym (l.invariant.1 ∙ left_other s.card.now s.at s.bytes.now s.n l.i c.loop-i-test.true c.if-card-at.true)

pub overflow_add-i : goal.overflow_add-i
overflow_add-i c = omega arith

pub loop-i-smaller : goal.loop-i-smaller
loop-i-smaller c = omega arith

pub loop-i-preserved : goal.loop-i-preserved
loop-i-preserved c =
    let s = c.args in
    let l = c.loop-i in
    (omega arith, l.invariant.1 ∙ left-same s.card.now s.at s.bytes.now s.n l.i c.loop-i-test.true c.if-card-at.false)

pub returns : goal.returns
returns c =
    let s = c.args in
    let l = c.loop-i in
    sym (l.invariant.1 ∙ left-none s.card.now s.at s.bytes.now s.n l.i c.loop-i-test.false)
