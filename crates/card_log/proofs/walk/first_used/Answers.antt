-- The invariant: up to h no segment is used. Assumes nothing.
use mathlib.Core.Path.{refl, ◌∙◌}
use native.Mathlib.Omega.{arith}
use borrow.Author.Tests.{lt-ltb, le-ltb}
use Rattle.card_log.proofs.Walking.{empty-none, empty-used, empty-more}
use Rattle.card_log.proofs.walk.first_used.Goals as goal

pub loop-h-init : goal.loop-h-init
loop-h-init c = (omega arith, omega arith, refl)

pub overflow_mul-h : goal.overflow_mul-h
overflow_mul-h c = omega arith

pub overflow_add-h : goal.overflow_add-h
overflow_add-h c = omega arith

pub bounds-card-h : goal.bounds-card-h
bounds-card-h c = omega arith

pub returns-then-card-h-ne0 : goal.returns-then-card-h-ne0
returns-then-card-h-ne0 c =
    let s = c.args in
    let l = c.loop-h in
    rw (lt-ltb l.h s.n c.loop-h-test.true) (l.invariant.2 ∙ empty-used s.card.now l.h s.n c.loop-h-test.true c.if-card-h-ne0.true)

pub overflow_add-h-in-loop-h : goal.overflow_add-h-in-loop-h
overflow_add-h-in-loop-h c = omega arith

pub loop-h-smaller : goal.loop-h-smaller
loop-h-smaller c = omega arith

pub loop-h-preserved : goal.loop-h-preserved
loop-h-preserved c =
    let s = c.args in
    let l = c.loop-h in
    (omega arith, omega arith, l.invariant.2 ∙ empty-more s.card.now l.h s.n c.loop-h-test.true c.if-card-h-ne0.false)

pub returns : goal.returns
returns c =
    let s = c.args in
    let l = c.loop-h in
    rw (le-ltb s.n s.n (omega arith)) (l.invariant.2 ∙ empty-none s.card.now l.h s.n c.loop-h-test.false)
