-- The questions in their order. Assumes nothing.
use mathlib.Core.Path.{refl, sym, ◌∙◌}
use native.Mathlib.Omega.{arith}
use borrow.Author.Rules.{rules}
use Rattle.lists.proofs.Lookup.{taken-said}
use Rattle.lists.proofs.Basic.{eqb-false}
use Rattle.disk.specs.Record.{record_in}
use Rattle.calls.specs.promises.Giving.{none0}
use Rattle.inspect.proofs.Asking.{exit_asked}
use Rattle.calls.proofs.Giving.{none_free, put-not-taken, put-elsewhere, put-none, put_some}
use Rattle.calls.proofs.give.put_on.Goals as goal

pub returns-in_err-ask : goal.returns-in_err-ask
returns-in_err-ask c rs sh =
    let x = c.args in
    rw (exit_asked _ _ _ c.from_residual.ensures.1 c.in_err-ask.ensures.0)
    (put-not-taken x.s x.l x.p (none0 x.free) (record_in x.rec.now) rs (sym (taken-said c.is_taken.ensures rs sh (search rules)) ∙ c.in_err-ask.ensures.1))

pub returns-in_err-ask-2 : goal.returns-in_err-ask-2
returns-in_err-ask-2 c rs sh =
    let x = c.args in
    rw (exit_asked _ _ _ c.from_residual-in_err-ask-2.ensures.1 c.in_err-ask-2.ensures.0)
    (put-elsewhere x.s x.l x.p (none0 x.free) (record_in x.rec.now) rs (sym (taken-said c.is_taken.ensures rs sh (search rules)) ∙ c.in_ok-ask.ensures) (sym (c.follows.ensures rs sh) ∙ c.in_err-ask-2.ensures.1))

pub returns-in_err-b : goal.returns-in_err-b
returns-in_err-b c rs sh =
    let x = c.args in
    let e = c.in_err-b.ensures in
    rw (exit_asked _ _ _ c.from_residual-in_err-b.ensures.1 (none_free _ _ e.ok_part e.value), e.ok_part)
    (put-none x.s x.l x.p 0 (record_in x.rec.now) rs (sym (taken-said c.is_taken.ensures rs sh (search rules)) ∙ c.in_ok-ask.ensures) (sym (c.follows.ensures rs sh) ∙ c.in_ok-ask-2.ensures) refl)

pub put_block-requires : goal.put_block-requires
put_block-requires c =
    let h = c.requires in
    let g = rw c.in_ok-b.ensures.ok_part at h.4 in
    (h.0, h.1, g.0, g.1, h.5)

pub returns : goal.returns
returns c rs sh =
    let x = c.args in
    let g = rw c.in_ok-b.ensures.ok_part at c.requires.4 in
    rw c.in_ok-b.ensures.ok_part
    (put_some x.s x.l x.p c.in_ok-b.b (record_in x.rec.now) rs (sym (taken-said c.is_taken.ensures rs sh (search rules)) ∙ c.in_ok-ask.ensures) (sym (c.follows.ensures rs sh) ∙ c.in_ok-ask-2.ensures)
    c.put_block.result (record_in c.put_block.new.rec) (rw (eqb-false c.in_ok-b.b 0 (λ z. omega (arith, g.0)))) c.put_block.ensures)
