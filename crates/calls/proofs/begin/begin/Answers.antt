-- Questions 1 and 3 are those of `check`; the unit's number, the window and whether the unit is open are tested behind them. Assumes nothing.
use mathlib.Core.Path.{refl, sym, ◌∙◌}
use borrow.Author.Tests.{not-true, not-false}
use Rattle.disk.specs.Disk.{disk_in}
use Rattle.disk.specs.Call as Call
use Rattle.disk.specs.Call.{destination}
use Rattle.disk.specs.Questions.{questions, refusal}
use Rattle.disk.specs.Perform.{opening}
use Rattle.answers.specs.Answers.{reply_answer}
use Rattle.inspect.specs.promises.Inspect.{checked}
use Rattle.inspect.proofs.Asking.{exit_asked}
use Rattle.calls.proofs.Refusing.{reply-refused, first-refused}
use Rattle.calls.proofs.Checking.{begin-outside, begin-nowhere, begin-twice, begin-opens}
use Rattle.calls.proofs.begin.begin.Goals as goal

pub returns-in_err-check : goal.returns-in_err-check
unfolding refusal questions destination
returns-in_err-check c =
    let a = c.args in
    let d = disk_in a.card.now a.queue_data.now a.journal_data.now a.rec.now in
    first-refused reply_answer reply-refused (Call.begin a.unit a.window) d (checked d) _ tt refl _ _ c.from_residual.ensures.1 c.in_err-check.ensures

pub returns-in_err-ask : goal.returns-in_err-ask
returns-in_err-ask c =
    let a = c.args in
    rw (exit_asked _ _ _ c.from_residual-in_err-ask.ensures.1 c.in_err-ask.ensures.0)
    (begin-outside (disk_in a.card.now a.queue_data.now a.journal_data.now a.rec.now) a.unit a.window c.in_ok-check.ensures (sym c.is_unit.ensures ∙ c.in_err-ask.ensures.1))

pub returns-in_err-ask-2 : goal.returns-in_err-ask-2
returns-in_err-ask-2 c =
    let a = c.args in
    rw (exit_asked _ _ _ c.from_residual-in_err-ask-2.ensures.1 c.in_err-ask-2.ensures.0)
    (begin-nowhere (disk_in a.card.now a.queue_data.now a.journal_data.now a.rec.now) a.unit a.window c.in_ok-check.ensures (sym c.is_unit.ensures ∙ c.in_ok-ask.ensures)
    (sym c.is_window.ensures ∙ c.in_err-ask-2.ensures.1))

pub returns-in_err-ask-3 : goal.returns-in_err-ask-3
returns-in_err-ask-3 c =
    let a = c.args in
    rw (exit_asked _ _ _ c.from_residual-in_err-ask-3.ensures.1 c.in_err-ask-3.ensures.0)
    (begin-twice (disk_in a.card.now a.queue_data.now a.journal_data.now a.rec.now) a.unit a.window c.in_ok-check.ensures (sym c.is_unit.ensures ∙ c.in_ok-ask.ensures)
    (sym c.is_window.ensures ∙ c.in_ok-ask-2.ensures) c.is_open.result c.is_open.ensures (not-false _ c.in_err-ask-3.ensures.1))

pub returns : goal.returns
unfolding opening
returns c =
    let a = c.args in
    rw c.empty.ensures
    (begin-opens (disk_in a.card.now a.queue_data.now a.journal_data.now a.rec.now) a.unit a.window c.in_ok-check.ensures (sym c.is_unit.ensures ∙ c.in_ok-ask.ensures)
    (sym c.is_window.ensures ∙ c.in_ok-ask-2.ensures) c.is_open.result c.is_open.ensures (not-true _ c.in_ok-ask-3.ensures))
