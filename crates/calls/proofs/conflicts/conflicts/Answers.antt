-- The answers are those of questions 1, 3 and 5. Assumes nothing.
use mathlib.Core.Path.{refl, sym, ◌∙◌}
use Rattle.disk.specs.Disk.{disk_in}
use Rattle.disk.specs.Call.{conflict_count, destination}
use Rattle.disk.specs.Questions.{questions, refusal}
use Rattle.answers.specs.Answers.{number_answer}
use Rattle.inspect.specs.promises.Inspect.{checked}
use Rattle.inspect.proofs.Asking.{exit_asked}
use Rattle.calls.proofs.Refusing.{number-refused, first-refused}
use Rattle.calls.proofs.Checking.{conflicts-outside, conflicts-given}
use Rattle.calls.proofs.conflicts.conflicts.Goals as goal

pub returns-in_err-check : goal.returns-in_err-check
unfolding refusal questions destination
returns-in_err-check c =
    let a = c.args in
    let d = disk_in a.card.now a.queue_data.now a.journal_data.now a.rec.now in
    first-refused number_answer number-refused (conflict_count a.window) d (checked d) _ tt refl _ _ c.from_residual.ensures.1 c.in_err-check.ensures

pub returns-in_err-ask : goal.returns-in_err-ask
returns-in_err-ask c =
    let a = c.args in
    rw (exit_asked _ _ _ c.from_residual-in_err-ask.ensures.1 c.in_err-ask.ensures.0)
    (conflicts-outside (disk_in a.card.now a.queue_data.now a.journal_data.now a.rec.now) a.window c.in_ok-check.ensures (sym c.is_window.ensures ∙ c.in_err-ask.ensures.1))

pub returns : goal.returns
returns c =
    let a = c.args in
    rw (c.from.ensures, c.conflicts.ensures)
    (conflicts-given (disk_in a.card.now a.queue_data.now a.journal_data.now a.rec.now) a.window c.in_ok-check.ensures (sym c.is_window.ensures ∙ c.in_ok-ask.ensures))
