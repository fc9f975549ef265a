-- `look` answers the questions 1, 3 and 4; behind them the tables show the view, and what they answer is what the view says. Assumes nothing.
use mathlib.Core.Path.{sym, ◌∙◌}
use Rattle.lists.proofs.Lookup.{block-said, taken-said}
use Rattle.disk.specs.Call.{lent_to}
use Rattle.answers.specs.Answers.{number_answer}
use Rattle.inspect.proofs.Asking.{exit_asked}
use Rattle.calls.proofs.Refusing.{number-refused, look-unseen}
use Rattle.calls.proofs.Lookups.{next-out, next-untaken, next-elsewhere, next-found}
use Rattle.calls.proofs.next.next.Goals as goal

pub returns-in_err-look_view : goal.returns-in_err-look_view
unfolding lent_to
returns-in_err-look_view c = look-unseen number_answer number-refused _ _ _ _ _ c.from_residual.ensures.1 c.in_err-look_view.ensures

pub returns-in_err-ask : goal.returns-in_err-ask
returns-in_err-ask c =
    rw (exit_asked _ _ _ c.from_residual-in_err-ask.ensures.1 c.in_err-ask.ensures.0)
    (next-out _ _ _ _ _ c.in_ok-look_view.ensures (sym c.is_position.ensures ∙ c.in_err-ask.ensures.1))

pub returns-in_err-ask-2 : goal.returns-in_err-ask-2
returns-in_err-ask-2 c =
    rw (exit_asked _ _ _ c.from_residual-in_err-ask-2.ensures.1 c.in_err-ask-2.ensures.0)
    (next-untaken _ _ _ _ _ c.in_ok-look_view.ensures (sym c.is_position.ensures ∙ c.in_ok-ask.ensures) _ (taken-said c.is_taken.ensures) c.in_err-ask-2.ensures.1)

pub returns-in_err-ask-3 : goal.returns-in_err-ask-3
returns-in_err-ask-3 c =
    rw (exit_asked _ _ _ c.from_residual-in_err-ask-3.ensures.1 c.in_err-ask-3.ensures.0)
    (next-elsewhere _ _ _ _ _ c.in_ok-look_view.ensures (sym c.is_position.ensures ∙ c.in_ok-ask.ensures) _ (taken-said c.is_taken.ensures) c.in_ok-ask-2.ensures _ c.follows.ensures c.in_err-ask-3.ensures.1)

pub returns : goal.returns
returns c =
    rw c.from.ensures
    (next-found _ _ _ _ _ c.in_ok-look_view.ensures (sym c.is_position.ensures ∙ c.in_ok-ask.ensures) _ (taken-said c.is_taken.ensures) c.in_ok-ask-2.ensures _ c.follows.ensures c.in_ok-ask-3.ensures _ (block-said c.block_after.ensures))
