-- `look` answers the questions 1, 3 and 4; behind them the tables show the view, whose page is put where it fits. Assumes nothing.
use Rattle.disk.specs.Call.{lent_to}
use Rattle.answers.specs.Answers.{number_answer}
use Rattle.inspect.proofs.Asking.{exit_asked}
use Rattle.calls.proofs.Refusing.{number-refused, look-unseen}
use Rattle.calls.proofs.Lookups.{page-short, page-given}
use Rattle.calls.proofs.page.page.Goals as goal

pub returns-in_err-look_view : goal.returns-in_err-look_view
unfolding lent_to
returns-in_err-look_view c = look-unseen number_answer number-refused _ _ _ _ _ c.from_residual.ensures.1 c.in_err-look_view.ensures

pub returns-in_err-ask : goal.returns-in_err-ask
returns-in_err-ask c =
    rw (exit_asked _ _ _ c.from_residual-in_err-ask.ensures.1 c.in_err-ask.ensures.0)
    (page-short _ _ _ _ c.in_ok-look_view.ensures _ c.page_length-length.ensures c.in_err-ask.ensures.1)

pub returns : goal.returns
returns c =
    page-given _ _ _ _ c.in_ok-look_view.ensures _ c.page_length-length.ensures c.in_ok-ask.ensures _ _ c.put_page.ensures.of_shown
