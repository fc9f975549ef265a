-- By the cases of the reply. Assumes nothing.
use Rattle.answers.specs.Answers.{flush_answer}
use Rattle.inspect.proofs.Asking.{exit_is}
use Rattle.commands.proofs.Breaking.{flush-broken, flush-not-broken}
use Rattle.commands.proofs.cutting.broken_flush.Goals as goal

pub returns-in_err-flushed : goal.returns-in_err-flushed
unfolding flush_answer
returns-in_err-flushed c =
    rw (exit_is _ _ c.from_residual.ensures.1) (flush-not-broken _ _ _ _ _ _ (rw c.cut_allowance-allowance.ensures at c.in_err-flushed.ensures))

pub returns : goal.returns
unfolding flush_answer
returns c =
    flush-broken _ _ _ _ _ _ _ (rw c.cut_allowance-allowance.ensures at c.in_ok-flushed.ensures)
