-- By the cases of the reply; the number fits a byte. Assumes nothing.
use mathlib.Core.Path.{sym}
use native.Mathlib.Omega.{arith}
use Rattle.answers.specs.Answers.{number_answer}
use Rattle.commands.proofs.Ranges.{behind-most}
use Rattle.commands.proofs.Showing.{behind-is}
use Rattle.commands.proofs.show.block_after.Goals as goal

pub overflow_cast-result : goal.overflow_cast-result
overflow_cast-result c = omega (arith, behind-most _ _ _ _ _ (rw c.in-Ok.is at c.next.ensures))

pub returns-in-Ok : goal.returns-in-Ok
unfolding number_answer
returns-in-Ok c = sym (behind-is _ _ _ _ _ (rw c.in-Ok.is at c.next.ensures))

pub returns-in-Err : goal.returns-in-Err
unfolding number_answer
returns-in-Err c = sym (behind-is _ _ _ _ _ (rw c.in-Err.is at c.next.ensures))
