-- By the test of the range. Assumes nothing.
use Rattle.lists.proofs.Basic.{le-true, gt-false}
use Rattle.commands.specs.Cut.{cut_allowance}
use Rattle.commands.proofs.cutting.cut_allowance.Goals as goal

pub returns-then-allowance-le-ALLOWANCE : goal.returns-then-allowance-le-ALLOWANCE
unfolding cut_allowance
returns-then-allowance-le-ALLOWANCE c = rw (le-true _ 65535 c.if-allowance-le-ALLOWANCE.true) c.min.ensures

pub returns-else-allowance-le-ALLOWANCE : goal.returns-else-allowance-le-ALLOWANCE
unfolding cut_allowance
returns-else-allowance-le-ALLOWANCE c = rw (gt-false _ 65535 c.if-allowance-le-ALLOWANCE.false)
