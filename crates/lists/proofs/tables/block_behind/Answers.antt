-- Every node above 64 is a list's or the end. Assumes nothing.
use Rattle.lists.proofs.Basic.{le-true, gt-false}
use Rattle.lists.proofs.tables.block_behind.Goals as goal

pub returns-then-y-le-BLOCKS : goal.returns-then-y-le-BLOCKS
returns-then-y-le-BLOCKS c = rw (← c.next_of-y.ensures, le-true _ _ c.if-y-le-BLOCKS.true)

pub returns-else-y-le-BLOCKS : goal.returns-else-y-le-BLOCKS
returns-else-y-le-BLOCKS c = rw (← c.next_of-y.ensures, gt-false _ _ c.if-y-le-BLOCKS.false)
