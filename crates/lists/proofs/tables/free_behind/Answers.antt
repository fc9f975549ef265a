-- The end's node is no number. Assumes nothing.
use Rattle.lists.proofs.Basic.{eq-true, eqb-false}
use Rattle.lists.proofs.tables.free_behind.Goals as goal

pub returns-then-y : goal.returns-then-y
returns-then-y c = rw (← c.next_of-y.ensures, eq-true _ _ c.if-y.true)

pub returns-else-y : goal.returns-else-y
returns-else-y c = rw (← c.next_of-y.ensures, eqb-false _ _ c.if-y.false)
