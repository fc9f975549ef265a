-- Node 254 before the end's is no number. Assumes nothing.
use Rattle.lists.proofs.Basic.{eq-true, eqb-false}
use Rattle.lists.proofs.tables.last_free.Goals as goal

pub returns-then-x : goal.returns-then-x
returns-then-x c = record { answer = rw (← c.prev_of-x.ensures, eq-true _ _ c.if-x.true) }

pub returns-else-x : goal.returns-else-x
returns-else-x c = record { answer = rw (← c.prev_of-x.ensures, eqb-false _ _ c.if-x.false) }
