-- Stream 0 is open, another as its unit is. Assumes nothing.
use Rattle.calls.proofs.Entering.{zero-entered, unit-entered}
use Rattle.calls.proofs.enter.enter.Goals as goal

pub returns-then-s-eq0 : goal.returns-then-s-eq0
returns-then-s-eq0 c = rw c.if-s-eq0.true (zero-entered _ _ _ c.look_committed.ensures)

pub returns-else-s-eq0 : goal.returns-else-s-eq0
returns-else-s-eq0 c = unit-entered _ _ _ _ c.if-s-eq0.false c.enter_unit.ensures
