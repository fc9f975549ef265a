-- Predecessor 0 is none; another is a block, whose owner the table names. Assumes nothing.
use borrow.Author.Rules.{rules}
use Rattle.lists.proofs.Basic.{eqb-false}
use Rattle.lists.proofs.Lookup.{on-said}
use Rattle.calls.proofs.ranges.follows.Goals as goal

pub returns-else-p-eq0 : goal.returns-else-p-eq0
returns-else-p-eq0 c rs sh = rw (eqb-false _ 0 c.if-p-eq0.false) (on-said c.is_on.ensures rs sh (search rules) (search rules))
