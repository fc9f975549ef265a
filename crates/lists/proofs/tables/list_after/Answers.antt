-- The start's node is the predecessor of the first list. Assumes nothing.
use mathlib.Core.Path.{◌∙◌}
use Rattle.lists.proofs.Basic.{eqb-false, eq-true}
use Rattle.lists.proofs.tables.list_after.Goals as goal

pub returns-then-list-eq0 : goal.returns-then-list-eq0
returns-then-list-eq0 c =
    let e = eq-true c.args.list 0 c.if-list-eq0.true in
    record { answer = c.list_behind.ensures ∙ rw e }

pub returns-else-list-eq0 : goal.returns-else-list-eq0
returns-else-list-eq0 c =
    let e = eqb-false c.args.list 0 c.if-list-eq0.false in
    record { answer = c.list_behind-else-list-eq0.ensures ∙ rw (c.list_node.ensures, e) }
