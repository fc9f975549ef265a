-- A list's node is the predecessor of its first block. Assumes nothing.
use mathlib.Core.Path.{◌∙◌}
use Rattle.lists.proofs.Basic.{eqb-false, eq-true}
use Rattle.lists.proofs.tables.block_after.Goals as goal

pub returns-then-predecessor-eq0 : goal.returns-then-predecessor-eq0
returns-then-predecessor-eq0 c =
    let a = c.args in
    let e = eq-true a.predecessor 0 c.if-predecessor-eq0.true in
    record { answer = c.block_behind.ensures ∙ rw (c.list_node.ensures, e) }

pub returns-else-predecessor-eq0 : goal.returns-else-predecessor-eq0
returns-else-predecessor-eq0 c =
    let e = eqb-false c.args.predecessor 0 c.if-predecessor-eq0.false in
    record { answer = c.block_behind-else-predecessor-eq0.ensures ∙ rw e }
