-- The first free number follows node 254. Assumes nothing.
use mathlib.Core.Path.{◌∙◌}
use Rattle.lists.proofs.Basic.{eqb-false, eq-true}
use Rattle.lists.proofs.tables.free_after.Goals as goal

pub returns-then-number-eq0 : goal.returns-then-number-eq0
returns-then-number-eq0 c =
    let e = eq-true c.args.number 0 c.if-number-eq0.true in
    record { answer = c.free_behind.ensures ∙ rw e }

pub returns-else-number-eq0 : goal.returns-else-number-eq0
returns-else-number-eq0 c =
    let e = eqb-false c.args.number 0 c.if-number-eq0.false in
    record { answer = c.free_behind-else-number-eq0.ensures ∙ rw e }
