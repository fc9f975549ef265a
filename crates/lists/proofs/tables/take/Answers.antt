-- The list's node is free, and goes in before node 254, behind the last list. Assumes nothing.
use Rattle.lists.specs.promises.Tables.{suits, done}
use Rattle.lists.proofs.Basic.{eqb-false, eq-true}
use Rattle.lists.proofs.Acting.{did-not, did_so}
use Rattle.lists.proofs.tables.take.Goals as goal

pub returns-then-owner_of-ne0 : goal.returns-then-owner_of-ne0
unfolding suits
returns-then-owner_of-ne0 c = did-not _ _ (eqb-false _ _ (rw (c.owner_of.ensures, c.list_node-n.ensures) at c.if-owner_of-ne0.true))

pub returns : goal.returns
unfolding suits done
returns c =
    let n = c.list_node-n.ensures in
    did_so _ _ _ (eq-true _ _ (rw (c.owner_of.ensures, n) at c.if-owner_of-ne0.false)) (rw (c.cut.ensures, n) at c.insert_before.ensures)
