-- A block that is on some list goes. Assumes nothing.
use Rattle.lists.specs.promises.Tables.{suits, done}
use Rattle.lists.proofs.Basic.{eqb-false, eq-true}
use Rattle.lists.proofs.Acting.{did-not, did_so}
use Rattle.lists.proofs.tables.delete_block.Goals as goal

pub returns-then-owner_of-eq0 : goal.returns-then-owner_of-eq0
unfolding suits
returns-then-owner_of-eq0 c = did-not _ _ (rw (eq-true _ _ (rw c.owner_of.ensures at c.if-owner_of-eq0.true)))

pub returns : goal.returns
unfolding suits done
returns c =
    did_so _ _ _
    (rw (eqb-false _ _ (rw c.owner_of.ensures at c.if-owner_of-eq0.false)))
    c.free.ensures
