-- The list's blocks go by the steps of `drop_all`, then its node. Assumes nothing.
use Rattle.lists.specs.promises.Tables.{suits, done, cut_list}
use Rattle.lists.proofs.Basic.{eqb-false, eq-true}
use Rattle.lists.proofs.Acting.{did-not, did_so}
use Rattle.lists.proofs.tables.delete_list.Goals as goal

pub returns-then-l-eq0 : goal.returns-then-l-eq0
unfolding suits
returns-then-l-eq0 c = did-not _ _ (rw (eq-true _ _ (rw (c.owner_of-l.ensures, c.list_node-n.ensures) at c.if-l-eq0.true)))

pub returns : goal.returns
unfolding suits done cut_list
returns c =
    let n = c.list_node-n.ensures in
    let o = c.owner_of-l.ensures in
    did_so _ _ _
    (rw (eqb-false _ _ (rw (o, n) at c.if-l-eq0.false)))
    (rw (c.free.ensures, c.drop_all.ensures.left, o, n))
