-- The two tests of the definition, then the node moved, then its place. Assumes nothing.
use mathlib.Core.Path.{◌∙◌, ap}
use Rattle.lists.specs.promises.Tables.{Tables, suits, done, put_fits, put_done, insert_node, with_location}
use Rattle.lists.proofs.Basic.{eqb-false, eq-true}
use Rattle.lists.proofs.Acting.{did-not, did_so}
use Rattle.lists.proofs.tables.put.Goals as goal

pub returns-then-owner_of-ne0 : goal.returns-then-owner_of-ne0
unfolding suits put_fits
returns-then-owner_of-ne0 c = did-not _ _ (rw (eqb-false _ _ (rw c.owner_of.ensures at c.if-owner_of-ne0.true)))

pub returns-then-owner_of-list : goal.returns-then-owner_of-list
unfolding suits put_fits
returns-then-owner_of-list c = did-not _ _ (rw (eq-true _ _ (rw c.owner_of.ensures at c.if-owner_of-ne0.false), eqb-false _ _ (rw c.owner_of-2.ensures at c.if-owner_of-list.true)))

pub returns : goal.returns
unfolding suits put_fits done put_done
returns c =
    let a = c.args in
    did_so _ _ _
    (rw (eq-true _ _ (rw c.owner_of.ensures at c.if-owner_of-ne0.false), eq-true _ _ (rw c.owner_of-2.ensures at c.if-owner_of-list.false)))
    (c.set_location.ensures ∙ ap (λ (t : Tables). with_location a.block 0 t) (c.insert.ensures ∙ ap (insert_node a.x a.block a.list) c.cut.ensures))
