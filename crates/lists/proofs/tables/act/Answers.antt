-- Each arm is the function of its kind. Assumes nothing.
use Rattle.lists.specs.promises.Tables.{of_kind}
use Rattle.lists.proofs.Acting.{put_first_lem, no_kind, did_none}
use Rattle.lists.proofs.tables.act.Goals as goal

pub returns-in-1 : goal.returns-in-1
unfolding of_kind
returns-in-1 c = rw c.in-1.is c.take.ensures

pub returns-in-2 : goal.returns-in-2
unfolding of_kind
returns-in-2 c = rw c.in-2.is (put_first_lem _ _ _ _ _ (rw c.list_node.ensures at c.put.ensures))

pub returns-in-3 : goal.returns-in-3
unfolding of_kind
returns-in-3 c = rw c.in-3.is c.put-in-3.ensures

pub returns-in-4 : goal.returns-in-4
unfolding of_kind
returns-in-4 c = rw c.in-4.is c.write_block.ensures

pub returns-in-5 : goal.returns-in-5
unfolding of_kind
returns-in-5 c = rw c.in-5.is c.delete_block.ensures

pub returns-in-6 : goal.returns-in-6
unfolding of_kind
returns-in-6 c = rw c.in-6.is c.delete_list.ensures

pub returns-in_default : goal.returns-in_default
returns-in_default c =
    let r = c.in_default.in_default-own.rest in
    did_none _ _
    (no_kind c.args.kind _ _ _ _ r.0.0.0.0.0.1 r.0.0.0.0.1 r.0.0.0.1 r.0.0.1 r.0.1 r.1)
