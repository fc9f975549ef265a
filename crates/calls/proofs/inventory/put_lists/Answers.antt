-- Each turn stores the list taken next. Assumes nothing.
use mathlib.Core.Path.{◌≡◌, refl}
use native.Mathlib.Omega.{arith}
use Rattle.lists.proofs.Lookup.{list-said}
use Rattle.lists.specs.promises.Tables.{tables_in}
use Rattle.calls.proofs.Taken.{taking-none, taking-more, taking-end, taking-full}
use Rattle.calls.proofs.inventory.put_lists.Goals as goal

pub loop-i-init : goal.loop-i-init
loop-i-init c = λ rs w. taking-none c.args.dest.now rs c.list_after-list.result (list-said c.list_after-list.ensures rs w refl)

pub returns-then-list-eq0 : goal.returns-then-list-eq0
returns-then-list-eq0 c = λ rs w. taking-end (tables_in c.args.nodes.now) rs w (c.loop-i.invariant rs w) c.if-list-eq0.true

pub loop-i-preserved : goal.loop-i-preserved
loop-i-preserved c =
    λ rs w. taking-more (tables_in c.args.nodes.now) rs w (c.loop-i.invariant rs w) (omega arith) c.if-list-eq0.false (list-said c.list_after-list-in-loop-i.ensures rs w)

pub returns : goal.returns
returns c = λ rs w.
    let e : c.loop-i.i ≡ 16 = omega arith in
    rw e at (taking-full (tables_in c.args.nodes.now) rs w (c.loop-i.invariant rs w) (omega arith))
