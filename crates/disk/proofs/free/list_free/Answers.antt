-- The invariant: the numbers shown up to x have joined, at least i (JoinedUpTo), and nothing but the order is another (Reorders). No row of free numbers exceeds 80. Assumes nothing.
use mathlib.Core.Path.{sym, subst}
use Prim.Native.Nat.{◌+◌}
use native.Mathlib.Omega.{arith}
use Rattle.lists.specs.promises.Tables.{tables_in}
use Rattle.disk.specs.Record.{record_in}
use Rattle.disk.specs.promises.Listing.{Reorders}
use Rattle.disk.proofs.Listing.{reorders-same, reorders-pushed, JoinedUpTo, joined-none, joined-more, joined_end, joined-all}
use Rattle.disk.proofs.free.list_free.Goals as goal

pub loop-i-init : goal.loop-i-init
loop-i-init c = (reorders-same _ c.requires, joined-none)

pub returns-then-x-eq0 : goal.returns-then-x-eq0
returns-then-x-eq0 c =
    let l = c.loop-i in
    (joined_end c.free_after-x.ensures c.if-x-eq0.true l.invariant.1, l.invariant.0)

pub push-requires : goal.push-requires
push-requires c = c.loop-i.invariant.0.padded

pub loop-i-preserved : goal.loop-i-preserved
loop-i-preserved c =
    let a = c.args in
    let l = c.loop-i in
    let w = c.free_after-x in
    let e = sym c.push.ensures in (
      subst (Reorders (record_in a.rec.now)) e (reorders-pushed w.result (record_in a.rec.now) (record_in l.rec) l.invariant.0),
      subst (JoinedUpTo (tables_in a.nodes.now) a.number (record_in a.rec.now) w.result (l._i + 1)) e (joined-more w.ensures c.if-x-eq0.false l.invariant.1),
    )

pub returns : goal.returns
returns c = (joined-all (omega (arith, c.loop-i-test.false)) c.loop-i.invariant.1, c.loop-i.invariant.0)
