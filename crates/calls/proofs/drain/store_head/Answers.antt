-- What a flush makes of its head by the stores that are left of it, or by those that the allowance allows. Assumes nothing.
use native.Mathlib.Omega.{arith}
use Rattle.calls.proofs.Storing.{storable, in_turns, heads-full, heads-spent, heads-drained}
use Rattle.calls.proofs.drain.store_head.Goals as goal

pub returns-in_default : goal.returns-in_default
returns-in_default c =
    let a = c.args in
    heads-full a.content.now c.requires.1 a.member a.e a.card.now a.place a.done c.requires.0 c.home_of.result c.home_of.ensures a.allowance c.in_default.is

pub advance-requires : goal.advance-requires
advance-requires c =
    let a = c.args in
    let t = storable a.content.now c.requires.1 a.member a.e a.card.now a.place a.done c.requires.0 c.home_of.result c.home_of.ensures _ c.in-At.is in
    (t, omega (arith, c.if-allowance-left.true, c.stores_of-stores.ensures c.in-At.home a.member a.content.now c.requires.1), c.requires.1, in_turns a.content.now c.requires.1 a.member a.e a.card.now a.place a.done c.requires.0 c.home_of.result c.home_of.ensures _ c.in-At.is _ (omega (arith, c.if-allowance-left.true, c.stores_of-stores.ensures c.in-At.home a.member a.content.now c.requires.1)))

pub returns-then-allowance-left : goal.returns-then-allowance-left
returns-then-allowance-left c =
    let a = c.args in
    heads-spent a.content.now c.requires.1 a.member a.e a.card.now a.place a.done c.requires.0 c.home_of.result c.home_of.ensures _ c.in-At.is a.allowance _ (omega (arith, c.if-allowance-left.true, c.stores_of-stores.ensures c.in-At.home a.member a.content.now c.requires.1)) c.advance.ensures

pub advance-requires-2 : goal.advance-requires-2
advance-requires-2 c =
    let a = c.args in
    let t = storable a.content.now c.requires.1 a.member a.e a.card.now a.place a.done c.requires.0 c.home_of.result c.home_of.ensures _ c.in-At.is in
    (t, omega (arith, c.stores_of-stores.ensures c.in-At.home a.member a.content.now c.requires.1), c.requires.1, in_turns a.content.now c.requires.1 a.member a.e a.card.now a.place a.done c.requires.0 c.home_of.result c.home_of.ensures _ c.in-At.is _ (omega (arith, c.stores_of-stores.ensures c.in-At.home a.member a.content.now c.requires.1)))

pub after-requires : goal.after-requires
after-requires c =
    let a = c.args in
    (storable a.content.now c.requires.1 a.member a.e a.card.now a.place a.done c.requires.0 c.home_of.result c.home_of.ensures _ c.in-At.is).within

pub returns : goal.returns
returns c =
    let a = c.args in
    heads-drained a.content.now c.requires.1 a.member a.e a.card.now a.place a.done c.requires.0 c.home_of.result c.home_of.ensures _ c.in-At.is a.allowance _ _ _ (c.stores_of-stores.ensures c.in-At.home a.member a.content.now c.requires.1) c.if-allowance-left.false c.after.ensures c.advance-2.ensures
