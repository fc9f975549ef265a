-- What a listing makes of the head by the words of the stores that are left of it, or by those for which there is room. Assumes nothing.
use native.Mathlib.Omega.{arith}
use Rattle.driver.proofs.Queueing.{lists-full, listable, lists-ended, lists-behind}
use Rattle.driver.proofs.queue.list_head.Goals as goal

pub returns-in_default : goal.returns-in_default
returns-in_default c =
    let a = c.args in
    lists-full a.content.now c.requires.1 a.member a.e a.segments a.place a.done c.requires.0 c.home_of.result c.home_of.ensures a.most a.at a.stores.now c.in_default.is

pub put_words-requires : goal.put_words-requires
put_words-requires c =
    let a = c.args in
    let t = listable a.content.now c.requires.1 a.member a.e a.segments a.place a.done c.requires.0 c.home_of.result c.home_of.ensures _ c.in-At.is in
    let n = c.stores_of-all.ensures c.in-At.home a.member a.content.now c.requires.1 in
    (t, omega (arith, c.if-room-all.true, n), c.requires.1, omega arith, omega (arith, c.requires.2, c.requires.3))

pub returns-then-room-all : goal.returns-then-room-all
returns-then-room-all c =
    let a = c.args in
    let n = c.stores_of-all.ensures c.in-At.home a.member a.content.now c.requires.1 in
    lists-ended a.content.now c.requires.1 a.member a.e a.segments a.place a.done c.requires.0 c.home_of.result c.home_of.ensures _ c.in-At.is a.most a.at a.stores.now _ c.requires.2
    (omega (arith, c.if-room-all.true, n)) c.put_words.ensures

pub put_words-requires-else-room-all : goal.put_words-requires-else-room-all
put_words-requires-else-room-all c =
    let a = c.args in
    let t = listable a.content.now c.requires.1 a.member a.e a.segments a.place a.done c.requires.0 c.home_of.result c.home_of.ensures _ c.in-At.is in
    let n = c.stores_of-all.ensures c.in-At.home a.member a.content.now c.requires.1 in
    (t, omega (arith, n), c.requires.1, omega (arith, t.left, n), omega (arith, c.if-room-all.false, c.requires.2, c.requires.3))

pub after-requires : goal.after-requires
after-requires c =
    let a = c.args in
    (listable a.content.now c.requires.1 a.member a.e a.segments a.place a.done c.requires.0 c.home_of.result c.home_of.ensures _ c.in-At.is).within

pub returns-else-room-all : goal.returns-else-room-all
returns-else-room-all c =
    let a = c.args in
    let n = c.stores_of-all.ensures c.in-At.home a.member a.content.now c.requires.1 in
    lists-behind a.content.now c.requires.1 a.member a.e a.segments a.place a.done c.requires.0 c.home_of.result c.home_of.ensures _ c.in-At.is a.most a.at _ _ a.stores.now _ c.requires.2
    n c.if-room-all.false c.after.ensures c.put_words-else-room-all.ensures
