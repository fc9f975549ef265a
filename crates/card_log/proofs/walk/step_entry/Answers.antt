-- Found, then entered: what each way says of the segment's items from the cursor on. Assumes nothing.
use mathlib.Core.Bool.{true, false}
use native.Mathlib.Omega.{arith}
use Rattle.lists.specs.promises.Tables.{tables_in}
use Rattle.card_log.specs.promises.Feed.{memory}
use Rattle.card_log.proofs.Entering.{steps-bad, steps-entered}
use Rattle.card_log.proofs.walk.step_entry.Goals as goal

pub member-requires : goal.member-requires
member-requires c =
    let p = c.requires in
    let f = rw c.in-Member.is at c.entry_at.ensures in
    (omega (arith, p.holds, p.small), p.few, p.short, f.ranged)

pub plain-requires : goal.plain-requires
plain-requires c =
    let p = c.requires in
    let f = rw c.in-Plain.is at c.entry_at.ensures in
    (omega (arith, p.holds, p.small), p.few, f.ranged)

pub returns-in-Member : goal.returns-in-Member
returns-in-Member c =
    let s = c.args in
    let m = (memory s.nodes.now s.members.now) in
    let f = rw c.in-Member.is at c.entry_at.ensures in
    let y = c.member in
    steps-entered s.card.now s.g s.cur m (memory s.nodes.now y.new.members) c.requires.holds true _ _ f y.result
    (y.ensures (tables_in s.nodes.now))

pub returns-in-Plain : goal.returns-in-Plain
returns-in-Plain c =
    let s = c.args in
    let m = (memory s.nodes.now s.members.now) in
    let f = rw c.in-Plain.is at c.entry_at.ensures in
    let y = c.plain in
    steps-entered s.card.now s.g s.cur m (memory y.new.nodes s.members.now) c.requires.holds false _ _ f y.result
    y.ensures

pub returns-in-Bad : goal.returns-in-Bad
returns-in-Bad c =
    let s = c.args in
    let m = (memory s.nodes.now s.members.now) in
    steps-bad s.card.now s.g s.cur m m (rw c.in-Bad.is at c.entry_at.ensures)
