-- The kind, the numbers and, of a take and the two puts, the holder are tested. Assumes nothing.
use mathlib.Core.Path.{sym, ◌∙◌}
use borrow.Author.Tests.{not-true, not-false}
use Rattle.lists.specs.InUse.{list_number}
use Rattle.card_log.specs.Entry.{as_change}
use Rattle.disk.specs.Record.{record_in}
use Rattle.disk.proofs.Relisting.{take_range}
use Rattle.inspect.proofs.Judging.{change-wrong, change-brings, change-brings-none}
use Rattle.inspect.proofs.units.entry_right.Goals as goal

pub returns-then-not-is_member : goal.returns-then-not-is_member
returns-then-not-is_member c =
    let s = c.args in
    change-wrong (record_in s.rec.now).held.holder s.u (as_change s.e) (sym c.is_member.ensures ∙ not-true _ c.if-not-is_member.true-raw)

pub list_number-requires : goal.list_number-requires
list_number-requires c =
    take_range _ c.in-Take.list c.in-Take.is (sym c.is_member.ensures ∙ not-false _ c.if-not-is_member.false-raw)

pub returns-in-Take : goal.returns-in-Take
unfolding as_change
returns-in-Take c =
    let s = c.args in
    let m = sym c.is_member.ensures ∙ not-false _ c.if-not-is_member.false-raw in
    rw (c.holder_of.ensures, c.list_number.ensures) (change-brings (record_in s.rec.now).held.holder s.u (as_change s.e) (list_number c.in-Take.list) m (rw c.in-Take.is))

pub returns-in-PutFirst : goal.returns-in-PutFirst
unfolding as_change
returns-in-PutFirst c =
    let s = c.args in
    let m = sym c.is_member.ensures ∙ not-false _ c.if-not-is_member.false-raw in
    rw c.holder_of-in-PutFirst.ensures (change-brings (record_in s.rec.now).held.holder s.u (as_change s.e) c.in-PutFirst.block m (rw c.in-PutFirst.is))

pub returns-in-PutAfter : goal.returns-in-PutAfter
unfolding as_change
returns-in-PutAfter c =
    let s = c.args in
    let m = sym c.is_member.ensures ∙ not-false _ c.if-not-is_member.false-raw in
    rw c.holder_of-in-PutAfter.ensures (change-brings (record_in s.rec.now).held.holder s.u (as_change s.e) c.in-PutAfter.block m (rw c.in-PutAfter.is))

pub returns-in_default : goal.returns-in_default
returns-in_default c =
    let d = c.in_default in
    change-brings-none (record_in c.args.rec.now).held.holder c.args.u c.args.e d.not-Take d.not-PutFirst d.not-PutAfter (sym c.is_member.ensures ∙ not-false _ c.if-not-is_member.false-raw)
