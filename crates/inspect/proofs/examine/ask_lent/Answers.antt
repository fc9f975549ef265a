-- The lengths are asked first, then the record's own clauses. Assumes nothing.
use mathlib.Core.Path.{sym, ◌∙◌}
use Rattle.disk.specs.Record.{record_in}
use Rattle.disk.specs.Disk.{disk_in}
use Rattle.disk.proofs.Bytes.{in-shaped}
use Rattle.inspect.proofs.Examining.{lengths-wrong, numbers-wrong, units-asked}
use Rattle.inspect.proofs.examine.ask_lent.Goals as goal

pub returns-in_err-ask : goal.returns-in_err-ask
returns-in_err-ask c =
    let s = c.args in
    lengths-wrong (disk_in s.card.now s.queue_data.now s.journal_data.now s.rec.now) _ _ c.from_residual.ensures.1 c.in_err-ask.ensures.0
    (sym (c.lengths_right.ensures (record_in s.rec.now)) ∙ c.in_err-ask.ensures.1)

pub returns-in_err-ask-2 : goal.returns-in_err-ask-2
returns-in_err-ask-2 c =
    let s = c.args in
    numbers-wrong (disk_in s.card.now s.queue_data.now s.journal_data.now s.rec.now) (in-shaped s.rec.now) (sym (c.lengths_right.ensures (record_in s.rec.now)) ∙ c.in_ok-ask.ensures)
    _ _ c.from_residual-in_err-ask-2.ensures.1 c.in_err-ask-2.ensures.0 (sym c.numbers_right.ensures ∙ c.in_err-ask-2.ensures.1)

pub returns : goal.returns
returns c =
    let s = c.args in
    units-asked (disk_in s.card.now s.queue_data.now s.journal_data.now s.rec.now) (in-shaped s.rec.now) (sym (c.lengths_right.ensures (record_in s.rec.now)) ∙ c.in_ok-ask.ensures)
    (sym c.numbers_right.ensures ∙ c.in_ok-ask-2.ensures) _ _ c.units_right.ensures c.ask-3.ensures
