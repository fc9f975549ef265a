-- Questions 1, 3 and 4 are those of `enter_unit`; behind them the tables show the committed state. Assumes nothing.
use Rattle.disk.specs.Record.{record_in}
use Rattle.disk.specs.Disk.{disk_in}
use Rattle.calls.proofs.Ending.{stands-ready, ends-performs, end-not-entered}
use Rattle.calls.proofs.end.end.Goals as goal

pub returns-in_err-enter_unit : goal.returns-in_err-enter_unit
returns-in_err-enter_unit c =
    let a = c.args in
    end-not-entered a.unit (disk_in a.card.now a.queue_data.now a.journal_data.now a.rec.now) _ _ c.from_residual.ensures.1 c.in_err-enter_unit.ensures

pub end_unit-requires : goal.end_unit-requires
end_unit-requires c =
    let a = c.args in
    stands-ready a.unit (disk_in a.card.now a.queue_data.now a.journal_data.now a.rec.now) _ c.in_ok-enter_unit.ensures

pub returns : goal.returns
returns c =
    let a = c.args in
    let e = c.end_unit in
    ends-performs a.unit (disk_in a.card.now a.queue_data.now a.journal_data.now a.rec.now) _ c.in_ok-enter_unit.ensures e.result _ (record_in e.new.rec) e.ensures
