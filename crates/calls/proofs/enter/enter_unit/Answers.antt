-- `look_committed` asks questions 1 and 3, and 4 is the unit's. Assumes nothing.
use Rattle.disk.specs.Disk.{disk_in}
use Rattle.calls.proofs.Entering.{not-entered, open-asked}
use Rattle.calls.proofs.enter.enter_unit.Goals as goal

pub returns-in_err-look_committed : goal.returns-in_err-look_committed
returns-in_err-look_committed c = not-entered _ _ _ _ _ _ c.from_residual.ensures.1 c.in_err-look_committed.ensures

pub returns : goal.returns
returns c =
    let a = c.args in
    open-asked (disk_in a.card.now a.queue_data.now a.journal_data.now a.rec.now) _ _ c.in_ok-look_committed.ensures _ _ c.is_open.ensures c.ask.ensures
