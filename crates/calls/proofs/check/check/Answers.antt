-- `look_committed` asks nothing more. Assumes nothing.
use Rattle.disk.specs.Disk.{disk_in}
use Rattle.calls.proofs.Checking.{looks-checks}
use Rattle.calls.proofs.check.check.Goals as goal

pub returns : goal.returns
returns c =
    let a = c.args in
    looks-checks (disk_in a.card.now a.queue_data.now a.journal_data.now a.rec.now) c.look_committed.result _ c.look_committed.ensures
