-- The record's own clauses, then what is behind the log. Assumes nothing.
use Rattle.disk.specs.Disk.{disk_in}
use Rattle.disk.proofs.Bytes.{in-shaped}
use Rattle.inspect.proofs.Examining.{lent-asked, log-examined}
use Rattle.inspect.proofs.examine.examine_persistent.Goals as goal

pub examine_apart-requires : goal.examine_apart-requires
examine_apart-requires c =
    let s = c.args in
    lent-asked (disk_in s.card.now s.queue_data.now s.journal_data.now s.rec.now) c.in_ok-ask_lent.ensures

pub returns : goal.returns
returns c =
    let s = c.args in
    log-examined 5 (disk_in s.card.now s.queue_data.now s.journal_data.now s.rec.now) _ _ (in-shaped s.rec.now) c.in_ok-ask_lent.ensures (c.examine_apart.ensures s.journal_data.now)
