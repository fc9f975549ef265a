-- A write's content is copied to the place of the entry that the queue takes next; another entry carries nothing. Assumes nothing.
use mathlib.Core.Path.{◌∙◌}
use Rattle.calls.proofs.Ending.{part-slot, member-write, member-other}
use Rattle.disk.specs.Record.{record_in}
use Rattle.calls.proofs.end.queue_member.Goals as goal

pub returns-in-Write : goal.returns-in-Write
returns-in-Write c d =
    let a = c.args in
    rw c.in-Write.is
    (member-write a.queue_data.now a.journal_data.now (record_in a.rec.now) a.k _ _ _ _ (record_in c.append.new.rec)
    (c.copy_in.ensures ∙ rw (c.head.ensures, c.len.ensures) (part-slot a.queue_data.now a.journal_data.now _ a.k)) c.append.ensures d)

pub returns-in_default : goal.returns-in_default
returns-in_default c d =
    let a = c.args in
    member-other a.queue_data.now a.journal_data.now (record_in a.rec.now) a.k a.e (record_in c.append-in_default.new.rec) c.in_default.not-Write c.requires.5 c.append-in_default.ensures d
