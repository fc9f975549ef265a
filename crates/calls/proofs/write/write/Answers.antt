-- Questions 1, 3 and 4 are those of `look_stream`; behind them the tables show the stream's view, and an accepted content is copied to its place. Assumes nothing.
use Rattle.disk.specs.Record.{record_in}
use Rattle.disk.specs.Disk.{disk_in}
use Rattle.disk.specs.Call.{write_block}
use Rattle.answers.specs.Answers.{reply_answer}
use Rattle.inspect.proofs.Asking.{exit_is}
use Rattle.calls.proofs.Refusing.{reply-refused, edit-unseen, seen-ranges}
use Rattle.calls.proofs.Writing.{write-refused, write-accepted, write-ranges, write-fits}
use Rattle.calls.proofs.write.write.Goals as goal

pub returns-in_err-look_stream : goal.returns-in_err-look_stream
returns-in_err-look_stream c =
    edit-unseen reply_answer reply-refused _ _ (write_block c.args.block c.args.race c.args.content.now) _ _ c.from_residual.ensures.1 c.in_err-look_stream.ensures

pub place_next-at-requires : goal.place_next-at-requires
place_next-at-requires c =
    let a = c.args in
    write-ranges (disk_in a.card.now a.queue_data.now a.journal_data.now a.rec.now) a.stream _ c.in_ok-look_stream.ensures

pub write_placed-requires : goal.write_placed-requires
write_placed-requires c = seen-ranges c.in_ok-look_stream.ensures

pub returns-in_err-write_placed : goal.returns-in_err-write_placed
returns-in_err-write_placed c =
    let a = c.args in
    let d = disk_in a.card.now a.queue_data.now a.journal_data.now a.rec.now in
    rw (exit_is _ _ c.from_residual-in_err-write_placed.ensures.1)
    (write-refused d a.stream a.block a.race a.content.now (record_in c.write_placed.new.rec) _ c.in_ok-look_stream.ensures _ c.in_err-write_placed.ensures)

pub copy_content-requires : goal.copy_content-requires
copy_content-requires c =
    let a = c.args in
    let d = disk_in a.card.now a.queue_data.now a.journal_data.now a.rec.now in
    rw c.place_next-at.ensures (write-fits d a.stream a.block a.race a.content.now (record_in c.write_placed.new.rec) _ c.in_ok-look_stream.ensures c.in_ok-write_placed.ensures)

pub returns : goal.returns
returns c =
    let a = c.args in
    let d = disk_in a.card.now a.queue_data.now a.journal_data.now a.rec.now in
    write-accepted d a.stream a.block a.race a.content.now (record_in c.write_placed.new.rec) _ c.in_ok-look_stream.ensures c.in_ok-write_placed.ensures _ _ (rw c.place_next-at.ensures at c.copy_content.ensures)
