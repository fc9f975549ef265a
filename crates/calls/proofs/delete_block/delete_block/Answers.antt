-- Questions 1, 3 and 4 are those of `look_stream`; behind them the tables show the stream's view. Assumes nothing.
use Rattle.disk.specs.Record.{record_in}
use Rattle.disk.specs.Disk.{disk_in}
use Rattle.disk.specs.Call.{delete_block}
use Rattle.answers.specs.Answers.{reply_answer}
use Rattle.calls.proofs.Refusing.{reply-refused, edit-unseen}
use Rattle.calls.proofs.Adding.{seen-padded, deletes-block}
use Rattle.calls.proofs.delete_block.delete_block.Goals as goal

pub returns-in_err-look_stream : goal.returns-in_err-look_stream
returns-in_err-look_stream c = edit-unseen reply_answer reply-refused _ _ (delete_block c.args.block) _ _ c.from_residual.ensures.1 c.in_err-look_stream.ensures

pub delete_placed-requires : goal.delete_placed-requires
delete_placed-requires c = seen-padded c.in_ok-look_stream.ensures

pub returns : goal.returns
returns c =
    let a = c.args in
    deletes-block (disk_in a.card.now a.queue_data.now a.journal_data.now a.rec.now) a.stream a.block _ c.delete_placed.result (record_in c.delete_placed.new.rec) c.in_ok-look_stream.ensures c.delete_placed.ensures
