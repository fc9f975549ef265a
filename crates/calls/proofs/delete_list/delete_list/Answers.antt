-- Questions 1, 3 and 4 are those of `look_stream`; behind them the tables show the stream's view. Assumes nothing.
use Rattle.disk.specs.Record.{record_in}
use Rattle.disk.specs.Disk.{disk_in}
use Rattle.disk.specs.Call.{delete_list}
use Rattle.answers.specs.Answers.{reply_answer}
use Rattle.calls.proofs.Refusing.{reply-refused, edit-unseen}
use Rattle.calls.proofs.Adding.{seen-padded, deletes-list}
use Rattle.calls.proofs.delete_list.delete_list.Goals as goal

pub returns-in_err-look_stream : goal.returns-in_err-look_stream
returns-in_err-look_stream c = edit-unseen reply_answer reply-refused _ _ (delete_list c.args.list) _ _ c.from_residual.ensures.1 c.in_err-look_stream.ensures

pub delete_taken-requires : goal.delete_taken-requires
delete_taken-requires c = seen-padded c.in_ok-look_stream.ensures

pub returns : goal.returns
returns c =
    let a = c.args in
    deletes-list (disk_in a.card.now a.queue_data.now a.journal_data.now a.rec.now) a.stream a.list _ c.delete_taken.result (record_in c.delete_taken.new.rec) c.in_ok-look_stream.ensures c.delete_taken.ensures
