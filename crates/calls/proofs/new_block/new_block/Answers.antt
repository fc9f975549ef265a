-- Questions 1, 3 and 4 are those of `look_stream`; behind them the tables show the stream's view. Assumes nothing.
use Rattle.disk.specs.Record.{record_in}
use Rattle.disk.specs.Disk.{disk_in}
use Rattle.disk.specs.Call.{new_block}
use Rattle.answers.specs.Answers.{number_answer}
use Rattle.calls.proofs.Refusing.{number-refused, edit-unseen}
use Rattle.calls.proofs.Adding.{seen-padded}
use Rattle.calls.proofs.Putting.{puts-performs}
use Rattle.calls.proofs.new_block.new_block.Goals as goal

pub returns-in_err-look_stream : goal.returns-in_err-look_stream
returns-in_err-look_stream c = edit-unseen number_answer number-refused _ _ (new_block c.args.list c.args.predecessor) _ _ c.from_residual.ensures.1 c.in_err-look_stream.ensures

pub put_free-requires : goal.put_free-requires
put_free-requires c = seen-padded c.in_ok-look_stream.ensures

pub returns : goal.returns
returns c =
    let a = c.args in
    let d = disk_in a.card.now a.queue_data.now a.journal_data.now a.rec.now in
    puts-performs a.stream d _ c.in_ok-look_stream.ensures a.list a.predecessor c.put_free.result (record_in c.put_free.new.rec) c.put_free.ensures
