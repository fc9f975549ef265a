-- Questions 1, 3 and 4 are those of `enter`; behind them the tables show the committed state. Assumes nothing.
use Rattle.disk.specs.Record.{record_in}
use Rattle.disk.specs.Disk.{disk_in}
use Rattle.disk.specs.Call.{new_list}
use Rattle.answers.specs.Answers.{number_answer}
use Rattle.calls.proofs.Refusing.{number-refused, edit-unseen}
use Rattle.calls.proofs.Giving.{takes-performs}
use Rattle.calls.proofs.Putting.{stands-take}
use Rattle.calls.proofs.new_list.new_list.Goals as goal

pub returns-in_err-enter : goal.returns-in_err-enter
returns-in_err-enter c = edit-unseen number_answer number-refused _ _ new_list _ _ c.from_residual.ensures.1 c.in_err-enter.ensures

pub take_list-requires : goal.take_list-requires
take_list-requires c =
    let a = c.args in
    stands-take a.stream (disk_in a.card.now a.queue_data.now a.journal_data.now a.rec.now) _ c.in_ok-enter.ensures

pub returns : goal.returns
returns c =
    let a = c.args in
    takes-performs a.stream (disk_in a.card.now a.queue_data.now a.journal_data.now a.rec.now) _ c.in_ok-enter.ensures c.take_list.result (record_in c.take_list.new.rec) c.take_list.ensures
