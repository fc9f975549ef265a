-- The loop's invariant: the listing from where it stands is the listing whole. Assumes nothing.
use Rattle.disk.specs.Record.{record_in}
use Rattle.calls.specs.promises.Flushing.{Flushable}
use Rattle.driver.proofs.Queueing.{Going}
use Rattle.driver.proofs.queue.list_queue.Given as goal

abbrev pub invariant-loop-gone : goal.invariant-loop-gone
invariant-loop-gone l =
    Flushable l.card l.queue_data (record_in l.rec) l.initial.place × Going l.card l.queue_data (record_in l.rec) l.initial.place l.most l.initial.stores l.stores l.place l.done l.at l.gone
