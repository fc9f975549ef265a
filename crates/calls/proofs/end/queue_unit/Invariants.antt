-- The invariant: the entries passed are queued in their order (Along). Assumes nothing.
use Rattle.disk.specs.Record.{record_in}
use Rattle.calls.proofs.Ending.{Along}
use Rattle.calls.proofs.end.queue_unit.Given as goal

abbrev pub invariant-loop-k : goal.invariant-loop-k
invariant-loop-k l = Along l.initial.queue_data l.journal_data l.u (record_in l.initial.rec) l.queue_data (record_in l.rec) l.k
