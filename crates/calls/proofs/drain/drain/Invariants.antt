-- The loop's invariant: the record is as it was, and the flush from where it stands is the flush whole. Assumes nothing.
use mathlib.Core.Path.{◌≡◌}
use Rattle.disk.specs.Record.{record_in}
use Rattle.calls.specs.promises.Flushing.{Flushable}
use Rattle.calls.proofs.Draining.{Going}
use Rattle.calls.proofs.drain.drain.Given as goal

abbrev pub invariant-loop-gone : goal.invariant-loop-gone
invariant-loop-gone l =
    (l.rec ≡ l.initial.rec) × Flushable l.initial.card l.queue_data (record_in l.initial.rec) l.initial.place × Going l.initial.card l.queue_data (record_in l.initial.rec) l.allowance l.initial.place l.card l.place l.done l.left l.gone
