-- The bytes of the places. Assumes nothing.
use Rattle.std.proofs.Common.{arith}
use Rattle.disk.specs.Record.{record_in}
use Rattle.disk.proofs.Bytes.{part-read}
use Rattle.disk.proofs.record.order.Goals as goal

pub returns-clause-places : goal.returns-clause-places
unfolding record_in
returns-clause-places c = part-read c.args.rec.now 493 80 (omega arith)
