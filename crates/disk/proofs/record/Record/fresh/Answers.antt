-- By computation. Assumes nothing.
use mathlib.Core.Path.{refl}
use Rattle.lists.specs.Basic.{from}
use Rattle.disk.specs.Record.{record_in, blank_record, fresh_unit, unit_in, cells_in, bytes_in, pairs_in}
use Rattle.disk.proofs.record.Record.fresh.Goals as goal

pub returns : goal.returns
unfolding record_in blank_record fresh_unit unit_in cells_in bytes_in pairs_in from
returns c = refl
