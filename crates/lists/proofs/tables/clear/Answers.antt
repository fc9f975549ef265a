-- The bytes stored are those of the empty state. Assumes nothing.
use mathlib.Core.Path.{refl}
use Rattle.lists.specs.Basic.{from}
use Rattle.lists.specs.promises.Tables.{tables_in, column, locations_in, first_next, first_prev, cleared}
use Rattle.lists.proofs.tables.clear.Goals as goal

pub returns : goal.returns
unfolding tables_in column locations_in from cleared first_next first_prev
returns c = refl
