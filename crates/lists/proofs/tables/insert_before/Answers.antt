-- The node that stood before y stands before n. Assumes nothing.
use Rattle.lists.specs.promises.Tables.{insert_before}
use Rattle.lists.proofs.tables.insert_before.Goals as goal

pub returns : goal.returns
unfolding insert_before
returns c = rw (c.place.ensures, c.prev_of-before.ensures)
