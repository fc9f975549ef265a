-- The node that followed x follows n. Assumes nothing.
use Rattle.lists.specs.promises.Tables.{insert_node}
use Rattle.lists.proofs.tables.insert.Goals as goal

pub returns : goal.returns
unfolding insert_node
returns c = rw (c.place.ensures, c.next_of-behind.ensures)
