-- The node before it and the one behind it, each leading to the other. Assumes nothing.
use Rattle.lists.specs.promises.Tables.{cut_node}
use Rattle.lists.proofs.tables.cut.Goals as goal

pub returns : goal.returns
unfolding cut_node
returns c = rw (c.link.ensures, c.prev_of-x.ensures, c.next_of-y.ensures)
