-- Node x leads to n, and n to y. Assumes nothing.
use Rattle.lists.specs.promises.Tables.{place_node}
use Rattle.lists.proofs.tables.place.Goals as goal

pub returns : goal.returns
unfolding place_node
returns c = rw (c.set_owner.ensures, c.link-2.ensures, c.link.ensures)
