-- The byte of the node. Assumes nothing.
use native.Mathlib.Omega.{arith}
use Rattle.lists.proofs.Bytes.{prev-set}
use Rattle.lists.proofs.tables.set_prev.Goals as goal

pub returns : goal.returns
returns c = let a = c.args in prev-set a.nodes.now a.x a.y (omega (arith, c.ranges.x)) c.sized.ensures
