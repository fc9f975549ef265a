-- The byte of the node. Assumes nothing.
use native.Mathlib.Omega.{arith}
use Rattle.lists.proofs.Bytes.{owner-set}
use Rattle.lists.proofs.tables.set_owner.Goals as goal

pub returns : goal.returns
returns c = let a = c.args in owner-set a.nodes.now a.x a.list (omega (arith, c.ranges.x)) c.sized.ensures
