-- The byte of the node. Assumes nothing.
use native.Mathlib.Omega.{arith}
use Rattle.lists.proofs.Bytes.{owner-read}
use Rattle.lists.proofs.tables.owner_of.Goals as goal

pub returns : goal.returns
returns c = owner-read c.args.nodes.now c.args.x (omega (arith, c.ranges.x))
