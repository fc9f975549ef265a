-- The byte of the node. Assumes nothing.
use native.Mathlib.Omega.{arith}
use Rattle.lists.proofs.Bytes.{prev-read}
use Rattle.lists.proofs.tables.prev_of.Goals as goal

pub returns : goal.returns
returns c = prev-read c.args.nodes.now c.args.x (omega (arith, c.ranges.x))
