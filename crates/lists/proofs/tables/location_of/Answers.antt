-- The two bytes of the node. Assumes nothing.
use mathlib.Core.Path.{◌∙◌}
use native.Mathlib.Omega.{arith}
use Rattle.lists.proofs.Bytes.{location-read}
use Rattle.lists.proofs.tables.location_of.Goals as goal

pub returns : goal.returns
returns c =
    let a = c.args in
    record { answer = c.of_bytes.ensures ∙ location-read a.nodes.now a.block (omega (arith, c.ranges.block)) }
