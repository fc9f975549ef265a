-- The last byte that is no zero, and all before it. Assumes nothing.
use Rattle.std.proofs.Common.{rules}
use Rattle.text.proofs.Nibbles.{take-trimmed}
use Rattle.text.proofs.hex.trimmed.Goals as goal

pub returns : goal.returns
returns c = take-trimmed c.args.bytes.now c.rposition.result c.map_or-n.result (search rules) (search rules)
