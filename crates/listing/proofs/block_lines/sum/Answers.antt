-- The chain's sum is the total. Assumes nothing.
use Rattle.std.proofs.Common.{rules}
use Rattle.listing.proofs.Lines.{total-sum}
use Rattle.listing.proofs.block_lines.sum.Goals as goal

pub returns : goal.returns
returns c = rw total-sum (search rules)
