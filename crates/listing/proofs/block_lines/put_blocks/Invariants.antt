-- Each turn puts one block's line more. Assumes nothing.
use Prim.Native.Nat.{◌-◌}
use Rattle.lists.specs.promises.Tables.{tables_in, OfShown}
use Rattle.lists.specs.Basic.{from, joined}
use Rattle.text.specs.Written.{Puts}
use Rattle.listing.specs.Listing.{block_part}
use Rattle.listing.specs.promises.Shown.{sum_at}
use Rattle.listing.proofs.block_lines.put_blocks.Given as goal

abbrev pub invariant-loop-block : goal.invariant-loop-block
invariant-loop-block l =
    OfShown (tables_in l.nodes) (λ rs. Puts l.initial.out l.at (joined (from (block_part (sum_at l.card) rs) 1 (l.block - 1))) l.out l.position)
