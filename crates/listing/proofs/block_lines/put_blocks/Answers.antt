-- Each turn puts one block's line more. Assumes nothing.
use mathlib.Core.Path.{◌≡◌}
use Prim.Native.Nat.{◌-◌}
use native.Mathlib.Omega.{arith}
use Rattle.lists.specs.Basic.{from, joined}
use Rattle.text.proofs.Writing.{puts_none, puts-more}
use Rattle.listing.specs.Listing.{block_part, block_lines}
use Rattle.listing.specs.promises.Shown.{sum_at}
use Rattle.listing.proofs.Lines.{lines_more}
use Rattle.listing.proofs.block_lines.put_blocks.Goals as goal

pub loop-block-init : goal.loop-block-init
unfolding joined from
loop-block-init c = λ rs w. puts_none c.args.out.now c.args.at

pub loop-block-preserved : goal.loop-block-preserved
loop-block-preserved c = λ rs w.
    let s = c.loop-block in
    rw (lines_more (block_part (sum_at c.args.card.now) rs) s.block (omega arith))
    (puts-more (s.invariant rs w) (c.put_block-position.ensures.of_shown rs w (omega arith, omega arith)))

pub returns-clause-of_shown : goal.returns-clause-of_shown
unfolding block_lines
returns-clause-of_shown c = λ rs w.
    let s = c.loop-block in
    let e : s.block - 1 ≡ 64 = omega arith in
    rw e at (s.invariant rs w)
