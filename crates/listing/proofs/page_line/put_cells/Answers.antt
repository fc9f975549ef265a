-- Each turn puts one block more. Assumes nothing.
use native.Mathlib.Omega.{arith}
use native.Mathlib.Numerals.{add-one}
use Rattle.text.proofs.Writing.{puts_none, puts-more}
use Rattle.listing.proofs.Pages.{cells-none, cells-take}
use Rattle.listing.proofs.page_line.put_cells.Goals as goal

pub loop-block-init : goal.loop-block-init
loop-block-init c = rw cells-none (puts_none c.args.out.now c.args.at)

pub loop-block-preserved : goal.loop-block-preserved
loop-block-preserved c =
    let s = c.loop-block in
    rw (add-one, cells-take c.args.blocks.now s.block-index (omega arith)) (puts-more s.invariant c.put_right-position.ensures)
