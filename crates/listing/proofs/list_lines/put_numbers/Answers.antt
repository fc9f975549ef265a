-- Each turn puts one block more. Assumes nothing.
use native.Mathlib.Omega.{arith}
use native.Mathlib.Numerals.{add-one}
use Rattle.text.proofs.Writing.{puts_none, puts-more}
use Rattle.listing.proofs.Lines.{numbers-none, numbers-take}
use Rattle.listing.proofs.list_lines.put_numbers.Goals as goal

pub loop-block-init : goal.loop-block-init
loop-block-init c = rw numbers-none (puts_none c.args.out.now c.args.at)

pub loop-block-preserved : goal.loop-block-preserved
loop-block-preserved c =
    let s = c.loop-block in
    rw (add-one, numbers-take c.args.blocks.now s.block-index (omega arith)) (puts-more s.invariant c.put_number-position.ensures)
