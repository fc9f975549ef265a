-- Each turn puts one number more behind what is there. Assumes nothing.
use native.Mathlib.Omega.{arith}
use native.Mathlib.Numerals.{add-one}
use Rattle.text.proofs.Writing.{puts_none, puts-more}
use Rattle.lists.specs.Basic.{joined}
use Rattle.listing.specs.Listing.{numbers}
use Rattle.listing.proofs.Lines.{numbers-one, numbers-take}
use Rattle.script.specs.Lines.{spaced}
use Rattle.script.proofs.lines.put_numbers.Goals as goal

pub loop-n-init : goal.loop-n-init
unfolding numbers joined
loop-n-init c = puts_none c.args.out.now c.args.at

pub loop-n-preserved : goal.loop-n-preserved
unfolding spaced
loop-n-preserved c =
    rw (add-one, numbers-take c.args.ns.now c.loop-n.n-index (omega arith), numbers-one)
    (puts-more c.loop-n.invariant (rw c.from.ensures at c.put_spaced-position.ensures))
