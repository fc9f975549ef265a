-- The loop's invariant: the words that are left, put into the buffer as it is, leave what all of them leave. Assumes nothing.
use mathlib.Core.Path.{◌∙◌}
use native.Mathlib.Omega.{arith}
use Rattle.driver.proofs.Listing.{counts_start, counts-next}
use Rattle.driver.proofs.format.list_counts.Goals as goal

pub loop-at-init : goal.loop-at-init
loop-at-init c = counts_start c.args.segments _ _ c.args.stores.now c.min-most.ensures

pub loop-at-preserved : goal.loop-at-preserved
loop-at-preserved c =
    let l = c.loop-at in
    rw c.joined.ensures (counts-next c.args.segments c.min-most.result l.at l.stores (omega arith) (omega (arith, c.min-most.ensures)) ∙ l.invariant)
