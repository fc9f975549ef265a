-- The invariant: the numbers before n are done (GivenUpTo), and nothing but the order is another (Reorders). Assumes nothing.
use Rattle.std.proofs.Common.{arith}
use Rattle.disk.proofs.Listing.{reorders-same, reorders-then}
use Rattle.inspect.proofs.Yielding.{given-none, given-more, given-all}
use Rattle.inspect.proofs.give_up.give_up.Goals as goal

pub loop-n-init : goal.loop-n-init
loop-n-init c = (reorders-same _ c.requires, λ rs w. given-none c.args.u rs _)

pub give_up_number-requires : goal.give_up_number-requires
give_up_number-requires c = (c.loop-n.invariant.0.padded, omega arith, omega arith)

pub loop-n-preserved : goal.loop-n-preserved
loop-n-preserved c =
    let l = c.loop-n in
    let w = c.give_up_number.ensures in (
      reorders-then _ _ _ l.invariant.0 w.1,
      λ rs k. given-more _ rs _ l.n _ (l.invariant.1 rs k) _ (omega arith) l.invariant.0.held (w.0 rs k),
    )

pub returns : goal.returns
returns c = let l = c.loop-n in (λ rs k. given-all _ rs _ l.n _ (l.invariant.1 rs k) (omega arith), l.invariant.0)
