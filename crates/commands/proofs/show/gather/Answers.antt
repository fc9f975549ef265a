-- Each turn stores the next block of the list. Assumes nothing.
use Rattle.std.proofs.Common.{◌≡◌, arith}
use Rattle.commands.proofs.Showing.{gathered_none, gathered-more, gathered-end, gathered-full}
use Rattle.commands.proofs.show.gather.Goals as goal

pub loop-n-init : goal.loop-n-init
loop-n-init c = gathered_none _ _ _ c.args.blocks.now _ (omega arith) c.block_after-block.ensures

pub returns-then-block-eq0 : goal.returns-then-block-eq0
returns-then-block-eq0 c = gathered-end _ _ _ _ _ _ c.loop-n.invariant c.if-block-eq0.true

pub loop-n-preserved : goal.loop-n-preserved
loop-n-preserved c = gathered-more _ _ _ _ _ _ c.loop-n.invariant _ (omega arith) c.if-block-eq0.false c.block_after-block-in-loop-n.ensures

pub returns : goal.returns
returns c = let all : c.loop-n.n ≡ 64 = omega arith in rw all at (gathered-full _ _ _ _ c.loop-n.n _ c.loop-n.invariant (omega arith))
