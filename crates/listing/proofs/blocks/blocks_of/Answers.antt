-- Each turn stores the next block of the list. Assumes nothing.
use mathlib.Core.Path.{refl, ◌∙◌}
use native.Mathlib.Omega.{arith}
use lib.ListN.{length-set}
use Rattle.lists.proofs.Lookup.{block-said}
use Rattle.lists.specs.promises.Tables.{tables_in}
use Rattle.listing.proofs.Gathering.{gathering-none, gathering-more, gathering-end, gathering-full}
use Rattle.listing.proofs.blocks.blocks_of.Goals as goal

pub block_after-block-requires : goal.block_after-block-requires
block_after-block-requires c = tt

pub loop-i-init : goal.loop-i-init
loop-i-init c =
    let a = c.args in
    (omega arith, refl, λ rs w h. gathering-none a.dest.now rs a.list c.block_after-block.result (block-said c.block_after-block.ensures rs w h refl))

pub shape_of-dest-then-block-eq0 : goal.shape_of-dest-then-block-eq0
shape_of-dest-then-block-eq0 c = c.loop-i.invariant.1

pub returns-then-block-eq0 : goal.returns-then-block-eq0
returns-then-block-eq0 c =
    let s = c.loop-i in
    let a = c.args in
    record { upper_bound = s.invariant.0; of_shown = λ rs w h. gathering-end (tables_in a.nodes.now) rs w a.list (s.invariant.2 rs w h) c.if-block-eq0.true }

pub bounds-dest-i : goal.bounds-dest-i
bounds-dest-i c = omega (arith, c.loop-i.invariant.1)

pub block_after-block-requires-in-loop-i : goal.block_after-block-requires-in-loop-i
block_after-block-requires-in-loop-i c = tt

pub overflow_add-i : goal.overflow_add-i
overflow_add-i c = omega arith

pub loop-i-smaller : goal.loop-i-smaller
loop-i-smaller c = omega arith

pub loop-i-preserved : goal.loop-i-preserved
loop-i-preserved c =
    let s = c.loop-i in
    let a = c.args in (
      omega arith,
      length-set s.dest s.i s.block ∙ s.invariant.1,
      λ rs w h. gathering-more (tables_in a.nodes.now) rs w a.list (s.invariant.2 rs w h) (omega arith) c.if-block-eq0.false (λ k. block-said c.block_after-block-in-loop-i.ensures rs w h k),
    )

pub shape_of-dest : goal.shape_of-dest
shape_of-dest c = c.loop-i.invariant.1

pub returns : goal.returns
returns c =
    let s = c.loop-i in
    let a = c.args in
    record { upper_bound = s.invariant.0; of_shown = λ rs w h. gathering-full (tables_in a.nodes.now) rs w a.list (s.invariant.2 rs w h) (omega arith) }
