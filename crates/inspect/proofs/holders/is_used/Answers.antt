-- Up to 64 it is a block, above a list. Assumes nothing.
use native.Mathlib.Omega.{arith}
use borrow.Author.Tests.{le-leb, lt-leb}
use Rattle.lists.specs.InUse.{in_use}
use Rattle.lists.proofs.Lookup.{placed-said, taken-said}
use Rattle.inspect.proofs.holders.is_used.Goals as goal

pub returns-then-number-le-BLOCKS : goal.returns-then-number-le-BLOCKS
unfolding in_use
returns-then-number-le-BLOCKS c = λ rs s. let n = c.args.number in rw (le-leb n 64 c.if-number-le-BLOCKS.true) (placed-said c.is_placed.ensures rs s (c.requires.0, c.if-number-le-BLOCKS.true))

pub returns : goal.returns
unfolding in_use
returns c = λ rs s. rw (lt-leb c.args.number 64 c.if-number-le-BLOCKS.false) (taken-said c.is_taken.ensures rs s (omega arith, omega (arith, c.requires.1)))
