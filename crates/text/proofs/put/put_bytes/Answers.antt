-- Each turn puts one byte more of the source behind what is there. Assumes nothing.
use native.Mathlib.Numerals.{add-one}
use native.Mathlib.Omega.{arith}
use lib.Seq.{take-suc}
use Rattle.text.proofs.Writing.{puts_none, puts-more}
use Rattle.text.proofs.put.put_bytes.Goals as goal

pub loop-b-init : goal.loop-b-init
loop-b-init c = puts_none c.args.out.now c.args.at

pub loop-b-preserved : goal.loop-b-preserved
loop-b-preserved c =
    rw (add-one, take-suc c.args.src.now c.loop-b.b-index 0 (omega arith)) (puts-more c.loop-b.invariant c.put_byte-position.ensures)
