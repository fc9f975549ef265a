-- Each turn passes a byte of the run, which is as much shorter. Assumes nothing.
use native.Mathlib.Omega.{arith}
use native.Mathlib.Numerals.{add-one}
use mathlib.Core.Path.{◌∙◌}
use lib.ListN.{drop_of_length-le}
use Rattle.text.specs.Line.{run}
use Rattle.text.proofs.Lines.{run-stop, run_more}
use Rattle.text.proofs.line.run_end.Goals as goal

pub returns-then-line-i : goal.returns-then-line-i
returns-then-line-i c =
    let a = c.args in
    omega (arith, c.loop-i.invariant.1, run-stop a.blanks a.line.now c.loop-i.i (omega arith) c.if-line-i.true)

pub loop-i-preserved : goal.loop-i-preserved
loop-i-preserved c =
    let a = c.args in
    (omega arith, rw (add-one) (c.loop-i.invariant.1 ∙ omega (arith, run_more a.blanks a.line.now c.loop-i.i (omega arith) c.if-line-i.false)))

pub returns : goal.returns
unfolding run
returns c =
    let line = c.args.line.now in
    let e = drop_of_length-le line {i = c.loop-i.i} (omega arith) in
    omega (arith, rw e at c.loop-i.invariant.1)
