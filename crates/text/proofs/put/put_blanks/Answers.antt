-- Each turn puts one blank more. Assumes nothing.
use Rattle.text.proofs.Columns.{blanks-none, blanks-more}
use Rattle.text.proofs.Writing.{puts_none, puts-more}
use Rattle.text.proofs.put.put_blanks.Goals as goal

pub loop-init : goal.loop-init
loop-init c = rw blanks-none (puts_none c.args.out.now c.args.at)

pub loop-preserved : goal.loop-preserved
loop-preserved c = rw (blanks-more c.loop.counter) (puts-more c.loop.invariant c.put_byte-position.ensures)
