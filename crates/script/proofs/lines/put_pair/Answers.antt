-- The parts of the line, one after the other. Assumes nothing.
use Rattle.text.proofs.Writing.{puts-more}
use Rattle.script.specs.Lines.{pair_line}
use Rattle.script.proofs.lines.put_pair.Goals as goal

pub returns : goal.returns
unfolding pair_line
returns c = puts-more (puts-more c.put_decimal-first.ensures c.put_spaced-second.ensures) c.put_byte.ensures
