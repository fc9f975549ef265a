-- The parts of the line, one after the other. Assumes nothing.
use Rattle.text.proofs.Writing.{puts-more}
use Rattle.script.specs.Lines.{triple_line}
use Rattle.script.proofs.lines.put_triple.Goals as goal

pub returns : goal.returns
unfolding triple_line
returns c = puts-more (puts-more (puts-more c.put_decimal-position.ensures c.put_spaced-position.ensures) c.put_spaced-position-2.ensures) c.put_byte.ensures
