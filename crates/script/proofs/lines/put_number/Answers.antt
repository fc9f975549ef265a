-- The parts of the line, one after the other. Assumes nothing.
use Rattle.text.proofs.Writing.{puts-more}
use Rattle.script.specs.Lines.{number_line}
use Rattle.script.proofs.lines.put_number.Goals as goal

pub returns : goal.returns
unfolding number_line
returns c = puts-more c.put_decimal-position.ensures c.put_byte.ensures
