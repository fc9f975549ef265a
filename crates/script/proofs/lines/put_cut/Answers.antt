-- The parts of the line, one after the other. Assumes nothing.
use Rattle.text.proofs.Writing.{puts-more}
use Rattle.script.specs.Lines.{cut_line}
use Rattle.script.specs.Spelling.{bytes}
use Rattle.script.proofs.lines.put_cut.Goals as goal

pub returns : goal.returns
unfolding cut_line bytes
returns c = puts-more (puts-more c.put_bytes-position.ensures c.put_decimal-position.ensures) c.put_byte.ensures
