-- The parts of the line, one after the other. Assumes nothing.
use Rattle.text.proofs.Writing.{puts-more}
use Rattle.script.specs.Lines.{block_line}
use Rattle.script.specs.Spelling.{bytes}
use Rattle.script.proofs.lines.put_block.Goals as goal

pub returns : goal.returns
unfolding block_line bytes
returns c = rw (← c.from.ensures) (puts-more (puts-more (puts-more (puts-more c.put_bytes-position.ensures c.put_decimal-position.ensures) c.put_bytes-position-2.ensures) c.put_raced-position.ensures) c.put_byte.ensures)
