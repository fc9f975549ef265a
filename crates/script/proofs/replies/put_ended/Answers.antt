-- The parts of the line, one after the other. Assumes nothing.
use Rattle.text.proofs.Writing.{puts-more}
use Rattle.script.specs.Lines.{ended_line}
use Rattle.script.proofs.replies.put_ended.Goals as goal

pub returns : goal.returns
unfolding ended_line
returns c = puts-more (puts-more (puts-more (puts-more c.put_decimal-position.ensures c.put_spaced-position.ensures) c.put_byte-position.ensures) c.put_bytes-position.ensures) c.put_byte.ensures
