-- The parts of the line, one after the other. Assumes nothing.
use Rattle.text.proofs.Writing.{puts-more}
use Rattle.script.specs.Lines.{content_line}
use Rattle.script.specs.Spelling.{bytes}
use Rattle.script.proofs.replies.put_content.Goals as goal

pub returns : goal.returns
unfolding content_line bytes
returns c = puts-more (puts-more c.put_bytes-position.ensures c.put_raced-position.ensures) c.put_byte.ensures
