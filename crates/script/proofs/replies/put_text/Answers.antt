-- The length's line, then the text. Assumes nothing.
use Rattle.text.proofs.Writing.{puts-more}
use Rattle.script.specs.Lines.{length_and_text}
use Rattle.script.proofs.replies.put_text.Goals as goal

pub returns : goal.returns
unfolding length_and_text
returns c = puts-more c.put_pair-position.ensures c.put_bytes.ensures
