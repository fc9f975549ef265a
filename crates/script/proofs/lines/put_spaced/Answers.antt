-- The blank, and the number. Assumes nothing.
use Rattle.text.proofs.Writing.{puts-more}
use Rattle.script.specs.Lines.{spaced}
use Rattle.script.proofs.lines.put_spaced.Goals as goal

pub returns : goal.returns
unfolding spaced
returns c = puts-more c.put_byte-position.ensures c.put_decimal.ensures
