-- Two digits, one behind the other. Assumes nothing.
use Rattle.text.specs.Hex.{glyphs}
use Rattle.text.proofs.Writing.{puts-more}
use Rattle.text.proofs.hex.put_pair.Goals as goal

pub returns : goal.returns
unfolding glyphs
returns c =
    rw (← c.glyph-2.ensures, ← c.glyph.ensures)
    (puts-more c.put_byte-next.ensures c.put_byte.ensures)
