-- The parts of the line, one after the other. Assumes nothing.
use Rattle.text.proofs.Writing.{puts-more}
use Rattle.listing.specs.Listing.{list_line}
use Rattle.script.proofs.lines.put_list.Goals as goal

pub returns : goal.returns
unfolding list_line
returns c = rw (← c.from.ensures) (puts-more (puts-more (puts-more (puts-more c.put_bytes-position.ensures c.put_decimal-position.ensures) c.put_byte-position.ensures) c.put_numbers-position.ensures) c.put_byte.ensures)
