-- The parts of the line, one after the other. Assumes nothing.
use Rattle.text.proofs.Writing.{puts-more}
use Rattle.listing.specs.Listing.{list_line}
use Rattle.listing.proofs.list_lines.put_line.Goals as goal

pub returns : goal.returns
unfolding list_line
returns c =
    puts-more (puts-more (puts-more (puts-more c.put_bytes-position.ensures (rw c.from.ensures at c.put_decimal-position.ensures)) c.put_byte-position.ensures) c.put_numbers-position.ensures) c.put_byte.ensures
