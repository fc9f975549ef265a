-- The parts of the line, one after the other. Assumes nothing.
use Rattle.text.proofs.Writing.{puts-more}
use Rattle.listing.specs.Listing.{refusal_line}
use Rattle.listing.proofs.state_lines.put_refusal.Goals as goal

pub returns : goal.returns
unfolding refusal_line
returns c =
    puts-more (puts-more c.put_bytes-position.ensures (rw c.from.ensures at c.put_decimal-position.ensures)) c.put_byte.ensures
