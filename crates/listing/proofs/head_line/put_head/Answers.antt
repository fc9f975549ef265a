-- The parts of the line, one after the other. Assumes nothing.
use Rattle.text.proofs.Writing.{puts-more}
use Rattle.listing.specs.Listing.{head_line}
use Rattle.listing.proofs.head_line.put_head.Goals as goal

pub returns : goal.returns
unfolding head_line
returns c =
    let n = c.counts-t.ensures in
    rw (← n.0, ← n.1)
    (puts-more
    (puts-more
    (puts-more
    (puts-more
    (puts-more
    (puts-more c.put_bytes-position.ensures c.put_decimal-position.ensures)
    c.put_bytes-position-2.ensures)
    c.put_decimal-position-2.ensures)
    c.put_bytes-position-3.ensures)
    c.put_decimal-position-3.ensures)
    c.put_byte.ensures)
