-- The number in its columns and a blank, or blanks alone. Assumes nothing.
use Rattle.text.proofs.Writing.{puts-more}
use Rattle.listing.proofs.Pages.{margin-first, margin-further}
use Rattle.listing.proofs.page_line.put_margin.Goals as goal

pub returns-then-k-ne0 : goal.returns-then-k-ne0
returns-then-k-ne0 c =
    let a = c.args in
    rw (margin-further a.list a.k c.if-k-ne0.true) c.put_blanks.ensures

pub returns : goal.returns
returns c =
    let a = c.args in
    rw (c.if-k-ne0.false, margin-first a.list) (puts-more c.put_right-position.ensures c.put_byte.ensures)
