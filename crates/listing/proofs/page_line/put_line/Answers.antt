-- The margin, the blocks, the blanks that they leave and the line's end. Assumes nothing.
use Rattle.text.proofs.Writing.{puts-more}
use Rattle.listing.specs.Page.{on_line}
use Rattle.listing.proofs.Pages.{line-parts}
use Rattle.listing.proofs.page_line.put_line.Goals as goal

pub returns : goal.returns
unfolding on_line
returns c =
    let a = c.args in
    rw (line-parts a.list a.blocks.now a.k)
    (rw c.part-here.ensures at (puts-more (puts-more (puts-more c.put_margin-position.ensures c.put_cells-position.ensures) c.put_blanks-position.ensures) c.put_byte.ensures))
