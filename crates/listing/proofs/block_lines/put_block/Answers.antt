-- Nothing where the block is on no list; else the parts of its line, one after the other. Assumes nothing.
use mathlib.Core.Path.{◌≡◌, sym, ◌∙◌}
use mathlib.Core.Bool.{true, false}
use Rattle.lists.proofs.Lookup.{placed-said, location-said}
use Rattle.lists.specs.State.{placed}
use Rattle.lists.specs.promises.Tables.{located_at}
use Rattle.text.proofs.Writing.{puts_none, puts-more}
use Rattle.listing.specs.Listing.{block_line}
use Rattle.listing.specs.promises.Shown.{sum_at}
use Rattle.listing.proofs.Lines.{block_none, block-some}
use Rattle.listing.proofs.block_lines.put_block.Goals as goal

pub returns-then-not-is_placed-clause-of_shown : goal.returns-then-not-is_placed-clause-of_shown
returns-then-not-is_placed-clause-of_shown c = λ rs w g.
    let a = c.args in
    let u : placed a.block rs ≡ false = sym (placed-said c.is_placed.ensures rs w g) ∙ c.if-not-is_placed.true in
    rw (block_none rs (sum_at a.card.now) a.block u) (puts_none a.out.now a.at)

pub returns-clause-of_shown : goal.returns-clause-of_shown
unfolding block_line
returns-clause-of_shown c = λ rs w g.
    let l = c.location_of-number in
    let a = c.args in
    let t : placed a.block rs ≡ true = sym (placed-said c.is_placed.ensures rs w g) ∙ c.if-not-is_placed.false in
    rw (block-some rs (sum_at a.card.now) a.block (located_at l.result) t (location-said l.ensures rs w t))
    (puts-more
    (puts-more
    (puts-more
    (puts-more c.put_bytes-position.ensures (rw c.from.ensures at c.put_decimal-position.ensures))
    c.put_bytes-position-2.ensures)
    c.put_content-position.ensures)
    c.put_byte.ensures)
