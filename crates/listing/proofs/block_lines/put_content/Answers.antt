-- The word where the number is 0, else the sum. Assumes nothing.
use native.Mathlib.Omega.{arith}
use Rattle.lists.proofs.Owners.{located-some}
use Rattle.listing.specs.Listing.{content_text}
use Rattle.listing.proofs.block_lines.put_content.Goals as goal

pub returns-then-number-eq-UNWRITTEN : goal.returns-then-number-eq-UNWRITTEN
unfolding content_text
returns-then-number-eq-UNWRITTEN c = rw c.if-number-eq-UNWRITTEN.true c.put_bytes.ensures

pub returns : goal.returns
unfolding content_text
returns c =
    let a = c.args in
    rw (located-some a.number (omega arith), ← c.sum_at.ensures) c.put_decimal.ensures
