-- The blanks that the digits leave, then the digits. Assumes nothing.
use native.Mathlib.Omega.{arith}
use Rattle.text.proofs.Columns.{aligned-fits}
use Rattle.text.proofs.Writing.{puts-more}
use Rattle.listing.proofs.page_line.put_right.Goals as goal

pub returns : goal.returns
returns c =
    let d = c.digits.ensures in
    let a = c.args in
    rw (aligned-fits a.columns a.n (omega (arith, d.0, d.1)), ← d.0) (puts-more c.put_blanks-position.ensures (rw c.from.ensures at c.put_decimal.ensures))
