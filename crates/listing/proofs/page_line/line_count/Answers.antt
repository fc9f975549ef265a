-- One line for no block, and one more for every eleven behind the first. Assumes nothing.
use native.Mathlib.Omega.{arith}
use Rattle.listing.specs.Page.{line_count}
use Rattle.listing.proofs.page_line.line_count.Goals as goal

pub returns : goal.returns
unfolding line_count
returns c = omega (arith, c.max.ensures, c.div_ceil.ensures)
