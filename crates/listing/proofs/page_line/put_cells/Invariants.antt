-- Each turn puts one block more. Assumes nothing.
use lib.ListN.{take}
use Rattle.listing.specs.Page.{cells}
use Rattle.text.specs.Written.{Puts}
use Rattle.listing.proofs.page_line.put_cells.Given as goal

abbrev pub invariant-loop-block : goal.invariant-loop-block
invariant-loop-block l = Puts l.initial.out l.at (cells (take l.block-index l.blocks)) l.out l.position
