-- Each turn puts one line more. Assumes nothing.
use Rattle.lists.specs.Basic.{from, joined}
use Rattle.text.specs.Written.{Puts}
use Rattle.listing.specs.Page.{page_line}
use Rattle.listing.proofs.page_line.put_lines.Given as goal

abbrev pub invariant-loop-k : goal.invariant-loop-k
invariant-loop-k l = Puts l.initial.out l.at (joined (from (page_line l.list l.blocks) 0 l.k)) l.out l.position
