-- Each turn puts one number more. Assumes nothing.
use lib.ListN.{take}
use Rattle.listing.specs.Listing.{numbers}
use Rattle.text.specs.Written.{Puts}
use Rattle.listing.proofs.list_lines.put_numbers.Given as goal

abbrev pub invariant-loop-block : goal.invariant-loop-block
invariant-loop-block l = Puts l.initial.out l.at (numbers (take l.block-index l.blocks)) l.out l.position
