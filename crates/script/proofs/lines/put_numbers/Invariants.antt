-- Each turn puts one number more behind what is there. Assumes nothing.
use lib.ListN.{take}
use Rattle.text.specs.Written.{Puts}
use Rattle.listing.specs.Listing.{numbers}
use Rattle.script.proofs.lines.put_numbers.Given as goal

abbrev pub invariant-loop-n : goal.invariant-loop-n
invariant-loop-n l = Puts l.initial.out l.at (numbers (take l.n-index l.ns)) l.out l.position
