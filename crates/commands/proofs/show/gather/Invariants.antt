-- Each turn stores the next block of the list. Assumes nothing.
use Rattle.commands.specs.Viewed.{disk_of}
use Rattle.commands.proofs.Showing.{Gathered}
use Rattle.commands.proofs.show.gather.Given as goal

abbrev pub invariant-loop-n : goal.invariant-loop-n
invariant-loop-n l = Gathered (disk_of l.v) l.v.number l.list l.blocks l.n l.block
