-- Each arm is a row of the table. Assumes nothing.
use Rattle.commands.specs.Ran.{printing}
use Rattle.commands.proofs.Lending.{lent-disk}
use Rattle.commands.proofs.run.print.Goals as goal

pub returns-in-Sum : goal.returns-in-Sum
unfolding printing
returns-in-Sum c = rw c.in-Sum.is (rw (c.adler32-sum.ensures, c.part.ensures) at c.put_number.ensures)

pub returns-in-Listing : goal.returns-in-Listing
unfolding printing
returns-in-Listing c = rw c.in-Listing.is (rw c.part-in-Listing.ensures at c.listing.ensures)

pub returns-in-Show : goal.returns-in-Show
unfolding printing
returns-in-Show c =
    let a = c.args in
    rw (c.in-Show.is, lent-disk a.card.now a.queue.now a.journal.now a.state)
    (rw (c.part-in-Show.ensures, c.part-in-Show-2.ensures, c.part-in-Show-3.ensures, c.min.ensures) at c.show.ensures)
