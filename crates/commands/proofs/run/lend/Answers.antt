-- Each arm is a row of the table; the card that is lent is as long as its size says. Assumes nothing.
use mathlib.Core.Path.{refl}
use lib.Seq.{length-take-le}
use Rattle.commands.specs.Ran.{lending}
use Rattle.commands.proofs.run.lend.Goals as goal

pub returns-in-Card : goal.returns-in-Card
unfolding lending
returns-in-Card c = (refl, λ u v w f. rw (c.in-Card.is, c.min.ensures, length-take-le c.args.state.size u f.whole))

pub returns-in-Queue : goal.returns-in-Queue
unfolding lending
returns-in-Queue c = (refl, λ u v w f. rw (c.in-Queue.is, c.min-in-Queue.ensures))

pub returns-in-Journal : goal.returns-in-Journal
unfolding lending
returns-in-Journal c = (refl, λ u v w f. rw (c.in-Journal.is, c.min-in-Journal.ensures))

pub returns-in-All : goal.returns-in-All
unfolding lending
returns-in-All c = (rw c.with_card.ensures, λ u v w f. rw (c.in-All.is, c.with_card.ensures, length-take-le c.args.state.size u f.whole))
