-- The length, then what mounting finds. Assumes nothing.
use Rattle.listing.proofs.Reading.{too-long, no-card, is-card}
use Rattle.listing.proofs.read.read.Goals as goal

pub returns-then-most-card : goal.returns-then-most-card
returns-then-most-card c = too-long _ _ c.if-most-card.true

pub returns-in-WrongLength : goal.returns-in-WrongLength
returns-in-WrongLength c = no-card _ _ c.in-WrongLength.ensures

pub returns-in-Fault : goal.returns-in-Fault
returns-in-Fault c = let m = c.in-Fault.ensures in (is-card _ _ m.0 c.if-most-card.false, _, _, m.1)

pub returns-in-Sound : goal.returns-in-Sound
returns-in-Sound c =
    let m = c.in-Sound.ensures in (
      is-card _ _ m.accepts.right c.if-most-card.false,
      record { reader = m.accepts.reader; walked = m.accepts.walked; here = m.here; shows = m.shows; means = m.means },
    )
