-- The length is the map's. Assumes nothing.
use Rattle.card_log.proofs.parse.fits.Goals as goal

pub returns : goal.returns
returns c = rw c.length.ensures
