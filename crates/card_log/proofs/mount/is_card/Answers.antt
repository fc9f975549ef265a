-- The three tests are the definition's. Assumes nothing.
use Rattle.card_log.specs.Card.{card_length}
use Rattle.card_log.proofs.mount.is_card.Goals as goal

pub returns : goal.returns
unfolding card_length
returns c = rw (c.both-2.ensures, c.both.ensures)
