-- Field by field as the definition says. Assumes nothing.
use Rattle.card_log.specs.Store.{opened}
use borrow.Author.Rules.{rules}
use Rattle.card_log.proofs.place.opened.Goals as goal

pub returns : goal.returns
unfolding opened
returns c = search borrow.Author.Rules.rules
