-- The sum is the definition's, and fits. Assumes nothing.
use Rattle.driver.specs.Stores.{word}
use borrow.Author.Rules.{rules}
use Rattle.driver.proofs.word.joined.Goals as goal

pub returns : goal.returns
unfolding word
returns c = search rules
