-- Each byte of the data and of the record is 165. Assumes nothing.
use mathlib.Core.Path.{refl}
use borrow.Author.Rules.{rules}
use Rattle.commands.specs.Cut.{unsound_bytes}
use Rattle.commands.proofs.power.cut.Goals as goal

pub returns : goal.returns
unfolding unsound_bytes
returns c = (refl, search rules, search rules)
