-- Out of the chain, and in again before its end. Assumes nothing.
use mathlib.Core.Path.{◌∙◌, ap}
use Rattle.lists.specs.promises.Tables.{insert_before, free_node}
use Rattle.lists.proofs.tables.free.Goals as goal

pub returns : goal.returns
unfolding free_node
returns c = c.insert_before.ensures ∙ ap (insert_before 255 c.args.x 0) c.cut.ensures
