-- The blocks gathered are the list's. Assumes nothing.
use mathlib.Core.Path.{◌∙◌}
use Rattle.commands.specs.Shown.{list_shown}
use Rattle.commands.proofs.show.show_list.Goals as goal

pub returns : goal.returns
unfolding list_shown
returns c =
    rw (c.part.ensures ∙ c.gather-n.ensures) at c.put_list.ensures
