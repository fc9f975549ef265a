-- One number in each of two tables. Assumes nothing.
use mathlib.Core.Path.{◌∙◌, ap}
use Rattle.lists.specs.promises.Tables.{Tables, with_prev}
use Rattle.lists.proofs.tables.link.Goals as goal

pub returns : goal.returns
returns c = let a = c.args in c.set_prev.ensures ∙ ap (λ (t : Tables). with_prev a.y a.x t) c.set_next.ensures
