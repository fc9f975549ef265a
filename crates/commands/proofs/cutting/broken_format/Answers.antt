-- Question 1 alone decides, and the stores are the definition's. Assumes nothing.
use mathlib.Core.Path.{sym, ◌∙◌}
use borrow.Author.Tests.{not-true, not-false}
use Rattle.disk.specs.Perform.{formatted}
use Rattle.commands.proofs.Breaking.{format-broken, format-not-broken}
use Rattle.commands.proofs.cutting.broken_format.Goals as goal

pub returns-then-not-lengths_right : goal.returns-then-not-lengths_right
returns-then-not-lengths_right c =
    λ rec. format-not-broken _ _ (sym (c.lengths_right.ensures rec) ∙ not-true c.lengths_right.result c.if-not-lengths_right.true-raw)

pub returns : goal.returns
unfolding formatted
returns c =
    λ rec. format-broken _ _ (sym (c.lengths_right.ensures rec) ∙ not-false c.lengths_right.result c.if-not-lengths_right.false-raw)
    _ c.min-made.ensures _ c.format_stores.ensures
