-- A slot of the card, or nothing. Assumes nothing.
use mathlib.Core.Path.{ap, ◌∙◌}
use native.Mathlib.Omega.{arith}
use Rattle.listing.specs.Listing.{total}
use Rattle.listing.proofs.Lines.{sum-in, sum-out}
use Rattle.listing.proofs.block_lines.sum_at.Goals as goal

pub returns-then-at-ge-SLOTS : goal.returns-then-at-ge-SLOTS
returns-then-at-ge-SLOTS c = let a = c.args in sum-out a.card.now a.number (omega arith)

pub returns : goal.returns
returns c =
    let a = c.args in
    rw (c.from-from.ensures) at (c.sum.ensures ∙ ap total c.part.ensures) ∙ sum-in a.card.now a.number (omega arith)
