-- The place is within the card, or not. Assumes nothing.
use Rattle.script.specs.Spelling.{bytes}
use Rattle.commands.proofs.Running.{poked-inside, poked-outside}
use Rattle.commands.proofs.run.poke.Goals as goal

pub returns-then-place-state : goal.returns-then-place-state
unfolding bytes
returns-then-place-state c q j =
    let a = c.args in
    let (k, t) = c.said.ensures in
    poked-inside a.place a.byte a.card.now q j a.state c.said.result c.requires k c.if-place-state.true t

pub returns-else-place-state : goal.returns-else-place-state
unfolding bytes
returns-else-place-state c q j =
    let a = c.args in
    let (k, t) = c.said-else-place-state.ensures in
    poked-outside a.place a.byte a.card.now q j a.state c.said-else-place-state.result c.requires k c.if-place-state.false t
