-- The change is added, then the block held and taken out of the order. Assumes nothing.
use mathlib.Core.Path.{ap, ◌∙◌}
use Rattle.disk.specs.Record.{Record, record_in}
use Rattle.disk.specs.promises.Listing.{unlisted}
use Rattle.calls.proofs.Giving.{puts-block, padded-given}
use Rattle.calls.proofs.give.put_block.Goals as goal

pub withdraw-requires : goal.withdraw-requires
withdraw-requires c = padded-given c.args.s _ _ (record_in c.args.rec.now) (record_in c.add.new.rec) _ c.in_ok-add.ensures c.held.ensures c.requires.4

pub returns : goal.returns
returns c =
    let x = c.args in
    rw c.from.ensures
    (puts-block x.s x.l x.p x.b (record_in x.rec.now) (record_in c.add.new.rec) _ (rw c.entry_of.ensures at c.in_ok-add.ensures)
    (c.withdraw.ensures ∙ ap (λ (r : Record). unlisted x.b r) c.held.ensures))
