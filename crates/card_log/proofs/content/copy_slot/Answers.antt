-- The part of the source is its 256 bytes number k, and they fill the destination. Assumes nothing.
use mathlib.Core.Path.{ap, ◌∙◌}
use lib.ListN.{length}
use Rattle.card_log.proofs.Copying.{splice-whole, slot-room, slot-part}
use Rattle.card_log.proofs.content.copy_slot.Goals as goal

pub slice_bounds-copy_in-end : goal.slice_bounds-copy_in-end
slice_bounds-copy_in-end c = slot-room c.args.src.now c.args.k c.requires.1

pub returns : goal.returns
returns c =
    let e = slot-part c.args.src.now c.args.k in
    c.copy_in.ensures ∙ splice-whole c.args.dest.now _ (ap length e ∙ c.requires.1) c.requires.2 ∙ e
