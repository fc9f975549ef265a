-- The place of the field is before the end, so the byte is one of those taken. Assumes nothing.
use mathlib.Core.Path.{sym}
use lib.Seq.{get_or-take}
use Rattle.card_log.proofs.parse.field.Goals as goal

pub returns : goal.returns
returns c = let s = c.args in sym (get_or-take s.end s.card.now _ 0 c.requires.1)
