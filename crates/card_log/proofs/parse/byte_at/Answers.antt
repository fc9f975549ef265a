-- Before the end the byte is the card's; from there on the bytes taken have none. Assumes nothing.
use mathlib.Core.Path.{sym}
use native.Mathlib.Omega.{arith}
use lib.ListN.{take, length-take, get_or-eq_default}
use lib.Seq.{get_or-take}
use Rattle.card_log.proofs.parse.byte_at.Goals as goal

pub returns-then-at-end : goal.returns-then-at-end
returns-then-at-end c = let s = c.args in sym (get_or-take s.end s.card.now s.at 0 c.if-at-end.true)

pub returns-else-at-end : goal.returns-else-at-end
returns-else-at-end c = let s = c.args in sym (get_or-eq_default (take s.end s.card.now) 0 (simp length-take (omega arith)))
