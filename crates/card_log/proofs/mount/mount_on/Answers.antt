-- The walk at locations is the walk with the contents that stand there. Assumes nothing.
use mathlib.Core.Path.{refl, sym, ◌∙◌}
use mathlib.Core.List.{[]}
use borrow.Author.Tests.{not-true, not-false}
use Rattle.card_log.proofs.Locations.{sound-at, fault-at}
use Rattle.card_log.proofs.mount.mount_on.Goals as goal

pub returns-then-not-is_card : goal.returns-then-not-is_card
returns-then-not-is_card c = sym c.is_card.ensures ∙ not-true c.is_card.result c.if-not-is_card.true-raw

pub walk-requires : goal.walk-requires
walk-requires c = sym c.is_card.ensures ∙ not-false c.is_card.result c.if-not-is_card.false-raw

pub returns-in-Sound : goal.returns-in-Sound
returns-in-Sound c =
    let s = c.args in
    let l = sym c.is_card.ensures ∙ not-false c.is_card.result c.if-not-is_card.false-raw in
    let w = rw c.in-Sound.is at c.walk.ensures in
    record {
      accepts = record { right = l; place = w.place; reader = _; walked = sound-at s.card.now [] [] w.reader l w.walked };
      here = w.reader.state;
      shows = w.kept.shows;
      means = refl;
    }

pub returns-in-Fault : goal.returns-in-Fault
returns-in-Fault c =
    let s = c.args in
    let l = sym c.is_card.ensures ∙ not-false c.is_card.result c.if-not-is_card.false-raw in
    (l, fault-at s.card.now _ _ l (rw c.in-Fault.is at c.walk.ensures))
