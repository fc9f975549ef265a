-- Block, slot and race stand before the end if the entry fits; the race is judged first. Assumes nothing.
use mathlib.Core.Path.{refl, sym, ◌∙◌}
use native.Mathlib.Omega.{arith}
use lib.Count.{ones}
use Rattle.lists.proofs.Basic.{not-false, false-not}
use Rattle.card_log.specs.Entry.{size_of}
use Rattle.card_log.proofs.Parsing.{field-before, parsed-cut, parsed-raced, raced-none}
use Rattle.card_log.proofs.parse.parse_raced.Goals as goal

pub returns-then-not-fits : goal.returns-then-not-fits
returns-then-not-fits c =
    let s = c.args in
    parsed-cut s.card.now s.at s.end s.slots 73 (sym c.fits.ensures ∙ not-false _ c.if-not-fits.true-raw)

pub field-block-requires : goal.field-block-requires
unfolding ones
field-block-requires c =
    (omega arith, field-before _ _ (size_of 73) 1 (sym c.fits.ensures ∙ false-not _ c.if-not-fits.false-raw) (omega arith), c.requires.within)

pub field-slot-requires : goal.field-slot-requires
unfolding ones
field-slot-requires c =
    (omega arith, field-before _ _ (size_of 73) 2 (sym c.fits.ensures ∙ false-not _ c.if-not-fits.false-raw) (omega arith), c.requires.within)

pub field-race-requires : goal.field-race-requires
unfolding ones
field-race-requires c =
    (omega arith, field-before _ _ (size_of 73) 3 (sym c.fits.ensures ∙ false-not _ c.if-not-fits.false-raw) (omega arith), c.requires.within)

pub returns-then-not-both : goal.returns-then-not-both
unfolding ones
returns-then-not-both c =
    let s = c.args in
    raced-none s.card.now s.at s.end s.slots c.field-race.result c.field-race.ensures (sym (rw c.is_race.ensures at c.both.ensures) ∙ not-false _ c.if-not-both.true-raw)

pub returns-then-both : goal.returns-then-both
unfolding ones
returns-then-both c =
    let s = c.args in
    let r = sym (rw c.is_race.ensures at c.both.ensures) ∙ false-not _ c.if-not-both.false-raw in
    let u = rw (c.is_block.ensures, c.is_slot.ensures) at c.both-2.ensures in
    let t = rw u at c.both-3.ensures in
    rw c.if-both.true at
    (parsed-raced s.card.now s.at s.end s.slots c.both-3.result c.length.result
    c.field-block.result c.field-slot.result c.field-race.result
    (sym c.fits.ensures ∙ false-not _ c.if-not-fits.false-raw) c.field-block.ensures c.field-slot.ensures c.field-race.ensures r t c.length.ensures)

pub returns-else-both : goal.returns-else-both
unfolding ones
returns-else-both c =
    let s = c.args in
    let r = sym (rw c.is_race.ensures at c.both.ensures) ∙ false-not _ c.if-not-both.false-raw in
    let u = rw (c.is_block.ensures, c.is_slot.ensures) at c.both-2.ensures in
    let t = rw u at c.both-3.ensures in
    rw c.if-both.false at
    (parsed-raced s.card.now s.at s.end s.slots c.both-3.result (size_of 73)
    c.field-block.result c.field-slot.result c.field-race.result
    (sym c.fits.ensures ∙ false-not _ c.if-not-fits.false-raw) c.field-block.ensures c.field-slot.ensures c.field-race.ensures r t refl)
