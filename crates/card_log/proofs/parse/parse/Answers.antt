-- Each arm picks the fields of its kind, which stand before the end if the entry fits; a write with a race is `parse_raced`'s, the kinds with one field are `parse_short`'s. Assumes nothing.
use mathlib.Core.Path.{refl, sym, ◌∙◌}
use native.Mathlib.Omega.{arith}
use lib.Count.{ones}
use Rattle.lists.proofs.Basic.{not-false, false-not}
use Rattle.card_log.specs.Entry.{size_of}
use Rattle.card_log.proofs.Parsing.{field-before, parsed-cut, parsed-put-first, parsed-put-after, parsed-write}
use Rattle.card_log.proofs.parse.parse.Goals as goal

pub returns-then-not-fits : goal.returns-then-not-fits
returns-then-not-fits c =
    let s = c.args in
    rw c.in-3.is (parsed-cut s.card.now s.at s.end s.slots 3 (sym c.fits.ensures ∙ not-false _ c.if-not-fits.true-raw))

pub field-block-requires : goal.field-block-requires
unfolding ones
field-block-requires c =
    (omega arith, field-before _ _ (size_of 3) 1 (sym c.fits.ensures ∙ false-not _ c.if-not-fits.false-raw) (omega arith), c.requires.0.within)

pub field-list-requires : goal.field-list-requires
unfolding ones
field-list-requires c =
    (omega arith, field-before _ _ (size_of 3) 2 (sym c.fits.ensures ∙ false-not _ c.if-not-fits.false-raw) (omega arith), c.requires.0.within)

pub returns-then-not-fits-2 : goal.returns-then-not-fits-2
returns-then-not-fits-2 c =
    let s = c.args in
    rw c.in-7.is (parsed-cut s.card.now s.at s.end s.slots 7 (sym c.fits-in-7.ensures ∙ not-false _ c.if-not-fits-2.true-raw))

pub field-block-requires-in-7 : goal.field-block-requires-in-7
unfolding ones
field-block-requires-in-7 c =
    (omega arith, field-before _ _ (size_of 7) 1 (sym c.fits-in-7.ensures ∙ false-not _ c.if-not-fits-2.false-raw) (omega arith), c.requires.0.within)

pub field-list-requires-in-7 : goal.field-list-requires-in-7
unfolding ones
field-list-requires-in-7 c =
    (omega arith, field-before _ _ (size_of 7) 2 (sym c.fits-in-7.ensures ∙ false-not _ c.if-not-fits-2.false-raw) (omega arith), c.requires.0.within)

pub field-predecessor-requires : goal.field-predecessor-requires
unfolding ones
field-predecessor-requires c =
    (omega arith, field-before _ _ (size_of 7) 3 (sym c.fits-in-7.ensures ∙ false-not _ c.if-not-fits-2.false-raw) (omega arith), c.requires.0.within)

pub returns-then-not-fits-3 : goal.returns-then-not-fits-3
returns-then-not-fits-3 c =
    let s = c.args in
    rw c.in-9.is (parsed-cut s.card.now s.at s.end s.slots 9 (sym c.fits-in-9.ensures ∙ not-false _ c.if-not-fits-3.true-raw))

pub field-block-requires-in-9 : goal.field-block-requires-in-9
unfolding ones
field-block-requires-in-9 c =
    (omega arith, field-before _ _ (size_of 9) 1 (sym c.fits-in-9.ensures ∙ false-not _ c.if-not-fits-3.false-raw) (omega arith), c.requires.0.within)

pub field-slot-requires : goal.field-slot-requires
unfolding ones
field-slot-requires c =
    (omega arith, field-before _ _ (size_of 9) 2 (sym c.fits-in-9.ensures ∙ false-not _ c.if-not-fits-3.false-raw) (omega arith), c.requires.0.within)

pub returns-then-both : goal.returns-then-both
unfolding ones
returns-then-both c =
    let s = c.args in
    let t = rw (c.is_block.ensures, c.is_list.ensures) at c.both.ensures in
    rw c.in-3.is
    (rw c.if-both.true at
    (parsed-put-first s.card.now s.at s.end s.slots c.both.result c.length.result
    c.field-block.result c.field-list.result
    (sym c.fits.ensures ∙ false-not _ c.if-not-fits.false-raw) c.field-block.ensures c.field-list.ensures t c.length.ensures))

pub returns-else-both : goal.returns-else-both
unfolding ones
returns-else-both c =
    let s = c.args in
    let t = rw (c.is_block.ensures, c.is_list.ensures) at c.both.ensures in
    rw c.in-3.is
    (rw c.if-both.false at
    (parsed-put-first s.card.now s.at s.end s.slots c.both.result (size_of 3)
    c.field-block.result c.field-list.result
    (sym c.fits.ensures ∙ false-not _ c.if-not-fits.false-raw) c.field-block.ensures c.field-list.ensures t refl))

pub returns-then-both-2 : goal.returns-then-both-2
unfolding ones
returns-then-both-2 c =
    let s = c.args in
    let u = rw (c.is_block-in-7.ensures, c.is_list-in-7.ensures) at c.both-in-7.ensures in
    let t = rw (u, c.is_block-in-7-2.ensures) at c.both-in-7-2.ensures in
    rw c.in-7.is
    (rw c.if-both-2.true at
    (parsed-put-after s.card.now s.at s.end s.slots c.both-in-7-2.result c.length-then-both-2.result
    c.field-block-in-7.result c.field-list-in-7.result c.field-predecessor.result
    (sym c.fits-in-7.ensures ∙ false-not _ c.if-not-fits-2.false-raw) c.field-block-in-7.ensures c.field-list-in-7.ensures c.field-predecessor.ensures t c.length-then-both-2.ensures))

pub returns-else-both-2 : goal.returns-else-both-2
unfolding ones
returns-else-both-2 c =
    let s = c.args in
    let u = rw (c.is_block-in-7.ensures, c.is_list-in-7.ensures) at c.both-in-7.ensures in
    let t = rw (u, c.is_block-in-7-2.ensures) at c.both-in-7-2.ensures in
    rw c.in-7.is
    (rw c.if-both-2.false at
    (parsed-put-after s.card.now s.at s.end s.slots c.both-in-7-2.result (size_of 7)
    c.field-block-in-7.result c.field-list-in-7.result c.field-predecessor.result
    (sym c.fits-in-7.ensures ∙ false-not _ c.if-not-fits-2.false-raw) c.field-block-in-7.ensures c.field-list-in-7.ensures c.field-predecessor.ensures t refl))

pub returns-then-both-3 : goal.returns-then-both-3
unfolding ones
returns-then-both-3 c =
    let s = c.args in
    let u = rw (c.is_block-in-9.ensures, c.is_slot.ensures) at c.both-in-9.ensures in
    let t = rw u at c.both-in-9-2.ensures in
    rw c.in-9.is
    (rw c.if-both-3.true at
    (parsed-write s.card.now s.at s.end s.slots c.both-in-9-2.result c.length-then-both-3.result
    c.field-block-in-9.result c.field-slot.result
    (sym c.fits-in-9.ensures ∙ false-not _ c.if-not-fits-3.false-raw) c.field-block-in-9.ensures c.field-slot.ensures t c.length-then-both-3.ensures))

pub returns-else-both-3 : goal.returns-else-both-3
unfolding ones
returns-else-both-3 c =
    let s = c.args in
    let u = rw (c.is_block-in-9.ensures, c.is_slot.ensures) at c.both-in-9.ensures in
    let t = rw u at c.both-in-9-2.ensures in
    rw c.in-9.is
    (rw c.if-both-3.false at
    (parsed-write s.card.now s.at s.end s.slots c.both-in-9-2.result (size_of 9)
    c.field-block-in-9.result c.field-slot.result
    (sym c.fits-in-9.ensures ∙ false-not _ c.if-not-fits-3.false-raw) c.field-block-in-9.ensures c.field-slot.ensures t refl))

pub returns-in-73 : goal.returns-in-73
returns-in-73 c = rw c.in-73.is c.parse_raced.ensures
