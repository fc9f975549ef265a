-- Each arm picks the one field of its kind, which stands before the end if the entry fits. Assumes nothing.
use mathlib.Core.Path.{refl, sym, ◌∙◌}
use native.Mathlib.Omega.{arith}
use lib.Count.{ones}
use Rattle.lists.proofs.Basic.{not-false, false-not}
use Rattle.card_log.specs.Entry.{size_of}
use Rattle.card_log.proofs.Parsing.{field-before, parsed-cut, parsed-take, parsed-delete-block, parsed-delete-list, parsed-commit, parsed-none}
use Rattle.card_log.proofs.parse.parse_short.Goals as goal

pub returns-then-not-fits : goal.returns-then-not-fits
returns-then-not-fits c =
    let s = c.args in
    rw c.in-2.is (parsed-cut s.card.now s.at s.end s.slots 2 (sym c.fits.ensures ∙ not-false _ c.if-not-fits.true-raw))

pub field-list-requires : goal.field-list-requires
unfolding ones
field-list-requires c =
    let p = c.requires in
    (omega arith, field-before _ _ (size_of 2) 1 (sym c.fits.ensures ∙ false-not _ c.if-not-fits.false-raw) (omega arith), p.0.within)

pub returns-then-not-fits-2 : goal.returns-then-not-fits-2
returns-then-not-fits-2 c =
    let s = c.args in
    rw c.in-33.is (parsed-cut s.card.now s.at s.end s.slots 33 (sym c.fits-in-33.ensures ∙ not-false _ c.if-not-fits-2.true-raw))

pub field-block-requires : goal.field-block-requires
unfolding ones
field-block-requires c =
    let p = c.requires in
    (omega arith, field-before _ _ (size_of 33) 1 (sym c.fits-in-33.ensures ∙ false-not _ c.if-not-fits-2.false-raw) (omega arith), p.0.within)

pub returns-then-not-fits-3 : goal.returns-then-not-fits-3
returns-then-not-fits-3 c =
    let s = c.args in
    rw c.in-34.is (parsed-cut s.card.now s.at s.end s.slots 34 (sym c.fits-in-34.ensures ∙ not-false _ c.if-not-fits-3.true-raw))

pub field-list-requires-in-34 : goal.field-list-requires-in-34
unfolding ones
field-list-requires-in-34 c =
    let p = c.requires in
    (omega arith, field-before _ _ (size_of 34) 1 (sym c.fits-in-34.ensures ∙ false-not _ c.if-not-fits-3.false-raw) (omega arith), p.0.within)

pub returns-then-not-fits-4 : goal.returns-then-not-fits-4
returns-then-not-fits-4 c =
    let s = c.args in
    rw c.in-16.is (parsed-cut s.card.now s.at s.end s.slots 16 (sym c.fits-in-16.ensures ∙ not-false _ c.if-not-fits-4.true-raw))

pub field-count-requires : goal.field-count-requires
unfolding ones
field-count-requires c =
    let p = c.requires in
    (omega arith, field-before _ _ (size_of 16) 1 (sym c.fits-in-16.ensures ∙ false-not _ c.if-not-fits-4.false-raw) (omega arith), p.0.within)

pub returns-then-is_list : goal.returns-then-is_list
unfolding ones
returns-then-is_list c =
    let s = c.args in
    rw c.in-2.is
    (rw c.if-is_list.true at
    (parsed-take s.card.now s.at s.end s.slots c.is_list.result c.length.result c.field-list.result
    (sym c.fits.ensures ∙ false-not _ c.if-not-fits.false-raw) c.field-list.ensures c.is_list.ensures c.length.ensures))

pub returns-else-is_list : goal.returns-else-is_list
unfolding ones
returns-else-is_list c =
    let s = c.args in
    rw c.in-2.is
    (rw c.if-is_list.false at
    (parsed-take s.card.now s.at s.end s.slots c.is_list.result (size_of 2) c.field-list.result
    (sym c.fits.ensures ∙ false-not _ c.if-not-fits.false-raw) c.field-list.ensures c.is_list.ensures refl))

pub returns-then-is_block : goal.returns-then-is_block
unfolding ones
returns-then-is_block c =
    let s = c.args in
    rw c.in-33.is
    (rw c.if-is_block.true at
    (parsed-delete-block s.card.now s.at s.end s.slots c.is_block.result c.length-then-is_block.result c.field-block.result
    (sym c.fits-in-33.ensures ∙ false-not _ c.if-not-fits-2.false-raw) c.field-block.ensures c.is_block.ensures c.length-then-is_block.ensures))

pub returns-else-is_block : goal.returns-else-is_block
unfolding ones
returns-else-is_block c =
    let s = c.args in
    rw c.in-33.is
    (rw c.if-is_block.false at
    (parsed-delete-block s.card.now s.at s.end s.slots c.is_block.result (size_of 33) c.field-block.result
    (sym c.fits-in-33.ensures ∙ false-not _ c.if-not-fits-2.false-raw) c.field-block.ensures c.is_block.ensures refl))

pub returns-then-is_list-2 : goal.returns-then-is_list-2
unfolding ones
returns-then-is_list-2 c =
    let s = c.args in
    rw c.in-34.is
    (rw c.if-is_list-2.true at
    (parsed-delete-list s.card.now s.at s.end s.slots c.is_list-in-34.result c.length-then-is_list-2.result c.field-list-in-34.result
    (sym c.fits-in-34.ensures ∙ false-not _ c.if-not-fits-3.false-raw) c.field-list-in-34.ensures c.is_list-in-34.ensures c.length-then-is_list-2.ensures))

pub returns-else-is_list-2 : goal.returns-else-is_list-2
unfolding ones
returns-else-is_list-2 c =
    let s = c.args in
    rw c.in-34.is
    (rw c.if-is_list-2.false at
    (parsed-delete-list s.card.now s.at s.end s.slots c.is_list-in-34.result (size_of 34) c.field-list-in-34.result
    (sym c.fits-in-34.ensures ∙ false-not _ c.if-not-fits-3.false-raw) c.field-list-in-34.ensures c.is_list-in-34.ensures refl))

pub returns-then-is_count : goal.returns-then-is_count
unfolding ones
returns-then-is_count c =
    let s = c.args in
    rw c.in-16.is
    (rw c.if-is_count.true at
    (parsed-commit s.card.now s.at s.end s.slots c.is_count.result c.length-then-is_count.result c.field-count.result
    (sym c.fits-in-16.ensures ∙ false-not _ c.if-not-fits-4.false-raw) c.field-count.ensures c.is_count.ensures c.length-then-is_count.ensures))

pub returns-else-is_count : goal.returns-else-is_count
unfolding ones
returns-else-is_count c =
    let s = c.args in
    rw c.in-16.is
    (rw c.if-is_count.false at
    (parsed-commit s.card.now s.at s.end s.slots c.is_count.result (size_of 16) c.field-count.result
    (sym c.fits-in-16.ensures ∙ false-not _ c.if-not-fits-4.false-raw) c.field-count.ensures c.is_count.ensures refl))

pub returns-in_default : goal.returns-in_default
returns-in_default c =
    let r = c.in_default.in_default-own.rest in
    let p = c.requires in
    parsed-none c.args.card.now c.args.at c.args.end c.args.slots c.args.kind p.1 r.0.0.0.1 p.2 p.3 p.4 p.5 r.0.0.1 r.0.1 r.1
