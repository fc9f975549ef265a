-- What is parsed without the mark, and the mark. Assumes nothing.
use lib.Bits.{mask_lt}
use borrow.Author.Tests.{le-leb, lt-leb}
use Rattle.card_log.proofs.Parsing.{finds-none, finds-entry}
use Rattle.card_log.proofs.reader.found_at.Goals as goal

pub parse-requires : goal.parse-requires
parse-requires c =
    let p = c.requires in
    (record { before = p.until; within = p.holds; small = p.small }, mask_lt c.byte_at-map.result 7)

pub returns-then-map-ge-MARK : goal.returns-then-map-ge-MARK
returns-then-map-ge-MARK c =
    let s = c.args in
    let m = c.byte_at-map in
    let d = rw c.in-Entry.is at c.parse.ensures in
    rw (le-leb _ _ c.if-map-ge-MARK.true) at (finds-entry s.card.now s.segment s.offset s.slots c.requires m.result m.ensures m.type_inv _ _ d)

pub returns-else-map-ge-MARK : goal.returns-else-map-ge-MARK
returns-else-map-ge-MARK c =
    let s = c.args in
    let m = c.byte_at-map in
    let d = rw c.in-Entry.is at c.parse.ensures in
    rw (lt-leb _ _ c.if-map-ge-MARK.false) at (finds-entry s.card.now s.segment s.offset s.slots c.requires m.result m.ensures m.type_inv _ _ d)

pub returns-in-Bad : goal.returns-in-Bad
returns-in-Bad c =
    let s = c.args in
    let m = c.byte_at-map in
    finds-none s.card.now s.segment s.offset s.slots c.requires m.result m.ensures m.type_inv (rw c.in-Bad.is at c.parse.ensures)
