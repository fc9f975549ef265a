-- The head's place is the code's answer for it, since that asks neither for a mark nor for content. Assumes nothing.
use mathlib.Core.Path.{refl, sym, ap, ◌∙◌}
use mathlib.Core.Bool.{false}
use mathlib.Core.Option.{none, some}
use native.Mathlib.Omega.{arith}
use lib.ListN.{length}
use Rattle.card_log.specs.Entry.{as_entry}
use Rattle.card_log.specs.Card.{segments_in}
use Rattle.card_log.specs.Store.{head_at}
use Rattle.card_log.specs.promises.Within.{as_place}
use Rattle.card_log.proofs.Slot.{length-slot}
use Rattle.card_log.proofs.Copying.{slot-part}
use Rattle.card_log.proofs.Within.{within-home}
use Rattle.disk.specs.Record.{record_in}
use Rattle.inspect.proofs.Begun.{head-none, head-some}
use Rattle.inspect.proofs.head.head_stands.Goals as goal

pub returns-then-len-eq0 : goal.returns-then-len-eq0
returns-then-len-eq0 c =
    let a = c.args in
    let r = record_in a.rec.now in
    λ j. rw c.done-stores.ensures (sym (head-none a.card.now a.queue_data.now j r r.ring.done (sym c.len.ensures ∙ c.if-len-eq0.true)))

pub is_begun-requires : goal.is_begun-requires
unfolding as_place
is_begun-requires c =
    let a = c.args in
    let e = as_entry false c.queue_entry-first.result.entry in
    let (w, i, f) =
    within-home (segments_in a.card.now) a.place c.in-At.p e c.requires.5 c.requires.6 (sym (rw c.in-At.is at c.home_of.ensures)) in
    (c.requires.0, ap length (slot-part a.queue_data.now c.head-at.result) ∙ length-slot a.queue_data.now c.head-at.result (omega (arith, c.requires.1, c.requires.3, c.head-at.ensures)), w, i, f)

pub returns-in-At : goal.returns-in-At
unfolding as_place
returns-in-At c =
    let q = c.queue_entry-first in
    let h = c.head-at in
    let a = c.args in
    let r = record_in a.rec.now in
    λ j.
    rw (head-some a.card.now a.queue_data.now j r r.ring.done _ a.place (some c.in-At.p) c.requires.3
    (λ z. c.if-len-eq0.false (c.len.ensures ∙ z)) (slot-part a.queue_data.now r.ring.head) c.requires.4
    (sym (rw (c.in-At.is, q.ensures.1, h.ensures) at c.home_of.ensures)))
    (rw (q.ensures.0, q.ensures.1, h.ensures, c.done-stores.ensures) at c.is_begun.ensures)

pub returns-in-Full : goal.returns-in-Full
unfolding as_place head_at
returns-in-Full c =
    let q = c.queue_entry-first in
    let h = c.head-at in
    let a = c.args in
    let r = record_in a.rec.now in
    λ j.
    rw c.done-stores.ensures
    (sym (head-some a.card.now a.queue_data.now j r r.ring.done _ a.place none c.requires.3
    (λ z. c.if-len-eq0.false (c.len.ensures ∙ z)) refl c.requires.4
    (sym (rw (c.in-Full.is, q.ensures.1, h.ensures) at c.home_of.ensures))))
