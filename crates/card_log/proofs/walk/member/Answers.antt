-- Each arm keeps its fields; a commit has no member's map. Assumes nothing.
use mathlib.Core.Path.{refl, sym}
use Prim.Native.Nat.{◌+◌, ◌*◌}
use native.Mathlib.Omega.{arith}
use native.Mathlib.Nat.{add-zero}
use Rattle.lists.specs.Change.{carried_by}
use Rattle.lists.specs.promises.Tables.{of_kind}
use Rattle.card_log.specs.Entry.{as_entry, carried}
use Rattle.card_log.specs.Card.{used_by}
use Rattle.card_log.specs.promises.Location.{card_location}
use Rattle.card_log.specs.declared.entry.LogEntry.TheVariants.{Write}
use Rattle.card_log.proofs.Feeding.{legal-race}
use Rattle.card_log.proofs.Entering.{enters-later, enters-never}
use Rattle.card_log.proofs.walk.member.Goals as goal

pub number_of-number-requires : goal.number_of-number-requires
number_of-number-requires c =
    (rw c.card_location.ensures (omega (arith, c.requires.0, c.requires.1)), legal-race (Write c.in-Write.block c.in-Write.slot c.in-Write.race) (rw c.in-Write.is at c.requires.3))

pub returns-in-Take : goal.returns-in-Take
unfolding of_kind carried carried_by as_entry used_by
returns-in-Take c =
    λ t.
    let s = c.args in
    let k = c.keep-kept.ensures in
    rw k.1
    (enters-later (record { tables = t; members = s.members.now }) s.run s.e _ c.in-Take.is (card_location s.g s.slots) s.at s.slots (omega arith) 0 _ s.slots (rw k.0 at c.go.ensures) (sym (add-zero s.slots)) (λ z. omega arith) refl refl)

pub returns-in-PutFirst : goal.returns-in-PutFirst
unfolding of_kind carried carried_by as_entry used_by
returns-in-PutFirst c =
    λ t.
    let s = c.args in
    let k = c.keep-kept-in-PutFirst.ensures in
    rw k.1
    (enters-later (record { tables = t; members = s.members.now }) s.run s.e _ c.in-PutFirst.is (card_location s.g s.slots) s.at s.slots (omega arith) 0 _ s.slots (rw k.0 at c.go-in-PutFirst.ensures) (sym (add-zero s.slots)) (λ z. omega arith) refl refl)

pub returns-in-PutAfter : goal.returns-in-PutAfter
unfolding of_kind carried carried_by as_entry used_by
returns-in-PutAfter c =
    λ t.
    let s = c.args in
    let k = c.keep-kept-in-PutAfter.ensures in
    rw k.1
    (enters-later (record { tables = t; members = s.members.now }) s.run s.e _ c.in-PutAfter.is (card_location s.g s.slots) s.at s.slots (omega arith) 0 _ s.slots (rw k.0 at c.go-in-PutAfter.ensures) (sym (add-zero s.slots)) (λ z. omega arith) refl refl)

pub returns-in-Write : goal.returns-in-Write
unfolding of_kind carried carried_by as_entry used_by
returns-in-Write c =
    λ t.
    let s = c.args in
    let k = c.keep-kept-in-Write.ensures in
    let n = c.number_of-number.ensures in
    let l = c.card_location.ensures in
    rw (k.1, n, l)
    (enters-later (record { tables = t; members = s.members.now }) s.run s.e _ c.in-Write.is (card_location s.g s.slots) s.at s.slots (omega arith) (card_location s.g s.slots + 2048 * c.in-Write.race) _ (s.slots + 1) (rw k.0 at c.go-in-Write.ensures) refl (λ z. omega arith) refl refl)

pub returns-in-DeleteBlock : goal.returns-in-DeleteBlock
unfolding of_kind carried carried_by as_entry used_by
returns-in-DeleteBlock c =
    λ t.
    let s = c.args in
    let k = c.keep-kept-in-DeleteBlock.ensures in
    rw k.1
    (enters-later (record { tables = t; members = s.members.now }) s.run s.e _ c.in-DeleteBlock.is (card_location s.g s.slots) s.at s.slots (omega arith) 0 _ s.slots (rw k.0 at c.go-in-DeleteBlock.ensures) (sym (add-zero s.slots)) (λ z. omega arith) refl refl)

pub returns-in-DeleteList : goal.returns-in-DeleteList
unfolding of_kind carried carried_by as_entry used_by
returns-in-DeleteList c =
    λ t.
    let s = c.args in
    let k = c.keep-kept-in-DeleteList.ensures in
    rw k.1
    (enters-later (record { tables = t; members = s.members.now }) s.run s.e _ c.in-DeleteList.is (card_location s.g s.slots) s.at s.slots (omega arith) 0 _ s.slots (rw k.0 at c.go-in-DeleteList.ensures) (sym (add-zero s.slots)) (λ z. omega arith) refl refl)

pub returns-in-Commit : goal.returns-in-Commit
returns-in-Commit c =
    λ t.
    let s = c.args in
    enters-never (record { tables = t; members = s.members.now }) s.run s.e _ c.in-Commit.is (card_location s.g s.slots) s.at s.slots (record { tables = t; members = s.members.now }) refl
