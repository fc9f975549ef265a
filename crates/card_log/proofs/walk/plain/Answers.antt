-- Each arm acts as its kind does; a commit takes its members. Assumes nothing.
use mathlib.Core.Path.{refl, sym}
use Prim.Native.Nat.{◌+◌}
use native.Mathlib.Omega.{arith}
use native.Mathlib.Nat.{add-zero}
use Rattle.lists.specs.Change.{carried_by}
use Rattle.lists.specs.promises.Tables.{tables_in, of_kind}
use Rattle.card_log.specs.Entry.{as_entry, carried}
use Rattle.card_log.specs.Card.{used_by}
use Rattle.card_log.specs.promises.Feed.{memory}
use Rattle.card_log.specs.promises.Location.{card_location}
use Rattle.card_log.specs.declared.entry.LogEntry.TheVariants.{Write}
use Rattle.card_log.proofs.Feeding.{legal-race}
use Rattle.card_log.proofs.Entering.{enters-now, enters-commit}
use Rattle.card_log.proofs.walk.plain.Goals as goal

pub number_of-number-requires : goal.number_of-number-requires
number_of-number-requires c =
    (rw c.card_location.ensures (omega (arith, c.requires.0, c.requires.1)), legal-race (Write c.in-Write.block c.in-Write.slot c.in-Write.race) (rw c.in-Write.is at c.requires.2))

pub returns-in-Take : goal.returns-in-Take
unfolding of_kind carried carried_by as_entry used_by
returns-in-Take c =
    let s = c.args in
    let a = c.act-done in
    enters-now (memory s.nodes.now s.members.now) s.run s.e _ c.in-Take.is (card_location s.g s.slots) s.at s.slots (omega arith) a.result (tables_in a.new.nodes) _ s.slots c.go.ensures (sym (add-zero s.slots)) (λ z. omega arith)
    a.ensures

pub returns-in-PutFirst : goal.returns-in-PutFirst
unfolding of_kind carried carried_by as_entry used_by
returns-in-PutFirst c =
    let s = c.args in
    let a = c.act-done-in-PutFirst in
    enters-now (memory s.nodes.now s.members.now) s.run s.e _ c.in-PutFirst.is (card_location s.g s.slots) s.at s.slots (omega arith) a.result (tables_in a.new.nodes) _ s.slots c.go-in-PutFirst.ensures (sym (add-zero s.slots)) (λ z. omega arith)
    a.ensures

pub returns-in-PutAfter : goal.returns-in-PutAfter
unfolding of_kind carried carried_by as_entry used_by
returns-in-PutAfter c =
    let s = c.args in
    let a = c.act-done-in-PutAfter in
    enters-now (memory s.nodes.now s.members.now) s.run s.e _ c.in-PutAfter.is (card_location s.g s.slots) s.at s.slots (omega arith) a.result (tables_in a.new.nodes) _ s.slots c.go-in-PutAfter.ensures (sym (add-zero s.slots)) (λ z. omega arith)
    a.ensures

pub returns-in-Write : goal.returns-in-Write
unfolding of_kind carried carried_by as_entry used_by
returns-in-Write c =
    let s = c.args in
    let a = c.act-done-in-Write in
    enters-now (memory s.nodes.now s.members.now) s.run s.e _ c.in-Write.is (card_location s.g s.slots) s.at s.slots (omega arith) a.result (tables_in a.new.nodes) _ (s.slots + 1) c.go-in-Write.ensures refl (λ z. omega arith)
    (rw (c.number_of-number.ensures, c.card_location.ensures) at a.ensures)

pub returns-in-DeleteBlock : goal.returns-in-DeleteBlock
unfolding of_kind carried carried_by as_entry used_by
returns-in-DeleteBlock c =
    let s = c.args in
    let a = c.act-done-in-DeleteBlock in
    enters-now (memory s.nodes.now s.members.now) s.run s.e _ c.in-DeleteBlock.is (card_location s.g s.slots) s.at s.slots (omega arith) a.result (tables_in a.new.nodes) _ s.slots c.go-in-DeleteBlock.ensures (sym (add-zero s.slots)) (λ z. omega arith)
    a.ensures

pub returns-in-DeleteList : goal.returns-in-DeleteList
unfolding of_kind carried carried_by as_entry used_by
returns-in-DeleteList c =
    let s = c.args in
    let a = c.act-done-in-DeleteList in
    enters-now (memory s.nodes.now s.members.now) s.run s.e _ c.in-DeleteList.is (card_location s.g s.slots) s.at s.slots (omega arith) a.result (tables_in a.new.nodes) _ s.slots c.go-in-DeleteList.ensures (sym (add-zero s.slots)) (λ z. omega arith)
    a.ensures

pub returns-in-Commit : goal.returns-in-Commit
returns-in-Commit c =
    let s = c.args in
    enters-commit (memory s.nodes.now s.members.now) s.run s.e _ (card_location s.g s.slots) s.at s.slots c.in-Commit.is c.commit-done.result _ _ c.go-in-Commit.ensures c.commit-done.ensures
