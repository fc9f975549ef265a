-- By the kind of the entry. Assumes nothing.
use mathlib.Core.Path.{refl, sym, ap, ◌∙◌, subst}
use mathlib.Core.Logic.{inl, inr}
use Prim.Native.Nat.{ℕ, ◌+◌}
use Rattle.lists.specs.Change.{map_change}
use Rattle.lists.specs.State.{frees}
use Rattle.card_log.specs.Entry.{as_change}
use Rattle.disk.specs.Record.{record_in}
use Rattle.disk.specs.promises.Listing.{Reorders, unlisted}
use Rattle.disk.proofs.Listing.{reorders-same, reorders-unlisted}
use Rattle.disk.proofs.Relisting.{take_range, none-brought, relists-brings, relists-frees, relists-write}
use Rattle.disk.proofs.free.relist.Goals as goal

pub list_number-requires : goal.list_number-requires
list_number-requires c = take_range _ c.in-Take.list c.in-Take.is c.requires.1

pub returns-in-Take : goal.returns-in-Take
unfolding as_change map_change frees
returns-in-Take c =
    let s = c.args in
    let r = record_in s.rec.now in (
      relists-brings _ _ r _ s.entry (64 + c.in-Take.list) (λ f. rw c.in-Take.is) (λ f rs. rw c.in-Take.is)
          (c.withdraw.ensures ∙ ap (λ (m : ℕ). unlisted m r) c.list_number.ensures),
      subst (Reorders r) (sym c.withdraw.ensures) (reorders-unlisted c.list_number.result r c.requires.0),
    )

pub returns-in-PutFirst : goal.returns-in-PutFirst
unfolding as_change map_change frees
returns-in-PutFirst c =
    let s = c.args in
    let r = record_in s.rec.now in (
      relists-brings _ _ r _ s.entry c.in-PutFirst.block (λ f. rw c.in-PutFirst.is) (λ f rs. rw c.in-PutFirst.is) c.withdraw-in-PutFirst.ensures,
      subst (Reorders r) (sym c.withdraw-in-PutFirst.ensures) (reorders-unlisted c.in-PutFirst.block r c.requires.0),
    )

pub returns-in-PutAfter : goal.returns-in-PutAfter
unfolding as_change map_change frees
returns-in-PutAfter c =
    let s = c.args in
    let r = record_in s.rec.now in (
      relists-brings _ _ r _ s.entry c.in-PutAfter.block (λ f. rw c.in-PutAfter.is) (λ f rs. rw c.in-PutAfter.is) c.withdraw-in-PutAfter.ensures,
      subst (Reorders r) (sym c.withdraw-in-PutAfter.ensures) (reorders-unlisted c.in-PutAfter.block r c.requires.0),
    )

pub returns-in-DeleteBlock : goal.returns-in-DeleteBlock
returns-in-DeleteBlock c =
    let s = c.args in
    (relists-frees _ _ (record_in s.rec.now) _ s.entry (none-brought s.entry (inl c.in-DeleteBlock.in-DeleteBlock-own.keys4)) c.list_free.ensures.0, c.list_free.ensures.1)

pub returns-in-DeleteList : goal.returns-in-DeleteList
returns-in-DeleteList c =
    let s = c.args in
    (relists-frees _ _ (record_in s.rec.now) _ s.entry (none-brought s.entry (inr c.in-DeleteList.in-DeleteList-own.keys5)) c.list_free-in-DeleteList.ensures.0, c.list_free-in-DeleteList.ensures.1)

pub returns-in_default : goal.returns-in_default
returns-in_default c =
    let s = c.args in
    (relists-write _ _ (record_in s.rec.now) _ s.entry c.in_default.in_default-own.keys6 c.requires.1 refl, reorders-same _ c.requires.0)
