-- Each arm has the bits of its kind's fields; the mark of a member is 128 more, as in `change_bytes`. Assumes nothing.
use mathlib.Core.Path.{sym, ap, ◌∙◌}
use mathlib.Core.Bool.{cond}
use Prim.Native.Nat.{ℕ, ◌+◌}
use native.Mathlib.Omega.{arith}
use native.Mathlib.Nat.{zero-add}
use lib.ListN.{get_or}
use Rattle.lists.proofs.Basic.{cond_map}
use Rattle.card_log.specs.Raced.{Raced}
use Rattle.card_log.specs.Entry.{Entry, race_bit, encode, change_bytes, as_entry}
use Rattle.card_log.proofs.Bits.{race-bit}
use Rattle.card_log.proofs.encode.map_of.Goals as goal

abbrev first : Entry (Raced ℕ) → ℕ
first e = get_or (encode e) 0 0

pub marked-requires-in-Write : goal.marked-requires-in-Write
marked-requires-in-Write c = rw c.of_write.ensures (omega (arith, race-bit c.in-Write.race))

pub returns-in-Take : goal.returns-in-Take
unfolding encode change_bytes as_entry
returns-in-Take c = rw (c.in-Take.is, c.marked.ensures) (sym (cond_map first c.args.member _ _))

pub returns-in-PutFirst : goal.returns-in-PutFirst
unfolding encode change_bytes as_entry
returns-in-PutFirst c = rw (c.in-PutFirst.is, c.marked-in-PutFirst.ensures) (sym (cond_map first c.args.member _ _))

pub returns-in-PutAfter : goal.returns-in-PutAfter
unfolding encode change_bytes as_entry
returns-in-PutAfter c = rw (c.in-PutAfter.is, c.marked-in-PutAfter.ensures) (sym (cond_map first c.args.member _ _))

pub returns-in-Write : goal.returns-in-Write
unfolding encode change_bytes as_entry
returns-in-Write c =
    let n = c.in-Write.race in
    rw (c.in-Write.is, c.marked-in-Write.ensures, c.of_write.ensures) (ap (cond c.args.member (128 + (9 + race_bit n))) (sym (zero-add (9 + race_bit n))) ∙ sym (cond_map first c.args.member _ _))

pub returns-in-DeleteBlock : goal.returns-in-DeleteBlock
unfolding encode change_bytes as_entry
returns-in-DeleteBlock c = rw (c.in-DeleteBlock.is, c.marked-in-DeleteBlock.ensures) (sym (cond_map first c.args.member _ _))

pub returns-in-DeleteList : goal.returns-in-DeleteList
unfolding encode change_bytes as_entry
returns-in-DeleteList c = rw (c.in-DeleteList.is, c.marked-in-DeleteList.ensures) (sym (cond_map first c.args.member _ _))

pub returns-in-Commit : goal.returns-in-Commit
unfolding encode change_bytes as_entry
returns-in-Commit c = rw c.in-Commit.is
