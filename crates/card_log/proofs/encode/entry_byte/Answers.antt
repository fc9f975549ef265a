-- Byte 0 is the map. Each arm hands its fields, in the order of their bits, to `field`. Assumes nothing.
use mathlib.Core.Path.{sym, ap, ◌∙◌}
use Prim.Native.Nat.{ℕ}
use lib.ListN.{get_or}
use Rattle.card_log.specs.declared.entry.LogEntry.TheVariants.{Take, PutFirst, PutAfter, Write, DeleteBlock, DeleteList, Commit}
use Rattle.card_log.specs.Entry.{encode, raw, as_entry}
use Rattle.card_log.proofs.EntryBytes.{code-field, code_map}
use Rattle.card_log.proofs.encode.entry_byte.Goals as goal

pub returns-then-i-eq0 : goal.returns-then-i-eq0
returns-then-i-eq0 c =
    let s = c.args in
    c.map_of.ensures ∙ code_map s.member s.slot s.e ∙ ap (λ (j : ℕ). get_or (encode (raw s.slot (as_entry s.member s.e))) j 0) (sym c.if-i-eq0.true)

pub returns-in-Take : goal.returns-in-Take
returns-in-Take c =
    let a = c.args in
    rw (c.in-Take.is, c.field.ensures) (code-field a.member a.slot (Take _) a.i c.if-i-eq0.false)

pub returns-in-PutFirst : goal.returns-in-PutFirst
returns-in-PutFirst c =
    let a = c.args in
    rw (c.in-PutFirst.is, c.field-in-PutFirst.ensures) (code-field a.member a.slot (PutFirst _ _) a.i c.if-i-eq0.false)

pub returns-in-PutAfter : goal.returns-in-PutAfter
returns-in-PutAfter c =
    let a = c.args in
    rw (c.in-PutAfter.is, c.field-in-PutAfter.ensures) (code-field a.member a.slot (PutAfter _ _ _) a.i c.if-i-eq0.false)

pub returns-in-Write : goal.returns-in-Write
returns-in-Write c =
    let a = c.args in
    rw (c.in-Write.is, c.field-in-Write.ensures) (code-field a.member a.slot (Write _ _ _) a.i c.if-i-eq0.false)

pub returns-in-DeleteBlock : goal.returns-in-DeleteBlock
returns-in-DeleteBlock c =
    let a = c.args in
    rw (c.in-DeleteBlock.is, c.field-in-DeleteBlock.ensures) (code-field a.member a.slot (DeleteBlock _) a.i c.if-i-eq0.false)

pub returns-in-DeleteList : goal.returns-in-DeleteList
returns-in-DeleteList c =
    let a = c.args in
    rw (c.in-DeleteList.is, c.field-in-DeleteList.ensures) (code-field a.member a.slot (DeleteList _) a.i c.if-i-eq0.false)

pub returns-in-Commit : goal.returns-in-Commit
returns-in-Commit c =
    let a = c.args in
    rw (c.in-Commit.is, c.field-in-Commit.ensures) (code-field a.member a.slot (Commit _) a.i c.if-i-eq0.false)
