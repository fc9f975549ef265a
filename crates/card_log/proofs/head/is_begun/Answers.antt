-- By the number of stores done there is no such number before the closing one, or they are among the data's, or they are all of those and some of the
-- entry's bytes. Assumes nothing.
use mathlib.Core.Path.{sym, ap, ◌∙◌}
use mathlib.Core.Bool.{false}
use Prim.Native.Nat.{ℕ, ◌*◌}
use native.Mathlib.Omega.{arith}
use borrow.Author.Tests.{not-true, not-false}
use Rattle.card_log.specs.Entry.{carried, encode, raw, as_entry}
use Rattle.card_log.proofs.Places.{entry-short, used-one}
use Rattle.card_log.proofs.LogStores.{code_bytes}
use Rattle.card_log.proofs.Begun.{room, same-four, begun-over, begun-data, begun-missed, begun-code}
use Rattle.card_log.proofs.head.is_begun.Goals as goal

pub overflow_mul-data_bytes : goal.overflow_mul-data_bytes
overflow_mul-data_bytes c = omega (arith, c.slots_of-data_bytes.ensures, used-one (carried (as_entry false c.args.e)))

pub overflow_add-data_bytes : goal.overflow_add-data_bytes
overflow_add-data_bytes c =
    let e = as_entry false c.args.e in
    omega (arith, c.slots_of-data_bytes.ensures, used-one (carried e), c.length_of.ensures, entry-short e)

pub returns-then-data_bytes-length_of : goal.returns-then-data_bytes-length_of
returns-then-data_bytes-length_of c =
    let a = c.args in
    sym (begun-over a.card.now a.content.now c.requires.1 a.member a.e a.place c.requires.0 c.requires.3 c.requires.4 a.done (omega (arith, c.length_of.ensures, c.slots_of-data_bytes.ensures)))

pub bytes_stand-requires : goal.bytes_stand-requires
bytes_stand-requires c =
    let a = c.args in
    let (i, j) = room a.card.now a.place a.e c.requires.0 c.requires.3 c.requires.4 in
    (omega (arith, c.slots_of-data_bytes.ensures), omega (arith, c.slots_of-data_bytes.ensures, used-one (carried (as_entry false a.e)), c.requires.1))

pub returns-then-done-data_bytes : goal.returns-then-done-data_bytes
returns-then-done-data_bytes c =
    let a = c.args in
    c.bytes_stand.ensures
    ∙ sym (begun-data a.card.now a.content.now c.requires.1 a.member a.e a.place c.requires.0 c.requires.3 c.requires.4 a.done (omega (arith, c.slots_of-data_bytes.ensures)))

pub bytes_stand-requires-2 : goal.bytes_stand-requires-2
bytes_stand-requires-2 c =
    let a = c.args in
    let (i, j) = room a.card.now a.place a.e c.requires.0 c.requires.3 c.requires.4 in
    (omega (arith, c.slots_of-data_bytes.ensures), omega (arith, c.slots_of-data_bytes.ensures, used-one (carried (as_entry false a.e)), c.requires.1))

pub returns-then-not-bytes_stand : goal.returns-then-not-bytes_stand
returns-then-not-bytes_stand c =
    let b = c.bytes_stand-2 in
    let a = c.args in
    sym (begun-missed a.card.now a.content.now c.requires.1 a.member a.e a.place c.requires.0 c.requires.3 c.requires.4 (256 * c.slots_of-data_bytes.result) a.done
    (ap (λ (n : ℕ). 256 * n) c.slots_of-data_bytes.ensures) (omega arith) (omega (arith, c.length_of.ensures)) (sym b.ensures ∙ not-true b.result c.if-not-bytes_stand.true-raw))

pub bytes_stand-requires-3 : goal.bytes_stand-requires-3
bytes_stand-requires-3 c =
    let a = c.args in
    let (i, j) = room a.card.now a.place a.e c.requires.0 c.requires.3 c.requires.4 in
    (omega (arith, c.if-data_bytes-length_of.false, c.slots_of-data_bytes.ensures, c.length_of.ensures), omega (arith, c.if-data_bytes-length_of.false, c.length_of.ensures, entry-short (as_entry false a.e)))

pub returns : goal.returns
returns c =
    let b = c.bytes_stand-2 in
    let s = c.before.before.before.before.before.before.before.before.before.before.before.before.before.before.before.before.before.before in
    let a = s.args in
    c.bytes_stand-3.ensures
    ∙ sym (begun-code a.card.now a.content.now s.requires.1 a.member a.e a.place s.requires.0 s.requires.3 s.requires.4 (256 * c.slots_of-data_bytes.result) a.done _
    (ap (λ (n : ℕ). 256 * n) c.slots_of-data_bytes.ensures) (omega (arith, c.if-done-data_bytes.false)) (omega (arith, c.if-data_bytes-length_of.false, c.length_of.ensures))
    (same-four (encode (raw a.place.slots (as_entry a.member a.e))) c.entry_byte.result c.entry_byte-2.result c.entry_byte-3.result c.entry_byte-4.result (code_bytes a.e)
    c.entry_byte.ensures c.entry_byte-2.ensures c.entry_byte-3.ensures c.entry_byte-4.ensures (entry-short (as_entry false a.e)))
    (sym b.ensures ∙ not-false b.result c.if-not-bytes_stand.false-raw))
