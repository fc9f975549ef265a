-- By its number the store is one of the data's, one of the entry's bytes or the count's; each branch makes that one. Assumes nothing.
use mathlib.Core.Path.{sym, ap, ◌∙◌}
use mathlib.Core.Bool.{false}
use Prim.Native.Nat.{ℕ, ◌*◌, ◌-◌}
use native.Mathlib.Omega.{arith}
use native.Mathlib.Numerals.{add-one}
use lib.ListN.{get_or}
use Rattle.card_log.specs.Entry.{carried, encode, raw, as_entry}
use Rattle.card_log.proofs.Places.{used-one}
use Rattle.card_log.proofs.EntryStores.{store_of, data_at}
use Rattle.card_log.proofs.Within.{entry-long}
use Rattle.card_log.proofs.LogStores.{going, going-short, set-store, stores-many, store-data, store_code, store-count, store-in-part}
use Rattle.card_log.proofs.store.store_step.Goals as goal

pub overflow_mul-data_bytes : goal.overflow_mul-data_bytes
overflow_mul-data_bytes c = omega (arith, c.slots_of-data_bytes.ensures, used-one (carried (as_entry false c.args.e)))

pub bounds-content-done : goal.bounds-content-done
bounds-content-done c =
    omega (arith, c.slots_of-data_bytes.ensures, used-one (carried (as_entry false c.args.e)), c.requires.1)

pub returns-then-done-data_bytes : goal.returns-then-done-data_bytes
returns-then-done-data_bytes c =
    let a = c.args in
    let o = store-data a.content.now c.requires.1 a.member a.e a.place a.done (omega (arith, c.slots_of-data_bytes.ensures)) in
    store-in-part (data_at a.place) 256 a.done _ a.card.now _ (omega arith) (omega (arith, c.slots_of-data_bytes.ensures, used-one (carried (as_entry false a.e))))
    c.store.ensures
    ∙ set-store a.card.now (store_of a.place (going a.content.now a.member a.e) a.done) o.0 o.1

pub overflow_add-segment-then-i-length_of-2 : goal.overflow_add-segment-then-i-length_of-2
overflow_add-segment-then-i-length_of-2 c =
    omega (arith, c.length_of.ensures, going-short c.args.content.now c.args.member c.args.e c.args.place c.requires.0.room)

pub overflow_cast-place-else-i-length_of : goal.overflow_cast-place-else-i-length_of
overflow_cast-place-else-i-length_of c =
    omega (arith, c.requires.0.within.entries, entry-long (as_entry false c.args.e), going-short c.args.content.now c.args.member c.args.e c.args.place c.requires.0.room)

pub returns-then-i-length_of : goal.returns-then-i-length_of
returns-then-i-length_of c =
    let a = c.args in
    let o = store_code a.content.now c.requires.1 a.member a.e a.place a.done (omega (arith, c.slots_of-data_bytes.ensures)) (omega (arith, c.slots_of-data_bytes.ensures, c.length_of.ensures)) in
    let v : ℕ → ℕ = λ n. get_or (encode (raw a.place.slots (as_entry a.member a.e))) (a.done - 256 * n) 0 in
    c.store-then-i-length_of.ensures
    ∙ set-store a.card.now (store_of a.place (going a.content.now a.member a.e) a.done)
    (o.0 ∙ omega (arith, c.slots_of-data_bytes.ensures)) (o.1 ∙ ap v (sym c.slots_of-data_bytes.ensures) ∙ sym c.entry_byte-byte.ensures)

pub returns-else-i-length_of : goal.returns-else-i-length_of
returns-else-i-length_of c =
    let a = c.args in
    let o = store-count a.content.now c.requires.1 a.member a.e a.place a.done
    (omega (arith, c.slots_of-data_bytes.ensures, c.length_of.ensures, c.requires.0.left, stores-many a.content.now c.requires.1 a.member a.e a.place)) in
    c.store-else-i-length_of.ensures
    ∙ set-store a.card.now (store_of a.place (going a.content.now a.member a.e) a.done) o.0 (o.1 ∙ sym (add-one a.place.entries))
