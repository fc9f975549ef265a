-- By its number the store is one of the data's, one of the entry's bytes or the count's; each branch gives that one. Assumes nothing.
use mathlib.Core.Path.{◌≡◌, sym, ap, ◌∙◌}
use mathlib.Core.Bool.{false}
use Prim.Native.Nat.{ℕ, ◌*◌, ◌-◌}
use native.Mathlib.Omega.{arith}
use native.Mathlib.Numerals.{add-one}
use lib.ListN.{get_or}
use Rattle.card_log.specs.Entry.{carried, encode, raw, as_entry}
use Rattle.card_log.specs.Store.{Store}
use Rattle.card_log.proofs.Places.{used-one}
use Rattle.card_log.proofs.EntryStores.{store_of}
use Rattle.card_log.proofs.Within.{entry-long}
use Rattle.card_log.proofs.LogStores.{going, going-short, stores-many, store-data, store_code, store-count}
use Rattle.driver.specs.Stores.{word}
use Rattle.driver.proofs.word.word_of.Goals as goal

word-store : (x : Store) {a b : ℕ} → x.0 ≡ a → x.1 ≡ b → word (a, b) ≡ word x
unfolding word
word-store x p q = rw (p, q)

pub overflow_mul-data_bytes : goal.overflow_mul-data_bytes
overflow_mul-data_bytes c = omega (arith, c.slots_of-data_bytes.ensures, used-one (carried (as_entry false c.args.e)))

pub overflow_add-segment-then-done-data_bytes : goal.overflow_add-segment-then-done-data_bytes
overflow_add-segment-then-done-data_bytes c =
    omega (arith, c.slots_of-data_bytes.ensures, used-one (carried (as_entry false c.args.e)))

pub bounds-content-done : goal.bounds-content-done
bounds-content-done c =
    omega (arith, c.slots_of-data_bytes.ensures, used-one (carried (as_entry false c.args.e)), c.requires.1)

pub joined-requires : goal.joined-requires
joined-requires c =
    omega (arith, c.slots_of-data_bytes.ensures, used-one (carried (as_entry false c.args.e)), c.requires.0.inside, c.requires.0.within.slots)

pub returns-then-done-data_bytes : goal.returns-then-done-data_bytes
returns-then-done-data_bytes c =
    let a = c.args in
    let o = store-data a.content.now c.requires.1 a.member a.e a.place a.done (omega (arith, c.slots_of-data_bytes.ensures)) in
    c.joined.ensures ∙ word-store (store_of a.place (going a.content.now a.member a.e) a.done) o.0 o.1

pub overflow_add-segment-then-i-length_of-3 : goal.overflow_add-segment-then-i-length_of-3
overflow_add-segment-then-i-length_of-3 c =
    omega (arith, c.length_of.ensures, going-short c.args.content.now c.args.member c.args.e c.args.place c.requires.0.room)

pub joined-requires-then-i-length_of : goal.joined-requires-then-i-length_of
joined-requires-then-i-length_of c =
    omega (arith, c.length_of.ensures, c.if-i-length_of.true, c.requires.0.inside, going-short c.args.content.now c.args.member c.args.e c.args.place c.requires.0.room)

pub returns-then-i-length_of : goal.returns-then-i-length_of
returns-then-i-length_of c =
    let a = c.args in
    let o = store_code a.content.now c.requires.1 a.member a.e a.place a.done (omega (arith, c.slots_of-data_bytes.ensures)) (omega (arith, c.slots_of-data_bytes.ensures, c.length_of.ensures)) in
    let v : ℕ → ℕ = λ n. get_or (encode (raw a.place.slots (as_entry a.member a.e))) (a.done - 256 * n) 0 in
    c.joined-then-i-length_of.ensures
    ∙ word-store (store_of a.place (going a.content.now a.member a.e) a.done)
    (o.0 ∙ omega (arith, c.slots_of-data_bytes.ensures)) (o.1 ∙ ap v (sym c.slots_of-data_bytes.ensures) ∙ sym c.entry_byte-byte.ensures)

pub overflow_cast-place-2 : goal.overflow_cast-place-2
overflow_cast-place-2 c =
    omega (arith, c.requires.0.within.entries, entry-long (as_entry false c.args.e), going-short c.args.content.now c.args.member c.args.e c.args.place c.requires.0.room)

pub returns : goal.returns
returns c =
    let a = c.args in
    let o = store-count a.content.now c.requires.1 a.member a.e a.place a.done
    (omega (arith, c.slots_of-data_bytes.ensures, c.length_of.ensures, c.requires.0.left, stores-many a.content.now c.requires.1 a.member a.e a.place)) in
    c.joined-2.ensures ∙ word-store (store_of a.place (going a.content.now a.member a.e) a.done) o.0 (o.1 ∙ sym (add-one a.place.entries))
