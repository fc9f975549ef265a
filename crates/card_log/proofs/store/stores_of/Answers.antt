-- The stores of an entry are those of its data, of its bytes and of the count. Assumes nothing.
use mathlib.Core.Bool.{false}
use native.Mathlib.Omega.{arith}
use Rattle.card_log.specs.Entry.{carried, as_entry}
use Rattle.card_log.proofs.Places.{entry-short, used-one}
use Rattle.card_log.proofs.LogStores.{stores-many}
use Rattle.card_log.proofs.store.stores_of.Goals as goal

pub overflow_mul-result : goal.overflow_mul-result
overflow_mul-result c = omega (arith, c.slots_of.ensures, used-one (carried (as_entry false c.args.e)))

pub overflow_add-result : goal.overflow_add-result
overflow_add-result c =
    let e = as_entry false c.args.e in
    omega (arith, c.slots_of.ensures, used-one (carried e), c.length_of.ensures, entry-short e)

pub overflow_add-result-2 : goal.overflow_add-result-2
overflow_add-result-2 c =
    let e = as_entry false c.args.e in
    omega (arith, c.slots_of.ensures, used-one (carried e), c.length_of.ensures, entry-short e)

pub returns : goal.returns
returns c = λ p m d z. omega (arith, c.slots_of.ensures, c.length_of.ensures, stores-many d z m c.args.e p)
