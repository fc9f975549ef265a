-- An entry has at most four bytes, so no sum wraps. Assumes nothing.
use mathlib.Core.Bool.{false}
use native.Mathlib.Omega.{arith}
use native.Mathlib.Numerals.{add-one}
use Rattle.card_log.specs.Entry.{carried, as_entry}
use Rattle.card_log.specs.Store.{after}
use Rattle.card_log.proofs.Places.{entry-short, used-one}
use Rattle.card_log.proofs.place.after.Goals as goal

pub overflow_add-result-2 : goal.overflow_add-result-2
overflow_add-result-2 c = omega (arith, c.length_of.ensures, entry-short (as_entry false c.args.e))

pub overflow_add-result-3 : goal.overflow_add-result-3
overflow_add-result-3 c = omega (arith, c.slots_of.ensures, used-one (carried (as_entry false c.args.e)))

pub returns : goal.returns
unfolding after
returns c = rw (add-one, c.slots_of.ensures, c.length_of.ensures)
