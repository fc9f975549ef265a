-- The two tests are the definition's. An entry has at most four bytes, so no sum wraps. Assumes nothing.
use mathlib.Core.Bool.{false}
use native.Mathlib.Omega.{arith}
use borrow.Author.Tests.{le-leb, lt-leb}
use Rattle.card_log.specs.Entry.{carried, as_entry}
use Rattle.card_log.specs.Store.{fits}
use Rattle.card_log.proofs.Places.{entry-short, used-one}
use Rattle.card_log.proofs.place.fits.Goals as goal

pub overflow_add-place : goal.overflow_add-place
overflow_add-place c = omega (arith, c.length_of.ensures, entry-short (as_entry false c.args.e))

pub overflow_add-result : goal.overflow_add-result
overflow_add-result c = omega (arith, c.slots_of.ensures, used-one (carried (as_entry false c.args.e)))

pub returns-then-place-length_of-le-ENTRY_BYTES : goal.returns-then-place-length_of-le-ENTRY_BYTES
unfolding fits
returns-then-place-length_of-le-ENTRY_BYTES c =
    rw (c.slots_of.ensures, le-leb _ 511 (rw c.length_of.ensures at c.if-place-length_of-le-ENTRY_BYTES.true))

pub returns-else-place-length_of-le-ENTRY_BYTES : goal.returns-else-place-length_of-le-ENTRY_BYTES
unfolding fits
returns-else-place-length_of-le-ENTRY_BYTES c =
    rw (c.length_of.ensures, lt-leb _ 511 (rw c.length_of.ensures at c.if-place-length_of-le-ENTRY_BYTES.false))
