-- The two tests are the definition's. Assumes nothing.
use mathlib.Core.Path.{sym, ◌∙◌}
use Prim.Native.Nat.{suc}
use native.Mathlib.Omega.{arith}
use native.Mathlib.Numerals.{add-one}
use borrow.Author.Tests.{lt-ltb, le-ltb}
use Rattle.card_log.specs.Store.{home}
use Rattle.card_log.specs.promises.Within.{as_place}
use Rattle.card_log.proofs.place.home_of.Goals as goal

pub returns-then-fits : goal.returns-then-fits
unfolding home as_place
returns-then-fits c = rw (sym c.fits.ensures ∙ c.if-fits.true)

pub returns-then-next-n : goal.returns-then-next-n
unfolding home as_place
returns-then-next-n c =
    let a = c.args in
    rw (sym c.fits.ensures ∙ c.if-fits.false, lt-ltb (suc a.place.segment) a.n (omega arith), c.opened.ensures, add-one)

pub returns-else-next-n : goal.returns-else-next-n
unfolding home as_place
returns-else-next-n c =
    let a = c.args in
    rw (sym c.fits.ensures ∙ c.if-fits.false, le-ltb (suc a.place.segment) a.n (omega arith))
