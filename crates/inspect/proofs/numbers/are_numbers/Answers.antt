-- The invariant: the places before x hold numbers if `right` says so. Assumes nothing.
use Rattle.std.proofs.Common.{◌∙◌, refl, sym, ap, take, ℕ, arith}
use Rattle.std.proofs.lemmas.List.{take_all}
use lib.Seq.{take-suc}
use native.Mathlib.Numerals.{add-one}
use Rattle.lists.specs.Basic.{all}
use Rattle.lists.specs.Numbers.{is_number}
use Rattle.inspect.proofs.Judging.{all-snoc}
use Rattle.inspect.proofs.numbers.are_numbers.Goals as goal

pub loop-x-init : goal.loop-x-init
unfolding all
loop-x-init c = refl

pub loop-x-preserved : goal.loop-x-preserved
loop-x-preserved c =
    let l = c.loop-x in
    let xs = c.args.places.now in
    rw (l.invariant, c.is_number-right.ensures)
    (sym (ap (λ (k : ℕ). all is_number (take k xs)) (add-one l.x-index) ∙ ap (all is_number) (take-suc xs l.x-index 0 c.loop-x-test.true) ∙ all-snoc is_number (take l.x-index xs) _))

pub returns : goal.returns
returns c =
    let l = c.loop-x in
    l.invariant ∙ ap (all is_number) (take_all l.x-index c.args.places.now (omega (arith, c.loop-x-test.false)))
