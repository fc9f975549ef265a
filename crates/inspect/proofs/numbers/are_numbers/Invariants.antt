-- The invariant: the places before x hold numbers if `right` says so. Assumes nothing.
use Rattle.std.proofs.Common.{◌≡◌, take}
use Rattle.lists.specs.Basic.{all}
use Rattle.lists.specs.Numbers.{is_number}
use Rattle.inspect.proofs.numbers.are_numbers.Given as goal

abbrev pub invariant-loop-x : goal.invariant-loop-x
invariant-loop-x l = l.right ≡ all is_number (take l.x-index l.places)
