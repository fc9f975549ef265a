-- Nothing where the list is not taken; else 41 bytes for each of its lines. Assumes nothing.
use mathlib.Core.Path.{◌≡◌, sym, ◌∙◌}
use mathlib.Core.Bool.{true}
use Rattle.lists.proofs.Lookup.{taken-said}
use Rattle.lists.specs.State.{taken}
use native.Mathlib.Omega.{arith}
use mathlib.Core.Path.{ap}
use lib.ListN.{length}
use Rattle.listing.proofs.Pages.{list-page-none, list-page-length, count-few}
use Rattle.listing.proofs.page.list_length.Goals as goal

pub returns-then-not-is_taken-clause-of_shown : goal.returns-then-not-is_taken-clause-of_shown
returns-then-not-is_taken-clause-of_shown c = λ rs w g.
    ap length (sym (list-page-none rs c.args.list (sym (taken-said c.is_taken.ensures rs w g) ∙ c.if-not-is_taken.true)))

pub overflow_mul-result : goal.overflow_mul-result
overflow_mul-result c = omega (arith, c.line_count.ensures, count-few _ c.blocks_of.ensures.upper_bound)

pub returns-clause-upper_bound : goal.returns-clause-upper_bound
returns-clause-upper_bound c = omega (arith, c.line_count.ensures, count-few _ c.blocks_of.ensures.upper_bound)

pub returns-clause-of_shown : goal.returns-clause-of_shown
returns-clause-of_shown c = λ rs w g.
    let list = c.args.list in
    let t : taken list rs ≡ true = sym (taken-said c.is_taken.ensures rs w g) ∙ c.if-not-is_taken.false in
    rw (c.line_count.ensures, (c.blocks_of.ensures.of_shown rs w t).many) (sym (list-page-length rs list t))
