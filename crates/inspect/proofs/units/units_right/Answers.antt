-- Unit by unit. Assumes nothing.
use Rattle.std.proofs.Common.{◌∙◌, refl, rules, tests, arith}
use Rattle.std.proofs.lemmas.Iterator.{YieldsList-from_range}
use Rattle.std.proofs.lemmas.Iterator.Search.{all_from_yields_List}
use Rattle.disk.specs.Record.{record_in}
use Rattle.inspect.specs.promises.Clauses.{units_right}
use Rattle.inspect.proofs.Judging.{all-range, unit_good}
use Rattle.inspect.proofs.units.units_right.Goals as goal

pub returns : goal.returns
unfolding units_right
returns c =
    let right = unit_good (record_in c.args.rec.now) in
    all_from_yields_List right _ _ _ c.all.ensures.ran (YieldsList-from_range 1 5 4 (cc) (omega arith)) (λ u b q h. search (rules, tests))
    ∙ all-range right (λ u. u) right 1 4 (λ u l. refl)
