-- The test of each. Assumes nothing.
use Rattle.std.proofs.Common.{eqb, rules, tests}
use Rattle.std.proofs.lemmas.Iterator.{YieldsList-from_slice}
use Rattle.std.proofs.lemmas.Iterator.Search.{all_from_yields_List}
use Rattle.inspect.proofs.Judging.{all_listed}
use Rattle.inspect.proofs.numbers.are_empty.Goals as goal

pub returns : goal.returns
returns c =
    all_listed (λ n. eqb n 0) c.args.places.now c.all.result
    (all_from_yields_List (λ n. eqb n 0) _ _ _ c.all.ensures.ran (YieldsList-from_slice c.args.places.now cc) (λ x b q k. search (rules, tests)))
