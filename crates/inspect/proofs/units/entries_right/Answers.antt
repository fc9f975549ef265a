-- Entry by entry. Assumes nothing.
use Rattle.std.proofs.Common.{◌∙◌, refl, rules, tests, arith}
use Rattle.std.proofs.lemmas.Iterator.{YieldsList-from_range}
use Rattle.std.proofs.lemmas.Iterator.Search.{all_from_yields_List}
use Rattle.disk.specs.Record.{record_in, unit_at}
use Rattle.inspect.specs.promises.Clauses.{change_right, change_in}
use Rattle.inspect.proofs.Judging.{all-range}
use Rattle.inspect.proofs.units.entries_right.Goals as goal

pub returns : goal.returns
returns c =
    let a = c.args in
    let r = record_in a.rec.now in
    let right = change_right r.held.holder a.u in
    let change = change_in (unit_at r a.u) in
    all_from_yields_List (λ k. right (change k)) _ _ _ c.all.ensures.ran (YieldsList-from_range 0 a.n a.n (cc) (omega arith)) (λ k b q h. search (rules, tests))
    ∙ all-range right change (λ k. right (change k)) 0 a.n (λ k l. refl)
