-- The first that passes the test is the first of its kind. Assumes nothing.
use Rattle.std.proofs.Common.{◌≡◌, ◌∙◌, ap, ◌+◌, ◌-◌, ◌&&◌, leb, ltb, rules, tests}
use Rattle.std.specs.Option.{option_map}
use Rattle.std.proofs.lemmas.Iterator.{YieldsList-from_slice}
use Rattle.std.proofs.lemmas.Iterator.Search.{find_from_yields_List}
use Rattle.disk.specs.Questions.{first_free}
use Rattle.disk.specs.promises.Listing.{as_option}
use Rattle.disk.proofs.Listing.{first-found}
use Rattle.disk.proofs.free.first_free.Goals as goal

pub returns : goal.returns
returns c =
    let a = c.args in
    let ns = c.free_numbers.result.now in
    let found = find_from_yields_List (λ n. ltb a.base n && leb n (a.base + a.many)) _ _ c.find.result c.find.ensures.ran (YieldsList-from_slice ns cc) (λ x b q k. search (rules, tests)) in
    let mapped : c.map.result ≡ option_map (λ x. x.now - a.base) c.find.result = search rules in
    ap as_option mapped ∙ first-found a.base a.many ns (λ x. x.now) c.find.result found ∙ ap (first_free a.base a.many) c.free_numbers.ensures
