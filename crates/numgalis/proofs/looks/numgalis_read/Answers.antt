-- The call's own promise, its answer told. Assumes nothing.
use Rattle.std.proofs.Common.{rules}
use Rattle.std.proofs.lemmas.Result.{MatchResult-weaker}
use Rattle.numgalis.proofs.Telling.{IsOkAnd-weaker, read-number}
use Rattle.numgalis.proofs.looks.numgalis_read.Goals as goal

pub returns : goal.returns
returns c =
    let e = read-number c.read.result c.map.result (MatchResult-weaker c.read.result c.map.ensures.cases (λ n h. IsOkAnd-weaker c.map.result (λ m k. search rules) h) (λ x h. h)) in
    cc
