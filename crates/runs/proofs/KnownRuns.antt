-- The runs with known outcome, computed.
use mathlib.Core.Path.{refl}
use Rattle.runs.specs.KnownRuns.{KnownOutcomes, outcome, wanted, blank, runs}
use Rattle.runs.proofs.Computing.{computing}

pub known-outcomes : KnownOutcomes
unfolding computing outcome wanted blank runs
known-outcomes = refl
