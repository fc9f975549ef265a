-- The invariant: the holders passed are given up, the others are as they were. Assumes nothing.
use Rattle.std.proofs.Common.{◌≡◌, ◌++◌, cond, eqb, map, take, drop}
use Rattle.disk.proofs.change.release.Given as goal

abbrev pub invariant-loop-h : goal.invariant-loop-h
invariant-loop-h l = l.h-items ≡ map (λ h. cond (eqb h l.u) 0 h) (take l.h-index (take 80 (drop 376 l.fn.rec))) ++ drop l.h-index (take 80 (drop 376 l.fn.rec))
