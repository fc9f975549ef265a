-- Each turn passes a byte of the run, which is as much shorter. Assumes nothing.
use mathlib.Core.Path.{◌≡◌}
use Prim.Native.Nat.{◌+◌, ◌≤◌, max}
use lib.ListN.{length, drop}
use Rattle.text.specs.Line.{run}
use Rattle.text.proofs.line.run_end.Given as goal

abbrev pub invariant-loop-i : goal.invariant-loop-i
invariant-loop-i l =
    (l.i ≤ max l.from (length l.line)) × (l.from + run l.blanks (drop l.from l.line) ≡ l.i + run l.blanks (drop l.i l.line))
