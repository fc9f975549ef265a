-- Each turn goes one node on, and what is looked for from there on is what was looked for. Assumes nothing.
use mathlib.Core.Path.{◌≡◌}
use mathlib.Core.List.{List}
use Prim.Native.Nat.{ℕ, ◌-◌, ◌≤◌}
use Rattle.lists.specs.promises.Tables.{tables_in, list_within}
use Rattle.lists.proofs.tables.list_behind.Given as goal

pub record Looking (next : List ℕ) (x n i : ℕ) : Type 0 where
  pub few : i ≤ 256
  pub rest : list_within (256 - i) next n ≡ list_within 256 next x

abbrev pub invariant-loop-i : goal.invariant-loop-i
invariant-loop-i l = Looking (tables_in l.nodes).next l.x l.n l.i

abbrev pub decreases-loop-i : goal.decreases-loop-i
decreases-loop-i l = 256 - l.i
