-- The invariant: the walk has come to segment g, the tables keep its reader, and the items left are those of the segments from g on.
-- Assumes nothing.
use mathlib.Core.Path.{◌≡◌}
use Prim.Native.Nat.{◌-◌, ◌*◌, ◌≤◌}
use lib.ListN.{length}
use Rattle.card_log.specs.promises.Feed.{memory}
use Rattle.card_log.proofs.Walking.{Upto}
use Rattle.card_log.proofs.walk.walk.Given as goal

abbrev pub invariant-loop-g : goal.invariant-loop-g
invariant-loop-g l =
    (l.g ≤ l.n) × (l.n ≤ 64) × (length l.card ≡ 4096 * l.n) × (l.run ≤ 255 * l.g) × Upto l.card l.n l.g l.run l.behind (memory l.nodes l.members)

abbrev pub decreases-loop-g : goal.decreases-loop-g
decreases-loop-g l = l.n - l.g
