-- The invariant: every reader kept at the start has passed the entries before i, and the place behind them is the cursor's. Assumes nothing.
use Prim.Native.Nat.{ℕ, ◌+◌, ◌-◌, ◌*◌, ◌≤◌, ◌<◌}
use Rattle.card_log.specs.Reader.{Reader}
use Rattle.card_log.specs.promises.Feed.{memory, Keeps}
use Rattle.card_log.proofs.Walking.{Past}
use Rattle.card_log.proofs.walk.walk_segment.Given as goal

abbrev pub invariant-loop-i : goal.invariant-loop-i
invariant-loop-i l =
    (l.i ≤ l.n) × (l.n < 256) × (4096 * l.g + 3585 ≤ l.cur.at) × (l.cur.at ≤ 4096 * l.g + 4096) × (l.cur.slots ≤ l.i) × (l.cur.run ≤ l.run + l.i)
    × ((r : Reader ℕ) → Keeps (memory l.initial.nodes l.initial.members) l.run r → Past l.card l.g l.n l.i l.cur r (memory l.nodes l.members))

abbrev pub decreases-loop-i : goal.decreases-loop-i
decreases-loop-i l = l.n - l.i
