-- The invariant: the members from number j on lead from the state that the tables show to where all of them lead from the reader's.
-- Assumes nothing.
use mathlib.Core.Path.{◌≡◌}
use Prim.Native.Nat.{ℕ, ◌-◌, ◌≤◌}
use lib.ListN.{drop}
use Rattle.lists.specs.State.{State, apply_all}
use Rattle.lists.specs.promises.Tables.{tables_in, ShowsAll}
use Rattle.card_log.specs.Reader.{Reader, last_of}
use Rattle.card_log.specs.promises.Feed.{memory, Keeps}
use Rattle.card_log.proofs.feed.commit.Given as goal

abbrev pub invariant-loop-j : goal.invariant-loop-j
invariant-loop-j l =
    (l.n ≤ l.run) × (l.run - l.n ≤ l.j) × (l.j ≤ l.run)
    × ((r : Reader ℕ) → Keeps (memory l.initial.nodes l.members) l.run r → l.n ≤ 15
    → (s : State ℕ) × ShowsAll (tables_in l.nodes) s × (apply_all (drop l.j r.run) s ≡ apply_all (last_of l.n r.run) r.state))

abbrev pub decreases-loop-j : goal.decreases-loop-j
decreases-loop-j l = l.run - l.j
