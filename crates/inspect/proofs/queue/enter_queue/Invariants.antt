-- The invariant: the entries passed are lawful, and those that are left lead from the reader kept to where the whole queue leads. Assumes nothing.
use mathlib.Core.Path.{◌≡◌}
use Prim.Native.Nat.{ℕ, ◌+◌, ◌≤◌}
use Rattle.card_log.specs.Reader.{Reader}
use Rattle.card_log.specs.promises.Feed.{memory, Keeps}
use Rattle.disk.specs.Record.{record_in}
use Rattle.inspect.proofs.Queueing.{FedUpTo}
use Rattle.inspect.proofs.queue.enter_queue.Given as goal

abbrev pub invariant-loop-k : goal.invariant-loop-k
invariant-loop-k l =
    let r = record_in l.rec in
    (l.first ≡ r.ring.head) × (l.members_in_run ≤ l.run + l.k)
    × ((x : Reader ℕ) → Keeps (memory l.initial.nodes l.initial.members) l.run x → FedUpTo r x l.k l.members_in_run (memory l.nodes l.members))
