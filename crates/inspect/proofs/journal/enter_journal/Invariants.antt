-- The invariant: the changes from number k on lead from the state that the tables show to where all of them led, and so far every one applied if
-- `every` says so. Assumes nothing.
use Prim.Native.Nat.{ℕ}
use Rattle.lists.specs.State.{State}
use Rattle.lists.specs.promises.Tables.{ShowsAll, tables_in}
use Rattle.disk.specs.Record.{record_in, unit_at}
use Rattle.inspect.proofs.Overlaying.{Laid}
use Rattle.inspect.proofs.journal.enter_journal.Given as goal

abbrev pub invariant-loop-k : goal.invariant-loop-k
invariant-loop-k l =
    let x = unit_at (record_in l.rec) l.u in
    (s : State ℕ) → ShowsAll (tables_in l.initial.nodes) s → Laid x l.u s l.every l.k (tables_in l.nodes)
