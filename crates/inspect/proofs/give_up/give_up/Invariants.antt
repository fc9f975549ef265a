-- The invariant: the numbers before n are done (GivenUpTo), and nothing but the order is another (Reorders). Assumes nothing.
use Rattle.lists.specs.promises.Tables.{OfShown, tables_in}
use Rattle.disk.specs.Record.{record_in}
use Rattle.disk.specs.promises.Listing.{Reorders}
use Rattle.inspect.proofs.Yielding.{GivenUpTo}
use Rattle.inspect.proofs.give_up.give_up.Given as goal

abbrev pub invariant-loop-n : goal.invariant-loop-n
invariant-loop-n l =
    Reorders (record_in l.initial.rec) (record_in l.rec) × OfShown (tables_in l.nodes) (λ rs. GivenUpTo l.u rs (record_in l.initial.rec) l.n (record_in l.rec))
