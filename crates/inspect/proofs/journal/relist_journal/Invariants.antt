-- The invariant: the changes from number k on lead from the state that the tables show, and from the order as it is, to where all of them lead
-- (Relisted); the journal is what it was, since nothing but the order is another (Reorders). Assumes nothing.
use Rattle.lists.specs.promises.Tables.{tables_in}
use Rattle.disk.specs.Record.{record_in, unit_at}
use Rattle.disk.specs.promises.Listing.{Reorders}
use Rattle.inspect.proofs.Relisting.{RelistedUpTo}
use Rattle.inspect.proofs.journal.relist_journal.Given as goal

abbrev pub invariant-loop-k : goal.invariant-loop-k
invariant-loop-k l =
    let x = unit_at (record_in l.initial.rec) l.u in
    Reorders (record_in l.initial.rec) (record_in l.rec) × RelistedUpTo (tables_in l.initial.nodes) x l.u (record_in l.initial.rec) l.k (tables_in l.nodes) (record_in l.rec)
