-- The invariant: the numbers shown up to x have joined, at least i (JoinedUpTo), and nothing but the order is another (Reorders). No row of free numbers exceeds 80. Assumes nothing.
use Rattle.lists.specs.promises.Tables.{tables_in}
use Rattle.disk.specs.Record.{record_in}
use Rattle.disk.specs.promises.Listing.{Reorders}
use Rattle.disk.proofs.Listing.{JoinedUpTo}
use Rattle.disk.proofs.free.list_free.Given as goal

abbrev pub invariant-loop-i : goal.invariant-loop-i
invariant-loop-i l = Reorders (record_in l.initial.rec) (record_in l.rec) × JoinedUpTo (tables_in l.nodes) l.number (record_in l.initial.rec) l.x l._i (record_in l.rec)
