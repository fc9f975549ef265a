-- The invariant: the places before k are done, and the first `left` of them hold the numbers kept (Sifted). Assumes nothing.
use Rattle.disk.specs.Record.{record_in}
use Rattle.disk.proofs.Listing.{Sifted}
use Rattle.disk.proofs.free.withdraw.Given as goal

abbrev pub invariant-loop-k : goal.invariant-loop-k
invariant-loop-k l = Sifted l.number (record_in l.initial.rec) l.k l.left (record_in l.rec)
