-- The invariant: the table has how often each byte is among the places passed (Counted). Assumes nothing.
use Rattle.inspect.proofs.Ordering.{Counted}
use Rattle.inspect.proofs.listed.count_listed.Given as goal

abbrev pub invariant-loop-x : goal.invariant-loop-x
invariant-loop-x l = Counted l.x-items l.x-index l.seen
