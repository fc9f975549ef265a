-- The invariant: the bytes from i on stand exactly if all of them do. Assumes nothing.
use mathlib.Core.Path.{◌≡◌}
use Prim.Native.Nat.{◌-◌, ◌≤◌}
use Rattle.card_log.specs.promises.Begun.{stands_from}
use Rattle.card_log.proofs.Begun.{left_at}
use Rattle.card_log.proofs.head.bytes_stand.Given as goal

abbrev pub invariant-loop-i : goal.invariant-loop-i
invariant-loop-i l = (l.i ≤ l.n) × (stands_from l.card l.at l.bytes l.n ≡ left_at l.card l.at l.bytes l.n l.i)

abbrev pub decreases-loop-i : goal.decreases-loop-i
decreases-loop-i l = l.n - l.i
