-- "Two windows that share no list": a statement, proved under its own name in proofs.
use Rattle.std.specs.Prelude.{◌≡◌, ◌≢◌, true, ℕ, ◌+◌}
use Rattle.lists.specs.Touched.{touched, apart, Alike}
use Rattle.disk.specs.Disk.{Disk, unit_of, journal_of, committed}
use Rattle.disk.specs.Call.{end}
use Rattle.disk.specs.Questions.{queue_room, refusal}
use Rattle.disk.specs.Perform.{perform}

-- "Suppose two units are open, each would be accepted if it ended now, the queue takes both, and replayed alone on the committed state they touch no list
-- in common."
pub record Independent (u v : ℕ) (d : Disk) : Type 0 where
  pub other : u ≢ v
  pub first : refusal (end u) d ≡ 0
  pub second : refusal (end v) d ≡ 0
  pub room : queue_room d (((unit_of d u).len + 1) + ((unit_of d v).len + 1)) ≡ true
  pub apart : apart (touched (journal_of d u) (committed d)) (touched (journal_of d v) (committed d)) ≡ true

-- "Then ending them in either order is accepted both times and gives the same lists, blocks, contents and races."
abbrev pub EitherOrder : Type 0
EitherOrder =
    (u v : ℕ) (d : Disk) → Independent u v d
    → let x = (perform (end u) d).disk in let y = (perform (end v) d).disk in
    (refusal (end v) x ≡ 0) × (refusal (end u) y ≡ 0)
    × Alike (committed (perform (end v) x).disk).lists (committed (perform (end u) y).disk).lists
