-- The reader: how the entries of a log act, one after the other.
use Rattle.std.proofs.Math.Option.{Option, some}
use Rattle.std.specs.Prelude.{List, [], ◌∷◌, ◌++◌, ℕ, ◌-◌, leb, length, drop}
use Rattle.lists.specs.Basic.{guard, bind}
use Rattle.lists.specs.Change.{Change}
use Rattle.lists.specs.State.{State, empty, apply, apply_all}
use Rattle.card_log.specs.Entry.{Entry, plain, member, commit}

-- between two entries: the run of members standing directly before, and the state
pub record Reader (D : Type 0) : Type 0 where
  pub run : List (Change D)
  pub state : State D

abbrev pub reader : {D : Type 0} → List (Change D) → State D → Reader D
reader cs s = record { run = cs; state = s }

abbrev pub settled : {D : Type 0} → State D → Reader D
settled s = reader [] s

abbrev pub start : {D : Type 0} → Reader D
start = settled empty

unfoldable pub last_of : {A : Type 0} → ℕ → List A → List A
last_of n l = drop (length l - n) l

-- "Plain entries act in turn. Members act only at a commit, which takes the last so many members standing directly before it, in their order;
-- earlier members of that run are dead. So is a run followed by a plain entry or by the end." none: "commits no longer than their run, every
-- acting entry applicable" is broken here.
unfoldable pub read : {D : Type 0} → Reader D → Entry D → Option (Reader D)
read r (plain c) = bind (apply c r.state) (λ s. some (settled s))
read r (member c) = some (reader (r.run ++ c ∷ []) r.state)
read r (commit n) = guard (leb n (length r.run)) (bind (apply_all (last_of n r.run) r.state) (λ s. some (settled s)))

unfoldable pub replay : {D : Type 0} → Reader D → List (Entry D) → Option (Reader D)
replay r [] = some r
replay r (e ∷ es) = bind (read r e) (λ r'. replay r' es)
