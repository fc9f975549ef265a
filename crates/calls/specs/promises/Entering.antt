-- Questions 1, 3 and 4 of a call on a stream, and of End, whose unit is no stream 0.
use Rattle.std.specs.Prelude.{◌≡◌, Bool, true, cond, List, [], ◌∷◌, ℕ, Result}
use Rattle.lists.specs.promises.Tables.{Tables}
use Rattle.disk.specs.Disk.{Disk, committed}
use Rattle.disk.specs.Sound.{lengths_right, record_sound, is_open_unit}
use Rattle.disk.specs.Questions.{stream_open}
use Rattle.answers.specs.declared.Refusal.{Refusal}
use Rattle.inspect.specs.promises.Located.{Located}
use Rattle.inspect.specs.promises.Inspect.{RefusedOr}

-- is it open, as a stream, or as a unit?
abbrev pub open_for : Bool → Disk → ℕ → Bool
open_for stream d s = cond stream (stream_open d s) (is_open_unit d s)

-- the tables show the committed state
pub record Admitted (stream : Bool) (d : Disk) (s : ℕ) (t : Tables) : Type 0 where
  pub lengths : lengths_right d ≡ true
  pub sound : record_sound d ≡ true
  pub opened : open_for stream d s ≡ true
  pub located : Located d t (committed d)

-- refused by the first no, or entered
abbrev pub entering : Bool → Disk → ℕ → List (ℕ × Bool)
entering stream d s = (1, lengths_right d) ∷ (3, record_sound d) ∷ (4, open_for stream d s) ∷ []

abbrev pub Admits : Bool → Disk → ℕ → Result (Unit {0}) Refusal → Tables → Type 0
Admits stream d s r t = RefusedOr (entering stream d s) (λ done. Admitted stream d s t) r
