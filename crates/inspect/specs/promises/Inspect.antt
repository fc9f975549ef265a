-- What inspecting a disk answers: questions 1 and 3, and question 4 with the tables of a view.
use Rattle.std.specs.Prelude.{◌≡◌, Bool, true, false, cond, List, [], ◌∷◌, ℕ, Result, MatchResult}
use Rattle.lists.specs.Basic.{is_some, all, each}
use Rattle.lists.specs.Numbers.{all_numbers}
use Rattle.lists.specs.promises.Tables.{Tables}
use Rattle.card_log.specs.Entry.{raw, legal}
use Rattle.card_log.specs.Store.{tail}
use Rattle.card_log.specs.declared.place.Place.{Place}
use Rattle.disk.specs.Disk.{Disk, queued, committed_reader, committed, view}
use Rattle.disk.specs.Sound.{lengths_right, holder_sound, listed_sound, head_standing, record_sound}
use Rattle.disk.specs.Questions.{stream_open, view_open, first_no}
use Rattle.answers.specs.Answers.{number}
use Rattle.answers.specs.declared.Refusal.{Refusal}
use Rattle.answers.specs.declared.Refusal.TheVariants.{RecordUnsound}
use Rattle.inspect.specs.promises.Located.{Located}
use Rattle.inspect.specs.promises.Clauses.{numbers_right, units_right}

-- refused by the first no of questions qs, or P of what is returned
abbrev pub RefusedOr : {A : Type 0} → List (ℕ × Bool) → (A → Type 0) → Result A Refusal → Type 0
RefusedOr qs P r = MatchResult r P (λ x. first_no qs ≡ number x)

-- questions 1 and 3
abbrev pub checked : Disk → List (ℕ × Bool)
checked d = (1, lengths_right d) ∷ (3, record_sound d) ∷ []

-- a disk that both questions accept, the tables showing state v of it
pub record Accepted (v : ℕ) (d : Disk) (p : Place) (t : Tables) : Type 0 where
  pub lengths : lengths_right d ≡ true
  pub sound : record_sound d ≡ true
  pub place : p ≡ tail d.card
  pub located : Located d t (view d v)

-- the clauses of question 3 that the record does not decide alone
unfoldable pub behind_log : Disk → Bool
behind_log d =
    each
    (all (λ e. legal (raw 0 e)) (queued d)
    ∷ is_some (committed_reader d)
    ∷ all (holder_sound d.rec (committed d).lists) all_numbers
    ∷ all (listed_sound d.rec (committed d).lists) all_numbers
    ∷ head_standing d.card d.rec.ring.done (queued d)
    ∷ [])

-- these hold, the tables showing state v and p being the place behind the log
pub record Behind (v : ℕ) (d : Disk) (p : Place) (t : Tables) : Type 0 where
  pub sound : behind_log d ≡ true
  pub place : p ≡ tail d.card
  pub located : Located d t (view d v)

-- the lengths and the record's own clauses are right
pub record LentRight (d : Disk) : Type 0 where
  pub lengths : lengths_right d ≡ true
  pub numbers : numbers_right d.rec ≡ true
  pub units : units_right d.rec ≡ true

abbrev pub AsksLent : Disk → Result (Unit {0}) Refusal → Type 0
AsksLent d r = RefusedOr (checked d) (λ done. LentRight d) r

-- where they are; view v is 0 or 5
abbrev pub ExaminesLog : ℕ → Disk → Result Place Refusal → Tables → Type 0
ExaminesLog v d r t = MatchResult r (λ p. Behind v d p t) (λ x. (x ≡ RecordUnsound) × (behind_log d ≡ false))

-- questions 1 and 3 whole
abbrev pub Examines : ℕ → Disk → Result Place Refusal → Tables → Type 0
Examines v d r t = RefusedOr (checked d) (λ p. Accepted v d p t) r

-- is it open: as a view, or as a stream, which the persistent state is not?
abbrev pub open_as : Bool → Disk → ℕ → Bool
open_as looked d v = cond looked (view_open d v) (stream_open d v)

-- questions 1, 3 and 4 are answered yes, the tables showing view v
pub record Sees (looked : Bool) (d : Disk) (v : ℕ) (t : Tables) : Type 0 where
  pub lengths : lengths_right d ≡ true
  pub sound : record_sound d ≡ true
  pub opened : open_as looked d v ≡ true
  pub located : Located d t (view d v)

-- they are asked in this order
abbrev pub opens : Bool → Disk → ℕ → List (ℕ × Bool)
opens looked d v = (1, lengths_right d) ∷ (3, record_sound d) ∷ (4, open_as looked d v) ∷ []

abbrev pub Looks : Bool → Disk → ℕ → Result (Unit {0}) Refusal → Tables → Type 0
Looks looked d v r t = RefusedOr (opens looked d v) (λ done. Sees looked d v t) r
