-- What a unit's end does to the record's order of the free numbers: its changes act on it one by one, then it gives up what it still holds.
use Rattle.std.specs.Prelude.{◌≡◌, Bool, ◌&&◌, not, cond, List, ℕ, eqb}
use Rattle.std.proofs.Math.Option.{some}
use Rattle.lists.specs.Basic.{times}
use Rattle.lists.specs.Change.{Change}
use Rattle.lists.specs.State.{Row, State, state, apply, apply_all}
use Rattle.lists.specs.InUse.{in_use}
use Rattle.lists.specs.promises.Tables.{Tables, ShowsAll, OfShown}
use Rattle.disk.specs.Record.{Unit, Record, holder_of, listed_in}
use Rattle.disk.specs.Perform.{given_up}
use Rattle.disk.specs.promises.Listing.{Reorders, pushed, pushed_all, relisted_by, relisted_all}
use Rattle.inspect.specs.promises.Located.{journal_here}

-- a change that applies acts on the tables and on the order; of one that does not, nothing is said but that the record stays as it was otherwise
pub record RelistsChange (c : Change ℕ) (t : Tables) (r r' : Record) (t' : Tables) : Type 0 where
  pub shows : (s v : State ℕ) → ShowsAll t s → apply c s ≡ some v → ShowsAll t' v
  pub order : (s v : State ℕ) → ShowsAll t s → apply c s ≡ some v → r' ≡ relisted_by c s.lists r
  pub keeps : Reorders r r'

-- and so does unit u's journal, x being the unit, where every change of it applies: an End asks that first
pub record RelistsJournal (t : Tables) (x : Unit) (u : ℕ) (r r' : Record) (t' : Tables) : Type 0 where
  pub shows : (s v : State ℕ) → ShowsAll t s → apply_all (journal_here x u) s ≡ some v → ShowsAll t' v
  pub order : (s v : State ℕ) → ShowsAll t s → apply_all (journal_here x u) s ≡ some v → r' ≡ relisted_all (journal_here x u) s.lists r
  pub keeps : Reorders r r'

-- does unit u give number n up, over the lists rs: does it hold it, and is it neither in use nor listed?
unfoldable pub is_given_up : {D : Type 0} → ℕ → List (Row D) → Record → ℕ → Bool
is_given_up u rs r n = eqb (holder_of r n) u && not (in_use n rs) && eqb (times n (listed_in r)) 0

-- then it joins the order
abbrev pub GivesUpNumber : ℕ → ℕ → Tables → Record → Record → Type 0
GivesUpNumber u n t r r' = OfShown t (λ rs. r' ≡ cond (is_given_up u rs r n) (pushed n r) r)

-- all that it gives up, ascending
abbrev pub GivesUp : ℕ → Tables → Record → Record → Type 0
GivesUp u t r r' = OfShown t (λ rs. r' ≡ pushed_all (given_up u (state rs (listed_in r)) r) r)
