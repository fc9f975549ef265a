-- What End adds to the queue and leaves of the unit.
use Rattle.std.specs.Prelude.{◌≡◌, Bool, true, cond, List, [], ◌∷◌, ℕ, ◌+◌, ◌≤◌, ◌<◌, leb, eqb, length, Result, Ok, Err}
use Rattle.std.proofs.Math.Option.{some}
use Rattle.lists.specs.Basic.{is_some, all, from}
use Rattle.lists.specs.Change.{map_change}
use Rattle.lists.specs.State.{Row, State, state, apply_all}
use Rattle.lists.specs.promises.Tables.{Tables, ShowsAll}
use Rattle.card_log.specs.declared.entry.LogEntry.{LogEntry}
use Rattle.card_log.specs.Raced.{with_body}
use Rattle.card_log.specs.Card.{slot}
use Rattle.card_log.specs.Entry.{member, raw, legal, as_change}
use Rattle.disk.specs.Record.{Record, unit_at, listed_in, unit_turned, releasing, conflict_counted}
use Rattle.answers.specs.declared.Refusal.{Refusal}
use Rattle.disk.specs.Disk.{disk, journal_of}
use Rattle.disk.specs.Questions.{first_no}
use Rattle.disk.specs.Perform.{enqueue, enqueue_all, unit_entries, given_up}
use Rattle.answers.specs.Answers.{number}
use Rattle.disk.specs.promises.Listing.{Padded, pushed_all, relisted_all}
use Rattle.inspect.specs.promises.Located.{journal_here}
use Rattle.inspect.specs.promises.Clauses.{change_in}

-- "the unit closes, its journal goes, its held numbers are released", over the lists rs
abbrev pub closed_over : {D : Type 0} → ℕ → List (Row D) → Record → Record
closed_over u rs r = releasing u (unit_turned 0 u (pushed_all (given_up u (state rs (listed_in r)) r) r))

-- entry e of a journal, its data at place k of the journal data j, joins queue data q and record r; the card is not looked at
abbrev pub QueuesMember : List ℕ → List ℕ → Record → LogEntry → ℕ → List ℕ → Record → Type 0
QueuesMember q j r e k q' r' = (c : List ℕ) → enqueue (member (map_change (with_body (slot j k)) (as_change e))) (disk c q j r) ≡ disk c q' j r'

-- what a sound disk has: queue data q and journal data j, record r and its unit u
pub record Ready (q j : List ℕ) (r : Record) (u : ℕ) : Type 0 where
  pub queue_data : length q ≡ 8192
  pub journal_data : length j ≡ 15360
  pub queue : r.ring.len ≤ 32
  pub head : r.ring.head < 32
  pub first : 1 ≤ u
  pub last : u ≤ 4
  pub room : (unit_at r u).len ≤ 15
  pub opened : 1 ≤ (unit_at r u).window
  pub window : (unit_at r u).window ≤ 16
  pub order : Padded r
  pub lawful : all (λ c. legal (raw 0 (member c))) (from (change_in (unit_at r u)) 0 (unit_at r u).len) ≡ true

-- unit u's journal and a commit join them
abbrev pub QueuesUnit : List ℕ → List ℕ → Record → ℕ → List ℕ → Record → Type 0
QueuesUnit q j r u q' r' = (c : List ℕ) → (let d = disk c q j r in enqueue_all (unit_entries (journal_of d u)) d ≡ disk c q' j r')

-- End behind question 4; does every change of the journal apply?
abbrev pub end_questions : Bool → Record → ℕ → List (ℕ × Bool)
end_questions a r u = (12, a) ∷ (13, leb (r.ring.len + ((unit_at r u).len + 1)) 32) ∷ []

-- refused by the first no, the unit closed if that was 12; or accepted, queued, followed entry by entry in the order of the free numbers, and closed. st is
-- the committed state that tables show.
abbrev pub EndsAs : State ℕ → List ℕ → List ℕ → Record → ℕ → Result (Unit {0}) Refusal → List ℕ → Record → Type 0
EndsAs st q j r u (Err x) q' r' =
    (first_no (end_questions (is_some (apply_all (journal_here (unit_at r u) u) st)) r u) ≡ number x) × (q' ≡ q)
    × (r' ≡ cond (eqb (number x) 12) (conflict_counted (unit_at r u).window (closed_over u st.lists r)) r)
EndsAs st q j r u (Ok done) q' r' =
    (first_no (end_questions (is_some (apply_all (journal_here (unit_at r u) u) st)) r u) ≡ 0)
    × (r₁ : Record) × QueuesUnit q j r u q' r₁
    × ((v : State ℕ) → apply_all (journal_here (unit_at r u) u) st ≡ some v → r' ≡ closed_over u v.lists (relisted_all (journal_here (unit_at r u) u) st.lists r₁))

abbrev pub Ends : Tables → List ℕ → List ℕ → Record → ℕ → Result (Unit {0}) Refusal → List ℕ → Record → Type 0
Ends t q j r u x q' r' = (st : State ℕ) → ShowsAll t st → EndsAs st q j r u x q' r'
