-- Questions 11 and 13 of a change on a stream, and the record with the change; of a deletion, with the numbers that it frees.
use Rattle.std.specs.Prelude.{◌≡◌, Bool, true, false, cond, List, [], ◌∷◌, ◌++◌, ℕ, ◌*◌, ◌≤◌, ◌<◌, eqb, Result, Ok, Err}
use Rattle.std.proofs.Math.Option.{Option, none, some}
use Rattle.lists.specs.Change.{Change, del_block, del_list}
use Rattle.lists.specs.State.{Row, State, apply}
use Rattle.lists.specs.promises.Tables.{Tables, ShowsAll}
use Rattle.card_log.specs.declared.entry.LogEntry.{LogEntry}
use Rattle.card_log.specs.declared.entry.LogEntry.TheVariants.{Take, PutFirst, PutAfter, Write, DeleteBlock, DeleteList, Commit}
use Rattle.card_log.specs.Entry.{as_entry}
use Rattle.card_log.specs.Cell.{cell_of}
use Rattle.card_log.specs.Card.{slot_bytes, splice}
use Rattle.disk.specs.Record.{Record, ring_place, unit_at, appended, journal_grown}
use Rattle.disk.specs.promises.Listing.{relisted_by}
use Rattle.answers.specs.declared.Refusal.{Refusal}
use Rattle.disk.specs.Disk.{Disk, journal_place}
use Rattle.disk.specs.Questions.{journal_room, stream_room, first_no}
use Rattle.answers.specs.Answers.{number}

-- the record with an entry more on stream s
unfoldable pub added : ℕ → LogEntry → Record → Record
added s e r =
    cond (eqb s 0)
    (appended (cell_of (as_entry false e)) r)
    (journal_grown s (cell_of (as_entry false e)) r)

-- the last questions of a change on stream s
abbrev pub rooms : Disk → ℕ → List (ℕ × Bool)
rooms d s = (11, journal_room d s) ∷ (13, stream_room d s) ∷ []

-- Refused by one of them, and the record as it was; or accepted, and record y left. Of the disk's record alone, whatever is lent beside it.
abbrev pub Leaves : ℕ → Record → Record → Result (Unit {0}) Refusal → Record → Type 0
Leaves s r y (Err x) r' = (r' ≡ r) × ((d : Disk) → d.rec ≡ r → first_no (rooms d s) ≡ number x)
Leaves s r y (Ok done) r' = (r' ≡ y) × ((d : Disk) → d.rec ≡ r → (journal_room d s ≡ true) × (stream_room d s ≡ true))

-- the same behind other questions
abbrev pub LeavesAfter : List (ℕ × Bool) → ℕ → Record → Record → Result (Unit {0}) Refusal → Record → Type 0
LeavesAfter qs s r y (Err x) r' = (r' ≡ r) × ((d : Disk) → d.rec ≡ r → first_no (qs ++ rooms d s) ≡ number x)
LeavesAfter qs s r y (Ok done) r' = (r' ≡ y) × ((d : Disk) → d.rec ≡ r → first_no (qs ++ rooms d s) ≡ 0)

-- an entry added
abbrev pub Adds : ℕ → LogEntry → Record → Result (Unit {0}) Refusal → Record → Type 0
Adds s e r a r' = Leaves s r (added s e r) a r'

abbrev pub AddsAfter : List (ℕ × Bool) → ℕ → LogEntry → Record → Result (Unit {0}) Refusal → Record → Type 0
AddsAfter qs s e r a r' = LeavesAfter qs s r (added s e r) a r'

-- What a change made in lists rs does to the order of the free numbers at once: on stream 0 all, and nothing in a unit, whose changes act on it when the
-- unit ends.
unfoldable pub relisted_on : {D : Type 0} → ℕ → Change D → List (Row D) → Record → Record
relisted_on s c rs r = cond (eqb s 0) (relisted_by c rs r) r

-- the change that an entry says, if that is a deletion
abbrev pub deletion : LogEntry → Option (Change ℕ)
deletion (Take l) = none
deletion (PutFirst b l) = none
deletion (PutAfter b l p) = none
deletion (Write b x n) = none
deletion (DeleteBlock b) = some (del_block b)
deletion (DeleteList l) = some (del_list l)
deletion (Commit n) = none

-- what holds of entry e where it is a deletion and applies to the state that tables show, of its change and the lists before it
abbrev pub OfDeletion : Tables → LogEntry → (Change ℕ → List (Row ℕ) → Type 0) → Type 0
OfDeletion t e P = (c : Change ℕ) (x y : State ℕ) → deletion e ≡ some c → ShowsAll t x → apply c x ≡ some y → P c x.lists

-- a deletion added: entry e, which says change c, made in lists rs
abbrev pub DeletesAfter : List (ℕ × Bool) → ℕ → LogEntry → Change ℕ → List (Row ℕ) → Record → Result (Unit {0}) Refusal → Record → Type 0
DeletesAfter qs s e c rs r a r' = LeavesAfter qs s r (relisted_on s c rs (added s e r)) a r'

-- what a sound record has, of an open stream s; unit 1 stands for stream 0's
abbrev pub InRange : ℕ → Record → Type 0
InRange s r = (s ≤ 4) × (r.ring.len ≤ 32) × (r.ring.head < 32) × ((unit_at r s).len ≤ 15)

-- the place of the data of the entry that stream s takes next: of the queue data for stream 0, of the journal data for a unit
abbrev pub place_next : ℕ → Record → ℕ
place_next s r = cond (eqb s 0) (ring_place r r.ring.len) (journal_place s (unit_at r s).len)

-- place p is there
abbrev pub HasPlace : ℕ → ℕ → Type 0
HasPlace s p = p < cond (eqb s 0) 32 60

-- 256 bytes x go to place p of the queue data q, or of the journal data j
pub record Copies (s p : ℕ) (x q j q' j' : List ℕ) : Type 0 where
  pub queue : q' ≡ cond (eqb s 0) (splice q (slot_bytes * p) x) q
  pub journal : j' ≡ cond (eqb s 0) j (splice j (slot_bytes * p) x)
