-- The disk: the card, the lent data and the record; what the queue and the journals say, and the views.
use Rattle.std.specs.Prelude.{cond, List, ℕ, ◌+◌, ◌-◌, ◌*◌, eqb, get_or}
use Rattle.std.proofs.Math.Option.{Option, none, some}
use Rattle.lists.specs.Basic.{bind, from}
use Rattle.lists.specs.Change.{Change, map_change}
use Rattle.lists.specs.State.{State, state, empty, overlay}
use Rattle.card_log.specs.Raced.{with_body}
use Rattle.card_log.specs.Entry.{Entry, map_entry, as_entry, as_change}
use Rattle.card_log.specs.Cell.{member_in, entry_in}
use Rattle.card_log.specs.Reader.{Reader, replay}
use Rattle.card_log.specs.Card.{Written, slot, Outcome, sound, fault, mounted}
use Rattle.disk.specs.Record.{Unit, Record, record_in, no_cell, unit_at, listed_in, ring_place, journal_places}

-- "Every call is lent card, queue data, journal data and record."
pub record Disk : Type 0 where
  pub card : List ℕ
  pub queue_data : List ℕ
  pub journal_data : List ℕ
  pub rec : Record

abbrev pub disk : List ℕ → List ℕ → List ℕ → Record → Disk
disk c q j r = record { card = c; queue_data = q; journal_data = j; rec = r }

-- the same of the record's bytes
abbrev pub disk_in : List ℕ → List ℕ → List ℕ → List ℕ → Disk
disk_in c q j r = disk c q j (record_in r)

abbrev pub with_record : Disk → Record → Disk
with_record d r = disk d.card d.queue_data d.journal_data r

-- the queue's entry k, its data at its place of the queue data; "journal and queue hold" the race
unfoldable pub queued_at : Disk → ℕ → Entry Written
queued_at d k =
    let p = ring_place d.rec k in
    let q = get_or d.rec.ring.queue p no_cell in
    map_entry (with_body (slot d.queue_data p)) (as_entry (member_in q) (entry_in q))

unfoldable pub queued : Disk → List (Entry Written)
queued d = from (queued_at d) 0 d.rec.ring.len

unfoldable pub unit_of : Disk → ℕ → Unit
unit_of d u = unit_at d.rec u

-- "data of unit u's entry k, from 0, at ((u−1)×15+k)×256"
abbrev pub journal_place : ℕ → ℕ → ℕ
journal_place u k = (u - 1) * journal_places + k

unfoldable pub journal_at : Disk → ℕ → ℕ → Change Written
journal_at d u k = map_change (with_body (slot d.journal_data (journal_place u k))) (as_change (entry_in (get_or (unit_of d u).journal k no_cell)))

unfoldable pub journal_of : Disk → ℕ → List (Change Written)
journal_of d u = from (journal_at d u) 0 (unit_of d u).len

unfoldable pub reader_of : Outcome Written → Option (Reader Written)
reader_of (sound r) = some r
reader_of (fault g i) = none

unfoldable pub committed_reader : Disk → Option (Reader Written)
committed_reader d = bind (reader_of (mounted d.card)) (λ r. replay r (queued d))

unfoldable pub state_of : Option (Reader Written) → State Written
state_of none = empty
state_of (some r) = r.state

-- "The persistent state is the log's. The committed state is that of the log followed by the queue."
unfoldable pub persistent : Disk → State Written
persistent d = state_of (reader_of (mounted d.card))

unfoldable pub committed : Disk → State Written
committed d = state_of (committed_reader d)

-- "Unit u's view is the committed state now with u's journal replayed in order [..]. View 0 is the committed state, 1 to 4 an open unit's, 5 the
-- persistent one."
unfoldable pub view : Disk → ℕ → State Written
view d v = cond (eqb v 5) (persistent d) (cond (eqb v 0) (committed d) (overlay (journal_of d v) (committed d)))

-- the committed lists with the record's own order of the free numbers, in which held ones are missing
unfoldable pub listing : Disk → State Written
listing d = state (committed d).lists (listed_in d.rec)
