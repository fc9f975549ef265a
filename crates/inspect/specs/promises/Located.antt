-- States of a disk in lent tables: what was written of each block by its number (log: Location), the queue and a journal likewise.
use Rattle.std.specs.Prelude.{◌≡◌, List, ℕ, get_or}
use Rattle.lists.specs.Basic.{from}
use Rattle.lists.specs.Change.{Change, map_change}
use Rattle.lists.specs.State.{State, map_state}
use Rattle.lists.specs.promises.Tables.{Tables, ShowsAll}
use Rattle.card_log.specs.Raced.{Raced}
use Rattle.card_log.specs.Entry.{Entry, map_entry, as_entry, as_change}
use Rattle.card_log.specs.Cell.{member_in, entry_in}
use Rattle.card_log.specs.Card.{Written}
use Rattle.card_log.specs.promises.Location.{content_at, number_at, queue_location, journal_location}
use Rattle.disk.specs.Record.{Unit, Record, no_cell, ring_place}
use Rattle.disk.specs.Disk.{Disk, journal_place}

-- what a number says of the disk
abbrev pub contents : Disk → ℕ → Written
contents d = content_at d.card d.queue_data d.journal_data

-- the tables show state s of the disk
pub record Located (d : Disk) (t : Tables) (s : State Written) : Type 0 where
  pub here : State ℕ
  pub shows : ShowsAll t here
  pub means : s ≡ map_state (contents d) here

-- the queue's entry k as its cell says it, a write's slot as it stands there; and with its number in a table
abbrev pub queued_said : Record → ℕ → Entry (Raced ℕ)
queued_said r k = let q = get_or r.ring.queue (ring_place r k) no_cell in as_entry (member_in q) (entry_in q)

unfoldable pub queued_here : Record → ℕ → Entry ℕ
queued_here r k = map_entry (number_at (queue_location (ring_place r k))) (queued_said r k)

unfoldable pub queue_said : Record → List (Entry (Raced ℕ))
queue_said r = from (queued_said r) 0 r.ring.len

unfoldable pub queue_here : Record → List (Entry ℕ)
queue_here r = from (queued_here r) 0 r.ring.len

-- change k of unit u's journal
unfoldable pub change_here : Unit → ℕ → ℕ → Change ℕ
change_here x u k = map_change (number_at (journal_location (journal_place u k))) (as_change (entry_in (get_or x.journal k no_cell)))

unfoldable pub journal_here : Unit → ℕ → List (Change ℕ)
journal_here x u = from (change_here x u) 0 x.len
