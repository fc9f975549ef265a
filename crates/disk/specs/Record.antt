-- The working record: its parts by name, the bytes that it is lent as, and the record with a part changed.
use Rattle.std.specs.Prelude.{Bool, ◌&&◌, not, cond, List, [], ◌++◌, map, ℕ, ◌+◌, ◌-◌, ◌*◌, ◌%◌, min, eqb, length, get_or, set, take, replicate}
use Rattle.lists.specs.Basic.{from}
use Rattle.lists.specs.InUse.{number_count}
use Rattle.card_log.specs.Cell.{Cell, cell}

-- "units 1 to 4, [..] 15 entries in a unit's journal, 32 in the queue"
abbrev pub queue_places : ℕ
queue_places = 32

abbrev pub journal_places : ℕ
journal_places = 15

abbrev pub unit_count : ℕ
unit_count = 4

-- "Begin now names a window from 1 to 16 as well. Each window has its own count"
abbrev pub window_count : ℕ
window_count = 16

-- A unit: the window that its Begin named, 0 where it is closed; its journal are the first `len` of the entries.
pub record Unit : Type 0 where
  pub window : ℕ
  pub len : ℕ
  pub journal : List Cell

-- the queue in its places, the head's place, the queue's length, and the head's stores that are done
pub record Ring : Type 0 where
  pub queue : List Cell
  pub head : ℕ
  pub len : ℕ
  pub done : ℕ

-- the units, and the unit that holds each number, block or list, 0 for none
pub record Held : Type 0 where
  pub units : List Unit
  pub holder : List ℕ

-- the free numbers in the order of their freeing: the first `listed` of the places; and the conflict count of each window
pub record Tally : Type 0 where
  pub order : List ℕ
  pub listed : ℕ
  pub conflicts : List ℕ

pub record Record : Type 0 where
  pub ring : Ring
  pub held : Held
  pub tally : Tally

abbrev pub unit : ℕ → ℕ → List Cell → Unit
unit w n j = record { window = w; len = n; journal = j }

-- "Every call is lent card, queue data, journal data and record.": the record in 573 bytes. Cells of four bytes, and bytes, from byte a on, n of them:
unfoldable pub cells_in : List ℕ → ℕ → ℕ → List Cell
cells_in bs a n = from (λ k. cell (get_or bs (a + 4 * k) 0) (get_or bs (a + 4 * k + 1) 0) (get_or bs (a + 4 * k + 2) 0) (get_or bs (a + 4 * k + 3) 0)) 0 n

unfoldable pub bytes_in : List ℕ → ℕ → ℕ → List ℕ
bytes_in bs a n = from (λ k. get_or bs (a + k) 0) 0 n

-- a number in two bytes, the low one first, and n of them
abbrev pub pair_in : List ℕ → ℕ → ℕ
pair_in bs a = get_or bs a 0 + 256 * get_or bs (a + 1) 0

unfoldable pub pairs_in : List ℕ → ℕ → ℕ → List ℕ
pairs_in bs a n = from (λ k. pair_in bs (a + 2 * k)) 0 n

-- unit i + 1
unfoldable pub unit_in : List ℕ → ℕ → Unit
unit_in bs i = unit (get_or bs (368 + i) 0) (get_or bs (372 + i) 0) (cells_in bs (128 + 60 * i) journal_places)

-- what the bytes mean; each of them stands for a part, or for half of one
unfoldable pub record_in : List ℕ → Record
record_in bs = record {
  ring = record { queue = cells_in bs 0 queue_places; head = get_or bs 456 0; len = get_or bs 457 0; done = pair_in bs 458 };
  held = record { units = from (unit_in bs) 0 unit_count; holder = bytes_in bs 376 number_count };
  tally = record { order = bytes_in bs 493 number_count; listed = get_or bs 460 0; conflicts = pairs_in bs 461 window_count };
}

-- what stands in a place that holds nothing, and past the end of the units
abbrev pub no_cell : Cell
no_cell = cell 0 0 0 0

abbrev pub no_unit : Unit
no_unit = unit 0 0 []

-- the place of the queue's entry k: "32 places used in a ring"
abbrev pub ring_place : Record → ℕ → ℕ
ring_place r k = (r.ring.head + k) % queue_places

abbrev pub unit_at : Record → ℕ → Unit
unit_at r u = get_or r.held.units (u - 1) no_unit

abbrev pub is_open : Unit → Bool
is_open x = not (eqb x.window 0)

-- the unit that holds number n, or 0
abbrev pub holder_of : Record → ℕ → ℕ
holder_of r n = get_or r.held.holder (n - 1) 0

-- the numbers that the record lists, in order
unfoldable pub listed_in : Record → List ℕ
listed_in r = take r.tally.listed r.tally.order

-- window w's conflict count
abbrev pub count_of : Record → ℕ → ℕ
count_of r w = get_or r.tally.conflicts (w - 1) 0

-- the lists are as long as those of every record that bytes mean
unfoldable pub shaped : Record → Bool
shaped r =
    eqb (length r.ring.queue) queue_places && eqb (length r.held.units) unit_count && eqb (length r.held.holder) number_count
    && eqb (length r.tally.order) number_count && eqb (length r.tally.conflicts) window_count
    && eqb (length (unit_at r 1).journal) journal_places && eqb (length (unit_at r 2).journal) journal_places
    && eqb (length (unit_at r 3).journal) journal_places && eqb (length (unit_at r 4).journal) journal_places

-- the record with one of its three parts made anew
abbrev pub with_ring : Record → List Cell → ℕ → ℕ → ℕ → Record
with_ring r q h n k = record { ring = record { queue = q; head = h; len = n; done = k }; held = r.held; tally = r.tally }

abbrev pub with_held : Record → List Unit → List ℕ → Record
with_held r us hs = record { ring = r.ring; held = record { units = us; holder = hs }; tally = r.tally }

abbrev pub with_tally : Record → List ℕ → ℕ → List ℕ → Record
with_tally r os n ns = record { ring = r.ring; held = r.held; tally = record { order = os; listed = n; conflicts = ns } }

-- a unit with its journal emptied; the elements stay as they are
abbrev pub emptied : ℕ → Unit → Unit
emptied w x = unit w 0 x.journal

-- a unit with an entry more in its journal
abbrev pub journaled : Unit → Cell → Unit
journaled x e = unit x.window (x.len + 1) (set x.journal x.len e)

-- the holders when unit u gives up what it holds
unfoldable pub released : ℕ → List ℕ → List ℕ
released u hs = map (λ h. cond (eqb h u) 0 h) hs

-- an entry more in the queue
abbrev pub appended : Cell → Record → Record
appended e r = with_ring r (set r.ring.queue (ring_place r r.ring.len) e) r.ring.head (r.ring.len + 1) r.ring.done

-- the queue's entries where they are, its head's place, its length and the stores done others
abbrev pub with_flow : Record → ℕ → ℕ → ℕ → Record
with_flow r h n k = with_ring r r.ring.queue h n k

-- an entry more in unit u's journal
abbrev pub journal_grown : ℕ → Cell → Record → Record
journal_grown u e r = with_held r (set r.held.units (u - 1) (journaled (unit_at r u) e)) r.held.holder

-- unit u open for window w, or closed (0), with its journal emptied
abbrev pub unit_turned : ℕ → ℕ → Record → Record
unit_turned w u r = with_held r (set r.held.units (u - 1) (emptied w (unit_at r u))) r.held.holder

-- number n held by unit u; what unit u holds released
abbrev pub holding : ℕ → ℕ → Record → Record
holding n u r = with_held r r.held.units (set r.held.holder (n - 1) u)

abbrev pub releasing : ℕ → Record → Record
releasing u r = with_held r r.held.units (released u r.held.holder)

-- these numbers listed, and 0 in the places behind them
abbrev pub padded : List ℕ → List ℕ
padded fs = fs ++ replicate (number_count - length fs) 0

unfoldable pub with_listed : List ℕ → Record → Record
with_listed fs r = with_tally r (padded fs) (length fs) r.tally.conflicts

-- one conflict more of window w: "its own count, which stops at 65,535"
abbrev pub with_count : Record → ℕ → ℕ → Record
with_count r w n = with_tally r r.tally.order r.tally.listed (set r.tally.conflicts (w - 1) n)

abbrev pub conflict_counted : ℕ → Record → Record
conflict_counted w r = with_count r w (min 65535 (count_of r w + 1))

-- "Only formatting and mounting don't look at the lent record but set it anew: queue empty, units closed, nothing held." "the head place [..] is
-- 0 after mounting"; each window's count "is 0 after mounting". fs are the free numbers: "After mounting, the log's order of freeing counts".
unfoldable pub fresh_unit : Unit
fresh_unit = unit 0 0 (replicate journal_places no_cell)

unfoldable pub blank_record : Record
unfolding fresh_unit
blank_record = record {
  ring = record { queue = replicate queue_places no_cell; head = 0; len = 0; done = 0 };
  held = record { units = replicate unit_count fresh_unit; holder = replicate number_count 0 };
  tally = record { order = replicate number_count 0; listed = 0; conflicts = replicate window_count 0 };
}

unfoldable pub fresh_record : List ℕ → Record
fresh_record fs = with_listed fs blank_record
