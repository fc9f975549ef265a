-- The clauses of question 3 that the record decides alone, or over lists that tables show: what the functions of this crate answer.
use Rattle.std.specs.Prelude.{◌≡◌, Bool, true, false, ◌&&◌, ◌||◌, List, [], ◌∷◌, ℕ, ◌-◌, leb, eqb, ltb, get_or}
use Rattle.std.proofs.Math.Option.{Option, none, some}
use Rattle.lists.specs.Basic.{is_some, all, each, from}
use Rattle.lists.specs.Change.{Change}
use Rattle.lists.specs.State.{Row, State, apply_all, overlay}
use Rattle.lists.specs.InUse.{brings}
use Rattle.lists.specs.Numbers.{all_numbers}
use Rattle.lists.specs.promises.Tables.{Tables, ShowsAll}
use Rattle.card_log.specs.Raced.{Raced}
use Rattle.card_log.specs.Entry.{Entry, member, raw, legal, as_change}
use Rattle.card_log.specs.Cell.{entry_in}
use Rattle.card_log.specs.Reader.{Reader, replay}
use Rattle.card_log.specs.promises.Feed.{Memory, Keeps}
use Rattle.disk.specs.Record.{Unit, Record, no_cell, unit_at, is_open, queue_places, journal_places, unit_count, window_count}
use Rattle.disk.specs.Disk.{disk, queued}
use Rattle.disk.specs.Sound.{holder_sound, order_sound, listed_sound, head_standing}
use Rattle.inspect.specs.promises.Located.{queue_said, queue_here, journal_here}

-- "counts and numbers in range"
unfoldable pub numbers_right : Record → Bool
numbers_right r = each (leb r.ring.len queue_places ∷ ltb r.ring.head queue_places ∷ order_sound r ∷ [])

-- may change c stand in unit u's journal, hs being the holders?
unfoldable pub change_right : List ℕ → ℕ → Change (Raced ℕ) → Bool
change_right hs u c = legal (raw 0 (member c)) && all (λ n. eqb (get_or hs (n - 1) 0) u) (brings c)

-- change k of a journal, a write's slot as it stands there
abbrev pub change_in : Unit → ℕ → Change (Raced ℕ)
change_in x k = as_change (entry_in (get_or x.journal k no_cell))

-- unit u of the record, x: its count and its window, a journal only if it is open, and each change of it
unfoldable pub unit_right : List ℕ → Unit → ℕ → Bool
unit_right hs x u = each (leb x.len journal_places ∷ leb x.window window_count ∷ (is_open x || eqb x.len 0) ∷ all (change_right hs u) (from (change_in x) 0 x.len) ∷ [])

-- all four
unfoldable pub units_right : Record → Bool
units_right r = all (λ u. unit_right r.held.holder (unit_at r u) u) (from (λ u. u) 1 unit_count)

-- What is promised where the queue is fed to the reader that lent tables keep.

-- is every entry one that may stand in the queue?
abbrev pub lawful : List (Entry (Raced ℕ)) → Bool
lawful es = all (λ e. legal (raw 0 e)) es

-- the queue replayed from reader x: whether its entries are lawful and apply, and what the tables show then
abbrev pub ReplayTo : Record → Reader ℕ → Bool → Tables → Type 0
ReplayTo r x false t = lawful (queue_said r) && is_some (replay x (queue_here r)) ≡ false
ReplayTo r x true t = (lawful (queue_said r) ≡ true) × (y : Reader ℕ) × (replay x (queue_here r) ≡ some y) × ShowsAll t y.state

-- the queue, from whichever reader the lent tables keep
abbrev pub Replays : Memory → ℕ → Record → Bool → Tables → Type 0
Replays m run r b t = (x : Reader ℕ) → Keeps m run x → ReplayTo r x b t

-- the lists of the state that a replay led to, if it did
abbrev pub rows_of : Option (Reader ℕ) → List (Row ℕ)
rows_of none = []
rows_of (some x) = x.state.lists

-- question 3 behind the log, of card c and queue data q; reader x stands at the log's end
unfoldable pub settled_right : List ℕ → List ℕ → Record → Reader ℕ → Bool
settled_right c q r x =
    let o = replay x (queue_here r) in
    each (lawful (queue_said r) ∷ is_some o ∷ all (holder_sound r (rows_of o)) all_numbers ∷ all (listed_sound r (rows_of o)) all_numbers ∷ head_standing c r.ring.done (queued (disk c q [] r)) ∷ [])

-- the answer b to it, whichever reader the lent tables keep
abbrev pub Settled : List ℕ → List ℕ → Memory → ℕ → Record → Bool → Type 0
Settled c q m run r b = (x : Reader ℕ) → Keeps m run x → b ≡ settled_right c q r x

-- and if it is yes, the tables show the committed state
pub record Settles (c q : List ℕ) (m : Memory) (run : ℕ) (r : Record) (b : Bool) (t : Tables) : Type 0 where
  pub answer : Settled c q m run r b
  pub shows : (x y : Reader ℕ) → Keeps m run x → b ≡ true → replay x (queue_here r) ≡ some y → ShowsAll t y.state

-- and where unit u's journal is laid over a state: whether every change applies, and what the tables show then
pub record Overlays (t : Tables) (x : Unit) (u : ℕ) (b : Bool) (t' : Tables) : Type 0 where
  pub answer : (s : State ℕ) → ShowsAll t s → b ≡ is_some (apply_all (journal_here x u) s)
  pub shows : (s : State ℕ) → ShowsAll t s → ShowsAll t' (overlay (journal_here x u) s)
