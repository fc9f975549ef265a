-- What is promised where one entry after the other is fed to a reader that lent tables keep: its state in the linked tables, its run of members in
-- an array of its own.
use Rattle.std.specs.Prelude.{◌≡◌, Bool, true, false, List, ℕ, ◌+◌, ◌*◌, ◌/◌, ◌%◌, ◌≤◌, ◌<◌, length, get_or, set}
use Rattle.std.proofs.Math.Option.{Option, none, some}
use Rattle.lists.specs.Change.{Change, take_list}
use Rattle.lists.specs.State.{State, apply}
use Rattle.lists.specs.promises.Tables.{Tables, tables_in, ShowsAll, Ranged, Represents, of_kind}
use Rattle.card_log.specs.Entry.{commit, map_entry, raw, legal, as_entry}
use Rattle.card_log.specs.promises.Location.{number_at}
use Rattle.card_log.specs.Reader.{Reader, read}
use Rattle.card_log.specs.declared.entry.LogEntry.{LogEntry}
use Rattle.card_log.specs.declared.entry.LogEntry.TheVariants.{Take, PutFirst, PutAfter, Write, DeleteBlock, DeleteList, Commit}
use Rattle.card_log.specs.declared.feed.Fields.{Fields}
use Rattle.card_log.specs.declared.feed.Fed.{Fed}
use Rattle.card_log.specs.declared.feed.Fed.TheVariants.{Run, Refused}

-- The tables of the state; the last members of the run, up to 16, each in six bytes: its kind, block, list and predecessor, and the low and the high
-- byte of its number in a table, which says location and race.
pub record Memory : Type 0 where
  pub tables : Tables
  pub members : List ℕ

abbrev pub memory : List ℕ → List ℕ → Memory
memory ns ms = record { tables = tables_in ns; members = ms }

-- member j of the run stands at 8 (j % 16)
abbrev pub recalled : List ℕ → ℕ → Option (Change ℕ)
recalled ms j =
    let i = 8 * (j % 16) in
    of_kind (get_or ms i 0) (get_or ms (i + 1) 0) (get_or ms (i + 2) 0) (get_or ms (i + 3) 0) (get_or ms (i + 4) 0 + 256 * get_or ms (i + 5) 0)

-- the bytes with member j's
abbrev pub member_set : List ℕ → ℕ → ℕ → ℕ → ℕ → ℕ → ℕ → List ℕ
member_set ms j k b l p d =
    let i = 8 * (j % 16) in
    set (set (set (set (set (set ms i k) (i + 1) b) (i + 2) l) (i + 3) p) (i + 4) (d % 256)) (i + 5) (d / 256)

pub record Recalled (ms : List ℕ) (j : ℕ) (c : Change ℕ) : Type 0 where
  pub found : recalled ms j ≡ some c
  pub ranged : Ranged c

pub record Recalls (ms : List ℕ) (run : ℕ) (cs : List (Change ℕ)) : Type 0 where
  pub bytes : length ms ≡ 128
  pub size : length cs ≡ run
  pub each : (j : ℕ) → j < run → run ≤ j + 16 → Recalled ms j (get_or cs j (take_list 0))

-- the tables show the reader's state and recall its run, which has so many members
pub record Keeps (m : Memory) (run : ℕ) (r : Reader ℕ) : Type 0 where
  pub shows : ShowsAll m.tables r.state
  pub recalls : Recalls m.members run r.run

-- an entry read: refused, or the tables keep the reader after it
abbrev pub ReadTo : Option (Reader ℕ) → Bool → Memory → ℕ → Type 0
ReadTo o false m run = o ≡ none
ReadTo o true m run = (q : Reader ℕ) × (o ≡ some q) × Keeps m run q

-- The promises, of every reader kept.

-- member j of the run acts
abbrev pub ActsMember : Memory → ℕ → Bool → Tables → Type 0
ActsMember m j b u = (c : Change ℕ) (s : State ℕ) → Recalled m.members j c → ShowsAll m.tables s → Represents (apply c s) b u

abbrev pub Commits : Memory → ℕ → ℕ → Bool → Memory → Type 0
Commits m run n b m' = (r : Reader ℕ) → Keeps m run r → n ≤ 15 → ReadTo (read r (commit n)) b m' 0

-- an entry by its fields
abbrev pub fields_of : LogEntry → Fields
fields_of (Take l) = record { kind = 1; block = 0; list = l; predecessor = 0; count = 0; race = 0 }
fields_of (PutFirst b l) = record { kind = 2; block = b; list = l; predecessor = 0; count = 0; race = 0 }
fields_of (PutAfter b l p) = record { kind = 3; block = b; list = l; predecessor = p; count = 0; race = 0 }
fields_of (Write b s n) = record { kind = 4; block = b; list = 0; predecessor = 0; count = 0; race = n }
fields_of (DeleteBlock b) = record { kind = 5; block = b; list = 0; predecessor = 0; count = 0; race = 0 }
fields_of (DeleteList l) = record { kind = 6; block = 0; list = l; predecessor = 0; count = 0; race = 0 }
fields_of (Commit n) = record { kind = 0; block = 0; list = 0; predecessor = 0; count = n; race = 0 }

abbrev pub FedTo : Option (Reader ℕ) → Fed → Memory → Type 0
FedTo o Refused m = o ≡ none
FedTo o (Run n) m = (q : Reader ℕ) × (o ≡ some q) × Keeps m n q

-- what ends the run, or is refused
abbrev pub fed_if : Bool → Fed
fed_if true = Run 0
fed_if false = Refused

abbrev pub RunUpTo : ℕ → Fed → Type 0
RunUpTo n Refused = Unit {0}
RunUpTo n (Run k) = k ≤ n

-- a legal entry, a write's bytes standing at location d, which is not 0
pub record Feeds (m : Memory) (run : ℕ) (t : Bool) (e : LogEntry) (d : ℕ) (f : Fed) (m' : Memory) : Type 0 where
  pub short : RunUpTo (run + 1) f
  pub reads : (r : Reader ℕ) → Keeps m run r → legal (raw 0 (as_entry t e)) ≡ true → 1 ≤ d → FedTo (read r (map_entry (number_at d) (as_entry t e))) f m'
