-- The queue fed behind the log entry by entry: what is left of it leads from the reader that the tables keep to where all of it leads.
use mathlib.Core.Path.{◌≡◌, ap, ◌∙◌}
use mathlib.Core.Bool.{Bool, true, false, ◌&&◌, and-false}
use mathlib.Core.Option.{Option, none, some}
use mathlib.Core.List.{List, ◌∷◌}
use Prim.Native.Nat.{ℕ, ◌+◌, ◌-◌, ◌≤◌, ◌<◌}
use native.Mathlib.Omega.{arith}
use Rattle.lists.specs.Basic.{is_some, all, from}
use Rattle.lists.proofs.Basic.{from_step, from-none}
use Rattle.card_log.specs.Raced.{Raced}
use Rattle.card_log.specs.Entry.{Entry, map_entry, raw, legal}
use Rattle.card_log.specs.Reader.{Reader, read, replay}
use Rattle.card_log.specs.promises.Location.{number_at, queue_location}
use Rattle.card_log.specs.promises.Feed.{Memory, Keeps}
use Rattle.disk.specs.Record.{Record, ring_place}
use Rattle.inspect.specs.promises.Located.{queued_said, queued_here, queue_said, queue_here}
use Rattle.inspect.specs.promises.Clauses.{lawful, ReplayTo}

-- the entries from k on, as they are fed and as their cells say them
abbrev pub left_of : Record → ℕ → List (Entry ℕ)
left_of r k = from (queued_here r) k (r.ring.len - k)

abbrev said_from : Record → ℕ → List (Entry (Raced ℕ))
said_from r k = from (queued_said r) k (r.ring.len - k)

-- k entries of the queue fed to reader x: the tables keep a reader whose run has n members
pub record FedUpTo (r : Record) (x : Reader ℕ) (k n : ℕ) (m : Memory) : Type 0 where
  pub reader : Reader ℕ
  pub kept : Keeps m n reader
  pub replays : replay x (queue_here r) ≡ replay reader (left_of r k)
  pub laws : lawful (queue_said r) ≡ lawful (said_from r k)

-- the entry as it is fed
abbrev pub fed_at : Record → ℕ → Entry ℕ
fed_at r k = map_entry (number_at (queue_location (ring_place r k))) (queued_said r k)

pub fed-none : (r : Record) (x : Reader ℕ) (n : ℕ) (m : Memory) → Keeps m n x → FedUpTo r x 0 n m
unfolding queue_said queue_here
fed-none r x n m h = let e : r.ring.len - 0 ≡ r.ring.len = omega arith in record { reader = x; kept = h; replays = rw e; laws = rw e }

module _ (r : Record) (x : Reader ℕ) (k n : ℕ) (m : Memory) (fed : FedUpTo r x k n m) where
  abbrev law_at : Bool
  law_at = legal (raw 0 (queued_said r k))

  step : k < r.ring.len → left_of r k ≡ fed_at r k ∷ left_of r (k + 1)
  unfolding queued_here
  step l = from_step (queued_here r) k r.ring.len l

  step-laws : k < r.ring.len → lawful (queue_said r) ≡ law_at && lawful (said_from r (k + 1))
  unfolding all
  step-laws l = fed.laws ∙ ap lawful (from_step (queued_said r) k r.ring.len l)

  step-replays : k < r.ring.len → (o : Option (Reader ℕ)) → read fed.reader (fed_at r k) ≡ o
      → replay x (queue_here r) ≡ elim o [ none ↦ none | some y ↦ replay y (left_of r (k + 1)) ]
  unfolding replay
  step-replays l none e = fed.replays ∙ rw (step l) (rw (e, replay))
  step-replays l (some y) e = fed.replays ∙ rw (step l) (rw (e, replay))

  pub fed-unlawful : k < r.ring.len → law_at ≡ false → lawful (queue_said r) && is_some (replay x (queue_here r)) ≡ false
  fed-unlawful l h = rw (step-laws l ∙ ap (λ (b : Bool). b && lawful (said_from r (k + 1))) h)

  pub fed-refused : k < r.ring.len → read fed.reader (fed_at r k) ≡ none → lawful (queue_said r) && is_some (replay x (queue_here r)) ≡ false
  unfolding is_some
  fed-refused l e = rw (step-replays l none e) (and-false (lawful (queue_said r)))

  pub fed-more : k < r.ring.len → law_at ≡ true → (n' : ℕ) (m' : Memory) (y : Reader ℕ) → read fed.reader (fed_at r k) ≡ some y → Keeps m' n' y → FedUpTo r x (k + 1) n' m'
  fed-more l h n' m' y e q = record {
    reader = y;
    kept = q;
    replays = step-replays l (some y) e;
    laws = step-laws l ∙ ap (λ (b : Bool). b && lawful (said_from r (k + 1))) h;
  }

  pub fed-all : r.ring.len ≤ k → ReplayTo r x true m.tables
  unfolding all replay
  fed-all l =
      (fed.laws ∙ ap lawful (from-none (queued_said r) k r.ring.len l), fed.reader, fed.replays ∙ rw (from-none (queued_here r) k r.ring.len l), fed.kept.shows)
