-- The invariant between the world and the book, and demand 3's claim from it (`inv-kept`).
use mathlib.Core.Path.{◌≡◌, refl, ◌∙◌}
use mathlib.Core.Bool.{true, false, true≢false}
use mathlib.Core.List.{List}
use Prim.Native.Nat.{ℕ, ◌≤◌}
use lib.ListN.{length, length-map}
use Rattle.lists.proofs.Takings.{TakenOnce}
use Rattle.card_log.specs.Card.{segments_in}
use Rattle.card_log.proofs.Segment.{Carries, carries-segments}
use Rattle.disk.specs.Disk.{Disk, queued, journal_of}
use Rattle.crash.specs.Event.{World}
use Rattle.crash.specs.Book.{Book, batch_of, entries_of, placed_entries, settle}
use Rattle.crash.specs.Demand3.{Kept}
use Rattle.crash.proofs.Told.{Told, Shown, told-shown, settle-told}
use Rattle.crash.proofs.Mounting.{kept}
use Rattle.crash.proofs.Simulation.{Sim}

-- the record and the lent data hold the line and the batches, none of which takes a list twice
pub record Tied (d : Disk) (b : Book) : Type 0 where
  pub queue : queued d ≡ entries_of b.line
  pub done : d.rec.ring.done ≡ b.done
  pub journals : (u : ℕ) → 1 ≤ u → u ≤ 4 → journal_of d u ≡ batch_of b u
  pub once : (u : ℕ) → 1 ≤ u → u ≤ 4 → TakenOnce (batch_of b u)

-- the card carries what the book says, whatever a cut left of the rest; the record is tied to the book while no mounting is due
pub record Inv (w : World) (b : Book) : Type 0 where
  pub sim : Sim w.disk.card b
  pub told : Told b
  pub tied : w.down ≡ false → Tied w.disk b
  pub four : length b.batches ≡ 4
  pub few : length b.segs ≤ 64

pub inv-kept : (w : World) (b : Book) → Inv w b → Kept w.disk.card b
inv-kept w b i = kept w.disk.card b i.sim.carries i.few (told-shown b i.told)

-- a disk that no cut has touched since its last mounting
abbrev pub Live : Disk → Book → Type 0
Live d b = Inv (record { disk = d; down = false }) b

pub live : (d : Disk) (b : Book) → Sim d.card b → Told b → Tied d b → length b.batches ≡ 4 → length b.segs ≤ 64 → Live d b
live d b s t i f m = record { sim = s; told = t; tied = λ e. i; four = f; few = m }

-- a book that was settled, whatever the record
pub settle-sim : (c : List ℕ) (b : Book) → Carries c (placed_entries b) → Sim c (settle b)
unfolding settle placed_entries entries_of
settle-sim c b h = record { carries = h; good = tt; head = refl }

pub settle-four : (b : Book) → length (settle b).batches ≡ 4
unfolding settle
settle-four b = refl

pub settle-few : (b : Book) → length b.segs ≤ 64 → length (settle b).segs ≤ 64
unfolding settle
settle-few b m = m

pub settled-inv : (d : Disk) (b : Book) → Carries d.card (placed_entries b) → Shown b.segs b.history → length b.segs ≤ 64
    → Inv (record { disk = d; down = true }) (settle b)
settled-inv d b h s m =
    record { sim = settle-sim d.card b h; told = settle-told b s; tied = λ e. absurd (true≢false e); four = settle-four b; few = settle-few b m }

pub segments-count : (c : List ℕ) (b : Book) → Carries c (placed_entries b) → segments_in c ≡ length b.segs
unfolding placed_entries
segments-count c b h = carries-segments c (placed_entries b) h ∙ length-map b.segs entries_of
