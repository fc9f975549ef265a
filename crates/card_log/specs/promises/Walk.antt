-- What the walk of a card promises, step by step, of every reader that the lent tables keep: how it meets the items of the log, and the place behind
-- them.
use Rattle.std.specs.Prelude.{◌≡◌, ◌≢◌, Bool, true, false, cond, List, [], ◌∷◌, ◌++◌, ℕ, suc, ◌+◌, ◌-◌, ◌*◌, ◌≤◌, ◌<◌, ltb, eqb, length}
use Rattle.std.proofs.Math.Option.{some}
use Rattle.lists.specs.Basic.{bind}
use Rattle.card_log.specs.Raced.{Raced}
use Rattle.card_log.specs.Entry.{Entry, map_entry, carried, entry_length, as_entry, legal}
use Rattle.card_log.specs.Reader.{Reader, read}
use Rattle.card_log.specs.Card.{count, used_by, entry_at, Item, bad, items_of, segment_items, after_empty, sound, fault, walk, walk_card, segment_bytes}
use Rattle.card_log.specs.promises.Location.{number_at, card_number}
use Rattle.card_log.specs.promises.Found.{entered, bytes_from}
use Rattle.card_log.specs.promises.Feed.{Memory, Keeps, ReadTo}
use Rattle.card_log.specs.Store.{opened, behind_all, tail}
use Rattle.card_log.specs.declared.entry.LogEntry.{LogEntry}
use Rattle.card_log.specs.declared.place.Place.{Place}
use Rattle.card_log.specs.declared.walk.Cursor.{Cursor}
use Rattle.card_log.specs.declared.walk.Step.{Step}
use Rattle.card_log.specs.declared.walk.Step.TheVariants.{Next, Stuck}
use Rattle.card_log.specs.declared.walk.Segment.{Segment}
use Rattle.card_log.specs.declared.walk.Segment.TheVariants.{Done, Broken}
use Rattle.card_log.specs.declared.walk.Walked.{Walked}
use Rattle.card_log.specs.declared.walk.Walked.TheVariants.{Sound, Fault}

-- the length of the run behind it
abbrev pub run_after : Bool → ℕ → ℕ
run_after t run = cond t (run + 1) 0

-- a parsed entry read, a write's bytes standing at location d
abbrev pub Reads : Memory → ℕ → Bool → LogEntry → ℕ → Bool → Memory → Type 0
Reads m run t e d b m' =
    (r : Reader ℕ) → Keeps m run r → legal (as_entry false e) ≡ true → ReadTo (bind (entered t e) (λ x. read r (map_entry (number_at d) x))) b m' (run_after t run)

abbrev pub step_if : Bool → ℕ → ℕ → ℕ → Step
step_if true a k run = Next (record { at = a; slots = k; run = run })
step_if false a k run = Stuck

-- an entry read, k slots being used before it; a is behind it
abbrev pub Enters : Memory → ℕ → Bool → LogEntry → ℕ → ℕ → ℕ → Step → Memory → Type 0
Enters m run t e d a k Stuck m' = Reads m run t e d false m'
Enters m run t e d a k (Next next) m' =
    (next ≡ record { at = a; slots = k + used_by (carried (as_entry false e)); run = run_after t run }) × Reads m run t e d true m'

-- a cursor in segment g of the card
pub record OnSegment (c : List ℕ) (g : ℕ) (cur : Cursor) : Type 0 where
  pub holds : segment_bytes * g + segment_bytes ≤ length c
  pub small : length c ≤ 64 * segment_bytes
  pub until : cur.at ≤ segment_bytes * g + segment_bytes
  pub few : cur.slots < 256
  pub short : cur.run < 1000000

-- segment g of the card, which has an entry
pub record OnCard (c : List ℕ) (g run : ℕ) : Type 0 where
  pub holds : segment_bytes * g + segment_bytes ≤ length c
  pub small : length c ≤ 64 * segment_bytes
  pub used : count c g ≢ 0
  pub short : run ≤ 64 * 255

-- a write's slot and race, as they stand there: what places in the log go by
abbrev pub as_there : ℕ → Raced ℕ → Raced ℕ
as_there g s = s

-- the items of segment g from the cursor on, of which n are to come, the next being number i
abbrev pub items_from : {D : Type 0} → (ℕ → Raced ℕ → D) → List ℕ → ℕ → Cursor → ℕ → ℕ → List (Item D)
items_from f c g cur n i = items_of f g n i cur.slots (bytes_from c g cur.at)

-- one entry of segment g passed by reader r
pub record Went (c : List ℕ) (g : ℕ) (cur : Cursor) (r : Reader ℕ) (next : Cursor) (m : Memory) : Type 0 where
  pub entry : Entry (Raced ℕ)
  pub found : entry_at cur.slots (bytes_from c g cur.at) ≡ some (entry, bytes_from c g next.at)
  pub at : next.at ≡ cur.at + entry_length entry
  pub slots : next.slots ≡ cur.slots + used_by (carried entry)
  pub reader : Reader ℕ
  pub reads : read r (map_entry (card_number g) entry) ≡ some reader
  pub kept : Keeps m next.run reader

pub record Stepped (c : List ℕ) (g : ℕ) (cur : Cursor) (m : Memory) (next : Cursor) (m' : Memory) : Type 0 where
  pub onward : cur.at ≤ next.at
  pub until : next.at ≤ segment_bytes * g + segment_bytes
  pub few : next.slots ≤ cur.slots + 1
  pub short : next.run ≤ cur.run + 1
  pub went : (r : Reader ℕ) → Keeps m cur.run r → Went c g cur r next m'

abbrev pub Advances : List ℕ → ℕ → Cursor → Memory → Step → Memory → Type 0
Advances c g cur m Stuck m' = (r : Reader ℕ) → Keeps m cur.run r → (n i : ℕ) (is : List (Item ℕ)) → walk r (items_from card_number c g cur (suc n) i ++ is) ≡ fault g i
Advances c g cur m (Next next) m' = Stepped c g cur m next m'

-- the place in segment g that is entered from a place before
abbrev pub seat : ℕ → Place → Place
seat g p = cond (eqb p.segment g) p (opened g)

-- segment g passed by reader r: the place behind it, and the reader there
pub record Through (c : List ℕ) (g : ℕ) (r : Reader ℕ) (p : Place) (n : ℕ) (m : Memory) : Type 0 where
  pub place : (p₀ : Place) → seat g p₀ ≡ opened g → (is : List (Item (Raced ℕ))) → behind_all p₀ (segment_items as_there c g ++ is) ≡ behind_all p is
  pub reader : Reader ℕ
  pub kept : Keeps m n reader
  pub walked : (is : List (Item ℕ)) → walk r (segment_items card_number c g ++ is) ≡ walk reader is

pub record Passed (c : List ℕ) (g run : ℕ) (m : Memory) (p : Place) (n : ℕ) (m' : Memory) : Type 0 where
  pub here : p.segment ≡ g
  pub short : n ≤ run + 255
  pub through : (r : Reader ℕ) → Keeps m run r → Through c g r p n m'

abbrev pub Passes : List ℕ → ℕ → ℕ → Memory → Segment → Memory → Type 0
Passes c g run m (Broken i) m' = (r : Reader ℕ) → Keeps m run r → (is : List (Item ℕ)) → walk r (segment_items card_number c g ++ is) ≡ fault g i
Passes c g run m (Done p n) m' = Passed c g run m p n m'

-- behind an empty segment, from g up to n: the first used segment, or n
abbrev pub FirstUsed : List ℕ → ℕ → ℕ → ℕ → Type 0
FirstUsed c g n u = after_empty {D = ℕ} c (n - g) g ≡ cond (ltb u n) (bad u 0 ∷ []) []

-- the card whole: the reader at the end of its log, the length of its run, and the place behind the log
pub record Sounds (c : List ℕ) (p : Place) (n : ℕ) (m : Memory) : Type 0 where
  pub place : p ≡ tail c
  pub short : n ≤ 64 * 255
  pub reader : Reader ℕ
  pub kept : Keeps m n reader
  pub walked : walk_card card_number c ≡ sound reader

abbrev pub Walks : List ℕ → Walked → Memory → Type 0
Walks c (Fault g i) m = walk_card card_number c ≡ fault g i
Walks c (Sound p n) m = Sounds c p n m
