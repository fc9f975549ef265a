-- The card's bytes: layout, the items of the log, and the walk that mounting makes.
--
--   a segment: 4096 bytes          offset
--   14 slots of 256 bytes          0, 256, .., 3328
--   the count byte                 3584
--   511 bytes of entries           3585 .. 4095
use Rattle.std.specs.Prelude.{Bool, true, ◌&&◌, List, [], ◌∷◌, ◌++◌, ℕ, zero, suc, ◌+◌, ◌*◌, ◌/◌, ◌%◌, leb, eqb, length, drop, take, get_or}
use Rattle.std.proofs.Math.Option.{Option, none, some}
use Rattle.lists.specs.Basic.{guard, bind}
use Rattle.card_log.specs.Raced.{Raced, with_body}
use Rattle.card_log.specs.Entry.{Entry, map_entry, carried, decode}
use Rattle.card_log.specs.Reader.{Reader, read, start}

abbrev pub segment_bytes : ℕ
segment_bytes = 4096

abbrev pub slot_bytes : ℕ
slot_bytes = 256

abbrev pub slot_count : ℕ
slot_count = 14

abbrev pub count_offset : ℕ
count_offset = 3584

abbrev pub entries_offset : ℕ
entries_offset = 3585

abbrev pub entry_bytes : ℕ
entry_bytes = 511

-- 256 bytes
abbrev pub Content : Type 0
Content = List ℕ

-- what a write carries to a reader: bytes and race
abbrev pub Written : Type 0
Written = Raced Content

-- the 256 bytes number k of a buffer
unfoldable pub slot : List ℕ → ℕ → Content
slot l k = take slot_bytes (drop (slot_bytes * k) l)

-- bytes v put into a buffer from i on
unfoldable pub splice : List ℕ → ℕ → List ℕ → List ℕ
splice d i v = take i d ++ v ++ drop (i + length v) d

-- the content of slot k of segment g; a segment is 16 times 256 bytes
unfoldable pub card_slot : List ℕ → ℕ → ℕ → Content
card_slot c g k = slot c (16 * g + k)

-- what a write from slot s of segment g carries
unfoldable pub card_written : List ℕ → ℕ → Raced ℕ → Written
card_written c g s = with_body (card_slot c g s.body) s

-- "A card is a lent buffer of 1 to 64 segments of 4,096 bytes."
unfoldable pub card_length : List ℕ → Bool
card_length c = eqb (length c % segment_bytes) 0 && leb 1 (length c / segment_bytes) && leb (length c / segment_bytes) 64

abbrev pub segments_in : List ℕ → ℕ
segments_in c = length c / segment_bytes

unfoldable pub count : List ℕ → ℕ → ℕ
count c g = get_or c (segment_bytes * g + count_offset) 0

-- the bytes from a up to e
abbrev pub part : List ℕ → ℕ → ℕ → List ℕ
part c a e = drop a (take e c)

unfoldable pub segment_entries : List ℕ → ℕ → List ℕ
segment_entries c g = part c (segment_bytes * g + entries_offset) (segment_bytes * g + segment_bytes)

-- how many slots an entry uses
unfoldable pub used_by : {D : Type 0} → Option D → ℕ
used_by none = 0
used_by (some d) = 1

-- "each slot the next one"
unfoldable pub is_next : ℕ → Option (Raced ℕ) → Bool
is_next k none = true
is_next k (some s) = eqb s.body k

-- the entry at the front of the bytes, whose slot must be the next one, k
unfoldable pub entry_at : ℕ → List ℕ → Option (Entry (Raced ℕ) × List ℕ)
entry_at k bs = bind (decode bs) (λ x. guard (is_next k (carried x.0)) (some x))

-- what the walk meets: an entry, or a fault, each at its segment and number
pub data Item (D : Type 0) : Type 0 where
  good : ℕ → ℕ → Entry D → Item D
  bad : ℕ → ℕ → Item D

-- The entries of segment g up to the first fault: n are still to come, the next is number i, its slot must be k, and bs are the bytes from there on;
-- f g s stands for what a write from slot s carries.
unfoldable pub items_of : {D : Type 0} → (ℕ → Raced ℕ → D) → ℕ → ℕ → ℕ → ℕ → List ℕ → List (Item D)
items_of f g zero i k bs = []
items_of f g (suc n) i k bs =
    elim (entry_at k bs) [
      | none ↦ bad g i ∷ []
      | some x ↦ good g i (map_entry (f g) x.0) ∷ items_of f g n (suc i) (k + used_by (carried x.0)) x.1
    ]

unfoldable pub segment_items : {D : Type 0} → (ℕ → Raced ℕ → D) → List ℕ → ℕ → List (Item D)
segment_items f c g = items_of f g (count c g) 0 0 (segment_entries c g)

-- "a used segment after an empty one is its entry 0": of m segments from g on
unfoldable pub after_empty : {D : Type 0} → List ℕ → ℕ → ℕ → List (Item D)
after_empty c zero g = []
after_empty c (suc m) g = elim (count c g) [ zero ↦ after_empty c m (suc g) | suc n ↦ bad g 0 ∷ [] ]

-- "A reader walks the log entry by entry from segment 0, up to each count, until an empty segment.": of m segments from g on
unfoldable pub items : {D : Type 0} → (ℕ → Raced ℕ → D) → List ℕ → ℕ → ℕ → List (Item D)
items f c zero g = []
items f c (suc m) g = elim (count c g) [ zero ↦ after_empty c m (suc g) | suc n ↦ segment_items f c g ++ items f c m (suc g) ]

-- "Is the log acceptable [..]? 2, with segment and entry (from 0) of the first fault in walking order"
pub data Outcome (D : Type 0) : Type 0 where
  sound : Reader D → Outcome D
  fault : ℕ → ℕ → Outcome D

unfoldable pub walk : {D : Type 0} → Reader D → List (Item D) → Outcome D
walk r [] = sound r
walk r (good g i e ∷ is) = elim (read r e) [ none ↦ fault g i | some r' ↦ walk r' is ]
walk r (bad g i ∷ is) = fault g i

unfoldable pub walk_card : {D : Type 0} → (ℕ → Raced ℕ → D) → List ℕ → Outcome D
walk_card f c = walk start (items f c (segments_in c) 0)

-- the walk with the contents that stand on the card, and their races
unfoldable pub mounted : List ℕ → Outcome Written
mounted c = walk_card (card_written c) c
