-- The log as it was read before: before writes had races, document 01's table of maps, lengths without bit 6, and the walk with these, a write carrying its
-- slot, and to a reader its 256 bytes; and before lists went with their units, when 130 was no map.
use Rattle.std.specs.Prelude.{◌≡◌, Bool, true, false, cond, List, [], ◌∷◌, ◌++◌, map, ℕ, zero, suc, ◌+◌, ◌-◌, ◌/◌, ◌%◌, ◌<◌, leb, eqb, length, drop, get_or}
use Rattle.std.proofs.Math.Option
use Rattle.std.proofs.Math.Option.{Option, none, some}
use Rattle.lists.specs.Basic.{guard, bind, all}
use Rattle.lists.specs.Change.{Change, take_list, put_first, put_after, write, del_block, del_list, map_change}
use Rattle.lists.specs.State.{map_state}
use Rattle.lists.specs.Takings.{taking}
use Rattle.card_log.specs.Raced.{Raced, raced}
use Rattle.card_log.specs.Entry.{Entry, plain, member, commit, map_entry, carried, legal}
use Rattle.card_log.specs.Reader.{Reader, reader, start}
use Rattle.card_log.specs.Card.{Content, Written, card_slot, card_written, segments_in, count, segment_entries, used_by, is_next, Item, good, bad, after_empty, items, Outcome, sound, fault, walk, mounted}

-- "An entry's length is 1 plus the number of ones in bits 0 to 4."
abbrev pub size_before : ℕ → ℕ
size_before m = 1 + (m % 2 + m / 2 % 2 + m / 4 % 2 + m / 8 % 2 + m / 16 % 2)

-- "take list", "put block first on list / after predecessor", "write block from slot", "delete block / list"
unfoldable pub change_before : ℕ → ℕ → ℕ → ℕ → Option (Change ℕ)
change_before m x y z =
    cond (eqb m 2) (some (take_list x))
    (cond (eqb m 3) (some (put_first x y))
    (cond (eqb m 7) (some (put_after x y z))
    (cond (eqb m 9) (some (write x y))
    (cond (eqb m 33) (some (del_block x))
    (cond (eqb m 34) (some (del_list x)) none)))))

-- "commit, count 0 to 15", "Members have 128 more"
unfoldable pub entry_before : ℕ → ℕ → ℕ → ℕ → Option (Entry ℕ)
entry_before m x y z =
    cond (eqb m 16) (some (commit x))
    (cond (leb 128 m) (Option.map member (change_before (m - 128) x y z)) (Option.map plain (change_before m x y z)))

-- with race 0
abbrev pub raceless : {A : Type 0} → A → Raced A
raceless x = raced x 0

-- the entry at the front of the bytes, in range and its slot the next one, k
unfoldable pub entry_at_before : ℕ → List ℕ → Option (Entry ℕ × List ℕ)
entry_at_before k bs =
    let m = get_or bs 0 0 in
    guard (leb (size_before m) (length bs))
    (bind (entry_before m (get_or bs 1 0) (get_or bs 2 0) (get_or bs 3 0))
    (λ e. guard (legal (map_entry raceless e)) (guard (is_next k (Option.map raceless (carried e))) (some (e, drop (size_before m) bs)))))

unfoldable pub items_of_before : List ℕ → ℕ → ℕ → ℕ → ℕ → List ℕ → List (Item Content)
items_of_before c g zero i k bs = []
items_of_before c g (suc n) i k bs =
    elim (entry_at_before k bs) [
      | none ↦ bad g i ∷ []
      | some x ↦ good g i (map_entry (card_slot c g) x.0) ∷ items_of_before c g n (suc i) (k + used_by (carried x.0)) x.1
    ]

unfoldable pub items_before : List ℕ → ℕ → ℕ → List (Item Content)
items_before c zero g = []
items_before c (suc m) g =
    elim (count c g) [ zero ↦ after_empty c m (suc g) | suc n ↦ items_of_before c g (count c g) 0 0 (segment_entries c g) ++ items_before c m (suc g) ]

unfoldable pub mounted_before : List ℕ → Outcome Content
mounted_before c = walk start (items_before c (segments_in c) 0)

-- the same lists, blocks and bytes, every race 0; or the same fault
abbrev pub all_raceless : Outcome Content → Outcome Written
all_raceless (sound r) = sound (reader (map (map_change raceless) r.run) (map_state raceless r.state))
all_raceless (fault g i) = fault g i

-- the maps of n entries at the front of the bytes; that a map lacks bit 6
unfoldable pub maps_of : ℕ → List ℕ → List ℕ
maps_of zero bs = []
maps_of (suc n) bs = get_or bs 0 0 ∷ maps_of n (drop (size_before (get_or bs 0 0)) bs)

abbrev pub lacks_race : ℕ → Bool
lacks_race m = eqb (m / 64 % 2) 0

abbrev pub NoRaceBit : List ℕ → Type 0
NoRaceBit c = (g : ℕ) → g < segments_in c → all lacks_race (maps_of (count c g) (segment_entries c g)) ≡ true

-- "Cards written before this mount as before, with race 0.": every card that was accepted before
abbrev pub CardsAsBefore : Type 0
CardsAsBefore = (c : List ℕ) (r : Reader Content) → mounted_before c ≡ sound r → mounted c ≡ all_raceless (sound r)

-- and every card, acceptable or not, no entry of which has bit 6 in its map
abbrev pub BytesAsBefore : Type 0
BytesAsBefore = (c : List ℕ) → NoRaceBit c → mounted c ≡ all_raceless (mounted_before c)

-- "No other map is legal; so 130 is not.": a member that takes a list was a fault
abbrev pub takes_as_member : {D : Type 0} → Entry D → Bool
takes_as_member (plain c) = false
takes_as_member (member c) = leb 1 (length (taking c))
takes_as_member (commit n) = false

abbrev pub met_before : {D : Type 0} → Item D → Item D
met_before (good g i e) = cond (takes_as_member e) (bad g i) (good g i e)
met_before (bad g i) = bad g i

unfoldable pub mounted_without_takes : List ℕ → Outcome Written
mounted_without_takes c = walk start (map met_before (items (card_written c) c (segments_in c) 0))

-- "map 130 becomes legal as a member": every card that was accepted without it is accepted, and means the same
abbrev pub TakesAsBefore : Type 0
TakesAsBefore = (c : List ℕ) (r : Reader Written) → mounted_without_takes c ≡ sound r → mounted c ≡ sound r
