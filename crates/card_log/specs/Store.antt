-- Where an entry goes on the card, and the byte stores that put it there.
use Rattle.std.specs.Prelude.{Bool, true, ◌&&◌, cond, List, [], ◌∷◌, ◌++◌, ℕ, zero, suc, ◌+◌, ◌*◌, leb, eqb, ltb, length, take, get_or, set}
use Rattle.std.proofs.Math.Option.{Option, none, some}
use Rattle.card_log.specs.declared.place.Place.{Place}
use Rattle.card_log.specs.Raced.{Raced}
use Rattle.card_log.specs.Entry.{Entry, carried, encode, raw, entry_length}
use Rattle.card_log.specs.Card.{Written, Item, good, bad, items, card_written, segments_in, used_by, segment_bytes, slot_bytes, slot_count, count_offset, entries_offset, entry_bytes}

-- one byte stored: where, and what
abbrev pub Store : Type 0
Store = ℕ × ℕ

unfoldable pub do_stores : List Store → List ℕ → List ℕ
do_stores [] c = c
do_stores (x ∷ xs) c = do_stores xs (set c x.0 x.1)

-- do these stores stand on the card? 256 is no byte, so a store outside it does not
unfoldable pub standing : List Store → List ℕ → Bool
standing [] c = true
standing (x ∷ xs) c = eqb (get_or c x.0 256) x.1 && standing xs c

-- "Formatting stores 0 in each count byte, the last segment's first and segment 0's last, and in no other byte."
unfoldable pub format_stores : ℕ → List Store
format_stores zero = []
format_stores (suc n) = (segment_bytes * n + count_offset, 0) ∷ format_stores n

-- Places in the log are the declared struct: segment, entries in it, entry bytes in it, slots used in it.
unfoldable pub opened : ℕ → Place
opened g = record { segment = g; entries = 0; bytes = 0; slots = 0 }

unfoldable pub after : {A : Type 0} → Place → Entry (Raced A) → Place
after p e = record {
  segment = p.segment;
  entries = suc p.entries;
  bytes = p.bytes + entry_length e;
  slots = p.slots + used_by (carried e);
}

unfoldable pub after_all : {A : Type 0} → Place → List (Entry (Raced A)) → Place
after_all p [] = p
after_all p (e ∷ es) = after_all (after p e) es

unfoldable pub fits : {A : Type 0} → Place → Entry (Raced A) → Bool
fits p e = leb (p.bytes + entry_length e) entry_bytes && leb (p.slots + used_by (carried e)) slot_count

-- "An entry that doesn't fit (slots, or entry bytes) opens the next segment.": its place on a card of n segments, behind p; none: there is no place
unfoldable pub home : {A : Type 0} → ℕ → Place → Entry (Raced A) → Option Place
home n p e = cond (fits p e) (some p) (cond (ltb (suc p.segment) n) (some (opened (suc p.segment))) none)

-- the place behind an item that the walk met, p being the place behind the one before
unfoldable pub behind : {A : Type 0} → Place → Item (Raced A) → Place
behind p (good g i e) = after (cond (eqb p.segment g) p (opened g)) e
behind p (bad g i) = p

unfoldable pub behind_all : {A : Type 0} → Place → List (Item (Raced A)) → Place
behind_all p [] = p
behind_all p (i ∷ is) = behind_all (behind p i) is

-- the place behind the log of a card
unfoldable pub tail : List ℕ → Place
tail c = behind_all (opened 0) (items (card_written c) c (segments_in c) 0)

unfoldable pub stores_from : ℕ → List ℕ → List Store
stores_from a [] = []
stores_from a (b ∷ bs) = (a, b) ∷ stores_from (suc a) bs

unfoldable pub data_of : Option Written → List ℕ
data_of none = []
data_of (some d) = d.body

-- "if it writes, 256 data bytes into the segment's next slot [..]; then the entry, lowest byte first; then the raised count byte", which is its
-- closing store
unfoldable pub entry_stores : Place → Entry Written → List Store
entry_stores p e =
    stores_from (segment_bytes * p.segment + slot_bytes * p.slots) (data_of (carried e))
    ++ stores_from (segment_bytes * p.segment + entries_offset + p.bytes) (encode (raw p.slots e))
    ++ (segment_bytes * p.segment + count_offset, suc p.entries) ∷ []

-- do the first k stores of entry e, whose place is p if it has one, stand on the card? The closing one is none of them.
unfoldable pub head_at : List ℕ → ℕ → Option Place → Entry Written → Bool
head_at c k none e = eqb k 0
head_at c k (some p) e = let ss = entry_stores p e in ltb k (length ss) && standing (take k ss) c
