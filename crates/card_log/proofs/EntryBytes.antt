-- The bytes of a `LogEntry`, one by one, and its length.
use mathlib.Core.Path.{◌≡◌, refl, sym, ap, ◌∙◌}
use mathlib.Core.Logic.{◌≢◌}
use mathlib.Core.Bool.{Bool, true, false}
use mathlib.Core.List.{List, [], ◌∷◌, ◌++◌}
use Prim.Native.Nat.{ℕ, zero, suc, ◌+◌, ◌/◌, ◌%◌}
use lib.ListN.{get_or, replicate}
use Rattle.lists.specs.Change.{map_change, carried_by}
use Rattle.lists.proofs.Basic.{get_or-same}
use Rattle.card_log.specs.declared.entry.LogEntry.{LogEntry}
use Rattle.card_log.specs.declared.entry.LogEntry.TheVariants.{Take, PutFirst, PutAfter, Write, DeleteBlock, DeleteList, Commit}
use Rattle.card_log.specs.Entry.{map_entry, carried, race_bit, race_byte, change_bytes, encode, raw, as_entry, entry_length, size_of}
use Rattle.card_log.specs.Card.{used_by}
use Rattle.card_log.proofs.Bits.{encode-size}

-- zeros behind a list are what stands past its end
get_or-padded : (l : List ℕ) (n i : ℕ) → get_or (l ++ replicate n 0) i 0 ≡ get_or l i 0
get_or-padded [] n i = get_or-same n i 0
get_or-padded (x ∷ l) n zero = refl
get_or-padded (x ∷ l) n (suc i) = get_or-padded l n i

-- the fields of an entry whose slot is k, lowest bit first, filled up with zeros to three
abbrev pub fields_of : ℕ → LogEntry → List ℕ
fields_of k (Take l) = l ∷ 0 ∷ 0 ∷ []
fields_of k (PutFirst b l) = b ∷ l ∷ 0 ∷ []
fields_of k (PutAfter b l p) = b ∷ l ∷ p ∷ []
fields_of k (Write b s n) = b ∷ k ∷ n ∷ []
fields_of k (DeleteBlock b) = b ∷ 0 ∷ 0 ∷ []
fields_of k (DeleteList l) = l ∷ 0 ∷ 0 ∷ []
fields_of k (Commit n) = n ∷ 0 ∷ 0 ∷ []

race-field : (b k n i : ℕ) → get_or (b ∷ k ∷ n ∷ []) i 0 ≡ get_or (b ∷ k ∷ race_byte n) i 0
unfolding race_byte
race-field b k zero i = get_or-padded (b ∷ k ∷ []) 1 i
race-field b k (suc n) i = refl

pub code-field : (m : Bool) (k : ℕ) (e : LogEntry) (i : ℕ) → i ≢ 0 → get_or (0 ∷ fields_of k e) i 0 ≡ get_or (encode (raw k (as_entry m e))) i 0
unfolding encode raw map_entry map_change change_bytes as_entry
code-field m k e zero h = absurd (h refl)
code-field true k (Take l) (suc i) h = get_or-padded (l ∷ []) 2 i
code-field false k (Take l) (suc i) h = get_or-padded (l ∷ []) 2 i
code-field true k (PutFirst b l) (suc i) h = get_or-padded (b ∷ l ∷ []) 1 i
code-field false k (PutFirst b l) (suc i) h = get_or-padded (b ∷ l ∷ []) 1 i
code-field true k (PutAfter b l p) (suc i) h = refl
code-field false k (PutAfter b l p) (suc i) h = refl
code-field true k (Write b s n) (suc i) h = race-field b k n i
code-field false k (Write b s n) (suc i) h = race-field b k n i
code-field true k (DeleteBlock b) (suc i) h = get_or-padded (b ∷ []) 2 i
code-field false k (DeleteBlock b) (suc i) h = get_or-padded (b ∷ []) 2 i
code-field true k (DeleteList l) (suc i) h = get_or-padded (l ∷ []) 2 i
code-field false k (DeleteList l) (suc i) h = get_or-padded (l ∷ []) 2 i
code-field m k (Commit n) (suc i) h = get_or-padded (n ∷ []) 2 i

-- the map does not depend on the slot
pub code_map : (m : Bool) (k : ℕ) (e : LogEntry) → get_or (encode (as_entry m e)) 0 0 ≡ get_or (encode (raw k (as_entry m e))) 0 0
unfolding encode raw map_entry map_change change_bytes as_entry
code_map true k (Take l) = refl
code_map false k (Take l) = refl
code_map true k (PutFirst b l) = refl
code_map false k (PutFirst b l) = refl
code_map true k (PutAfter b l p) = refl
code_map false k (PutAfter b l p) = refl
code_map true k (Write b s n) = refl
code_map false k (Write b s n) = refl
code_map true k (DeleteBlock b) = refl
code_map false k (DeleteBlock b) = refl
code_map true k (DeleteList l) = refl
code_map false k (DeleteList l) = refl
code_map m k (Commit n) = refl

-- the length is the one that the map tells
pub code-length : (m : Bool) (e : LogEntry) → size_of (get_or (encode (as_entry m e)) 0 0) ≡ entry_length (as_entry m e)
unfolding entry_length
code-length m e = ap (λ (k : ℕ). size_of k) (code_map m 0 e) ∙ sym (encode-size (raw 0 (as_entry m e)))

-- so is the number of slots
race-slots : (n : ℕ) → ((0 + (9 + race_bit n)) / 8 % 2 ≡ 1) × ((128 + (9 + race_bit n)) / 8 % 2 ≡ 1)
unfolding race_bit
race-slots zero = (refl, refl)
race-slots (suc n) = (refl, refl)

pub code-slots : (m : Bool) (e : LogEntry) → get_or (encode (as_entry m e)) 0 0 / 8 % 2 ≡ used_by (carried (as_entry m e))
unfolding encode change_bytes as_entry carried carried_by used_by
code-slots true (Take l) = refl
code-slots false (Take l) = refl
code-slots true (PutFirst b l) = refl
code-slots false (PutFirst b l) = refl
code-slots true (PutAfter b l p) = refl
code-slots false (PutAfter b l p) = refl
code-slots true (Write b s n) = (race-slots n).1
code-slots false (Write b s n) = (race-slots n).0
code-slots true (DeleteBlock b) = refl
code-slots false (DeleteBlock b) = refl
code-slots true (DeleteList l) = refl
code-slots false (DeleteList l) = refl
code-slots m (Commit n) = refl
