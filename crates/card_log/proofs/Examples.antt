-- Small logs and places, computed. Each comes out otherwise under a wrong definition that lies near at hand; tests/wrong-definitions tries those.
use mathlib.Core.Path.{◌≡◌, refl, sym, ap}
use mathlib.Core.Bool.{not, true≢false}
use mathlib.Core.Option.{none, some, some-injective}
use mathlib.Core.List.{List, [], ◌∷◌, ◌++◌}
use Prim.Native.Nat.{ℕ}
use native.Mathlib.Omega.{arith}
use lib.Dec.{eqb}
use lib.ListN.{replicate}
use Rattle.lists.specs.Basic.{any, keep, from}
use Rattle.lists.specs.Numbers.{all_numbers}
use Rattle.lists.specs.Change.{take_list, put_first, write, del_block, map_change, carried_by}
use Rattle.lists.specs.State.{state, row, block, taken, placed, applies, changed, frees, free_after, apply, apply_all}
use Rattle.card_log.specs.Raced.{raced}
use Rattle.card_log.specs.Entry.{plain, member, commit, map_entry, carried, race_bit, race_byte, change_bytes, encode, raw, entry_length, legal_change, legal, change_of, checked, entry_of, decode}
use Rattle.card_log.specs.Reader.{reader, start, settled, last_of, read, replay}
use Rattle.card_log.specs.Card.{good, sound, slot, card_slot, card_written, count, segment_entries, used_by, is_next, entry_at, items_of, segment_items, after_empty, items, walk}
use Rattle.card_log.specs.declared.place.Place.{Place}
use Rattle.card_log.specs.Store.{standing, format_stores, opened, after, fits, home, behind, behind_all, tail, stores_from, data_of, entry_stores}
use Rattle.card_log.specs.Turns.{InTurn, Clearable}

-- "then the entry, lowest byte first; then the raised count byte"
pub count-comes-last : entry_stores (opened 0) (plain (take_list 1)) ≡ (3585, 2) ∷ (3586, 1) ∷ (3584, 1) ∷ []
unfolding map_change carried_by map_entry carried change_bytes encode raw opened stores_from data_of entry_stores
count-comes-last = refl

-- "the last segment's first and segment 0's last"
pub front-formatted-last : format_stores 2 ≡ (7680, 0) ∷ (3584, 0) ∷ []
unfolding format_stores
front-formatted-last = refl

-- "Bit 6 of the map says that a race byte follows, after the slot, so maps 73 and 201 become legal", "race 0 is written without it"
pub race-after-slot : encode (plain (write 1 (raced 2 5))) ≡ 73 ∷ 1 ∷ 2 ∷ 5 ∷ []
unfolding race_bit race_byte change_bytes encode
race-after-slot = refl

pub member-with-race : encode (member (write 1 (raced 2 5))) ≡ 201 ∷ 1 ∷ 2 ∷ 5 ∷ []
unfolding race_bit race_byte change_bytes encode
member-with-race = refl

pub no-race-no-byte : encode (plain (write 1 (raced 2 0))) ≡ 9 ∷ 1 ∷ 2 ∷ []
unfolding race_bit race_byte change_bytes encode
no-race-no-byte = refl

-- "a race byte of 0 or above 24 is a fault in mounting"; a map with bit 6 that is no write's is none
pub race-0-refused : decode (73 ∷ 1 ∷ 0 ∷ 0 ∷ []) ≡ none
unfolding legal_change legal change_of checked entry_of decode
race-0-refused = refl

pub race-24-read : decode (73 ∷ 1 ∷ 0 ∷ 24 ∷ []) ≡ some (plain (write 1 (raced 0 24)), [])
unfolding legal_change legal change_of checked entry_of decode
race-24-read = refl

pub race-25-refused : decode (73 ∷ 1 ∷ 0 ∷ 25 ∷ []) ≡ none
unfolding legal_change legal change_of checked entry_of decode
race-25-refused = refl

pub take-with-race-refused : decode (66 ∷ 1 ∷ 5 ∷ []) ≡ none
unfolding legal_change legal change_of checked entry_of decode
take-with-race-refused = refl

-- "map 130 becomes legal as a member", of a list in range
pub take-as-member : decode (130 ∷ 16 ∷ []) ≡ some (member (take_list 16), [])
unfolding legal_change legal change_of checked entry_of decode
take-as-member = refl

pub take-17-refused : decode (130 ∷ 17 ∷ []) ≡ none
unfolding legal_change legal change_of checked entry_of decode
take-17-refused = refl

-- the numbers but these, ascending: what is free where none was freed
abbrev pub all_but : List ℕ → List ℕ
all_but ns = keep (λ n. not (any (λ m. eqb m n) ns)) all_numbers

-- it acts at its commit alone, and is dead without one
pub take-dead :
    replay {D = ℕ} start (member (take_list 1) ∷ plain (take_list 2) ∷ member (take_list 3) ∷ member (put_first 1 3) ∷ commit 2 ∷ member (take_list 4) ∷ [])
    ≡ some (reader (take_list 4 ∷ []) (state (row 2 [] ∷ row 3 (block 1 none ∷ []) ∷ []) (all_but (1 ∷ 66 ∷ 67 ∷ []))))
unfolding all_numbers from taken placed applies changed frees free_after apply apply_all last_of read replay
take-dead = refl

-- On an empty card the count of the first entry is not in turn, nor is a second entry; and with an entry in segment 1 the count of segment 0 is not
-- to be cleared.
pub count-not-first : InTurn (replicate 4096 0) (opened 0) (plain (take_list 1)) 2 → ⊥
unfolding map_change carried_by map_entry carried change_bytes encode raw standing opened stores_from data_of entry_stores
count-not-first t = true≢false (sym t.stand)

pub second-not-first : InTurn (replicate 4096 0) (after {A = ℕ} (opened 0) (plain (take_list 1))) (plain (take_list 2)) 0 → ⊥
unfolding map_change carried_by map_entry carried change_bytes encode raw entry_length count used_by after_empty items opened after fits home behind_all tail
second-not-first t = let q : ◌≡◌ {A = ℕ} 0 2 = ap (λ (p : Place). p.bytes) (some-injective _ _ t.behind) in omega arith

pub front-not-first : Clearable (replicate 7680 0 ++ 1 ∷ replicate 511 0) 0 → ⊥
unfolding count
front-not-first t = let q : ◌≡◌ {A = ℕ} 1 0 = t.behind 1 (omega arith) (omega arith) in omega arith

-- "a commit, which takes the last so many members standing directly before it, [..]; earlier members of that run are dead"
pub dead-members-stay-dead :
    replay {D = ℕ} start (plain (take_list 1) ∷ member (put_first 1 1) ∷ member (put_first 2 1) ∷ commit 1 ∷ []) ≡ some (settled (state (row 1 (block 2 none ∷ []) ∷ []) (all_but (2 ∷ 65 ∷ []))))
unfolding all_numbers from taken placed applies changed frees free_after apply apply_all last_of read replay
dead-members-stay-dead = refl

-- a run goes on into the next segment
pub run-crosses-segments :
    walk {D = ℕ} start (good 0 0 (plain (take_list 1)) ∷ good 0 1 (member (put_first 1 1)) ∷ good 1 0 (commit 1) ∷ []) ≡ sound (settled (state (row 1 (block 1 none ∷ []) ∷ []) (all_but (1 ∷ 65 ∷ []))))
unfolding all_numbers from taken placed applies changed frees free_after apply apply_all last_of read walk
run-crosses-segments = refl

-- a block is "written since its present put", or not
pub put-again-unwritten :
    replay {D = ℕ} start (plain (take_list 1) ∷ plain (put_first 1 1) ∷ plain (write 1 9) ∷ plain (del_block 1) ∷ plain (put_first 1 1) ∷ plain (put_first 2 1) ∷ plain (write 2 9) ∷ [])
    ≡ some (settled (state (row 1 (block 2 (some 9) ∷ block 1 none ∷ []) ∷ []) (all_but (1 ∷ 2 ∷ 65 ∷ []))))
unfolding all_numbers from taken placed applies changed frees free_after apply read replay
put-again-unwritten = refl

-- "the log never uses a slot again": a dead member's is not the next one
pub dead-slots-stay-used :
    tail (replicate 3584 0 ++ 2 ∷ 2 ∷ 1 ∷ 137 ∷ 1 ∷ 0 ∷ replicate 506 0) ≡ record { segment = 0; entries = 2; bytes = 5; slots = 1 }
unfolding map_change carried_by map_entry carried race_bit race_byte change_bytes encode raw entry_length legal_change legal change_of checked entry_of decode slot card_slot card_written count segment_entries used_by is_next entry_at items_of segment_items after_empty items opened after behind behind_all tail
dead-slots-stay-used = refl
