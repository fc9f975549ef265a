-- Log entries and their bytes.
use Rattle.std.specs.Prelude.{Bool, ◌&&◌, cond, List, [], ◌∷◌, ℕ, zero, suc, ◌+◌, ◌-◌, ◌/◌, ◌%◌, leb, eqb, length, drop, get_or}
use Rattle.std.proofs.Math.Option.{Option, none, some}
use Rattle.lists.specs.Basic.{guard, bind}
use Rattle.lists.specs.Change.{Change, take_list, put_first, put_after, write, del_block, del_list, map_change, carried_by}
use Rattle.card_log.specs.Raced.{Raced, raced, with_body}
use Rattle.card_log.specs.declared.entry.LogEntry.{LogEntry}
use Rattle.card_log.specs.declared.entry.LogEntry.TheVariants.{Take, PutFirst, PutAfter, Write, DeleteBlock, DeleteList, Commit}

-- "Plain entries act in turn. Members act only at a commit". D is what a write carries.
pub data Entry (D : Type 0) : Type 0 where
  plain : Change D → Entry D
  member : Change D → Entry D
  commit : ℕ → Entry D

unfoldable pub map_entry : {D E : Type 0} → (D → E) → Entry D → Entry E
map_entry f (plain c) = plain (map_change f c)
map_entry f (member c) = member (map_change f c)
map_entry f (commit n) = commit n

-- what an entry's write carries
unfoldable pub carried : {D : Type 0} → Entry D → Option D
carried (plain c) = carried_by c
carried (member c) = carried_by c
carried (commit n) = none

-- "blocks 1 to 64, lists 1 to 16, [..] slots 0 to 13", "commit, count 0 to 15"
abbrev pub is_block : ℕ → Bool
is_block b = leb 1 b && leb b 64

abbrev pub is_list : ℕ → Bool
is_list l = leb 1 l && leb l 16

abbrev pub is_slot : ℕ → Bool
is_slot s = leb s 13

abbrev pub is_count : ℕ → Bool
is_count n = leb n 15

-- "a race from 0 to 24, where 0 means none"
abbrev pub is_race : ℕ → Bool
is_race n = leb n 24

-- "Bit 6 of the map says that a race byte follows, after the slot [..]; race 0 is written without it": what the bit is in the map, and the byte
unfoldable pub race_bit : ℕ → ℕ
race_bit zero = 0
race_bit (suc n) = 64

unfoldable pub race_byte : ℕ → List ℕ
race_byte zero = []
race_byte (suc n) = suc n ∷ []

-- "One byte of bit map, then one byte for each bit that stands, lowest bit first". "Members have 128 more": k is 0 or 128.
unfoldable pub change_bytes : ℕ → Change (Raced ℕ) → List ℕ
change_bytes k (take_list l) = (k + 2) ∷ l ∷ []
change_bytes k (put_first b l) = (k + 3) ∷ b ∷ l ∷ []
change_bytes k (put_after b l p) = (k + 7) ∷ b ∷ l ∷ p ∷ []
change_bytes k (write b s) = (k + (9 + race_bit s.race)) ∷ b ∷ s.body ∷ race_byte s.race
change_bytes k (del_block b) = (k + 33) ∷ b ∷ []
change_bytes k (del_list l) = (k + 34) ∷ l ∷ []

unfoldable pub encode : Entry (Raced ℕ) → List ℕ
encode (plain c) = change_bytes 0 c
encode (member c) = change_bytes 128 c
encode (commit n) = 16 ∷ n ∷ []

-- an entry whose write says slot k
unfoldable pub raw : {A : Type 0} → ℕ → Entry (Raced A) → Entry (Raced ℕ)
raw k e = map_entry (with_body k) e

unfoldable pub entry_length : {A : Type 0} → Entry (Raced A) → ℕ
entry_length e = length (encode (raw 0 e))

-- "legal maps and ranges"
unfoldable pub legal_change : Change (Raced ℕ) → Bool
legal_change (take_list l) = is_list l
legal_change (put_first b l) = is_block b && is_list l
legal_change (put_after b l p) = is_block b && is_list l && is_block p
legal_change (write b s) = is_block b && is_slot s.body && is_race s.race
legal_change (del_block b) = is_block b
legal_change (del_list l) = is_list l

-- "Members have 128 more: 131, 135, 137, 161, 162.", "maps 73 and 201 become legal", "map 130 becomes legal as a member": every change may be one.
unfoldable pub legal : Entry (Raced ℕ) → Bool
legal (plain c) = legal_change c
legal (member c) = legal_change c
legal (commit n) = is_count n

-- "An entry's length is 1 plus the number of ones in bits 0 to 4.", and "an entry's length counts bit 6 too"
abbrev pub size_of : ℕ → ℕ
size_of m = 1 + (m % 2 + m / 2 % 2 + m / 4 % 2 + m / 8 % 2 + m / 16 % 2 + m / 64 % 2)

-- the change that a map without bit 7 says, its fields x, y, z in the order of their bytes; "a race byte of 0 [..] is a fault in mounting"
unfoldable pub change_of : ℕ → ℕ → ℕ → ℕ → Option (Change (Raced ℕ))
change_of m x y z =
    cond (eqb m 2) (some (take_list x))
    (cond (eqb m 3) (some (put_first x y))
    (cond (eqb m 7) (some (put_after x y z))
    (cond (eqb m 9) (some (write x (raced y 0)))
    (cond (eqb m 73) (guard (leb 1 z) (some (write x (raced y z))))
    (cond (eqb m 33) (some (del_block x))
    (cond (eqb m 34) (some (del_list x)) none))))))

unfoldable pub checked : Entry (Raced ℕ) → Option (Entry (Raced ℕ))
checked e = guard (legal e) (some e)

unfoldable pub entry_of : ℕ → ℕ → ℕ → ℕ → Option (Entry (Raced ℕ))
entry_of m x y z =
    cond (eqb m 16) (checked (commit x))
    (cond (leb 128 m)
    (bind (change_of (m - 128) x y z) (λ c. checked (member c)))
    (bind (change_of m x y z) (λ c. checked (plain c))))

-- the entry at the front of bytes that hold the whole of it, and the bytes behind it
unfoldable pub decode : List ℕ → Option (Entry (Raced ℕ) × List ℕ)
decode bs =
    guard (leb (size_of (get_or bs 0 0)) (length bs))
    (bind (entry_of (get_or bs 0 0) (get_or bs 1 0) (get_or bs 2 0) (get_or bs 3 0)) (λ e. some (e, drop (size_of (get_or bs 0 0)) bs)))

-- What a `LogEntry` stands for. A commit is no change: where a change is wanted it stands for a take of list 0, which no question accepts.
unfoldable pub as_change : LogEntry → Change (Raced ℕ)
as_change (Take l) = take_list l
as_change (PutFirst b l) = put_first b l
as_change (PutAfter b l p) = put_after b l p
as_change (Write b s n) = write b (raced s n)
as_change (DeleteBlock b) = del_block b
as_change (DeleteList l) = del_list l
as_change (Commit n) = take_list 0

unfoldable pub as_entry : Bool → LogEntry → Entry (Raced ℕ)
as_entry m (Take l) = cond m (member (take_list l)) (plain (take_list l))
as_entry m (PutFirst b l) = cond m (member (put_first b l)) (plain (put_first b l))
as_entry m (PutAfter b l p) = cond m (member (put_after b l p)) (plain (put_after b l p))
as_entry m (Write b s n) = cond m (member (write b (raced s n))) (plain (write b (raced s n)))
as_entry m (DeleteBlock b) = cond m (member (del_block b)) (plain (del_block b))
as_entry m (DeleteList l) = cond m (member (del_list l)) (plain (del_list l))
as_entry m (Commit n) = commit n
