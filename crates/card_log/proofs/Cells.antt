-- An entry in four bytes, put there and read again.
use mathlib.Core.Path.{◌≡◌, refl}
use Prim.Native.Nat.{ℕ, zero, suc}
use Rattle.lists.specs.Change.{Change, take_list, put_first, put_after, write, del_block, del_list, map_change}
use Rattle.card_log.specs.Raced.{Raced, raced, with_body}
use Rattle.card_log.specs.Entry.{Entry, plain, member, commit, map_entry, race_bit, race_byte, change_bytes, encode, raw, as_entry, as_change}
use Rattle.card_log.specs.Cell.{cell_of, member_in, kind_in, entry_in}

write_cell : {A : Type 0} (b : ℕ) (x : A) (n : ℕ) → (as_entry (member_in (cell_of (plain (write b (raced x n))))) (entry_in (cell_of (plain (write b (raced x n))))) ≡ plain (write b (raced 0 n)))
    × (as_entry (member_in (cell_of (member (write b (raced x n))))) (entry_in (cell_of (member (write b (raced x n))))) ≡ member (write b (raced 0 n)))
    × (as_change (entry_in (cell_of (plain (write b (raced x n))))) ≡ write b (raced 0 n))
unfolding cell_of member_in kind_in entry_in as_entry as_change raw map_entry map_change encode change_bytes race_bit race_byte
write_cell b x zero = (refl, refl, refl)
write_cell b x (suc n) = (refl, refl, refl)

pub cell-entry : {A : Type 0} (e : Entry (Raced A)) → as_entry (member_in (cell_of e)) (entry_in (cell_of e)) ≡ raw 0 e
unfolding cell_of member_in kind_in entry_in as_entry raw map_entry map_change encode change_bytes
cell-entry (plain (take_list l)) = refl
cell-entry (plain (put_first b l)) = refl
cell-entry (plain (put_after b l p)) = refl
cell-entry (plain (write b d)) = (write_cell b d.body d.race).0
cell-entry (plain (del_block b)) = refl
cell-entry (plain (del_list l)) = refl
cell-entry (member (take_list l)) = refl
cell-entry (member (put_first b l)) = refl
cell-entry (member (put_after b l p)) = refl
cell-entry (member (write b d)) = (write_cell b d.body d.race).1
cell-entry (member (del_block b)) = refl
cell-entry (member (del_list l)) = refl
cell-entry (commit n) = refl

pub cell-change : {A : Type 0} (c : Change (Raced A)) → as_change (entry_in (cell_of (plain c))) ≡ map_change (with_body 0) c
unfolding cell_of kind_in entry_in as_change raw map_entry map_change encode change_bytes
cell-change (take_list l) = refl
cell-change (put_first b l) = refl
cell-change (put_after b l p) = refl
cell-change (write b d) = (write_cell b d.body d.race).2
cell-change (del_block b) = refl
cell-change (del_list l) = refl
