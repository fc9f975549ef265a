-- An entry in four bytes, as the record holds it in queue and journals.
use Rattle.std.specs.Prelude.{Bool, cond, ℕ, ◌%◌, leb, eqb, get_or}
use Rattle.card_log.specs.Raced.{Raced}
use Rattle.card_log.specs.Entry.{Entry, encode, raw}
use Rattle.card_log.specs.declared.entry.LogEntry.{LogEntry}
use Rattle.card_log.specs.declared.entry.LogEntry.TheVariants.{Take, PutFirst, PutAfter, Write, DeleteBlock, DeleteList, Commit}

-- the entry's map, then its fields, lowest bit first; those that it lacks are 0
pub record Cell : Type 0 where
  pub map : ℕ
  pub first : ℕ
  pub second : ℕ
  pub third : ℕ

abbrev pub cell : ℕ → ℕ → ℕ → ℕ → Cell
cell m x y z = record { map = m; first = x; second = y; third = z }

-- an entry as it is put there, a write with slot 0: it has none yet
unfoldable pub cell_of : {A : Type 0} → Entry (Raced A) → Cell
cell_of e = let bs = encode (raw 0 e) in cell (get_or bs 0 0) (get_or bs 1 0) (get_or bs 2 0) (get_or bs 3 0)

-- The entry that four bytes say, and whether it is a unit's member. A map that no entry has stands for a take of list 0, which no question accepts.
unfoldable pub member_in : Cell → Bool
member_in c = leb 128 c.map

unfoldable pub kind_in : ℕ → ℕ → ℕ → ℕ → LogEntry
kind_in m x y z =
    cond (eqb m 2) (Take x)
    (cond (eqb m 3) (PutFirst x y)
    (cond (eqb m 7) (PutAfter x y z)
    (cond (eqb m 9) (Write x y 0)
    (cond (eqb m 73) (Write x y z)
    (cond (eqb m 33) (DeleteBlock x)
    (cond (eqb m 34) (DeleteList x) (Take 0)))))))

unfoldable pub entry_in : Cell → LogEntry
entry_in c = cond (eqb c.map 16) (Commit c.first) (kind_in (c.map % 128) c.first c.second c.third)
