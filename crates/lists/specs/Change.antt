-- The six changes of a state.
use Rattle.std.proofs.Math.Option.{Option, none, some}
use Rattle.std.specs.Prelude.{ℕ}

-- D is what a write carries: a slot number in the log's bytes, 256 bytes to a reader, each with its race; in tables one number for location and race.
pub data Change (D : Type 0) : Type 0 where
  take_list : ℕ → Change D
  put_first : ℕ → ℕ → Change D
  put_after : ℕ → ℕ → ℕ → Change D
  write : ℕ → D → Change D
  del_block : ℕ → Change D
  del_list : ℕ → Change D

-- a change with another thing carried
unfoldable pub map_change : {D E : Type 0} → (D → E) → Change D → Change E
map_change f (take_list l) = take_list l
map_change f (put_first b l) = put_first b l
map_change f (put_after b l p) = put_after b l p
map_change f (write b d) = write b (f d)
map_change f (del_block b) = del_block b
map_change f (del_list l) = del_list l

-- what a change carries
unfoldable pub carried_by : {D : Type 0} → Change D → Option D
carried_by (take_list l) = none
carried_by (put_first b l) = none
carried_by (put_after b l p) = none
carried_by (write b d) = some d
carried_by (del_block b) = none
carried_by (del_list l) = none
