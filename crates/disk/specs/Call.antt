-- The calls and the look-ups, with their arguments: what changes comes on a stream, what is looked up in a view. S is a stream, V a view, B a block,
-- L a list, P a predecessor, U a unit, W a window, R a race.
use Rattle.std.specs.Prelude.{Bool, true, false, List, [], ℕ}
use Rattle.std.proofs.Math.Option.{Option, none, some}

-- "Changes come on stream 0 (simple; queued) or 1 to 4 (journalled, no log entry)."
pub data Edit : Type 0 where
  new_list : Edit
  new_block : ℕ → ℕ → Edit  -- L P
  write_block : ℕ → ℕ → List ℕ → Edit  -- B R, the data lent
  delete_block : ℕ → Edit  -- B
  delete_list : ℕ → Edit  -- L

-- "View 0 is the committed state, 1 to 4 an open unit's, 5 the persistent one.": what a view is asked
pub data Look : Type 0 where
  read_block : ℕ → List ℕ → Look  -- B, the destination lent
  block_after : ℕ → ℕ → Look  -- L P
  inventory : List ℕ → Look  -- the destination lent
  page : List ℕ → Look  -- the buffer lent

-- "formatting, mounting, the nine calls [..], three look-ups", and the printed page
pub data Call : Type 0 where
  format mount : Call
  conflict_count : ℕ → Call  -- W
  on_stream : ℕ → Edit → Call  -- S
  in_view : ℕ → Look → Call  -- V
  begin : ℕ → ℕ → Call  -- U W
  end : ℕ → Call  -- U
  flush : ℕ → Call  -- the allowance

-- the unit that a call would end
unfoldable pub ends : Call → Option ℕ
ends format = none
ends mount = none
ends (conflict_count w) = none
ends (on_stream s e) = none
ends (in_view v k) = none
ends (begin u w) = none
ends (end u) = some u
ends (flush a) = none

-- the lent bytes that a call may change beside the disk
unfoldable pub lent_to : Look → List ℕ
lent_to (read_block b x) = x
lent_to (block_after l p) = []
lent_to (inventory x) = x
lent_to (page x) = x

unfoldable pub destination : Call → List ℕ
destination format = []
destination mount = []
destination (conflict_count w) = []
destination (on_stream s e) = []
destination (in_view v k) = lent_to k
destination (begin u w) = []
destination (end u) = []
destination (flush a) = []

-- does the call set the record anew?
unfoldable pub resets : Call → Bool
resets format = true
resets mount = true
resets (conflict_count w) = false
resets (on_stream s e) = false
resets (in_view v k) = false
resets (begin u w) = false
resets (end u) = false
resets (flush a) = false
