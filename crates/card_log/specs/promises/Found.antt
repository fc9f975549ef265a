-- What a reader of the log finds at a place: the entry that stands there, or none.
use Rattle.std.specs.Prelude.{◌≡◌, Bool, true, false, List, ℕ, ◌+◌, ◌*◌, ◌≤◌, length}
use Rattle.std.proofs.Math.Option.{Option, none, some}
use Rattle.lists.specs.Basic.{bind}
use Rattle.card_log.specs.Raced.{Raced}
use Rattle.card_log.specs.Entry.{Entry, carried, as_entry, legal}
use Rattle.card_log.specs.Card.{part, is_next, entry_at, segment_bytes}
use Rattle.card_log.specs.declared.entry.LogEntry.{LogEntry}
use Rattle.card_log.specs.declared.entry.LogEntry.TheVariants.{Take, PutFirst, PutAfter, Write, DeleteBlock, DeleteList, Commit}
use Rattle.card_log.specs.declared.reader.Found.{Found}
use Rattle.card_log.specs.declared.reader.Found.TheVariants.{Plain, Member, Bad}

-- what a parsed entry stands for, t telling whether its map has the mark of a member; no commit has it
abbrev pub entered : Bool → LogEntry → Option (Entry (Raced ℕ))
entered false e = some (as_entry false e)
entered true (Take l) = some (as_entry true (Take l))
entered true (PutFirst b l) = some (as_entry true (PutFirst b l))
entered true (PutAfter b l p) = some (as_entry true (PutAfter b l p))
entered true (Write b s n) = some (as_entry true (Write b s n))
entered true (DeleteBlock b) = some (as_entry true (DeleteBlock b))
entered true (DeleteList l) = some (as_entry true (DeleteList l))
entered true (Commit n) = none

-- is its slot, if it writes, the next one, k?
abbrev pub in_turn : LogEntry → ℕ → Bool
in_turn e k = is_next k (carried (as_entry false e))

-- a place in segment g, or behind it, of a card
pub record InSegment (c : List ℕ) (g a : ℕ) : Type 0 where
  pub holds : segment_bytes * g + segment_bytes ≤ length c
  pub small : length c ≤ 64 * segment_bytes
  pub until : a ≤ segment_bytes * g + segment_bytes

-- what a segment has from a place on
abbrev pub bytes_from : List ℕ → ℕ → ℕ → List ℕ
bytes_from c g a = part c a (segment_bytes * g + segment_bytes)

-- an entry at a place of segment g, k slots being used before it; t tells whether it has the mark of a member, and n is behind it
pub record Stands (c : List ℕ) (g a k : ℕ) (t : Bool) (e : LogEntry) (n : ℕ) : Type 0 where
  pub onward : a ≤ n
  pub until : n ≤ segment_bytes * g + segment_bytes
  pub ranged : legal (as_entry false e) ≡ true
  pub turn : in_turn e k ≡ true
  pub entry : entry_at k (bytes_from c g a) ≡ bind (entered t e) (λ x. some (x, bytes_from c g n))

abbrev pub Finds : List ℕ → ℕ → ℕ → ℕ → Found → Type 0
Finds c g a k (Plain e n) = Stands c g a k false e n
Finds c g a k (Member e n) = Stands c g a k true e n
Finds c g a k Bad = entry_at k (bytes_from c g a) ≡ none
