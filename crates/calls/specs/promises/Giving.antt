-- The numbers that NewList and NewBlock give, and the record with what they add: of the record alone and of the lists that tables show.
use Rattle.std.specs.Prelude.{◌≡◌, ◌≤◌, Bool, ◌&&◌, ◌||◌, not, cond, List, [], ◌∷◌, ◌++◌, ℕ, leb, eqb, Result, Ok, Err}
use Rattle.std.proofs.Math.Option.{Option, some}
use Rattle.std.specs.Prelude as P
use Rattle.lists.specs.Basic.{is_some, or_else}
use Rattle.lists.specs.InUse.{list_number}
use Rattle.lists.specs.State.{Row, taken, on_list}
use Rattle.card_log.specs.declared.entry.LogEntry.{LogEntry}
use Rattle.card_log.specs.declared.entry.LogEntry.TheVariants.{Take, PutFirst, PutAfter}
use Rattle.card_log.specs.Entry.{is_list}
use Rattle.disk.specs.Record.{Record, listed_in, holding}
use Rattle.answers.specs.declared.Refusal.{Refusal}
use Rattle.disk.specs.Disk.{Disk}
use Rattle.disk.specs.Questions.{first_free, first_no}
use Rattle.answers.specs.Answers.{number}
use Rattle.disk.specs.promises.Listing.{unlisted}
use Rattle.calls.specs.promises.Adds.{added, rooms}

abbrev pub free_list_in : Record → Option ℕ
free_list_in r = first_free 64 16 (listed_in r)

abbrev pub free_block_in : Record → Option ℕ
free_block_in r = first_free 0 64 (listed_in r)

-- a free number as the questions have it, 0 for none
abbrev pub none0 : P.Option ℕ → ℕ
none0 P.None = 0
none0 (P.Some n) = n

-- a block, if there is one
abbrev pub GivenBlock : P.Option ℕ → Type 0
GivenBlock P.None = Unit {0}
GivenBlock (P.Some n) = (1 ≤ n) × (n ≤ 64)

-- number n held by unit s, by none on stream 0
abbrev pub held_by : ℕ → ℕ → Record → Record
held_by s n r = cond (eqb s 0) r (holding n s r)

-- NewList behind question 4: list l taken on stream s
abbrev pub taken_list : ℕ → ℕ → Record → Record
taken_list s l r = unlisted (list_number l) (held_by s (list_number l) (added s (Take l) r))

abbrev pub Takes : ℕ → Record → Result ℕ Refusal → Record → Type 0
Takes s r (Err x) r' = (r' ≡ r) × ((d : Disk) → d.rec ≡ r → first_no ((10, is_some (free_list_in r)) ∷ rooms d s) ≡ number x)
Takes s r (Ok l) r' = (r' ≡ taken_list s l r) × (free_list_in r ≡ some l) × ((d : Disk) → d.rec ≡ r → first_no (rooms d s) ≡ 0)

-- NewBlock: block b put on list l behind block p, first if p is 0, and held by unit s
abbrev pub put_entry : ℕ → ℕ → ℕ → LogEntry
put_entry b l p = cond (eqb p 0) (PutFirst b l) (PutAfter b l p)

unfoldable pub put_block : ℕ → ℕ → ℕ → ℕ → Record → Record
put_block s l p b r = unlisted b (held_by s b (added s (put_entry b l p) r))

-- after questions qs
abbrev pub Gives : List (ℕ × Bool) → ℕ → ℕ → ℕ → ℕ → Record → Result ℕ Refusal → Record → Type 0
Gives qs s l p b r (Err x) r' = (r' ≡ r) × ((d : Disk) → d.rec ≡ r → first_no (qs ++ rooms d s) ≡ number x)
Gives qs s l p b r (Ok n) r' = (n ≡ b) × (r' ≡ put_block s l p b r) × ((d : Disk) → d.rec ≡ r → first_no (qs ++ rooms d s) ≡ 0)

-- 7, 9 and 10, where 0 is no block
abbrev pub put_questions : {D : Type 0} → ℕ → ℕ → ℕ → List (Row D) → List (ℕ × Bool)
put_questions l p b rs = (7, taken l rs) ∷ (9, eqb p 0 || on_list l p rs) ∷ (10, not (eqb b 0)) ∷ []

abbrev pub ranged_put_questions : {D : Type 0} → ℕ → ℕ → ℕ → List (Row D) → List (ℕ × Bool)
ranged_put_questions l p b rs = (5, is_list l && leb p 64) ∷ put_questions l p b rs

-- the number given is the first free one; rs are the lists of the stream's view
abbrev pub PutsFree : {D : Type 0} → ℕ → ℕ → ℕ → List (Row D) → Record → Result ℕ Refusal → Record → Type 0
PutsFree s l p rs r a r' = let b = or_else 0 (free_block_in r) in Gives (ranged_put_questions l p b rs) s l p b r a r'
