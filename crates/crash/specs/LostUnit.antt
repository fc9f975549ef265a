-- A lost unit: nothing is left of it, whatever else was called, answered or cut meanwhile. Said of the book, which decides what a mounting shows
-- (`Demand3`) and the lists of every view (`History`).
use Rattle.std.specs.Prelude.{◌≡◌, ◌≢◌, Bool, true, false, ◌&&◌, ◌||◌, List, [], ◌∷◌, ℕ, ◌≤◌, eqb}
use Rattle.std.proofs.Math.Option.{Option, none, some}
use Rattle.disk.specs.Call.{Edit, on_stream, end, ends, resets}
use Rattle.answers.specs.Answers.{Answer}
use Rattle.crash.specs.Event.{Parts, Event, called, cut_between, cut_flush, cut_format, is_accepted}
use Rattle.crash.specs.Book.{Book, is_number, book_called, book_step}

-- what the book is fed: a change in the unit, with its answer; or another event, with what it answered
pub data Fed : Type 0 where
  own : Edit → Answer → Fed
  other : Event → Option Answer → Fed

-- the book after all of this, u being the unit
unfoldable pub fed_all : ℕ → List Fed → Book → Book
fed_all u [] b = b
fed_all u (own e a ∷ xs) b = fed_all u xs (book_called (on_stream u e) a b)
fed_all u (other e a ∷ xs) b = fed_all u xs (book_step b e a)

-- all of it but the unit's changes; its Begin and its look-ups change no book
unfoldable pub without : List Fed → List Fed
without [] = []
without (own e a ∷ xs) = without xs
without (other e a ∷ xs) = other e a ∷ without xs

-- an End, if accepted, is another unit's than u; units are numbered from 1
abbrev pub EndsOther : ℕ → Event → Option Answer → Type 0
EndsOther u e a = (v : ℕ) (p : Parts) (x : Answer) → e ≡ called (end v) p → a ≡ some x → is_accepted x ≡ true → (1 ≤ v) × (v ≢ u)

-- no End of unit u is accepted among them
abbrev pub Unended : ℕ → List Fed → Type 0
Unended u [] = Unit {0}
Unended u (own e a ∷ xs) = Unended u xs
Unended u (other e a ∷ xs) = EndsOther u e a × Unended u xs

-- does the event lose unit u? "refusal 12 drops it", its batch; an accepted mount or formatting, or a cut, "clears line and batches".
unfoldable pub loses : ℕ → Event → Option Answer → Bool
loses u (called c p) none = false
loses u (called c p) (some a) = resets c && is_accepted a || is_number u (ends c) && eqb a.code 12
loses u (cut_between x) a = true
loses u (cut_flush m k x) a = true
loses u (cut_format k x) a = true

-- "A lost unit leaves it in no view", a list taken in it, nor anything else: after the event that loses the unit, the book with the unit's changes is the
-- book without them.
abbrev pub LostUnit : Type 0
LostUnit =
    (u : ℕ) (xs : List Fed) (b : Book) → 1 ≤ u → Unended u xs → (e : Event) (a : Option Answer) → loses u e a ≡ true
    → book_step (fed_all u xs b) e a ≡ book_step (fed_all u (without xs) b) e a
