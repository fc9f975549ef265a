-- The first no of a list of questions.
use mathlib.Core.Path.{◌≡◌, refl, sym, ap, ◌∙◌}
use mathlib.Core.Logic.{◌≢◌}
use mathlib.Core.Bool.{Bool, true, false}
use mathlib.Core.List.{List, [], ◌∷◌, ◌++◌}
use Prim.Native.Nat.{ℕ, suc}
use native.Mathlib.Omega.{arith}
use Rattle.std.specs.Prelude.{Result, Ok, Err}
use Rattle.std.specs.Result.{IsErrAnd}
use Rattle.answers.specs.Answers.{number}
use Rattle.answers.specs.declared.Refusal.{Refusal}
use Rattle.answers.specs.declared.Refusal.TheVariants.{WrongLength, LogFault, RecordUnsound, StreamClosed, OutOfRange, UnitOpen, ListNotTaken, BlockNotPlaced, PredecessorElsewhere, NoNumberFree, JournalFull, Conflict, QueueFull, BufferTooShort, Unwritten}
use Rattle.disk.specs.Questions.{ask, first_no}

pub ask-yes : (n : ℕ) (b : Bool) (qs : List (ℕ × Bool)) → b ≡ true → first_no ((n, b) ∷ qs) ≡ first_no qs
unfolding first_no ask
ask-yes n b qs h = rw h

pub ask-no : (n : ℕ) (b : Bool) (qs : List (ℕ × Bool)) → b ≡ false → first_no ((n, b) ∷ qs) ≡ n
unfolding first_no ask
ask-no n b qs h = rw h

pub last-yes : (n : ℕ) (b : Bool) → b ≡ true → first_no ((n, b) ∷ []) ≡ 0
unfolding first_no ask
last-yes n b h = rw h

-- a no among the first questions is the first no of all
pub ask-more : (ps qs : List (ℕ × Bool)) (n : ℕ) → n ≢ 0 → first_no ps ≡ n → first_no (ps ++ qs) ≡ n
unfolding first_no ask
ask-more [] qs n z h = absurd (z (sym h))
ask-more ((m, true) ∷ ps) qs n z h = ask-more ps qs n z h
ask-more ((m, false) ∷ ps) qs n z h = h

pub number-some : (x : Refusal) → (m : ℕ) × (number x ≡ suc m)
unfolding number
number-some WrongLength = (_, refl)
number-some LogFault = (_, refl)
number-some RecordUnsound = (_, refl)
number-some StreamClosed = (_, refl)
number-some OutOfRange = (_, refl)
number-some UnitOpen = (_, refl)
number-some ListNotTaken = (_, refl)
number-some BlockNotPlaced = (_, refl)
number-some PredecessorElsewhere = (_, refl)
number-some NoNumberFree = (_, refl)
number-some JournalFull = (_, refl)
number-some Conflict = (_, refl)
number-some QueueFull = (_, refl)
number-some BufferTooShort = (_, refl)
number-some Unwritten = (_, refl)

pub number-nonzero : (x : Refusal) → number x ≢ 0
number-nonzero x e = let (m, h) = number-some x in omega arith

-- a refusal by one of the first questions
pub refused-more : (x : Refusal) (ps qs : List (ℕ × Bool)) → first_no ps ≡ number x → first_no (ps ++ qs) ≡ number x
refused-more x ps qs h = ask-more ps qs (number x) (number-nonzero x) h

-- the exit of a `?` answers what the call did
pub exit_is : {A E : Type 0} (r : Result A E) (x : E) → IsErrAnd r (λ y. y ≡ x) → r ≡ Err x
exit_is (Ok a) x h = absurd h
exit_is (Err y) x h = ap Err h

-- and where a question's `?` does, the question's refusal
pub exit_asked : {A E : Type 0} (r : Result A E) (x z : E) → IsErrAnd r (λ y. y ≡ x) → x ≡ z → r ≡ Err z
exit_asked r x z e i = exit_is r x e ∙ ap Err i
