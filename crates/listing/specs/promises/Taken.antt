-- What is put of each list that is taken.
use Rattle.std.specs.Prelude.{cond, List, [], ℕ}
use Rattle.std.specs.Borrow.{Bor, MutBor}
use Rattle.lists.specs.Basic.{from, joined}
use Rattle.lists.specs.State.{Row, taken}
use Rattle.lists.specs.Lookup.{blocks_of}
use Rattle.text.specs.Written.{Puts}

-- the text of each list taken, which its number and its blocks give, ascending
unfoldable pub of_taken : {D : Type 0} → (ℕ → List ℕ → List ℕ) → List (Row D) → List ℕ
of_taken text rs = joined (from (λ l. cond (taken l rs) (text l (blocks_of rs l)) []) 1 16)

-- a call at a list's number and its blocks puts their text
abbrev pub PutsEach : (MutBor (List ℕ) → ℕ → ℕ → Bor (List ℕ) → ℕ → MutBor (List ℕ) → Type 0) → (ℕ → List ℕ → List ℕ) → Type 0
PutsEach called text = (out : MutBor (List ℕ)) (at l : ℕ) (bs : Bor (List ℕ)) (r : ℕ) (left : MutBor (List ℕ)) → called out at l bs r left → Puts out.now at (text l bs.now) left.now r
