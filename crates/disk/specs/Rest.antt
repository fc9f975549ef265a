-- "Longest free number first": what document 02's request says of the order in which numbers are given and freed; statements, each proved under its own
-- name in proofs.
use Rattle.std.specs.Prelude.{◌≡◌, ◌≢◌, Bool, true, false, ◌&&◌, not, cond, List, [], ◌∷◌, ◌++◌, ℕ, ◌≤◌, eqb, leb}
use Rattle.lists.specs.Basic.{all, keep, times}
use Rattle.lists.specs.InUse.{is_free}
use Rattle.lists.specs.Numbers.{list_number, all_numbers}
use Rattle.disk.specs.Record.{holder_of, listed_in}
use Rattle.disk.specs.Disk.{Disk, persistent, committed}
use Rattle.disk.specs.Sound.{lengths_right, record_sound}
use Rattle.disk.specs.Call.{Edit, new_list, new_block, write_block, delete_block, delete_list, Call, format, mount, conflict_count, on_stream, in_view, begin, end, flush, resets}
use Rattle.disk.specs.Questions.{refusal}
use Rattle.disk.specs.Perform.{perform, perform_all}

-- "After mounting, the log's order of freeing counts"
abbrev pub MountOrder : Type 0
MountOrder = (d : Disk) → refusal mount d ≡ 0 → listed_in (perform mount d).disk.rec ≡ (persistent d).free

-- "numbers never used come first, ascending": after a formatting, all of them
abbrev pub FormatOrder : Type 0
FormatOrder = (d : Disk) → refusal format d ≡ 0 → listed_in (perform format d).disk.rec ≡ all_numbers

-- does number n not stand in the list?
abbrev pub outside : List ℕ → ℕ → Bool
outside xs n = eqb (times n xs) 0

-- the number that an edit, or a call, gives where it returns n: none or one
unfoldable pub edit_gives : Edit → ℕ → List ℕ
edit_gives new_list n = list_number n ∷ []
edit_gives (new_block l p) n = n ∷ []
edit_gives (write_block b r x) n = []
edit_gives (delete_block b) n = []
edit_gives (delete_list l) n = []

unfoldable pub call_gives : Call → ℕ → List ℕ
call_gives format n = []
call_gives mount n = []
call_gives (conflict_count w) n = []
call_gives (on_stream s e) n = edit_gives e n
call_gives (in_view v k) n = []
call_gives (begin u w) n = []
call_gives (end u) n = []
call_gives (flush a) n = []

-- the number that a call gives: one that is refused gives none
unfoldable pub given_by : Call → Disk → List ℕ
given_by c d = cond (eqb (refusal c d) 0) (call_gives c (perform c d).answer.value) []

-- the numbers that a call makes free, in the order in which they join: those listed after it that were not before
unfoldable pub freed_by : Call → Disk → List ℕ
freed_by c d = keep (outside (listed_in d.rec)) (listed_in (perform c d).disk.rec)

-- How the order goes on between two mountings: a number given leaves it, wherever it stands, those freed come behind all others, and nothing else moves.
abbrev pub OrderGrows : Type 0
OrderGrows =
    (c : Call) (d : Disk) → resets c ≡ false → lengths_right d ≡ true → record_sound d ≡ true
    → listed_in (perform c d).disk.rec ≡ keep (outside (given_by c d)) (listed_in d.rec) ++ freed_by c d

-- number m stands before number n in the list
pub record Before (m n : ℕ) (xs : List ℕ) : Type 0 where
  pub front : List ℕ
  pub middle : List ℕ
  pub back : List ℕ
  pub was : xs ≡ front ++ m ∷ (middle ++ n ∷ back)

-- every number that a call makes free stands behind every number that was free before it and is still
abbrev pub FreedLast : Type 0
FreedLast =
    (c : Call) (d : Disk) (m n : ℕ) → resets c ≡ false → lengths_right d ≡ true → record_sound d ≡ true
    → 1 ≤ times m (listed_in d.rec) → times m (given_by c d) ≡ 0 → 1 ≤ times n (freed_by c d) → Before m n (listed_in (perform c d).disk.rec)

-- the numbers that calls give, one after the other; are they calls between two mountings?
unfoldable pub given_all : List Call → Disk → List ℕ
given_all [] d = []
given_all (c ∷ cs) d = given_by c d ++ given_all cs (perform c d).disk

abbrev pub no_reset : List Call → Bool
no_reset cs = all (λ c. not (resets c)) cs

-- blocks both, or lists both
abbrev pub SameKind : ℕ → ℕ → Type 0
SameKind m n = leb m 64 ≡ leb n 64

-- "NewBlock and NewList now give the number that has been free longest": while m is not given, no number of its kind is that stands behind it
abbrev pub Rests : Type 0
Rests =
    (cs : List Call) (d : Disk) (m n : ℕ) → no_reset cs ≡ true → lengths_right d ≡ true → record_sound d ≡ true
    → SameKind m n → Before m n (listed_in d.rec) → times m (given_all cs d) ≡ 0 → times n (given_all cs d) ≡ 0

-- "numbers should rest as long as possible": between two mountings a number n that call c frees is not given again before every number m of its kind that
-- was free then has been given
abbrev pub FreedRests : Type 0
FreedRests =
    (c : Call) (cs : List Call) (d : Disk) (m n : ℕ) → no_reset (c ∷ cs) ≡ true → lengths_right d ≡ true → record_sound d ≡ true
    → SameKind m n → 1 ≤ times m (listed_in d.rec) → 1 ≤ times n (freed_by c d) → times m (given_all (c ∷ cs) d) ≡ 0
    → times n (given_all cs (perform c d).disk) ≡ 0

-- is number n free: not in use in the committed state, and held by no unit?
unfoldable pub is_free_now : Disk → ℕ → Bool
is_free_now d n = is_free n (committed d).lists && eqb (holder_of d.rec n) 0

-- a call makes those numbers free that are free after it and were not before, each once
abbrev pub FreedExact : Type 0
FreedExact =
    (c : Call) (d : Disk) → lengths_right d ≡ true → record_sound d ≡ true
    → (n : ℕ) → times n (freed_by c d) ≡ cond (is_free_now (perform c d).disk n && not (is_free_now d n)) 1 0

-- the freeings since disk d, the earliest first: its free numbers in their order, and then those that each call makes free
unfoldable pub freed_all : List Call → Disk → List ℕ
freed_all [] d = []
freed_all (c ∷ cs) d = freed_by c d ++ freed_all cs (perform c d).disk

unfoldable pub timeline : List Call → Disk → List ℕ
timeline cs d = listed_in d.rec ++ freed_all cs d

-- each number of a list where it stands last
unfoldable pub latest : List ℕ → List ℕ
latest [] = []
latest (n ∷ ns) = cond (outside ns n) (n ∷ latest ns) (latest ns)

-- "the number that has been free longest": the free numbers are listed by the time of their latest freeing
abbrev pub FreeLongest : Type 0
FreeLongest =
    (cs : List Call) (d : Disk) → no_reset cs ≡ true → lengths_right d ≡ true → record_sound d ≡ true
    → let e = perform_all cs d in listed_in e.rec ≡ keep (is_free_now e) (latest (timeline cs d))

-- "NewBlock and NewList now give the number that has been free longest": n is given, m another number of its kind that is free, and its latest freeing
-- came later
abbrev pub GivesLongest : Type 0
GivesLongest =
    (cs : List Call) (c : Call) (d : Disk) (m n : ℕ) → no_reset cs ≡ true → lengths_right d ≡ true → record_sound d ≡ true
    → let e = perform_all cs d in 1 ≤ times n (given_by c e) → SameKind m n → is_free_now e m ≡ true → m ≢ n → Before n m (latest (timeline cs d))
