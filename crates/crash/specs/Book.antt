-- The book: "fed calls and cuts, which calls are accepted, which are refused 12 and the numbers given, nothing of the record".
use Rattle.std.specs.Prelude.{Bool, true, false, List, [], ◌∷◌, ◌++◌, map, ℕ, zero, suc, ◌+◌, ◌-◌, ◌*◌, eqb, length, get_or, set, replicate}
use Rattle.std.proofs.Math.Option.{Option, none, some}
use Rattle.lists.specs.Basic.{bind, any}
use Rattle.lists.specs.Change.{Change}
use Rattle.card_log.specs.Entry.{Entry, plain, member, commit, carried, entry_length}
use Rattle.card_log.specs.Card.{Written, used_by, slot_bytes}
use Rattle.card_log.specs.Store.{opened, after_all, home}
use Rattle.card_log.specs.declared.place.Place.{Place}
use Rattle.disk.specs.Record.{unit_count}
use Rattle.disk.specs.Call.{Call, format, mount, conflict_count, on_stream, in_view, begin, end, flush, ends}
use Rattle.disk.specs.Perform.{change_for}
use Rattle.answers.specs.Answers.{Answer}
use Rattle.crash.specs.Event.{Event, called, cut_between, cut_flush, cut_format}

-- an entry of the serial history: a simple change alone, or a unit's changes as one
abbrev pub Act : Type 0
Act = List (Change Written)

-- a log entry that waits or is placed, with the number of the history's entry that its last store closes
pub record Waiting : Type 0 where
  pub entry : Entry Written
  pub closes : Option ℕ

-- the serial history, the waiting line, the stores done of its first entry, each unit's batch, and what each segment holds
pub record Book : Type 0 where
  pub history : List Act
  pub line : List Waiting
  pub done : ℕ
  pub batches : List (List (Change Written))
  pub segs : List (List Waiting)

unfoldable pub empty_book : ℕ → Book
empty_book n = record { history = []; line = []; done = 0; batches = replicate unit_count []; segs = replicate n [] }

unfoldable pub batch_of : Book → ℕ → List (Change Written)
batch_of b u = get_or b.batches (u - 1) []

unfoldable pub with_batch : Book → ℕ → List (Change Written) → Book
with_batch b u cs = record { history = b.history; line = b.line; done = b.done; batches = set b.batches (u - 1) cs; segs = b.segs }

-- an entry joins the serial history; log entries join the waiting line, e behind the others, whose last store closes it
unfoldable pub join_history : Act → List Waiting → Entry Written → Book → Book
join_history cs ws e b = record {
  history = b.history ++ cs ∷ [];
  line = b.line ++ (ws ++ record { entry = e; closes = some (length b.history) } ∷ []);
  done = b.done;
  batches = b.batches;
  segs = b.segs;
}

-- "An accepted simple change [..] joins the serial history, and its log entry the waiting line." "Other accepted changes in a unit join that unit's
-- batch", and "the book puts such a NewList into its unit's batch".
unfoldable pub join : ℕ → Change Written → Book → Book
join s c b = elim s [ zero ↦ join_history (c ∷ []) [] (plain c) b | suc u ↦ with_batch b (suc u) (batch_of b (suc u) ++ c ∷ []) ]

unfoldable pub member_of : Change Written → Waiting
member_of c = record { entry = member c; closes = none }

-- "An accepted End joins the history as one entry; its batch as members, then the commit, goes to the line."
unfoldable pub join_unit : ℕ → Book → Book
join_unit u b = let cs = batch_of b u in with_batch (join_history cs (map member_of cs) (commit (length cs)) b) u []

-- "each entry takes one store more than its length, a write 256 besides"
unfoldable pub cost : Entry Written → ℕ
cost e = suc (entry_length e) + slot_bytes * used_by (carried e)

unfoldable pub entries_of : List Waiting → List (Entry Written)
entries_of ws = map (λ (w : Waiting). w.entry) ws

unfoldable pub placed_entries : Book → List (List (Entry Written))
placed_entries b = map entries_of b.segs

-- "the last segment in use, 0 if none is": of segments from g on, l being the last before them
unfoldable pub last_in_use : ℕ → ℕ → List (List (Entry Written)) → ℕ
last_in_use l g [] = l
last_in_use l g ([] ∷ ss) = last_in_use l (suc g) ss
last_in_use l g ((e ∷ es) ∷ ss) = last_in_use g (suc g) ss

-- the place behind its entries
unfoldable pub place_of : List (List (Entry Written)) → Place
place_of ess = after_all (opened (last_in_use 0 0 ess)) (get_or ess (last_in_use 0 0 ess) [])

unfoldable pub move_to : ℕ → Waiting → List (List Waiting) → List (List Waiting)
move_to g w ss = set ss g (get_or ss g [] ++ w ∷ [])

-- one store along the line: "The last of them, its closing store [..], moves it from the line to the last segment in use, 0 if none is, or, not
-- fitting, to the next."
unfoldable pub book_store : Book → Option Book
book_store b = elim b.line [
  | [] ↦ none
  | w ∷ ws ↦ bind (home (length b.segs) (place_of (placed_entries b)) w.entry) (λ p.
      elim (eqb (suc b.done) (cost w.entry)) [
        | true ↦ some (record { history = b.history; line = ws; done = 0; batches = b.batches; segs = move_to p.segment w b.segs })
        | false ↦ some (record { history = b.history; line = b.line; done = suc b.done; batches = b.batches; segs = b.segs })
      ])
]

-- "An accepted flush goes along the line from where the last one stopped, up to its ending or its cut"
unfoldable pub book_flush : ℕ → Book → Book
book_flush zero b = b
book_flush (suc a) b = elim (book_store b) [ none ↦ b | some b' ↦ book_flush a b' ]

-- the first m of some lists, the others emptied
unfoldable pub keep_first : {A : Type 0} → ℕ → List (List A) → List (List A)
keep_first m [] = []
keep_first zero (s ∷ ss) = [] ∷ keep_first zero ss
keep_first (suc m) (s ∷ ss) = s ∷ keep_first m ss

-- "Store k of a formatting empties the k-th segment from the end, taking its closing stores off the card."
unfoldable pub book_format : ℕ → Book → Book
book_format k b = record {
  history = b.history;
  line = b.line;
  done = b.done;
  batches = b.batches;
  segs = keep_first (length b.segs - k) b.segs;
}

-- is the closing store of the history's entry n on the card?
unfoldable pub is_number : ℕ → Option ℕ → Bool
is_number n none = false
is_number n (some m) = eqb n m

unfoldable pub closing_on_card : List (List Waiting) → ℕ → Bool
closing_on_card ss n = any (any (λ w. is_number n w.closes)) ss

-- "its longest prefix whose closing stores are on the card"
unfoldable pub longest : (ℕ → Bool) → ℕ → List Act → List Act
longest p i [] = []
longest p i (h ∷ hs) = elim (p i) [ true ↦ h ∷ longest p (suc i) hs | false ↦ [] ]

unfoldable pub on_card : Book → List Act
on_card b = longest (closing_on_card b.segs) 0 b.history

-- "An accepted mount or formatting, or a cut, clears line and batches, and the history becomes its longest prefix [..]."
unfoldable pub settle : Book → Book
settle b = record { history = on_card b; line = []; done = 0; batches = replicate unit_count []; segs = b.segs }

-- an accepted call, with the number that it gave. "Nothing else changes it."
unfoldable pub book_accepted : Call → ℕ → Book → Book
book_accepted format n b = settle (book_format (length b.segs) b)
book_accepted mount n b = settle b
book_accepted (conflict_count w) n b = b
book_accepted (on_stream s e) n b = join s (change_for e n) b
book_accepted (in_view v k) n b = b
book_accepted (begin u w) n b = b
book_accepted (end u) n b = join_unit u b
book_accepted (flush a) n b = book_flush a b

-- "refusal 12 drops it", the unit's batch
unfoldable pub book_refused : Call → ℕ → Book → Book
book_refused c n b = elim (ends c) [ none ↦ b | some u ↦ elim (eqb n 12) [ true ↦ with_batch b u [] | false ↦ b ] ]

unfoldable pub book_called : Call → Answer → Book → Book
book_called c a b = elim a.code [ zero ↦ book_accepted c a.value b | suc n ↦ book_refused c (suc n) b ]

unfoldable pub book_step : Book → Event → Option Answer → Book
book_step b (called c p) none = b
book_step b (called c p) (some a) = book_called c a b
book_step b (cut_between x) a = settle b
book_step b (cut_flush m k x) a = settle (book_flush k b)
book_step b (cut_format k x) a = settle (book_format k b)
