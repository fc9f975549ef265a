-- The record's order of the free numbers, place by place.
use Rattle.std.specs.Prelude.{◌≡◌, not, cond, Option, Some, None, List, [], ◌∷◌, ◌++◌, ℕ, ◌+◌, ◌≤◌, eqb, ltb, get_or, set}
use Rattle.std.proofs.Math.Option as math
use Rattle.lists.specs.Basic.{keep}
use Rattle.lists.specs.Change.{Change, map_change}
use Rattle.lists.specs.State.{Row, changed, frees, free_after}
use Rattle.lists.specs.InUse.{number_count, brings}
use Rattle.lists.specs.promises.Tables.{Tables, ShowsWith, OfShownAll, last_or0}
use Rattle.card_log.specs.Raced.{Raced}
use Rattle.card_log.specs.Entry.{as_change}
use Rattle.card_log.specs.declared.entry.LogEntry.{LogEntry}
use Rattle.disk.specs.Record.{Record, listed_in, padded, with_tally, with_listed}

-- what a function returns, in the definitions' words
abbrev pub as_option : Option ℕ → math.Option ℕ
as_option None = math.none
as_option (Some n) = math.some n

-- another number in place k; so many listed
abbrev pub with_place : ℕ → ℕ → Record → Record
with_place k n r = with_tally r (set r.tally.order k n) r.tally.listed r.tally.conflicts

abbrev pub with_many : ℕ → Record → Record
with_many n r = with_tally r r.tally.order n r.tally.conflicts

-- as question 3 wants it: at most 80 listed, and 0 in the places behind them
pub record Padded (r : Record) : Type 0 where
  pub many : r.tally.listed ≤ number_count
  pub behind : r.tally.order ≡ padded (listed_in r)

-- another order of that kind; the queue, the units and the holders as they were
pub record Reorders (r r' : Record) : Type 0 where
  pub padded : Padded r'
  pub ring : r'.ring ≡ r.ring
  pub held : r'.held ≡ r.held

-- number n out of their order; numbers at its end
abbrev pub unlisted : ℕ → Record → Record
unlisted n r = with_listed (keep (λ m. not (eqb m n)) (listed_in r)) r

abbrev pub listed_last : List ℕ → Record → Record
listed_last ns r = with_listed (listed_in r ++ ns) r

-- number n at the end, while a place is left; that one is left where a sound record takes a number is a law
unfoldable pub pushed : ℕ → Record → Record
pushed n r = cond (ltb r.tally.listed number_count) (listed_last (n ∷ []) r) r

unfoldable pub pushed_all : List ℕ → Record → Record
pushed_all [] r = r
pushed_all (n ∷ ns) r = pushed_all ns (pushed n r)

-- what a change made in lists rs does to the order: the number that it brings into use goes, those that it frees come; and changes one after the other
unfoldable pub relisted_by : {D : Type 0} → Change D → List (Row D) → Record → Record
relisted_by c rs r = pushed_all (frees c rs) (elim (brings c) [ [] ↦ r | n ∷ ns ↦ unlisted n r ])

unfoldable pub relisted_all : {D : Type 0} → List (Change D) → List (Row D) → Record → Record
relisted_all [] rs r = r
relisted_all (c ∷ cs) rs r = relisted_all cs (changed c rs) (relisted_by c rs r)

-- A step of taking number n out: place k is emptied, and its number goes to place j, where m then is the next one, unless it is n.
pub record Moves (n k j : ℕ) (r : Record) (m : ℕ) (r' : Record) : Type 0 where
  pub next : m ≡ cond (eqb (get_or r.tally.order k 0) n) j (j + 1)
  pub left : r' ≡ cond (eqb (get_or r.tally.order k 0) n) (with_place k 0 r) (with_place j (get_or r.tally.order k 0) (with_place k 0 r))

-- the free numbers that tables show behind number n join the order, one after the other
abbrev pub ListsFree : Tables → ℕ → Record → Record → Type 0
ListsFree t n r r' = OfShownAll t (λ rs fs. (pre post : List ℕ) → fs ≡ pre ++ post → n ≡ last_or0 pre → r' ≡ pushed_all post r)

-- What an entry that acted does to the order, where the tables show the free numbers after it, and n was the last free one before it. What stands for a
-- write's bytes there does not matter.
abbrev pub Relists : LogEntry → ℕ → Tables → Record → Record → Type 0
Relists e n t r r' = (g : Raced ℕ → ℕ) (rs rs' : List (Row ℕ)) (fs : List ℕ)
    → ShowsWith t rs' (free_after (map_change g (as_change e)) rs fs) → n ≡ last_or0 fs → r' ≡ relisted_by (map_change g (as_change e)) rs r
