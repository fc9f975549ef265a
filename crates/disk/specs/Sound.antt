-- Questions 1 and 3: the lent lengths, and the record's soundness, clause by clause.
use Rattle.std.specs.Prelude.{Bool, ◌&&◌, ◌||◌, not, cond, List, [], ◌∷◌, ℕ, leb, eqb, ltb, length, drop}
use Rattle.lists.specs.Basic.{is_some, all, each, times, from}
use Rattle.lists.specs.Change.{Change}
use Rattle.lists.specs.State.{Row}
use Rattle.lists.specs.InUse.{number_count, is_number, in_use, brings}
use Rattle.lists.specs.Numbers.{all_numbers}
use Rattle.card_log.specs.Entry.{Entry, member, raw, legal}
use Rattle.card_log.specs.Card.{Written, card_length, segments_in}
use Rattle.card_log.specs.Store.{home, tail, head_at}
use Rattle.disk.specs.Record.{Record, shaped, unit_at, is_open, holder_of, listed_in, queue_places, journal_places, unit_count, window_count}
use Rattle.disk.specs.Disk.{Disk, unit_of, queued, journal_of, committed, committed_reader}

-- "1. Are the lent lengths of card, queue data and journal data right?"
unfoldable pub lengths_right : Disk → Bool
lengths_right d = card_length d.card && eqb (length d.queue_data) 8192 && eqb (length d.journal_data) 15360

-- is u the number of an open unit?
unfoldable pub open_unit : Record → ℕ → Bool
open_unit r u = leb 1 u && leb u unit_count && is_open (unit_at r u)

abbrev pub is_open_unit : Disk → ℕ → Bool
is_open_unit d u = open_unit d.rec u

-- "each block a journal puts held by that unit, journals only of kinds that have a member map", "each list a journal takes is held by that unit"
unfoldable pub journal_sound : Record → ℕ → Change Written → Bool
journal_sound r u c = legal (raw 0 (member c)) && all (λ n. eqb (holder_of r n) u) (brings c)

-- "counts [..] in range, closed units with empty journals"; the window of an open unit is one of 1 to 16
unfoldable pub unit_sound : Disk → ℕ → Bool
unit_sound d u =
    each
    (leb (unit_of d u).len journal_places ∷ leb (unit_of d u).window window_count
    ∷ (is_open (unit_of d u) || eqb (unit_of d u).len 0)
    ∷ all (journal_sound d.rec u) (journal_of d u)
    ∷ [])

-- "[closed units with] nothing held", "held blocks on no committed list and held once", "A held list number is not taken in the committed state and is
-- held once": the table names one holder for each number; rs are the lists of the committed state
unfoldable pub holder_sound : {D : Type 0} → Record → List (Row D) → ℕ → Bool
holder_sound r rs n = eqb (holder_of r n) 0 || open_unit r (holder_of r n) && not (in_use n rs)

-- "counts and numbers in range": the numbers listed, and 0 in the places behind them
unfoldable pub order_sound : Record → Bool
order_sound r = leb r.tally.listed number_count && all is_number (listed_in r) && all (λ n. eqb n 0) (drop r.tally.listed r.tally.order)

-- "question 3 wants each free number and no other listed, once, and believes their order.": how often number n is to be listed, and it is so often
unfoldable pub due_times : {D : Type 0} → Record → List (Row D) → ℕ → ℕ
due_times r rs n = cond (not (in_use n rs) && eqb (holder_of r n) 0) 1 0

unfoldable pub listed_sound : {D : Type 0} → Record → List (Row D) → ℕ → Bool
listed_sound r rs n = eqb (times n (listed_in r)) (due_times r rs n)

-- "stores already done of the head (none if it has no place) standing on the card": k of them are done
unfoldable pub head_standing : List ℕ → ℕ → List (Entry Written) → Bool
head_standing c k [] = eqb k 0
head_standing c k (e ∷ q) = head_at c k (home (segments_in c) (tail c) e) e

-- "3. Is the record sound: counts and numbers in range, [..] card acceptable followed by the queue, [..]?" No table is kept for speed.
unfoldable pub record_sound : Disk → Bool
record_sound d =
    let r = d.rec in
    let rs = (committed d).lists in
    each
    (shaped r
    ∷ leb r.ring.len queue_places ∷ ltb r.ring.head queue_places
    ∷ order_sound r
    ∷ all (λ e. legal (raw 0 e)) (queued d)
    ∷ all (unit_sound d) (from (λ u. u) 1 unit_count)
    ∷ is_some (committed_reader d)
    ∷ head_standing d.card r.ring.done (queued d)
    ∷ all (holder_sound r rs) all_numbers
    ∷ all (listed_sound r rs) all_numbers
    ∷ [])
