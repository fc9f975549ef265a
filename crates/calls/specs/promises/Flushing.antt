-- What a flush asks for and promises, entry by entry: its functions do the stores of one entry, of the queue's head, and of the queue.
use Rattle.std.specs.Prelude.{◌≡◌, true, List, [], ◌∷◌, ℕ, ◌+◌, ◌-◌, ◌≤◌, ◌<◌, length, drop, Ok}
use Rattle.std.proofs.Math.Option.{some}
use Rattle.card_log.specs.declared.place.Place.{Place}
use Rattle.card_log.specs.Entry.{Entry}
use Rattle.card_log.specs.Card.{Written, segments_in}
use Rattle.card_log.specs.Store.{do_stores, after, home, tail, entry_stores}
use Rattle.card_log.specs.Flush.{Flow, full, spent, flush_from}
use Rattle.card_log.specs.promises.Within.{Within}
use Rattle.card_log.specs.Turns.{AllInTurn}
use Rattle.disk.specs.Record.{Record}
use Rattle.answers.specs.declared.Flushed.{Flushed}
use Rattle.disk.specs.Disk.{disk, queued_at}
use Rattle.disk.specs.Sound.{lengths_right, record_sound}
use Rattle.disk.specs.Call.{flush}
use Rattle.disk.specs.Perform.{accepted}
use Rattle.answers.specs.Answers.{flush_answer}
use Rattle.calls.specs.declared.drain.Headed.{Headed}
use Rattle.calls.specs.declared.drain.Headed.TheVariants.{Full, Spent, Drained}

-- the log on card c ends at p, queue q is left, and k stores of its head are done
abbrev pub flow : List ℕ → Place → List (Entry Written) → ℕ → Flow
flow c p q k = record { card = c; place = p; queue = q; done = k }

-- The head e behind place p, k of its stores being done. How many it takes does not depend on its place; at its place those that are left are in turn.
pub record HeadReady (c : List ℕ) (p : Place) (e : Entry Written) (k : ℕ) : Type 0 where
  pub within : Within p
  pub inside : p.segment < segments_in c
  pub left : k < length (entry_stores p e)
  pub turns : (h : Place) → home (segments_in c) p e ≡ some h → AllInTurn c h e k (length (entry_stores h e))

-- the head is on the card: n stores of the allowance a went into it, and the log ends at p'
pub record HeadDrained (c : List ℕ) (p : Place) (e : Entry Written) (k a : ℕ) (p' : Place) (n : ℕ) (c' : List ℕ) : Type 0 where
  pub within : Within p'
  pub inside : p'.segment < segments_in c
  pub few : n ≤ a
  pub place : Place
  pub found : home (segments_in c) p e ≡ some place
  pub behind : p' ≡ after place e
  pub card : c' ≡ do_stores (drop k (entry_stores place e)) c
  pub onward : (q : List (Entry Written)) (m : ℕ) → flush_from (segments_in c) a m (flow c p (e ∷ q) k) ≡ flush_from (segments_in c) (a - n) (m + n) (flow c' p' q 0)

-- the flush with allowance a up to where the head has left the queue, or up to its ending
abbrev pub Heads : List ℕ → Place → Entry Written → ℕ → ℕ → Headed → List ℕ → Type 0
Heads c p e k a Full c' =
    (q : List (Entry Written)) (m : ℕ) → flush_from (segments_in c) a m (flow c p (e ∷ q) k) ≡ record { flow = flow c' p (e ∷ q) k; stores = m; ending = full }
Heads c p e k a (Spent k') c' =
    (k' < length (entry_stores p e))
    × ((q : List (Entry Written)) (m : ℕ) → flush_from (segments_in c) a m (flow c p (e ∷ q) k) ≡ record { flow = flow c' p (e ∷ q) k'; stores = m + a; ending = spent })
Heads c p e k a (Drained p' n) c' = HeadDrained c p e k a p' n c'

-- a disk with a sound record, p being the place behind its log
pub record Flushable (c q : List ℕ) (r : Record) (p : Place) : Type 0 where
  pub place : p ≡ tail c
  pub within : Within p
  pub inside : p.segment < segments_in c
  pub room : r.ring.len ≤ 32
  pub head : r.ring.head < 32
  pub queue_data : length q ≡ 8192
  pub begun : 0 < r.ring.len → r.ring.done < length (entry_stores p (queued_at (disk c q [] r) 0))
  pub journal_data : List ℕ
  pub lengths : lengths_right (disk c q journal_data r) ≡ true
  pub sound : record_sound (disk c q journal_data r) ≡ true

-- such a flush with allowance a leaves card and record, and answers x
abbrev pub Flushes : ℕ → List ℕ → List ℕ → Record → List ℕ → Record → Flushed → Type 0
Flushes a c q r c' r' x = (j : List ℕ) → accepted (flush a) (disk c q j r) ≡ record { disk = disk c' q j r'; answer = flush_answer (Ok x); lent = [] }
