-- What a listing asks for and promises, entry by entry: its functions list the stores of one entry, of the queue's head, and of the queue.
use Rattle.std.specs.Prelude.{◌≡◌, true, List, ◌∷◌, map, ℕ, ◌+◌, ◌-◌, ◌≤◌, ◌<◌, length, take, drop, get_or}
use Rattle.std.proofs.Common.{ControlFlow, Continue, Break}
use Rattle.std.proofs.lemmas.List.Edits.{sets}
use Rattle.card_log.specs.declared.place.Place.{Place}
use Rattle.card_log.specs.Entry.{Entry}
use Rattle.card_log.specs.Card.{Written}
use Rattle.card_log.specs.Store.{Store, fits, entry_stores}
use Rattle.card_log.specs.Flush.{ahead}
use Rattle.card_log.specs.promises.Within.{Within}
use Rattle.driver.specs.Stores.{word}

-- store k of entry e at place p
abbrev pub store_at : Place → Entry Written → ℕ → Store
store_at p e k = get_or (entry_stores p e) k (0, 0)

-- k words stand in buffer x, and the stores ss are listed behind them: how many words there are then, and what the buffer holds
abbrev pub listed : ℕ → List Store → List ℕ → ℕ × List ℕ
listed k ss x = (k + length ss, sets x k (map word ss))

-- What listing the stores of an entry from number k on asks for: a place on some card with room for the entry.
pub record Listable (p : Place) (e : Entry Written) (k : ℕ) : Type 0 where
  pub within : Within p
  pub room : fits p e ≡ true
  pub inside : p.segment < 64
  pub left : k < length (entry_stores p e)

-- The head e behind place p on a card of n segments, k of its stores being made. How many it takes does not depend on its place.
pub record HeadListable (n : ℕ) (p : Place) (e : Entry Written) (k : ℕ) : Type 0 where
  pub few : n ≤ 64
  pub within : Within p
  pub inside : p.segment < n
  pub left : k < length (entry_stores p e)

-- the stores of the head are listed, t words stand in the buffer x', of at most m, and the log goes on at p'
pub record HeadListed (n : ℕ) (p : Place) (e : Entry Written) (k m at : ℕ) (x : List ℕ) (p' : Place) (t : ℕ) (x' : List ℕ) : Type 0 where
  pub within : Within p'
  pub inside : p'.segment < n
  pub most : t ≤ m
  pub onward : (q : List (Entry Written)) → listed at (take (m - at) (drop k (ahead n p (e ∷ q)))) x ≡ listed t (take (m - t) (ahead n p' q)) x'

-- the listing of at most m stores, at of which stand in buffer x, up to where the head is listed, or up to its end
abbrev pub HeadLists : ℕ → Place → Entry Written → ℕ → ℕ → ℕ → List ℕ → ControlFlow ℕ (Place × ℕ) → List ℕ → Type 0
HeadLists n p e k m at x (Break t) x' = (q : List (Entry Written)) → listed at (take (m - at) (drop k (ahead n p (e ∷ q)))) x ≡ (t, x')
HeadLists n p e k m at x (Continue (p', t)) x' = HeadListed n p e k m at x p' t x'
