-- The order of stores in time. A promise speaks of the card when a function returns, and a cut can come before: so the functions that store on a card
-- require their order of the card as it is at that moment, and steps that are so required pass through the cards of a flush, or of a formatting, one by
-- one (`StepsOfFlush`, `StepsOfFormat` in disk/specs/Statements).
use Rattle.std.specs.Prelude.{◌≡◌, true, List, ◌∷◌, ℕ, suc, ◌+◌, ◌-◌, ◌*◌, ◌≤◌, ◌<◌, length, take, drop, get_or, set}
use Rattle.std.proofs.Math.Option.{some}
use Rattle.card_log.specs.declared.place.Place.{Place}
use Rattle.card_log.specs.Entry.{Entry}
use Rattle.card_log.specs.Card.{Written, segments_in, count, segment_bytes, count_offset}
use Rattle.card_log.specs.Store.{do_stores, standing, home, tail, entry_stores}

-- Store n of an entry is the next one on the card as it is: the place is the entry's behind the card's log, and the n stores before it stand.
pub record InTurn (c : List ℕ) (p : Place) (e : Entry Written) (n : ℕ) : Type 0 where
  pub behind : home (segments_in c) (tail c) e ≡ some p
  pub stand : standing (take n (entry_stores p e)) c ≡ true

-- stores k up to u of an entry, made in this order, are the next one each
abbrev pub AllInTurn : List ℕ → Place → Entry Written → ℕ → ℕ → Type 0
AllInTurn c p e k u = (n : ℕ) → k ≤ n → n < u → InTurn (do_stores (take (n - k) (drop k (entry_stores p e))) c) p e n

-- What the store of 0 in segment g's count asks for: the later segments of the card are empty already.
pub record Clearable (c : List ℕ) (g : ℕ) : Type 0 where
  pub inside : g < segments_in c
  pub behind : (h : ℕ) → g < h → h < segments_in c → count c h ≡ 0

-- the card with store n of an entry, and with segment g's count cleared
abbrev pub stored_at : List ℕ → Place → Entry Written → ℕ → List ℕ
stored_at c p e n = let x = get_or (entry_stores p e) n (0, 0) in set c x.0 x.1

abbrev pub cleared_at : List ℕ → ℕ → List ℕ
cleared_at c g = set c (segment_bytes * g + count_offset) 0

-- Some stores of a queue, of whose head n are done: each is the head's next and in turn on the card as it is, and with its last store an entry leaves
-- the queue. The last card is the one that they lead to.
pub data Steps : List ℕ → List (Entry Written) → ℕ → ℕ → List ℕ → Type 0 where
  no_step : {c : List ℕ} {q : List (Entry Written)} {n : ℕ} → Steps c q n 0 c
  more : {c : List ℕ} {e : Entry Written} {q : List (Entry Written)} {n k : ℕ} {c' : List ℕ} (p : Place) → InTurn c p e n → suc n < length (entry_stores p e)
      → Steps (stored_at c p e n) (e ∷ q) (suc n) k c' → Steps c (e ∷ q) n (suc k) c'
  last : {c : List ℕ} {e : Entry Written} {q : List (Entry Written)} {n k : ℕ} {c' : List ℕ} (p : Place) → InTurn c p e n → suc n ≡ length (entry_stores p e)
      → Steps (stored_at c p e n) q 0 k c' → Steps c (e ∷ q) n (suc k) c'

-- Some stores of a formatting: each clears the count in front of the last one cleared, and the segments behind are empty then.
pub data Clears : List ℕ → ℕ → ℕ → List ℕ → Type 0 where
  no_clear : {c : List ℕ} {g : ℕ} → Clears c g 0 c
  clear : {c : List ℕ} {g k : ℕ} {c' : List ℕ} → Clearable c g → Clears (cleared_at c g) g k c' → Clears c (suc g) (suc k) c'
