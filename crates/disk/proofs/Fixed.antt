-- The record's parts fix its bytes.
use mathlib.Core.Path.{◌≡◌, sym, ap, ◌∙◌}
use mathlib.Core.List.{List}
use Prim.Native.Nat.{ℕ, zero, suc, ◌+◌, ◌-◌, ◌*◌, ◌/◌, ◌%◌, ◌≤◌, ◌<◌}
use native.Mathlib.Omega.{arith}
use native.Mathlib.Decide.{dec_lt, ℕ_discrete}
use lib.ListN.{get_or}
use lib.Seq.{ext_get_or}
use Rattle.card_log.specs.Cell.{Cell, cell}
use Rattle.disk.specs.Record.{Unit, Record, cells_in, bytes_in, pair_in, pairs_in, unit_in, record_in, no_cell, unit_at}
use Rattle.disk.specs.Statements.{IsBytes, RecordFixed}
use Rattle.disk.proofs.Bytes.{cell-read, byte-read, pair_read, unit-read}

module _ (bs cs : List ℕ) where
  -- of cells, from byte a on
  cells-fixed : (a n : ℕ) → cells_in bs a n ≡ cells_in cs a n → (i : ℕ) → a ≤ i → i < a + 4 * n → get_or bs i 0 ≡ get_or cs i 0
  cells-fixed a n e i p q = go (ℕ_discrete ((i - a) % 4) 0) (ℕ_discrete ((i - a) % 4) 1) (ℕ_discrete ((i - a) % 4) 2)
    where
      k : ℕ
      k = (i - a) / 4

      same : (k : ℕ) → k < n
          → cell (get_or bs (a + 4 * k) 0) (get_or bs (a + 4 * k + 1) 0) (get_or bs (a + 4 * k + 2) 0) (get_or bs (a + 4 * k + 3) 0)
          ≡ cell (get_or cs (a + 4 * k) 0) (get_or cs (a + 4 * k + 1) 0) (get_or cs (a + 4 * k + 2) 0) (get_or cs (a + 4 * k + 3) 0)
      same k l = sym (cell-read bs a n k l) ∙ ap (λ (x : List Cell). get_or x k no_cell) e ∙ cell-read cs a n k l

      at : (j : ℕ) → i ≡ j → get_or bs j 0 ≡ get_or cs j 0 → get_or bs i 0 ≡ get_or cs i 0
      at j m h = rw m h

      go : Dec ((i - a) % 4 ≡ 0) → Dec ((i - a) % 4 ≡ 1) → Dec ((i - a) % 4 ≡ 2) → get_or bs i 0 ≡ get_or cs i 0
      go (yes m) y z = at (a + 4 * ((i - a) / 4)) (omega arith) (ap (λ (x : Cell). x.map) (same ((i - a) / 4) (omega arith)))
      go (no m) (yes y) z = at (a + 4 * ((i - a) / 4) + 1) (omega arith) (ap (λ (x : Cell). x.first) (same ((i - a) / 4) (omega arith)))
      go (no m) (no y) (yes z) = at (a + 4 * ((i - a) / 4) + 2) (omega arith) (ap (λ (x : Cell). x.second) (same ((i - a) / 4) (omega arith)))
      go (no m) (no y) (no z) = at (a + 4 * ((i - a) / 4) + 3) (omega arith) (ap (λ (x : Cell). x.third) (same ((i - a) / 4) (omega arith)))

  -- of bytes
  bytes-fixed : (a n : ℕ) → bytes_in bs a n ≡ bytes_in cs a n → (i : ℕ) → a ≤ i → i < a + n → get_or bs i 0 ≡ get_or cs i 0
  bytes-fixed a n e i p q =
      let m : i ≡ a + (i - a) = omega arith in
      rw m (sym (byte-read bs a n (i - a) (omega arith)) ∙ ap (λ (x : List ℕ). get_or x (i - a) 0) e ∙ byte-read cs a n (i - a) (omega arith))

  -- of numbers in two bytes
  pairs-fixed : IsBytes bs → IsBytes cs → (a n : ℕ) → pairs_in bs a n ≡ pairs_in cs a n → (i : ℕ) → a ≤ i → i < a + 2 * n → get_or bs i 0 ≡ get_or cs i 0
  pairs-fixed x y a n e i p q = go (ℕ_discrete ((i - a) % 2) 0)
    where
      same : (k : ℕ) → k < n → pair_in bs (a + 2 * k) ≡ pair_in cs (a + 2 * k)
      same k l = sym (pair_read bs a n k l) ∙ ap (λ (z : List ℕ). get_or z k 0) e ∙ pair_read cs a n k l

      at : (j : ℕ) → i ≡ j → get_or bs j 0 ≡ get_or cs j 0 → get_or bs i 0 ≡ get_or cs i 0
      at j m h = rw m h

      low : (k : ℕ) → k < n → get_or bs (a + 2 * k) 0 ≡ get_or cs (a + 2 * k) 0
      low k l = omega (arith, same k l, x (a + 2 * k), y (a + 2 * k))

      high : (k : ℕ) → k < n → get_or bs (a + 2 * k + 1) 0 ≡ get_or cs (a + 2 * k + 1) 0
      high k l = omega (arith, same k l, x (a + 2 * k), y (a + 2 * k))

      go : Dec ((i - a) % 2 ≡ 0) → get_or bs i 0 ≡ get_or cs i 0
      go (yes m) = at (a + 2 * ((i - a) / 2)) (omega arith) (low ((i - a) / 2) (omega arith))
      go (no m) = at (a + 2 * ((i - a) / 2) + 1) (omega arith) (high ((i - a) / 2) (omega arith))

  module _ (e : record_in bs ≡ record_in cs) where
    unit-fixed : (i : ℕ) → i < 4 → unit_in bs i ≡ unit_in cs i
    unit-fixed i l =
        let m : i + 1 - 1 ≡ i = omega arith in
        rw m at (sym (unit-read bs (i + 1) (omega arith) (omega arith)) ∙ ap (λ (r : Record). unit_at r (i + 1)) e ∙ unit-read cs (i + 1) (omega arith) (omega arith))

    -- byte i of the units' journals, of unit (i - 128) / 60
    journals-fixed : (i : ℕ) → 128 ≤ i → i < 368 → get_or bs i 0 ≡ get_or cs i 0
    unfolding unit_in
    journals-fixed i p q = cells-fixed (128 + 60 * ((i - 128) / 60)) 15 (ap (λ (u : Unit). u.journal) (unit-fixed ((i - 128) / 60) (omega arith))) i (omega arith) (omega arith)

    window-fixed : (i : ℕ) → i < 4 → get_or bs (368 + i) 0 ≡ get_or cs (368 + i) 0
    unfolding unit_in
    window-fixed i l = ap (λ (u : Unit). u.window) (unit-fixed i l)

    len-fixed : (i : ℕ) → i < 4 → get_or bs (372 + i) 0 ≡ get_or cs (372 + i) 0
    unfolding unit_in
    len-fixed i l = ap (λ (u : Unit). u.len) (unit-fixed i l)

    -- the numbers behind the holders
    numbers-fixed : IsBytes bs → IsBytes cs → (k : ℕ) → k < 5 → get_or bs (456 + k) 0 ≡ get_or cs (456 + k) 0
    unfolding record_in
    numbers-fixed x y k l = go k l
      where
        done : pair_in bs 458 ≡ pair_in cs 458
        done = ap (λ (r : Record). r.ring.done) e

        go : (k : ℕ) → k < 5 → get_or bs (456 + k) 0 ≡ get_or cs (456 + k) 0
        go zero h = ap (λ (r : Record). r.ring.head) e
        go (suc zero) h = ap (λ (r : Record). r.ring.len) e
        go (suc (suc zero)) h = omega (arith, done, x 458, y 458)
        go (suc (suc (suc zero))) h = omega (arith, done, x 458, y 458)
        go (suc (suc (suc (suc zero)))) h = ap (λ (r : Record). r.tally.listed) e
        go (suc (suc (suc (suc (suc k))))) h = absurd (omega arith)

    counts-fixed : IsBytes bs → IsBytes cs → (i : ℕ) → 461 ≤ i → i < 493 → get_or bs i 0 ≡ get_or cs i 0
    unfolding record_in
    counts-fixed x y i p q = pairs-fixed x y 461 16 (ap (λ (r : Record). r.tally.conflicts) e) i p (omega arith)

    byte-fixed : IsBytes bs → IsBytes cs → (i : ℕ) → i < 573 → get_or bs i 0 ≡ get_or cs i 0
    unfolding record_in
    byte-fixed x y i l = go (dec_lt i 128) (dec_lt i 368) (dec_lt i 372) (dec_lt i 376) (dec_lt i 456) (dec_lt i 461) (dec_lt i 493)
      where
        at : (j : ℕ) → i ≡ j → get_or bs j 0 ≡ get_or cs j 0 → get_or bs i 0 ≡ get_or cs i 0
        at j m h = rw m h

        go : Dec (i < 128) → Dec (i < 368) → Dec (i < 372) → Dec (i < 376) → Dec (i < 456) → Dec (i < 461) → Dec (i < 493) → get_or bs i 0 ≡ get_or cs i 0
        go (yes p) q r s t u v = cells-fixed 0 32 (ap (λ (r : Record). r.ring.queue) e) i (omega arith) (omega arith)
        go (no p) (yes q) r s t u v = journals-fixed i (omega arith) q
        go (no p) (no q) (yes r) s t u v = at (368 + (i - 368)) (omega arith) (window-fixed (i - 368) (omega arith))
        go (no p) (no q) (no r) (yes s) t u v = at (372 + (i - 372)) (omega arith) (len-fixed (i - 372) (omega arith))
        go (no p) (no q) (no r) (no s) (yes t) u v = bytes-fixed 376 80 (ap (λ (r : Record). r.held.holder) e) i (omega arith) (omega arith)
        go (no p) (no q) (no r) (no s) (no t) (yes u) v = at (456 + (i - 456)) (omega arith) (numbers-fixed x y (i - 456) (omega arith))
        go (no p) (no q) (no r) (no s) (no t) (no u) (yes v) = counts-fixed x y i (omega arith) v
        go (no p) (no q) (no r) (no s) (no t) (no u) (no v) = bytes-fixed 493 80 (ap (λ (r : Record). r.tally.order) e) i (omega arith) (omega arith)

pub record-fixed : RecordFixed
record-fixed bs cs l m x y e = ext_get_or 0 bs cs (l ∙ sym m) (λ i h. byte-fixed bs cs e x y i (rw l at h))
