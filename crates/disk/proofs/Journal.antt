-- The units and their journals: a change that joins one, a unit that opens or closes, and what leaves them alone.
use mathlib.Core.Path.{◌≡◌, refl, sym, ap, ◌∙◌}
use mathlib.Core.Logic.{◌≢◌}
use mathlib.Core.List.{List, [], ◌∷◌, ◌++◌, map}
use Prim.Native.Nat.{ℕ, zero, suc, ◌+◌, ◌-◌, ◌≤◌, ◌<◌}
use native.Mathlib.Omega.{arith}
use native.Mathlib.Numerals.{add-one}
use native.Mathlib.Nat.{zero-add}
use native.Mathlib.Decide.{dec_lt, ℕ_discrete}
use lib.ListN.{length, get_or, set, length-map, length-append}
use lib.Seq.{get_or-set_same, get_or-set_other}
use Rattle.lists.specs.Basic.{from}
use Rattle.lists.specs.Change.{Change, map_change, carried_by}
use Rattle.lists.proofs.Basic.{from-length, from-ext, from-snoc}
use Rattle.lists.specs.State.{State}
use Rattle.card_log.specs.Raced.{with_body}
use Rattle.card_log.specs.Entry.{Entry, plain, member, commit, carried, as_change}
use Rattle.card_log.specs.Cell.{cell_of, entry_in}
use Rattle.card_log.specs.Card.{Written, slot}
use Rattle.card_log.specs.Flush.{Flow}
use Rattle.card_log.proofs.Segment.{Sized}
use Rattle.card_log.proofs.Slot.{length-slot}
use Rattle.disk.specs.Record.{Unit, no_cell, no_unit, journaled, emptied, with_listed}
use Rattle.disk.specs.Disk.{Disk, unit_of, journal_place, journal_at, journal_of}
use Rattle.disk.specs.Perform.{enqueue, enqueue_all, after_flush, journal_add, hold, relisted, opening, closing, conflicted, unit_entries}
use Rattle.disk.proofs.Buffer.{length-spliced, filled-place, other_place}
use Rattle.disk.proofs.Queue.{beside-one, beside-all, AllSized, change-fill, change-sized}

-- What a unit is after each step.
pub unit-same : (d e : Disk) (u : ℕ) → e.rec.held.units ≡ d.rec.held.units → unit_of e u ≡ unit_of d u
unfolding unit_of
unit-same d e u h = ap (λ (us : List Unit). get_or us (u - 1) no_unit) h

pub unit-added : (u : ℕ) (c : Change Written) (d : Disk) → 1 ≤ u → u ≤ 4 → length d.rec.held.units ≡ 4
    → unit_of (journal_add u c d) u ≡ journaled (unit_of d u) (cell_of (plain c))
unfolding unit_of journal_add
unit-added u c d p q n = get_or-set_same d.rec.held.units (u - 1) _ no_unit (omega arith)

pub unit-opening : (u w : ℕ) (d : Disk) → 1 ≤ u → u ≤ 4 → length d.rec.held.units ≡ 4 → unit_of (opening u w d) u ≡ emptied w (unit_of d u)
unfolding unit_of opening
unit-opening u w d p q n = get_or-set_same d.rec.held.units (u - 1) _ no_unit (omega arith)

pub unit-closing : (u : ℕ) (t : State Written) (d : Disk) → 1 ≤ u → u ≤ 4 → length d.rec.held.units ≡ 4 → unit_of (closing u t d) u ≡ emptied 0 (unit_of d u)
unfolding unit_of closing relisted with_listed
unit-closing u t d p q n = get_or-set_same d.rec.held.units (u - 1) _ no_unit (omega arith)

module _ (u v : ℕ) (p : 1 ≤ u) (q : 1 ≤ v) (n : u ≢ v) where
  unit-other : (us : List Unit) (x : Unit) → get_or (set us (u - 1) x) (v - 1) no_unit ≡ get_or us (v - 1) no_unit
  unit-other us x = get_or-set_other us (u - 1) (v - 1) x no_unit (omega arith)

  pub unit-added-other : (c : Change Written) (d : Disk) → unit_of (journal_add u c d) v ≡ unit_of d v
  unfolding unit_of journal_add
  unit-added-other c d = unit-other d.rec.held.units _

  pub unit-opening-other : (w : ℕ) (d : Disk) → unit_of (opening u w d) v ≡ unit_of d v
  unfolding unit_of opening
  unit-opening-other w d = unit-other d.rec.held.units _

  pub unit-closing-other : (t : State Written) (d : Disk) → unit_of (closing u t d) v ≡ unit_of d v
  unfolding unit_of closing relisted with_listed
  unit-closing-other t d = unit-other d.rec.held.units _

-- Journals.
pub journal-size : (d : Disk) (u : ℕ) → length (journal_of d u) ≡ (unit_of d u).len
unfolding journal_of
journal-size d u = from-length (journal_at d u) 0 (unit_of d u).len

pub journal-none : (d : Disk) (u : ℕ) → (unit_of d u).len ≡ 0 → journal_of d u ≡ []
unfolding journal_of from
journal-none d u h = ap (from (journal_at d u) 0) h

pub journal-same : (d e : Disk) (u : ℕ) → e.journal_data ≡ d.journal_data → unit_of e u ≡ unit_of d u → journal_of e u ≡ journal_of d u
unfolding journal_of journal_at
journal-same d e u a b i = from (λ k. map_change (with_body (slot (a i) (journal_place u k))) (as_change (entry_in (get_or (b i).journal k no_cell)))) 0 (b i).len

-- A change that joins unit u's journal.
module _ (u : ℕ) (c : Change Written) (d : Disk) (p : 1 ≤ u) (q : u ≤ 4) (l : length d.journal_data ≡ 15360) (m : (unit_of d u).len < 15) (z : Sized (carried_by c)) where
  pub journal-data-add : length (journal_add u c d).journal_data ≡ 15360
  unfolding journal_add
  journal-data-add = length-spliced d.journal_data _ (carried_by c) (omega arith) z ∙ l

  journal-new : length d.rec.held.units ≡ 4 → length (unit_of d u).journal ≡ 15 → journal_at (journal_add u c d) u (unit_of d u).len ≡ c
  unfolding journal_at journal_add
  journal-new n k =
      rw (unit-added u c d p q n)
      (rw (get_or-set_same (unit_of d u).journal (unit_of d u).len (cell_of (plain c)) no_cell (omega arith))
      (change-fill _ c (filled-place d.journal_data (journal_place u (unit_of d u).len) (carried_by c) (omega arith) z)))

  journal-old : length d.rec.held.units ≡ 4 → (k : ℕ) → k < (unit_of d u).len → journal_at (journal_add u c d) u k ≡ journal_at d u k
  unfolding journal_at journal_add
  journal-old n k h =
      rw (unit-added u c d p q n)
      (rw (get_or-set_other (unit_of d u).journal (unit_of d u).len k (cell_of (plain c)) no_cell (omega arith))
      (rw (other_place d.journal_data (journal_place u (unit_of d u).len) (journal_place u k) (carried_by c) (omega arith) (omega arith) z (omega arith))))

  pub journal-add : length d.rec.held.units ≡ 4 → length (unit_of d u).journal ≡ 15 → journal_of (journal_add u c d) u ≡ journal_of d u ++ c ∷ []
  unfolding journal_of
  journal-add n k =
      ap (from f 0) (ap (λ (x : Unit). x.len) (unit-added u c d p q n) ∙ add-one (unit_of d u).len)
      ∙ from-snoc f 0 (unit_of d u).len
      ∙ ap (λ (x : Change Written). from f 0 (unit_of d u).len ++ x ∷ []) (ap f (zero-add (unit_of d u).len) ∙ journal-new n k)
      ∙ ap (λ (r : List (Change Written)). r ++ c ∷ []) (from-ext f (journal_at d u) (unit_of d u).len (λ j h. journal-old n j h))
    where
      f : ℕ → Change Written
      f = journal_at (journal_add u c d) u

  journal-apart : (v : ℕ) → 1 ≤ v → v ≤ 4 → u ≢ v → (k : ℕ) → k < 15 → journal_place u (unit_of d u).len ≢ journal_place v k
  journal-apart v a b n k h = side (dec_lt u v)
    where
      side : Dec (u < v) → journal_place u (unit_of d u).len ≢ journal_place v k
      side (yes o) = omega arith
      side (no o) = omega arith

  journal-other-at : (v : ℕ) → 1 ≤ v → v ≤ 4 → u ≢ v → (k : ℕ) → k < 15 → journal_at (journal_add u c d) v k ≡ journal_at d v k
  unfolding journal_at journal_add
  journal-other-at v a b n k h =
      rw (unit-added-other u v p a n c d)
      (rw (other_place d.journal_data (journal_place u (unit_of d u).len) (journal_place v k) (carried_by c) (omega arith) (omega arith) z (journal-apart v a b n k h)))

  pub journal-other : (v : ℕ) → 1 ≤ v → v ≤ 4 → u ≢ v → (unit_of d v).len ≤ 15 → journal_of (journal_add u c d) v ≡ journal_of d v
  unfolding journal_of
  journal-other v a b n k =
      ap (from (journal_at (journal_add u c d) v) 0) (ap (λ (x : Unit). x.len) (unit-added-other u v p a n c d))
      ∙ from-ext (journal_at (journal_add u c d) v) (journal_at d v) (unit_of d v).len (λ j h. journal-other-at v a b n j (omega arith))

-- A unit that opens with an empty journal, or closes.
empty-set : (us : List Unit) (i : ℕ) (x : Unit) → x.len ≡ 0 → (get_or (set us i x) i no_unit).len ≡ 0
empty-set [] i x h = refl
empty-set (y ∷ us) zero x h = h
empty-set (y ∷ us) (suc i) x h = empty-set us i x h

closing-len : (u : ℕ) (t : State Written) (d : Disk) → (unit_of (closing u t d) u).len ≡ 0
unfolding unit_of closing relisted with_listed
closing-len u t d = empty-set d.rec.held.units (u - 1) _ refl

pub journal-closing : (u : ℕ) (t : State Written) (d : Disk) → journal_of (closing u t d) u ≡ []
journal-closing u t d = journal-none (closing u t d) u (closing-len u t d)

pub journal-closing-other : (u v : ℕ) (t : State Written) (d : Disk) → 1 ≤ u → 1 ≤ v → u ≢ v → journal_of (closing u t d) v ≡ journal_of d v
unfolding closing relisted with_listed
journal-closing-other u v t d p q n = journal-same d (closing u t d) v refl (unit-closing-other u v p q n t d)

opening-len : (u v w : ℕ) (d : Disk) → v - 1 ≡ u - 1 → (unit_of (opening u w d) v).len ≡ 0
unfolding unit_of opening
opening-len u v w d e = rw e (empty-set d.rec.held.units (u - 1) _ refl)

pub journal-opening : (u v w : ℕ) (d : Disk) → (unit_of d u).len ≡ 0 → journal_of (opening u w d) v ≡ journal_of d v
unfolding unit_of opening
journal-opening u v w d h = go (ℕ_discrete (v - 1) (u - 1))
  where
    go : Dec (v - 1 ≡ u - 1) → journal_of (opening u w d) v ≡ journal_of d v
    go (yes e) = journal-none (opening u w d) v (opening-len u v w d e) ∙ sym (journal-none d v (rw e h))
    go (no e) = journal-same d (opening u w d) v refl (get_or-set_other d.rec.held.units (u - 1) (v - 1) _ no_unit e)

-- The entries that a unit's end queues, and their data.
pub unit-entries : (cs : List (Change Written)) → length (unit_entries cs) ≡ suc (length cs)
unfolding unit_entries
unit-entries cs = length-append (map member cs) (commit (length cs) ∷ []) ∙ omega (arith, length-map cs (λ c. member c))

journal-sized-at : (d : Disk) (u k : ℕ) → 1 ≤ u → u ≤ 4 → k < 15 → length d.journal_data ≡ 15360 → Sized (carried_by (journal_at d u k))
unfolding journal_at
journal-sized-at d u k p q h l = change-sized _ _ (length-slot d.journal_data (journal_place u k) (omega arith))

members-sized : (f : ℕ → Change Written) (k n m : ℕ) → ((j : ℕ) → j < k + n → Sized (carried_by (f j))) → AllSized (map member (from f k n) ++ commit m ∷ [])
unfolding from carried
members-sized f k zero m h = (tt, tt)
members-sized f k (suc n) m h = (h k (omega arith), members-sized f (suc k) n m (λ j l. h j (omega arith)))

pub unit-sized : (d : Disk) (u : ℕ) → 1 ≤ u → u ≤ 4 → length d.journal_data ≡ 15360 → (unit_of d u).len ≤ 15 → AllSized (unit_entries (journal_of d u))
unfolding unit_entries journal_of
unit-sized d u p q l m = members-sized (journal_at d u) 0 (unit_of d u).len _ (λ j h. journal-sized-at d u j p q (omega arith) l)

-- What leaves the journals alone.
pub journal-enqueue : (e : Entry Written) (d : Disk) (u : ℕ) → journal_of (enqueue e d) u ≡ journal_of d u
journal-enqueue e d u = let b = beside-one e d in journal-same d (enqueue e d) u b.journal_data (unit-same d (enqueue e d) u b.units)

pub journal-enqueue_all : (es : List (Entry Written)) (d : Disk) (u : ℕ) → journal_of (enqueue_all es d) u ≡ journal_of d u
journal-enqueue_all es d u = let b = beside-all es d in journal-same d (enqueue_all es d) u b.journal_data (unit-same d (enqueue_all es d) u b.units)

pub journal-hold : (s b : ℕ) (d : Disk) (u : ℕ) → journal_of (hold s b d) u ≡ journal_of d u
unfolding hold
journal-hold zero b d u = refl
journal-hold (suc s) b d u = journal-same d (hold (suc s) b d) u refl (unit-same d (hold (suc s) b d) u refl)

pub journal-relisted : (fs : List ℕ) (d : Disk) (u : ℕ) → journal_of (relisted fs d) u ≡ journal_of d u
unfolding relisted with_listed
journal-relisted fs d u = journal-same d (relisted fs d) u refl (unit-same d (relisted fs d) u refl)

pub journal-conflicted : (w : ℕ) (d : Disk) (u : ℕ) → journal_of (conflicted w d) u ≡ journal_of d u
unfolding conflicted
journal-conflicted w d u = journal-same d (conflicted w d) u refl (unit-same d (conflicted w d) u refl)

pub journal-flushed : (d : Disk) (f : Flow) (u : ℕ) → journal_of (after_flush d f) u ≡ journal_of d u
unfolding after_flush
journal-flushed d f u = journal-same d (after_flush d f) u refl (unit-same d (after_flush d f) u refl)
