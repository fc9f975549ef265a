-- The window of a unit: an accepted Begin of the unit sets it; every other call keeps it, or closes the unit.
use mathlib.Core.Path.{◌≡◌, refl, ap, ◌∙◌}
use mathlib.Core.Logic.{◌≢◌, ◌⊎◌, inl, inr}
use mathlib.Core.Bool.{Bool, true, false, false≢true}
use mathlib.Core.Option.{Option, none, some}
use mathlib.Core.List.{List, [], ◌∷◌}
use Prim.Native.Nat.{ℕ, zero, suc, ◌-◌, ◌≤◌}
use lib.Dec.{leb, eqb}
use lib.ListN.{get_or, set}
use Rattle.lists.specs.Change.{Change}
use Rattle.lists.specs.State.{Row, State, overlay}
use Rattle.lists.specs.Numbers.{all_numbers}
use Rattle.lists.proofs.Basic.{and-true, leb-true}
use Rattle.card_log.specs.Card.{Written}
use Rattle.disk.specs.Record.{Unit, no_unit, fresh_unit, blank_record, fresh_record, unit_at, with_listed}
use Rattle.disk.specs.Disk.{Disk, unit_of, journal_of, persistent, committed, listing}
use Rattle.disk.specs.Call.{Call, format, mount, conflict_count, on_stream, in_view, begin, end, flush, ends, resets}
use Rattle.disk.specs.Questions.{questions, refusal}
use Rattle.disk.specs.Perform.{enqueue, enqueue_all, journal_add, change, hold, relisted, noted, made, number_given, change_for, closing, conflicted, unit_entries, after_flush, accepted, refused, perform}
use Rattle.disk.proofs.Held.{noted-by}
use Rattle.disk.proofs.Clauses.{right}
use Rattle.disk.proofs.Performing.{perform-accepted, perform-refused}
use Rattle.disk.proofs.Questions.{yes-all}
use Rattle.disk.proofs.Queue.{beside-all}
use Rattle.disk.proofs.Journal.{unit-opening, unit-opening-other}

-- A unit changed in its place.
set_same : (us : List Unit) (i j : ℕ) (x : Unit) → x.window ≡ (get_or us i no_unit).window → (get_or (set us i x) j no_unit).window ≡ (get_or us j no_unit).window
set_same [] i j x e = refl
set_same (y ∷ us) zero zero x e = e
set_same (y ∷ us) zero (suc j) x e = refl
set_same (y ∷ us) (suc i) zero x e = refl
set_same (y ∷ us) (suc i) (suc j) x e = set_same us i j x e

set-closed : (us : List Unit) (i j : ℕ) (x : Unit) → x.window ≡ 0 → ((get_or (set us i x) j no_unit).window ≡ 0) ⊎ ((get_or (set us i x) j no_unit).window ≡ (get_or us j no_unit).window)
set-closed [] i j x e = inr refl
set-closed (y ∷ us) zero zero x e = inl e
set-closed (y ∷ us) zero (suc j) x e = inr refl
set-closed (y ∷ us) (suc i) zero x e = inr refl
set-closed (y ∷ us) (suc i) (suc j) x e = set-closed us i j x e

-- A change on a stream.
change-window : (s : ℕ) (c : Change Written) (d : Disk) (u : ℕ) → (unit_of (change s c d) u).window ≡ (unit_of d u).window
unfolding change enqueue journal_add unit_of
change-window zero c d u = refl
change-window (suc v) c d u = set_same d.rec.held.units (suc v - 1) (u - 1) _ refl

hold-window : (s b : ℕ) (d : Disk) (u : ℕ) → (unit_of (hold s b d) u).window ≡ (unit_of d u).window
unfolding hold unit_of
hold-window zero b d u = refl
hold-window (suc v) b d u = refl

noted-window : (s : ℕ) (c : Change Written) (rs : List (Row Written)) (d : Disk) (u : ℕ) → (unit_of (noted s c rs d) u).window ≡ (unit_of d u).window
unfolding relisted with_listed unit_of
noted-window s c rs d u = noted-by (λ e. (unit_of e u).window ≡ (unit_of d u).window) s (λ n e p. hold-window s n e u ∙ p) (λ fs e p. p) c rs d refl

made-window : (s : ℕ) (c : Change Written) (d : Disk) (u : ℕ) → (unit_of (made s c d) u).window ≡ (unit_of d u).window
unfolding made
made-window s c d u = noted-window s c (committed d).lists (change s c d) u ∙ change-window s c d u

-- it is 0, or as it was
abbrev pub Stays : Disk → Disk → ℕ → Type 0
Stays d e u = ((unit_of e u).window ≡ 0) ⊎ ((unit_of e u).window ≡ (unit_of d u).window)

stays-from : (d x e : Disk) (u : ℕ) → (unit_of x u).window ≡ (unit_of d u).window → Stays x e u → Stays d e u
stays-from d x e u s (inl z) = inl z
stays-from d x e u s (inr k) = inr (k ∙ s)

closing-stays : (v : ℕ) (t : State Written) (d : Disk) (u : ℕ) → Stays d (closing v t d) u
unfolding closing relisted with_listed unit_of
closing-stays v t d u = set-closed d.rec.held.units (v - 1) (u - 1) _ refl

conflicted-stays : (n v : ℕ) (t : State Written) (d : Disk) (u : ℕ) → Stays d (conflicted n (closing v t d)) u
unfolding conflicted closing relisted with_listed unit_of
conflicted-stays n v t d u = set-closed d.rec.held.units (v - 1) (u - 1) _ refl

fresh-closed : (fs : List ℕ) (u : ℕ) → (unit_at (fresh_record fs) u).window ≡ 0
unfolding fresh_record with_listed blank_record fresh_unit
fresh-closed fs u = go (u - 1)
  where
    go : (k : ℕ) → (get_or blank_record.held.units k no_unit).window ≡ 0
    go zero = refl
    go (suc zero) = refl
    go (suc (suc zero)) = refl
    go (suc (suc (suc zero))) = refl
    go (suc (suc (suc (suc k)))) = refl

-- a call that is no accepted Begin of unit u
abbrev pub Other : Call → Disk → ℕ → Type 0
Other format d u = Prim.Unit {0}
Other mount d u = Prim.Unit {0}
Other (conflict_count w) d u = Prim.Unit {0}
Other (on_stream s e) d u = Prim.Unit {0}
Other (in_view v k) d u = Prim.Unit {0}
Other (begin v w) d u = v ≡ u → refusal (begin v w) d ≢ 0
Other (end v) d u = Prim.Unit {0}
Other (flush a) d u = Prim.Unit {0}

begin-range : (v w : ℕ) (d : Disk) → refusal (begin v w) d ≡ 0 → (1 ≤ v) × (v ≤ 4)
unfolding questions
begin-range v w d h = let (a, b) = and-true (leb 1 v) (leb v 4) (yes-all (begin v w) d h 2) in (leb-true 1 v a, leb-true v 4 b)

accepted-window : (c : Call) (d : Disk) (u : ℕ) → 1 ≤ u → refusal c d ≡ 0 → Other c d u → Stays d (accepted c d).disk u
unfolding accepted after_flush unit_of
accepted-window format d u p h o = inl (fresh-closed all_numbers u)
accepted-window mount d u p h o = inl (fresh-closed (persistent d).free u)
accepted-window (conflict_count w) d u p h o = inr refl
accepted-window (on_stream s e) d u p h o = inr (made-window s (change_for e (number_given e d)) d u)
accepted-window (in_view v k) d u p h o = inr refl
accepted-window (begin v w) d u p h o = inr (ap (λ (x : Unit). x.window) (unit-opening-other v u (begin-range v w d h).0 p (λ e. o e h) w d))
accepted-window (end v) d u p h o =
    let x = enqueue_all (unit_entries (journal_of d v)) d in
    let t = overlay (journal_of d v) (listing d) in
    stays-from d x (closing v t x) u (ap (λ (us : List Unit). (get_or us (u - 1) no_unit).window) (beside-all (unit_entries (journal_of d v)) d).units) (closing-stays v t x u)
accepted-window (flush a) d u p h o = inr refl

refused-window : (c : Call) (m : ℕ) (d : Disk) (u : ℕ) → Stays d (refused c (suc m) d) u
unfolding refused
refused-window c m d u = go (ends c) refl (eqb (suc m) 12) refl
  where
    go : (o : Option ℕ) → ends c ≡ o → (t : Bool) → eqb (suc m) 12 ≡ t → Stays d (refused c (suc m) d) u
    go none e t f = rw (e, refused) (inr refl)
    go (some v) e true f = rw (e, refused) (rw (f, refused) (conflicted-stays (unit_of d v).window v (listing d) d u))
    go (some v) e false f = rw (e, refused) (rw (f, refused) (inr refl))

pub window-stays : (c : Call) (d : Disk) (u : ℕ) → 1 ≤ u → Other c d u → Stays d (perform c d).disk u
window-stays c d u p o = go (refusal c d) refl
  where
    go : (n : ℕ) → refusal c d ≡ n → Stays d (perform c d).disk u
    go zero h = rw (perform-accepted c d h) (accepted-window c d u p h o)
    go (suc m) h = rw (perform-refused c d m h) (refused-window c m d u)

pub window-begun : (u w : ℕ) (d : Disk) → refusal (begin u w) d ≡ 0 → (unit_of (perform (begin u w) d).disk u).window ≡ w
unfolding accepted questions
window-begun u w d h =
    let (p, q) = begin-range u w d h in
    let y = yes-all (begin u w) d h in
    rw (perform-accepted (begin u w) d h) (ap (λ (x : Unit). x.window) (unit-opening u w d p q (right d (y 0) (y 1)).units.four))

-- An accepted mounting or formatting closes every unit.
pub reset-closed : (c : Call) (d : Disk) (u : ℕ) → resets c ≡ true → refusal c d ≡ 0 → (unit_of (perform c d).disk u).window ≡ 0
unfolding accepted resets unit_of
reset-closed c d u r h = rw (perform-accepted c d h) (go c r)
  where
    go : (c : Call) → resets c ≡ true → (unit_of (accepted c d).disk u).window ≡ 0
    go format r = fresh-closed all_numbers u
    go mount r = fresh-closed (persistent d).free u
    go (conflict_count w) r = absurd (false≢true r)
    go (on_stream s e) r = absurd (false≢true r)
    go (in_view v k) r = absurd (false≢true r)
    go (begin v w) r = absurd (false≢true r)
    go (end v) r = absurd (false≢true r)
    go (flush a) r = absurd (false≢true r)
