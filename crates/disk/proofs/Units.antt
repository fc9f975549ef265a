-- The clauses of the units and of the holders' table, kept: by a number taken to hold, a change journalled, a unit that opens or closes, and a
-- state that has no held number in use.
use mathlib.Core.Path.{◌≡◌, refl, sym, ap, ◌∙◌, subst}
use mathlib.Core.Logic.{inl, inr}
use mathlib.Core.Bool.{true, false, not, true≢false}
use mathlib.Core.List.{List, [], ◌∷◌}
use Prim.Native.Nat.{ℕ, suc, ◌-◌, ◌≤◌, ◌<◌}
use native.Mathlib.Omega.{arith}
use native.Mathlib.Decide.{ℕ_discrete}
use lib.Dec.{eqb}
use lib.ListN.{length, get_or, length-set, length-map}
use lib.Seq.{get_or-set_other}
use Rattle.lists.specs.Basic.{all}
use Rattle.lists.specs.Change.{Change, carried_by}
use Rattle.lists.specs.State.{State}
use Rattle.lists.specs.InUse.{in_use, brings}
use Rattle.lists.proofs.Basic.{le-true, eq-true, all_append, eqb-false}
use Rattle.lists.proofs.InUse.{brought}
use Rattle.card_log.specs.Entry.{plain, member, raw, legal}
use Rattle.card_log.specs.Cell.{cell_of}
use Rattle.card_log.specs.Card.{Written}
use Rattle.card_log.proofs.Segment.{Sized}
use Rattle.disk.specs.Record.{Unit, holder_of, journaled, emptied, released, is_open, with_listed}
use Rattle.disk.specs.Disk.{Disk, unit_of, journal_of}
use Rattle.disk.specs.Sound.{open_unit, is_open_unit, journal_sound}
use Rattle.disk.specs.Perform.{journal_add, hold, relisted, opening, closing}
use Rattle.disk.proofs.Questions.{unit-range}
use Rattle.disk.proofs.Journal.{unit-same, unit-added, unit-added-other, unit-opening, unit-opening-other, unit-closing, unit-closing-other, journal-same, journal-add, journal-other, journal-opening, journal-closing, journal-closing-other, journal-hold}
use Rattle.disk.proofs.Held.{closing-holder, closing-released, hold-holder, hold-other, brought-all, journals-more}
use Rattle.disk.proofs.Clauses.{UnitRight, HolderRight, UnitsRight}

open-unit : (d : Disk) (u : ℕ) → 1 ≤ u → u ≤ 4 → is_open (unit_of d u) ≡ true → is_open_unit d u ≡ true
unfolding open_unit unit_of
open-unit d u p q o = rw (le-true 1 u p, le-true u 4 q, o)

-- units that were open are open still
open_more : (d e : Disk) (u : ℕ) → (1 ≤ u → u ≤ 4 → is_open (unit_of d u) ≡ true → is_open (unit_of e u) ≡ true) → is_open_unit d u ≡ true → is_open_unit e u ≡ true
open_more d e u f h = let (p, q, o) = unit-range d u h in open-unit e u p q (f p q o)

-- a unit that stays as it is, and still holds what it held
unit_kept : (d e : Disk) (u : ℕ) → unit_of e u ≡ unit_of d u → journal_of e u ≡ journal_of d u
    → ((b : ℕ) → holder_of d.rec b ≡ u → holder_of e.rec b ≡ u) → UnitRight d u → UnitRight e u
unit_kept d e u x j f k = record {
  places = rw x k.places;
  room = rw x k.room;
  window = rw x k.window;
  closed = rw x k.closed;
  sound = rw j (journals-more d.rec e.rec u (journal_of d u) f k.sound);
}

holder-kept : (d e : Disk) (s : State Written) (b : ℕ) → holder_of e.rec b ≡ holder_of d.rec b
    → ((u : ℕ) → holder_of d.rec b ≡ u → is_open_unit d u ≡ true → is_open_unit e u ≡ true) → HolderRight d s b → HolderRight e s b
holder-kept d e s b h f (inl z) = inl (h ∙ z)
holder-kept d e s b h f (inr (o, n)) = inr (rw h (f (holder_of d.rec b) refl o), n)

-- The same units, over another state that has no held number in use.
pub units-state : (d : Disk) (s t : State Written) → ((b : ℕ) → 1 ≤ b → b ≤ 80 → is_open_unit d (holder_of d.rec b) ≡ true → in_use b s.lists ≡ false → in_use b t.lists ≡ false)
    → UnitsRight d s → UnitsRight d t
units-state d s t f k = record { four = k.four; table = k.table; units = k.units; holders = λ b p q. go b p q (k.holders b p q) }
  where
    go : (b : ℕ) → 1 ≤ b → b ≤ 80 → HolderRight d s b → HolderRight d t b
    go b p q (inl z) = inl z
    go b p q (inr (o, n)) = inr (o, f b p q o n)

-- Another disk with the same units and holders.
pub units-same : (d e : Disk) (s : State Written) → e.journal_data ≡ d.journal_data → e.rec.held.units ≡ d.rec.held.units → e.rec.held.holder ≡ d.rec.held.holder → UnitsRight d s → UnitsRight e s
units-same d e s j u h k = record {
  four = rw u k.four;
  table = rw h k.table;
  units = λ v p q. unit_kept d e v (unit v) (journal-same d e v j (unit v)) (λ b x. holder b ∙ x) (k.units v p q);
  holders = λ b p q. holder-kept d e s b (holder b) (λ v x o. open_more d e v (λ a c y. ap (λ (z : Unit). is_open z) (unit v) ∙ y) o) (k.holders b p q);
}
  where
    unit : (v : ℕ) → unit_of e v ≡ unit_of d v
    unit v = unit-same d e v u

    holder : (b : ℕ) → holder_of e.rec b ≡ holder_of d.rec b
    holder b = ap (λ (hs : List ℕ). get_or hs (b - 1) 0) h

-- A free number is taken to hold.
pub hold-units : (u b : ℕ) (d : Disk) (s : State Written) → is_open_unit d (suc u) ≡ true → 1 ≤ b → b ≤ 80 → holder_of d.rec b ≡ 0 → in_use b s.lists ≡ false
    → UnitsRight d s → UnitsRight (hold (suc u) b d) s
unfolding hold
hold-units u b d s o p q z n k = record {
  four = k.four;
  table = length-set d.rec.held.holder (b - 1) (suc u) ∙ k.table;
  units = λ v x y. unit_kept d e v (unit v) (journal-hold (suc u) b d v) (λ c h. hold-other (suc u) b c d z (λ w. omega arith) ∙ h) (k.units v x y);
  holders = λ c x y. go c x y (ℕ_discrete c b);
}
  where
    e : Disk
    e = hold (suc u) b d

    unit : (v : ℕ) → unit_of e v ≡ unit_of d v
    unit v = unit-same d e v refl

    still : (v : ℕ) → is_open_unit d v ≡ true → is_open_unit e v ≡ true
    still v h = open_more d e v (λ a c y. ap (λ (z : Unit). is_open z) (unit v) ∙ y) h

    go : (c : ℕ) → 1 ≤ c → c ≤ 80 → Dec (c ≡ b) → HolderRight e s c
    go c x y (yes w) = inr (rw w (rw (hold-holder (suc u) b d p (omega (arith, k.table)) z) (still (suc u) o)), rw w n)
    go c x y (no w) =
        holder-kept d e s c (get_or-set_other d.rec.held.holder (b - 1) (c - 1) (suc u) 0 (omega arith)) (λ v h. still v) (k.holders c x y)

-- A change joins unit u's journal: what it brings into use is held by u.
module _ (u : ℕ) (c : Change Written) (d : Disk) (s : State Written) (o : is_open_unit d u ≡ true) (l : length d.journal_data ≡ 15360) (m : (unit_of d u).len < 15)
    (z : Sized (carried_by c)) (w : legal (raw 0 (member c)) ≡ true) (f : (b : ℕ) → brought c b ≡ true → holder_of d.rec b ≡ u) where
  abbrev added : Disk
  added = journal_add u c d

  added-four : length d.rec.held.units ≡ 4 → length added.rec.held.units ≡ 4
  unfolding journal_add
  added-four h = length-set d.rec.held.units (u - 1) _ ∙ h

  added-holder : added.rec.held.holder ≡ d.rec.held.holder
  unfolding journal_add
  added-holder = refl

  added-sound : journal_sound added.rec u c ≡ true
  unfolding journal_sound
  added-sound = rw (w, added-holder) (brought-all (λ b. eqb (holder_of d.rec b) u) (brings c) (λ b e. eq-true (holder_of d.rec b) u (f b e)))

  pub journal-units : UnitsRight d s → UnitsRight (journal_add u c d) s
  unfolding all
  journal-units k = record {
    four = added-four k.four;
    table = rw added-holder k.table;
    units = λ v x y. unit v x y (ℕ_discrete u v);
    holders = λ b x y. holder-kept d added s b (holder b) (λ v h. open_more d added v (λ a c y. still v a y (ℕ_discrete u v))) (k.holders b x y);
  }
    where
      p : 1 ≤ u
      p = (unit-range d u o).0

      q : u ≤ 4
      q = (unit-range d u o).1

      e : unit_of added u ≡ journaled (unit_of d u) (cell_of (plain c))
      e = unit-added u c d p q k.four

      holder : (b : ℕ) → holder_of added.rec b ≡ holder_of d.rec b
      holder b = ap (λ (hs : List ℕ). get_or hs (b - 1) 0) added-holder

      still : (v : ℕ) → 1 ≤ v → is_open (unit_of d v) ≡ true → Dec (u ≡ v) → is_open (unit_of added v) ≡ true
      still v a h (yes n) = rw (← n) (ap (λ (x : Unit). is_open x) e ∙ rw n h)
      still v a h (no n) = ap (λ (x : Unit). is_open x) (unit-added-other u v p a n c d) ∙ h

      own : UnitRight added u
      own =
          let x = k.units u p q in
          record {
            places = rw e (length-set (unit_of d u).journal (unit_of d u).len _ ∙ x.places);
            room = rw e (omega arith);
            window = rw e x.window;
            closed = λ h. absurd (true≢false (sym (unit-range d u o).2 ∙ sym (ap (λ (y : Unit). is_open y) e) ∙ h));
            sound = rw (journal-add u c d p q l m z k.four x.places)
                (all_append (journal_sound added.rec u) (journal_of d u) (c ∷ []) (journals-more d.rec added.rec u (journal_of d u) (λ b h. holder b ∙ h) x.sound) (rw added-sound));
          }

      unit : (v : ℕ) → 1 ≤ v → v ≤ 4 → Dec (u ≡ v) → UnitRight added v
      unit v a b (yes n) = subst (UnitRight added) n own
      unit v a b (no n) =
          unit_kept d added v (unit-added-other u v p a n c d) (journal-other u c d p q l m z v a b n (k.units v a b).room) (λ x h. holder x ∙ h) (k.units v a b)

-- A closed unit opens, for a window.
module _ (u w : ℕ) (d : Disk) (s : State Written) (p : 1 ≤ u) (q : u ≤ 4) (m : 1 ≤ w) (n : w ≤ 16) (k : UnitsRight d s) where
  abbrev begun : Disk
  begun = opening u w d

  begun-four : length begun.rec.held.units ≡ 4
  unfolding opening
  begun-four = length-set d.rec.held.units (u - 1) _ ∙ k.four

  begun-holder : begun.rec.held.holder ≡ d.rec.held.holder
  unfolding opening
  begun-holder = refl

  begun-unit : unit_of begun u ≡ emptied w (unit_of d u)
  begun-unit = unit-opening u w d p q k.four

  begun-open : is_open (unit_of begun u) ≡ true
  begun-open = ap (λ (x : Unit). is_open x) begun-unit ∙ ap not (eqb-false w 0 (λ z. omega arith))

  pub opening-units : is_open (unit_of d u) ≡ false → UnitsRight (opening u w d) s
  opening-units c = record {
    four = begun-four;
    table = rw begun-holder k.table;
    units = λ v x y. unit v x y (ℕ_discrete u v);
    holders = λ b x y. holder-kept d begun s b (holder b) (λ v h. open_more d begun v (λ a c y. still v a y (ℕ_discrete u v))) (k.holders b x y);
  }
    where
      holder : (b : ℕ) → holder_of begun.rec b ≡ holder_of d.rec b
      holder b = ap (λ (hs : List ℕ). get_or hs (b - 1) 0) begun-holder

      still : (v : ℕ) → 1 ≤ v → is_open (unit_of d v) ≡ true → Dec (u ≡ v) → is_open (unit_of begun v) ≡ true
      still v a h (yes n) = rw (← n) begun-open
      still v a h (no n) = ap (λ (x : Unit). is_open x) (unit-opening-other u v p a n w d) ∙ h

      own : UnitRight begun u
      own =
          let x = k.units u p q in
          record {
            places = rw begun-unit x.places;
            room = rw begun-unit (omega arith);
            window = rw begun-unit n;
            closed = λ h. absurd (true≢false (sym begun-open ∙ h));
            sound = rw (journal-opening u u w d (x.closed c)) (journals-more d.rec begun.rec u (journal_of d u) (λ b h. holder b ∙ h) x.sound);
          }

      unit : (v : ℕ) → 1 ≤ v → v ≤ 4 → Dec (u ≡ v) → UnitRight begun v
      unit v a b (yes n) = subst (UnitRight begun) n own
      unit v a b (no n) =
          unit_kept d begun v (unit-opening-other u v p a n w d) (journal-opening u v w d ((k.units u p q).closed c)) (λ x h. holder x ∙ h) (k.units v a b)

-- A unit closes, and gives up what it holds.
module _ (u : ℕ) (t : State Written) (d : Disk) (s : State Written) (p : 1 ≤ u) (q : u ≤ 4) (k : UnitsRight d s) where
  abbrev ended : Disk
  ended = closing u t d

  ended-four : length ended.rec.held.units ≡ 4
  unfolding closing relisted with_listed
  ended-four = length-set d.rec.held.units (u - 1) _ ∙ k.four

  ended-table : length ended.rec.held.holder ≡ 80
  unfolding closing relisted with_listed released
  ended-table = length-map d.rec.held.holder _ ∙ k.table

  ended-unit : unit_of ended u ≡ emptied 0 (unit_of d u)
  ended-unit = unit-closing u t d p q k.four

  pub closing-units : UnitsRight (closing u t d) s
  unfolding all
  closing-units = record {
    four = ended-four;
    table = ended-table;
    units = λ v x y. unit v x y (ℕ_discrete u v);
    holders = λ b x y. holder b (k.holders b x y) (ℕ_discrete (holder_of d.rec b) u);
  }
    where
      own : UnitRight ended u
      own = record {
        places = rw ended-unit (k.units u p q).places;
        room = rw ended-unit (omega arith);
        window = rw ended-unit (omega arith);
        closed = λ h. ap (λ (x : Unit). x.len) ended-unit;
        sound = rw (journal-closing u t d);
      }

      unit : (v : ℕ) → 1 ≤ v → v ≤ 4 → Dec (u ≡ v) → UnitRight ended v
      unit v a b (yes n) = subst (UnitRight ended) n own
      unit v a b (no n) =
          unit_kept d ended v (unit-closing-other u v p a n t d) (journal-closing-other u v t d p a n) (λ x h. closing-holder u t d x (λ w. n (sym w ∙ h)) ∙ h) (k.units v a b)

      holder : (b : ℕ) → HolderRight d s b → Dec (holder_of d.rec b ≡ u) → HolderRight ended s b
      holder b h (yes w) = inl (closing-released u t d b w)
      holder b h (no w) =
          holder-kept d ended s b (closing-holder u t d b w)
          (λ v x. open_more d ended v (λ a c o. ap (λ (y : Unit). is_open y) (unit-closing-other u v p a (λ e. w (x ∙ sym e)) t d) ∙ o)) h
