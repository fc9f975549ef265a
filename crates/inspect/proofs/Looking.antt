-- Questions 1, 3 and 4 in their order, and the views: a sound disk's unit has a journal that may be laid over its committed state.
use mathlib.Core.Path.{◌≡◌, refl, sym, ap, ◌∙◌, subst}
use mathlib.Core.Logic.{◌≢◌}
use mathlib.Core.List.{[], ◌∷◌}
use native.Mathlib.Omega.{arith}
use Rattle.std.specs.Prelude.{Result, Ok, Err}
use Rattle.std.specs.Result.{IsErrAnd}
use mathlib.Core.Bool.{Bool, true, false}
use Prim.Native.Nat.{ℕ, ◌≤◌}
use Rattle.lists.specs.Basic.{all, from}
use Rattle.lists.specs.State.{overlay}
use Rattle.lists.specs.promises.Tables.{Tables}
use Rattle.lists.proofs.Basic.{and-true, eqb-false, all_from, from_all}
use Rattle.card_log.specs.Entry.{member, map_entry, raw, legal}
use Rattle.card_log.specs.declared.place.Place.{Place}
use Rattle.card_log.proofs.Naturality.{raw-map}
use Rattle.disk.specs.Record.{unit_at}
use Rattle.answers.specs.declared.Refusal.{Refusal}
use Rattle.answers.specs.declared.Refusal.TheVariants.{StreamClosed}
use Rattle.disk.specs.Disk.{Disk, unit_of, journal_at, journal_of, committed, view}
use Rattle.disk.specs.Sound.{lengths_right, record_sound, open_unit, journal_sound}
use Rattle.disk.specs.Questions.{stream_open, view_open, ask, first_no}
use Rattle.answers.specs.Answers.{number}
use Rattle.disk.proofs.Clauses.{right}
use Rattle.disk.proofs.Questions.{open-in-range}
use Rattle.inspect.specs.promises.Located.{Located, journal_here}
use Rattle.inspect.specs.promises.Clauses.{change_in, Overlays}
use Rattle.inspect.specs.promises.Inspect.{checked, Accepted, open_as, Sees, Looks}
use Rattle.inspect.proofs.Asking.{refused-more, exit_is}
use Rattle.inspect.proofs.Locating.{overlay-here}

-- the journal of a sound disk's unit
pub record Lawful (d : Disk) (u : ℕ) : Type 0 where
  pub room : (unit_at d.rec u).len ≤ 15
  pub lawful : all (λ c. legal (raw 0 (member c))) (from (change_in (unit_at d.rec u)) 0 (unit_at d.rec u).len) ≡ true

pub unit_lawful : (d : Disk) (u : ℕ) → lengths_right d ≡ true → record_sound d ≡ true → 1 ≤ u → u ≤ 4 → Lawful d u
unfolding unit_of journal_of journal_at journal_sound map_entry
unit_lawful d u l s p q =
    let k = (right d l s).units.units u p q in
    let x = unit_at d.rec u in
    record {
      room = k.room;
      lawful = from_all _ (change_in x) 0 x.len
          (λ j a b.
          sym (ap legal (raw-map _ (λ s. refl) 0 (member (change_in x j))))
          ∙ (and-true (legal (raw 0 (member (journal_at d u j)))) _ (all_from (journal_sound d.rec u) (journal_at d u) 0 x.len k.sound j a b)).0);
    }

module _ (looked : Bool) (d : Disk) (v : ℕ) where
  -- Questions 1 and 3.
  pub look-unsound : (t : Tables) (r : Result (Unit {0}) Refusal) (x : Refusal) → IsErrAnd r (λ y. y ≡ x) → first_no (checked d) ≡ number x → Looks looked d v r t
  look-unsound t r x e h = rw (exit_is r x e) (refused-more x (checked d) ((4, open_as looked d v) ∷ []) h)

  -- Question 4, of a sound disk.
  module _ (w : ℕ) (p : Place) (t : Tables) (a : Accepted w d p t) where
    pub look-closed : (t' : Tables) (r : Result (Unit {0}) Refusal) (x : Refusal) → IsErrAnd r (λ y. y ≡ x) → x ≡ StreamClosed → open_as looked d v ≡ false → Looks looked d v r t'
    unfolding first_no ask number
    look-closed t' r x e i h = rw (exit_is r x e, i, a.lengths, a.sound, h)

    pub look-seen : w ≡ v → open_as looked d v ≡ true → Sees looked d v t
    look-seen e o = record { lengths = a.lengths; sound = a.sound; opened = o; located = subst (λ (x : ℕ). Located d t (view d x)) e a.located }

pub open-persistent : (d : Disk) → open_as true d 5 ≡ true
unfolding view_open
open-persistent d = refl

pub open-zero : (d : Disk) → open_as false d 0 ≡ true
unfolding stream_open
open-zero d = refl

pub open-unit : (d : Disk) (s : ℕ) → s ≢ 0 → open_as false d s ≡ open_unit d.rec s
unfolding stream_open
open-unit d s n = rw (eqb-false s 0 n)

-- a view that is not the persistent state is a stream's
pub as-stream : (d : Disk) (v : ℕ) (t : Tables) (r : Result (Unit {0}) Refusal) → v ≢ 5 → Looks false d v r t → Looks true d v r t
unfolding view_open
as-stream d v t (Ok done) n h = record { lengths = h.lengths; sound = h.sound; opened = rw (eqb-false v 5 n) h.opened; located = h.located }
as-stream d v t (Err x) n h = rw (eqb-false v 5 n) h

-- the tables with a unit's journal
pub look-unit : (d : Disk) (s : ℕ) (p : Place) (t : Tables) (a : Accepted 0 d p t) → s ≢ 0 → open_unit d.rec s ≡ true
    → (b : Bool) (t' : Tables) → Overlays t (unit_at d.rec s) s b t' → Sees false d s t'
unfolding view unit_of
look-unit d s p t a n o b t' w =
    let x : Located d t (committed d) = a.located in
    record {
      lengths = a.lengths;
      sound = a.sound;
      opened = open-unit d s n ∙ o;
      located = record {
        here = overlay (journal_here (unit_at d.rec s) s) x.here;
        shows = w.shows x.here x.shows;
        means = rw (eqb-false s 5 (λ e. let m = (open-in-range d.rec s o).1 in omega arith), eqb-false s 0 n, x.means) (overlay-here d s x.here (open-in-range d.rec s o).1 (unit_lawful d s a.lengths a.sound (open-in-range d.rec s o).0 (open-in-range d.rec s o).1).room);
      };
    }
