-- Questions 1, 3 and 4 as `enter` answers them.
use mathlib.Core.Path.{◌≡◌, refl, sym, ◌∙◌}
use mathlib.Core.Logic.{◌≢◌}
use mathlib.Core.Bool.{Bool, true, false}
use mathlib.Core.List.{List, [], ◌∷◌, ◌++◌}
use Prim.Native.Nat.{ℕ}
use Rattle.std.specs.Prelude.{Result, Ok, Err, MatchResult}
use Rattle.std.specs.Result.{IsErrAnd}
use Rattle.lists.specs.promises.Tables.{Tables}
use Rattle.lists.proofs.Basic.{eqb-false}
use Rattle.answers.specs.Answers.{number}
use Rattle.answers.specs.declared.Refusal.{Refusal}
use Rattle.answers.specs.declared.Refusal.TheVariants.{StreamClosed}
use Rattle.disk.specs.Disk.{Disk, view}
use Rattle.disk.specs.Sound.{open_unit}
use Rattle.disk.specs.Questions.{stream_open, first_no}
use Rattle.inspect.specs.promises.Inspect.{checked, Sees, opens, Looks}
use Rattle.inspect.proofs.Asking.{ask-yes, ask-no, refused-more, exit_is}
use Rattle.calls.specs.promises.Entering.{open_for, Admitted, entering, Admits}
use Rattle.calls.proofs.Refusing.{sound-yes}
use Rattle.calls.proofs.Checking.{unchecked}

module _ (stream : Bool) (d : Disk) (s : ℕ) where
  unsound : (x : Refusal) → first_no (opens false d 0) ≡ number x → first_no (entering stream d s) ≡ number x
  unsound x h = refused-more x (checked d) ((4, open_for stream d s) ∷ []) (unchecked d x h)

  -- where a `?` leaves
  pub not-entered : (t : Tables) (r : Result (Unit {0}) Refusal) (x : Refusal) → IsErrAnd r (λ y. y ≡ x) → first_no (opens false d 0) ≡ number x → Admits stream d s r t
  not-entered t r x e h = rw (exit_is r x e) (unsound x h)

  pub entered : (t : Tables) (qs : List (ℕ × Bool)) → Admitted stream d s t → first_no (entering stream d s ++ qs) ≡ first_no qs
  entered t qs h = sound-yes d _ h.lengths h.sound ∙ ask-yes 4 _ qs h.opened

  stands : (t : Tables) → Sees false d 0 t → open_for stream d s ≡ true → Admitted stream d s t
  unfolding view
  stands t a o = record { lengths = a.lengths; sound = a.sound; opened = o; located = a.located }

-- stream 0 is open
pub zero-entered : (d : Disk) (t : Tables) (r : Result (Unit {0}) Refusal) → Looks false d 0 r t → Admits true d 0 r t
unfolding stream_open
zero-entered d t (Ok done) h = stands true d 0 t h refl
zero-entered d t (Err x) h = unsound true d 0 x h

-- another is open as its unit is
pub unit-entered : (d : Disk) (s : ℕ) (t : Tables) (r : Result (Unit {0}) Refusal) → s ≢ 0 → Admits false d s r t → Admits true d s r t
unfolding stream_open
unit-entered d s t (Ok done) n h = record { lengths = h.lengths; sound = h.sound; opened = rw (eqb-false s 0 n) h.opened; located = h.located }
unit-entered d s t (Err x) n h = rw (eqb-false s 0 n) h

-- question 4 of a unit, answered b
pub open-asked : (d : Disk) (u : ℕ) (t : Tables) → Sees false d 0 t → (b : Bool) (r : Result (Unit {0}) Refusal) → b ≡ open_unit d.rec u
    → MatchResult r (λ done. b ≡ true) (λ x. (x ≡ StreamClosed) × (b ≡ false)) → Admits false d u r t
unfolding number
open-asked d u t a b (Ok done) e h = stands false d u t a (sym e ∙ h)
open-asked d u t a b (Err x) e h = rw h.0 (sound-yes d _ a.lengths a.sound ∙ ask-no 4 (open_unit d.rec u) [] (sym e ∙ h.1))
