-- Each arm is one index of the list; at 0 and past 3 it has 0. Assumes nothing.
use mathlib.Core.Path.{◌≡◌, refl}
use mathlib.Core.Logic.{◌≢◌}
use mathlib.Core.List.{[], ◌∷◌}
use Prim.Native.Nat.{ℕ, zero, suc}
use lib.ListN.{get_or}
use Rattle.card_log.proofs.encode.field.Goals as goal

none : (x y z i : ℕ) → i ≢ 1 → i ≢ 2 → i ≢ 3 → 0 ≡ get_or (0 ∷ x ∷ y ∷ z ∷ []) i 0
none x y z zero p q r = refl
none x y z (suc zero) p q r = absurd (p refl)
none x y z (suc (suc zero)) p q r = absurd (q refl)
none x y z (suc (suc (suc zero))) p q r = absurd (r refl)
none x y z (suc (suc (suc (suc i)))) p q r = refl

pub returns-in_default : goal.returns-in_default
returns-in_default c =
    let r = c.in_default.in_default-own.rest in
    let a = c.args in
    none a.x a.y a.z a.i r.0.0.1 r.0.1 r.1
