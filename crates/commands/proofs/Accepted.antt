-- An answer 0 is one of an accepted call.
use mathlib.Core.Path.{◌≡◌, refl, ap}
use Prim.Native.Nat.{ℕ, zero, suc}
use native.Mathlib.Omega.{arith}
use Rattle.disk.specs.Disk.{Disk}
use Rattle.disk.specs.Call.{Call}
use Rattle.disk.specs.Questions.{refusal}
use Rattle.disk.specs.Perform.{Result, perform}
use Rattle.disk.proofs.Performing.{perform-refused, refusal-code}

pub code-accepted : (c : Call) (d : Disk) → (perform c d).answer.code ≡ 0 → refusal c d ≡ 0
code-accepted c d h = go (refusal c d) refl
  where
    go : (n : ℕ) → refusal c d ≡ n → refusal c d ≡ 0
    go zero e = e
    go (suc m) e = absurd (omega (arith, h, refusal-code (suc m) d, ap (λ (x : Result). x.answer.code) (perform-refused c d m e)))
