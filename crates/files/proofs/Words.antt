-- A word by its first byte.
use mathlib.Core.Path.{◌≡◌, refl}
use mathlib.Core.Bool.{true}
use mathlib.Core.List.{List, [], ◌∷◌}
use Prim.Native.Nat.{ℕ, ◌<◌}
use native.Mathlib.Omega.{arith}
use lib.Dec.{eqb}
use lib.ListN.{length, get_or}
use Rattle.files.specs.Arguments.{is_option}

pub option_none : (word : List ℕ) → length word < 1 → is_option word ≡ true
unfolding is_option
option_none [] h = refl
option_none (b ∷ bs) h = absurd (omega arith)

pub option_at : (word : List ℕ) → 0 < length word → is_option word ≡ eqb (get_or word 0 0) 45
unfolding is_option
option_at [] h = absurd (omega arith)
option_at (b ∷ bs) h = refl
