-- Numbers that a function gives in a lent buffer.
use Rattle.std.specs.Prelude.{◌≡◌, List, ℕ, length, take}

-- there are n of them, and they stand at the front of y
pub record Holds (ns : List ℕ) (n : ℕ) (y : List ℕ) : Type 0 where
  pub many : n ≡ length ns
  pub first : take n y ≡ ns
