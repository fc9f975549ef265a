-- A text put for each of some numbers.
use Rattle.std.specs.Prelude.{List, [], ◌∷◌, ◌++◌, ℕ}

-- a text for each of these numbers
unfoldable pub each_of : (ℕ → List ℕ) → List ℕ → List ℕ
each_of f [] = []
each_of f (n ∷ ns) = f n ++ each_of f ns
