-- Adler-32 of some bytes (RFC 1950).
use Rattle.std.specs.Prelude.{List, [], ◌∷◌, ℕ, ◌+◌, ◌*◌, ◌%◌}

-- the two sums so far, and the bytes that are left
unfoldable pub adler_from : ℕ → ℕ → List ℕ → ℕ
adler_from a b [] = 65536 * b + a
adler_from a b (x ∷ xs) = adler_from ((a + x) % 65521) ((b + (a + x) % 65521) % 65521) xs

unfoldable pub adler : List ℕ → ℕ
adler bytes = adler_from 1 0 bytes
