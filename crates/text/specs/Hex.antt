-- Bytes in hex digits: the text of some bytes, and the bytes that a text says.
use Rattle.std.specs.Prelude.{Bool, true, ◌&&◌, ◌||◌, cond, List, [], ◌∷◌, ◌++◌, ℕ, ◌+◌, ◌-◌, ◌*◌, ◌/◌, ◌%◌, leb, ltb, eqb, length, take, replicate}
use Rattle.text.specs.Line.{same}

-- `0` to `9`, then `a` to `f`
unfoldable pub glyph : ℕ → ℕ
glyph d = cond (ltb d 10) (48 + d) (87 + d)

unfoldable pub glyphs : List ℕ → List ℕ
glyphs [] = []
glyphs (x ∷ xs) = glyph (x / 16) ∷ glyph (x % 16) ∷ glyphs xs

-- without the zeros at the end
unfoldable pub trim_onto : ℕ → List ℕ → List ℕ
trim_onto x [] = cond (eqb x 0) [] (x ∷ [])
trim_onto x (y ∷ ys) = x ∷ y ∷ ys

unfoldable pub trimmed : List ℕ → List ℕ
trimmed [] = []
trimmed (x ∷ xs) = trim_onto x (trimmed xs)

unfoldable pub or_dash : List ℕ → List ℕ
or_dash [] = 45 ∷ []
or_dash (x ∷ xs) = x ∷ xs

unfoldable pub hex_text : List ℕ → List ℕ
hex_text bytes = or_dash (glyphs (trimmed bytes))

unfoldable pub between : ℕ → ℕ → ℕ → Bool
between low high c = leb low c && leb c high

-- is it a hex digit, of either case?
unfoldable pub is_nibble : ℕ → Bool
is_nibble c = between 48 57 c || between 97 102 c || between 65 70 c

unfoldable pub nibble : ℕ → ℕ
nibble c = cond (between 48 57 c) (c - 48) (cond (between 97 102 c) (c - 87) (cond (between 65 70 c) (c - 55) 0))

unfoldable pub hex_only : List ℕ → Bool
hex_only [] = true
hex_only (c ∷ cs) = is_nibble c && hex_only cs

-- a dash, or 1 to 256 pairs of hex digits
unfoldable pub is_hex : List ℕ → Bool
is_hex text =
    same text (45 ∷ []) || (ltb 0 (length text) && leb (length text) 512 && eqb (length text % 2) 0 && hex_only text)

unfoldable pub pairs : List ℕ → List ℕ
pairs [] = []
pairs (a ∷ []) = []
pairs (a ∷ b ∷ rest) = (16 * nibble a + nibble b) ∷ pairs rest

-- 256 bytes: the pairs, with zeros behind them
unfoldable pub hex_bytes : List ℕ → List ℕ
hex_bytes text = take 256 (pairs text ++ replicate 256 0)
