-- The definitions at known values.
use mathlib.Core.Path.{◌≡◌, refl}
use mathlib.Core.Bool.{false}
use mathlib.Core.List.{List, [], ◌∷◌}
use Prim.Native.Nat.{ℕ}
use lib.ListN.{take}
use Rattle.std.specs.Prelude.{None, Some}
use Rattle.text.specs.Adler.{adler, adler_from}
use Rattle.text.specs.Decimal.{digits, decimal, digits_only, value, number_after, number_of}
use Rattle.text.specs.Hex.{glyph, glyphs, trim_onto, trimmed, or_dash, hex_text, between, is_nibble, nibble, hex_only, is_hex, pairs, hex_bytes}
use Rattle.text.specs.Line.{run, word_from, same}
use Rattle.text.specs.Written.{written, after_text}

-- two bytes at the last place of three
cut : (written (1 ∷ 2 ∷ 3 ∷ []) 2 (7 ∷ 8 ∷ []) ≡ 1 ∷ 2 ∷ 7 ∷ []) × (after_text 3 2 2 ≡ 4)
unfolding written after_text
cut = (refl, refl)

-- 2 ^ 64 - 1
largest : List ℕ
largest = 49 ∷ 56 ∷ 52 ∷ 52 ∷ 54 ∷ 55 ∷ 52 ∷ 52 ∷ 48 ∷ 55 ∷ 51 ∷ 55 ∷ 48 ∷ 57 ∷ 53 ∷ 53 ∷ 49 ∷ 54 ∷ 49 ∷ 53 ∷ []

put-largest : decimal 18446744073709551615 ≡ largest
unfolding decimal digits largest
put-largest = refl

-- 2 ^ 64, `007`, `1x`, and no digit
numbers :
    (number_of (49 ∷ 56 ∷ 52 ∷ 52 ∷ 54 ∷ 55 ∷ 52 ∷ 52 ∷ 48 ∷ 55 ∷ 51 ∷ 55 ∷ 48 ∷ 57 ∷ 53 ∷ 53 ∷ 49 ∷ 54 ∷ 49 ∷ 54 ∷ []) ≡ None)
    × (number_of (48 ∷ 48 ∷ 55 ∷ []) ≡ Some 7)
    × (number_of (49 ∷ 120 ∷ []) ≡ None)
    × (number_of [] ≡ None)
unfolding number_of number_after digits_only value
numbers = (refl, refl, refl, refl)

-- `  ab c `
line : List ℕ
line = 32 ∷ 32 ∷ 97 ∷ 98 ∷ 32 ∷ 99 ∷ 32 ∷ []

words :
    (word_from line 0 ≡ record { start = 2; end = 4 })
    × (word_from line 4 ≡ record { start = 5; end = 6 })
    × (word_from line 6 ≡ record { start = 7; end = 7 })
unfolding word_from run line
words = (refl, refl, refl)

-- `0a00ff`, and `-`
hex-put : (hex_text (10 ∷ 0 ∷ 255 ∷ 0 ∷ 0 ∷ []) ≡ 48 ∷ 97 ∷ 48 ∷ 48 ∷ 102 ∷ 102 ∷ []) × (hex_text (0 ∷ 0 ∷ []) ≡ 45 ∷ [])
unfolding hex_text or_dash glyphs glyph trimmed trim_onto
hex-put = (refl, refl)

-- `aF0c`, and `aF0`
hex-read : (take 3 (hex_bytes (97 ∷ 70 ∷ 48 ∷ 99 ∷ [])) ≡ 175 ∷ 12 ∷ 0 ∷ []) × (is_hex (97 ∷ 70 ∷ 48 ∷ []) ≡ false)
unfolding hex_bytes pairs nibble between is_hex hex_only is_nibble same
hex-read = (refl, refl)

-- `Wikipedia`
sum : adler (87 ∷ 105 ∷ 107 ∷ 105 ∷ 112 ∷ 101 ∷ 100 ∷ 105 ∷ 97 ∷ []) ≡ 300286872
unfolding adler adler_from
sum = refl
