-- What a word on a program's command line is.
use Rattle.std.specs.Prelude.{Bool, true, ◌||◌, List, [], ◌∷◌, ℕ, eqb}
use Rattle.text.specs.Line.{same}

-- `-h` or `--help`
abbrev pub is_help : List ℕ → Bool
is_help word = same word (45 ∷ 104 ∷ []) || same word (45 ∷ 45 ∷ 104 ∷ 101 ∷ 108 ∷ 112 ∷ [])

-- no path: nothing, or what begins with a dash
unfoldable pub is_option : List ℕ → Bool
is_option [] = true
is_option (b ∷ bs) = eqb b 45
