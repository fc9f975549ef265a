-- What a message says before errno's text.
use Rattle.std.specs.Prelude.{List, [], ◌∷◌, ◌++◌, ℕ}

-- `WHO: WHAT`
abbrev pub message : List ℕ → List ℕ → List ℕ
message who what = (who ++ (58 ∷ 32 ∷ [])) ++ what
