-- Text in columns: blanks, and numbers right-aligned among them.
use Rattle.std.specs.Prelude.{List, ◌++◌, ℕ, length, drop, replicate}
use Rattle.text.specs.Decimal.{decimal}

-- blanks are byte 32
unfoldable pub blanks : ℕ → List ℕ
blanks n = replicate n 32

-- "right-aligned" in so many columns, whatever the number
unfoldable pub right_aligned : ℕ → ℕ → List ℕ
right_aligned columns n = let text = decimal n in drop (length text) (blanks columns ++ text)
