-- A line's words: the next one from a position on, and whether it spells a literal.
use Rattle.std.specs.Prelude.{Bool, true, false, ◌&&◌, cond, List, [], ◌∷◌, ℕ, zero, suc, ◌+◌, eqb, drop}
use Rattle.std.specs.Bool.{beq}
use Rattle.text.specs.declared.word.Word.{Word}

-- how many bytes at the front are blanks, or are none
unfoldable pub run : Bool → List ℕ → ℕ
run blanks [] = zero
run blanks (b ∷ bs) = cond (beq (eqb b 32) blanks) (suc (run blanks bs)) zero

-- behind the blanks, up to the next blank or the line's end
unfoldable pub word_from : List ℕ → ℕ → Word
word_from line from =
    let s = from + run true (drop from line) in
    record { start = s; end = s + run false (drop s line) }

-- are the bytes the same?
unfoldable pub same : List ℕ → List ℕ → Bool
same [] [] = true
same [] (y ∷ ys) = false
same (x ∷ xs) [] = false
same (x ∷ xs) (y ∷ ys) = eqb x y && same xs ys
