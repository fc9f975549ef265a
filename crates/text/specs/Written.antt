-- A text put into a buffer from a position on: what the buffer holds then, and the position after the text.
use Rattle.std.specs.Prelude.{◌≡◌, List, ℕ, suc, ◌+◌, min, max, length}
use Rattle.std.proofs.lemmas.List.Edits.{sets}

-- byte after byte is stored; those past the buffer's end are lost
unfoldable pub written : List ℕ → ℕ → List ℕ → List ℕ
written out at text = sets out at text

-- the position after k bytes at a position of a buffer of n: a text that does not fit ends at n + 1, one that starts farther out stays there
unfoldable pub after_text : ℕ → ℕ → ℕ → ℕ
after_text n at k = max at (min (at + k) (suc n))

-- the text is put at a position of the buffer, which makes it `filled`, and the text that follows goes to `next`
pub record Puts (out : List ℕ) (at : ℕ) (text filled : List ℕ) (next : ℕ) : Type 0 where
  pub bytes : filled ≡ written out at text
  pub position : next ≡ after_text (length out) at (length text)
