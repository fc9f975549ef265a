-- The folder that a path names, and where a link's text goes.
use Rattle.std.specs.Prelude.{◌≡◌, Bool, false, cond, List, [], ◌∷◌, ◌++◌, ℕ, zero, suc, eqb, take, slice_index_or}

-- the last of a path's 4096 bytes is 0
abbrev pub Ended : List ℕ → Type 0
Ended bytes = slice_index_or bytes 4095 1 ≡ 0

-- a byte before a path of whose bytes so many name its folder
unfoldable pub folder_behind : ℕ → ℕ → ℕ
folder_behind b zero = cond (eqb b 47) 1 0
folder_behind b (suc n) = suc (suc n)

-- how many bytes name the folder: up to the last slash, that among them
unfoldable pub folder_of : List ℕ → ℕ
folder_of [] = 0
folder_of (b ∷ bs) = folder_behind b (folder_of bs)

-- a name in the folder of a path
abbrev pub beside : List ℕ → List ℕ → List ℕ
beside path name = take (folder_of path) path ++ name

unfoldable pub is_rooted : List ℕ → Bool
is_rooted [] = false
is_rooted (b ∷ bs) = eqb b 47

-- where the text of a link that stands at a path goes: the folder stays, unless the text begins at the root
unfoldable pub start_of : List ℕ → List ℕ → ℕ
start_of path link = cond (is_rooted link) 0 (folder_of path)
