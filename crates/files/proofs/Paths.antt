-- A path's folder and a link's start, by the bytes that a search from the end or from the front meets.
use mathlib.Core.Path.{◌≡◌, refl}
use mathlib.Core.Bool.{false}
use mathlib.Core.List.{List, [], ◌∷◌}
use Prim.Native.Nat.{ℕ, zero, suc, ◌+◌, ◌<◌}
use native.Mathlib.Omega.{arith}
use Rattle.std.proofs.Common.{◌≢◌, ne_eqb, eq-eqb, add-one}
use lib.Dec.{eqb}
use lib.ListN.{length, get_or}
use Rattle.files.specs.Path.{folder_of, folder_behind, is_rooted}

-- no byte is a slash
pub folder_none : (path : List ℕ) → ((k : ℕ) → k < length path → get_or path k 0 ≢ 47) → folder_of path ≡ 0
unfolding folder_of folder_behind
folder_none [] other = refl
folder_none (b ∷ bs) other =
    rw (folder_none bs (λ k h. other (suc k) (omega arith)), ne_eqb b 47 (other 0 (omega arith))) refl

-- the last slash
pub folder_at : (path : List ℕ) (n : ℕ) → n < length path → get_or path n 0 ≡ 47
    → ((k : ℕ) → n < k → k < length path → get_or path k 0 ≢ 47) → folder_of path ≡ n + 1
unfolding folder_of folder_behind
folder_at [] n within slash other = absurd (omega arith)
folder_at (b ∷ bs) zero within slash other =
    rw (folder_none bs (λ k h. other (suc k) (omega arith) (omega arith)), eq-eqb b 47 slash) refl
folder_at (b ∷ bs) (suc n) within slash other =
    rw (folder_at bs n (omega arith) slash (λ k h l. other (suc k) (omega arith) (omega arith)), add-one n, add-one (suc n)) refl

pub rooted_none : (link : List ℕ) → length link ≡ 0 → is_rooted link ≡ false
unfolding is_rooted
rooted_none [] h = refl
rooted_none (b ∷ bs) h = absurd (omega arith)

pub rooted_at : (link : List ℕ) → 0 < length link → is_rooted link ≡ eqb (get_or link 0 0) 47
unfolding is_rooted
rooted_at [] h = absurd (omega arith)
rooted_at (b ∷ bs) h = refl
