-- The lists that tables show, taken one after the other and stored.
use mathlib.Core.Path.{◌≡◌, ap, ◌∙◌}
use mathlib.Core.Logic.{◌≢◌}
use mathlib.Core.Bool.{true, ◌||◌}
use mathlib.Core.List.{List, [], ◌∷◌}
use Prim.Native.Nat.{ℕ, zero, suc, ◌+◌, ◌≤◌, ◌<◌}
use native.Mathlib.Omega.{arith}
use lib.Dec.{eqb}
use lib.ListN.{length, get_or, set}
use Rattle.lists.specs.State.{Row, taken}
use Rattle.lists.specs.Lookup.{next_in, list_nums, taken_after}
use Rattle.lists.specs.promises.Tables.{Tables, Shows}
use Rattle.lists.proofs.Basic.{or_right, eqb_same, eqb-false}
use Rattle.lists.proofs.Runs.{lists-apart, lists-few, lists-run}
use Rattle.lists.proofs.Storing.{Storing, Stored, storing-none, storing-within, storing-more, storing-end, storing-full}

nums-taken : (rs : List (Row ℕ)) (i : ℕ) → i < length (list_nums rs) → taken (get_or (list_nums rs) i 0) rs ≡ true
unfolding list_nums taken
nums-taken [] i h = absurd (omega arith)
nums-taken (r ∷ rs) zero h = rw (eqb_same r.num)
nums-taken (r ∷ rs) (suc i) h = or_right (eqb r.num (get_or (list_nums rs) i 0)) _ (nums-taken rs i (omega arith))

-- i lists are stored, and list is the next
abbrev pub Taking : List ℕ → List (Row ℕ) → ℕ → List ℕ → ℕ → Type 0
Taking dest₀ rs i dest list = Storing dest₀ (list_nums rs) i dest list

pub taking-none : (dest : List ℕ) (rs : List (Row ℕ)) (list : ℕ) → list ≡ taken_after rs 0 → Taking dest rs 0 dest list
unfolding taken_after next_in
taking-none dest rs list e = storing-none dest (list_nums rs) list e

module _ (t : Tables) (rs : List (Row ℕ)) (s : Shows t rs) {dest₀ : List ℕ} {i : ℕ} {dest : List ℕ} {list : ℕ} (p : Taking dest₀ rs i dest list) where
  pub taking-more : {list' : ℕ} → i < length dest₀ → list ≢ 0 → (eqb list 0 || taken list rs ≡ true → list' ≡ taken_after rs list) → Taking dest₀ rs (i + 1) (set dest i list) list'
  taking-more h n f =
      let k = storing-within p n in
      let on : eqb list 0 || taken list rs ≡ true = rw (eqb-false list 0 n, p.follows) (nums-taken rs i k) in
      storing-more p h n (f on ∙ ap (taken_after rs) p.follows ∙ lists-run t rs s (suc i) k)

  pub taking-end : list ≡ 0 → Stored dest₀ (list_nums rs) i dest
  taking-end e = storing-end p (lists-apart t rs s).0 e

  pub taking-full : 16 ≤ i → Stored dest₀ (list_nums rs) i dest
  taking-full h = storing-full p (omega (arith, lists-few t rs s))
