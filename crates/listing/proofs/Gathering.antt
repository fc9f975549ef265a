-- The blocks of a list that tables show, taken one after the other and stored.
use mathlib.Core.Path.{◌≡◌, sym, ap, ◌∙◌, subst}
use mathlib.Core.Logic.{◌≢◌, ⊎_elim}
use mathlib.Core.Bool.{true, false, ◌||◌}
use mathlib.Core.List.{List, [], ◌∷◌, map}
use Prim.Native.Nat.{ℕ, zero, suc, ◌+◌, ◌≤◌, ◌<◌}
use native.Mathlib.Omega.{arith}
use lib.Dec.{eqb}
use lib.ListN.{length, get_or, take, drop, set}
use lib.Seq.{take_at}
use Rattle.lists.specs.State.{Block, Row, on_list, on_blocks_of}
use Rattle.lists.specs.Lookup.{blocks_of, next_in, next_after}
use Rattle.lists.specs.promises.Tables.{Tables, Shows}
use Rattle.lists.proofs.Basic.{either, or_right, eqb_same, eqb-false}
use Rattle.lists.proofs.Runs.{blocks-apart, blocks-few, blocks-run}
use Rattle.listing.specs.promises.Gathered.{Holds}
use Rattle.lists.proofs.Storing.{Storing, Stored, storing-none, storing-within, storing-more, storing-end, storing-full}

-- the blocks of list l are on list l
row_on : (xs : List (Block ℕ)) (i : ℕ) → i < length (map (λ x. x.num) xs) → on_blocks_of (get_or (map (λ x. x.num) xs) i 0) xs ≡ true
row_on [] i h = absurd (omega arith)
row_on (x ∷ xs) zero h = rw (eqb_same x.num)
row_on (x ∷ xs) (suc i) h = or_right (eqb x.num (get_or (map (λ x. x.num) xs) i 0)) _ (row_on xs i (omega arith))

blocks-on : (l : ℕ) (rs : List (Row ℕ)) (i : ℕ) → i < length (blocks_of rs l) → on_list l (get_or (blocks_of rs l) i 0) rs ≡ true
unfolding blocks_of on_list
blocks-on l [] i h = absurd (omega arith)
blocks-on l (r ∷ rs) i h = ⊎_elim
    (λ (e : eqb r.num l ≡ true). rw (e, blocks_of, row_on r.blocks i (rw (e, blocks_of) at h)))
    (λ (e : eqb r.num l ≡ false).
    let q : blocks_of (r ∷ rs) l ≡ blocks_of rs l = rw (e, blocks_of) in
    subst (λ (ns : List ℕ). on_list l (get_or ns i 0) (r ∷ rs) ≡ true) (sym q) (rw e (blocks-on l rs i (rw q at h))))
    (either (eqb r.num l))

-- i of list l's blocks are stored, and block is the next
abbrev pub Gathering : List ℕ → List (Row ℕ) → ℕ → ℕ → List ℕ → ℕ → Type 0
Gathering dest₀ rs l i dest block = Storing dest₀ (blocks_of rs l) i dest block

pub gathering-none : (dest : List ℕ) (rs : List (Row ℕ)) (l block : ℕ) → block ≡ next_after rs l 0 → Gathering dest rs l 0 dest block
unfolding next_after next_in
gathering-none dest rs l block e = storing-none dest (blocks_of rs l) block e

gathered : (dest₀ ns : List ℕ) (i : ℕ) (dest : List ℕ) → Stored dest₀ ns i dest → Holds ns i dest
gathered dest₀ ns i dest (e, f) = record { many = e; first = ap (take i) f ∙ take_at ns (drop (length ns) dest₀) i (sym e) }

module _ (t : Tables) (rs : List (Row ℕ)) (s : Shows t rs) (l : ℕ) {dest₀ : List ℕ} {i : ℕ} {dest : List ℕ} {block : ℕ} (p : Gathering dest₀ rs l i dest block) where
  pub gathering-more : {block' : ℕ} → i < length dest₀ → block ≢ 0 → (eqb block 0 || on_list l block rs ≡ true → block' ≡ next_after rs l block)
      → Gathering dest₀ rs l (i + 1) (set dest i block) block'
  gathering-more h n f =
      let k = storing-within p n in
      let on : eqb block 0 || on_list l block rs ≡ true = rw (eqb-false block 0 n, p.follows) (blocks-on l rs i k) in
      storing-more p h n (f on ∙ ap (next_after rs l) p.follows ∙ blocks-run t rs s l (suc i) k)

  pub gathering-end : block ≡ 0 → Holds (blocks_of rs l) i dest
  gathering-end e = gathered dest₀ (blocks_of rs l) i dest (storing-end p (blocks-apart t rs s l).0 e)

  pub gathering-full : 64 ≤ i → Holds (blocks_of rs l) i dest
  gathering-full h = gathered dest₀ (blocks_of rs l) i dest (storing-full p (omega (arith, blocks-few t rs s l)))
