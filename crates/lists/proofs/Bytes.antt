-- The four tables in one array of bytes: what stands at a node's bytes is what the tables hold, and a byte stored there changes one number of one table.
use mathlib.Core.Path.{◌≡◌, sym, ap, ◌∙◌}
use mathlib.Core.Logic.{◌≢◌}
use mathlib.Core.List.{List}
use Prim.Native.Nat.{ℕ, ◌+◌, ◌*◌, ◌<◌}
use native.Mathlib.Omega.{arith}
use native.Mathlib.Nat.{add-zero, zero-add}
use native.Mathlib.Decide.{ℕ_discrete}
use lib.ListN.{length, get_or, set, length-set}
use lib.Seq.{ext_get_or, get_or-set_same, get_or-set_other}
use Rattle.lists.specs.Basic.{from}
use Rattle.lists.specs.promises.Tables.{column, locations_in, tables_in, next_of, prev_of, owner_of, location_of, with_next, with_prev, with_owner, with_location}
use Rattle.lists.proofs.Basic.{from-length, from-get, from-ext}

-- A list by its elements' numbers, with one element changed.
from-set : (f g : ℕ → ℕ) (n x v : ℕ) → x < n → g x ≡ v → ((i : ℕ) → i < n → i ≢ x → g i ≡ f i) → from g 0 n ≡ set (from f 0 n) x v
from-set f g n x v l here other =
    ext_get_or 0 (from g 0 n) (set (from f 0 n) x v) (from-length g 0 n ∙ sym (length-set (from f 0 n) x v ∙ from-length f 0 n)) (λ i h. go i (rw (from-length g 0 n) at h) (ℕ_discrete i x))
  where
    go : (i : ℕ) → i < n → Dec (i ≡ x) → get_or (from g 0 n) i 0 ≡ get_or (set (from f 0 n) x v) i 0
    go i h (yes e) = from-get g 0 n i 0 h ∙ ap g (zero-add i ∙ e) ∙ here ∙ sym (ap (λ (k : ℕ). get_or (set (from f 0 n) x v) k 0) e ∙ get_or-set_same (from f 0 n) x v 0 (rw (from-length f 0 n) l))
    go i h (no e) = from-get g 0 n i 0 h ∙ ap g (zero-add i) ∙ other i h e ∙ sym (get_or-set_other (from f 0 n) x i v 0 e ∙ from-get f 0 n i 0 h ∙ ap f (zero-add i))

-- What stands at a node's bytes.
module _ (bs : List ℕ) (x : ℕ) (h : x < 256) where
  in-column : (f : ℕ) → get_or (column f bs) x 0 ≡ get_or bs (4 * x + f) 0
  unfolding column
  in-column f = from-get (λ n. get_or bs (4 * n + f) 0) 0 256 x 0 h ∙ ap (λ (n : ℕ). get_or bs (4 * n + f) 0) (zero-add x)

  in-locations : get_or (locations_in bs) x 0 ≡ get_or bs (4 * x + 3) 0 + 256 * get_or bs (1024 + x) 0
  unfolding locations_in
  in-locations =
      from-get (λ n. get_or bs (4 * n + 3) 0 + 256 * get_or bs (1024 + n) 0) 0 256 x 0 h ∙ ap (λ (n : ℕ). get_or bs (4 * n + 3) 0 + 256 * get_or bs (1024 + n) 0) (zero-add x)

  pub next-read : get_or bs (4 * x) 0 ≡ next_of (tables_in bs) x
  unfolding tables_in
  next-read = ap (λ (n : ℕ). get_or bs n 0) (sym (add-zero (4 * x))) ∙ sym (in-column 0)

  pub prev-read : get_or bs (4 * x + 1) 0 ≡ prev_of (tables_in bs) x
  unfolding tables_in
  prev-read = sym (in-column 1)

  pub owner-read : get_or bs (4 * x + 2) 0 ≡ owner_of (tables_in bs) x
  unfolding tables_in
  owner-read = sym (in-column 2)

  pub location-read : get_or bs (4 * x + 3) 0 + 256 * get_or bs (1024 + x) 0 ≡ location_of (tables_in bs) x
  unfolding tables_in
  location-read = sym in-locations

pub next-length : (bs : List ℕ) → length (tables_in bs).next ≡ 256
unfolding tables_in column
next-length bs = from-length (λ n. get_or bs (4 * n + 0) 0) 0 256

-- A byte stored.
module _ (bs : List ℕ) (x v : ℕ) (h : x < 256) (l : length bs ≡ 1280) where
  column-set : (f : ℕ) → f < 4 → column f (set bs (4 * x + f) v) ≡ set (column f bs) x v
  unfolding column
  column-set f g = from-set (λ n. get_or bs (4 * n + f) 0) (λ n. get_or (set bs (4 * x + f) v) (4 * n + f) 0) 256 x v h
      (get_or-set_same bs (4 * x + f) v 0 (omega arith))
      (λ i k e. get_or-set_other bs (4 * x + f) (4 * i + f) v 0 (λ z. e (omega arith)))

  column-other : (f g : ℕ) → f < 4 → g < 4 → f ≢ g → column g (set bs (4 * x + f) v) ≡ column g bs
  unfolding column
  column-other f g a b n = from-ext (λ n. get_or (set bs (4 * x + f) v) (4 * n + g) 0) (λ n. get_or bs (4 * n + g) 0) 256
      (λ i k. get_or-set_other bs (4 * x + f) (4 * i + g) v 0 (λ z. n (omega arith)))

  column-high : (g : ℕ) → g < 4 → column g (set bs (1024 + x) v) ≡ column g bs
  unfolding column
  column-high g b = from-ext (λ n. get_or (set bs (1024 + x) v) (4 * n + g) 0) (λ n. get_or bs (4 * n + g) 0) 256
      (λ i k. get_or-set_other bs (1024 + x) (4 * i + g) v 0 (λ z. omega arith))

  locations-other : (f : ℕ) → f < 3 → locations_in (set bs (4 * x + f) v) ≡ locations_in bs
  unfolding locations_in
  locations-other f a = from-ext (λ n. get_or (set bs (4 * x + f) v) (4 * n + 3) 0 + 256 * get_or (set bs (4 * x + f) v) (1024 + n) 0)
      (λ n. get_or bs (4 * n + 3) 0 + 256 * get_or bs (1024 + n) 0) 256
      (λ i k. rw (get_or-set_other bs (4 * x + f) (4 * i + 3) v 0 (λ z. omega arith), get_or-set_other bs (4 * x + f) (1024 + i) v 0 (λ z. omega arith)))

  pub next-set : tables_in (set bs (4 * x) v) ≡ with_next x v (tables_in bs)
  unfolding tables_in
  next-set = rw (← add-zero (4 * x), column-set 0 (omega arith), column-other 0 1 (omega arith) (omega arith) (λ z. omega arith), column-other 0 2 (omega arith) (omega arith) (λ z. omega arith), locations-other 0 (omega arith))

  pub prev-set : tables_in (set bs (4 * x + 1) v) ≡ with_prev x v (tables_in bs)
  unfolding tables_in
  prev-set = rw (column-other 1 0 (omega arith) (omega arith) (λ z. omega arith), column-set 1 (omega arith), column-other 1 2 (omega arith) (omega arith) (λ z. omega arith), locations-other 1 (omega arith))

  pub owner-set : tables_in (set bs (4 * x + 2) v) ≡ with_owner x v (tables_in bs)
  unfolding tables_in
  owner-set = rw (column-other 2 0 (omega arith) (omega arith) (λ z. omega arith), column-other 2 1 (omega arith) (omega arith) (λ z. omega arith), column-set 2 (omega arith), locations-other 2 (omega arith))

-- A location stored in its two bytes.
module _ (bs : List ℕ) (x a b : ℕ) (h : x < 256) (l : length bs ≡ 1280) where
  locations-set : locations_in (set (set bs (4 * x + 3) a) (1024 + x) b) ≡ set (locations_in bs) x (a + 256 * b)
  unfolding locations_in
  locations-set =
      let cs = set bs (4 * x + 3) a in
      let k : length cs ≡ 1280 = length-set bs (4 * x + 3) a ∙ l in
      from-set (λ n. get_or bs (4 * n + 3) 0 + 256 * get_or bs (1024 + n) 0) (λ n. get_or (set cs (1024 + x) b) (4 * n + 3) 0 + 256 * get_or (set cs (1024 + x) b) (1024 + n) 0) 256 x (a + 256 * b) h
      (rw (get_or-set_other cs (1024 + x) (4 * x + 3) b 0 (λ z. omega arith), get_or-set_same bs (4 * x + 3) a 0 (omega arith), get_or-set_same cs (1024 + x) b 0 (omega arith)))
      (λ i m e. rw (
        get_or-set_other cs (1024 + x) (4 * i + 3) b 0 (λ z. omega arith),
        get_or-set_other bs (4 * x + 3) (4 * i + 3) a 0 (λ z. e (omega arith)),
        get_or-set_other cs (1024 + x) (1024 + i) b 0 (λ z. e (omega arith)),
        get_or-set_other bs (4 * x + 3) (1024 + i) a 0 (λ z. omega arith),
      ))

  pub location-set : tables_in (set (set bs (4 * x + 3) a) (1024 + x) b) ≡ with_location x (a + 256 * b) (tables_in bs)
  unfolding tables_in
  location-set =
      let cs = set bs (4 * x + 3) a in
      let k : length cs ≡ 1280 = length-set bs (4 * x + 3) a ∙ l in
      let same : (f : ℕ) → f < 3 → column f (set cs (1024 + x) b) ≡ column f bs =
      λ f g. column-high cs x b h k f (omega arith) ∙ column-other bs x a h l 3 f (omega arith) (omega arith) (λ z. omega arith) in
      rw (same 0 (omega arith), same 1 (omega arith), same 2 (omega arith), locations-set)
