-- The record in its bytes: a byte stored changes one part, and leaves the others.
use mathlib.Core.Path.{◌≡◌, refl, sym, ap, ◌∙◌}
use mathlib.Core.Logic.{◌≢◌, ◌⊎◌, inl, inr}
use mathlib.Core.Bool.{true, cond}
use mathlib.Core.List.{List, [], ◌∷◌, ◌++◌, map, append-nil}
use Prim.Native.Nat.{ℕ, zero, suc, ◌+◌, ◌-◌, ◌*◌, ◌/◌, ◌%◌, ◌≤◌, ◌<◌}
use native.Mathlib.Omega.{arith}
use native.Mathlib.Nat.{zero-add}
use native.Mathlib.Decide.{dec_lt, ℕ_discrete}
use lib.Dec.{eqb}
use lib.ListN.{length, get_or, set, take, drop, length-set, length-drop, length-map, get_or-append}
use Rattle.std.proofs.lemmas.List.{take_all, drop_all}
use lib.Seq.{ext_get_or, get_or-set_same, get_or-set_other, get_or-take, get_or-drop, get_or-append-add, get_or-append_right, length-take-le}
use borrow.Rule.Slice.PartMut.{put_mid, post_of}
use Rattle.lists.specs.Basic.{from}
use Rattle.lists.proofs.Basic.{from-length, from-get, from-ext}
use Rattle.card_log.specs.Cell.{Cell, cell}
use Rattle.disk.specs.Record.{Unit, unit, cells_in, bytes_in, pair_in, pairs_in, unit_in, record_in, no_cell, no_unit, unit_at, shaped, Ring, Held, Tally, with_ring, with_flow, with_held, with_tally, with_count, emptied, releasing, released}
use Rattle.disk.specs.promises.Bytes.{cell_set, pair_set}

-- A list by its elements' numbers, with one element changed.
from-set : {A : Type 0} (z : A) (f g : ℕ → A) (n x : ℕ) (v : A) → x < n → g x ≡ v → ((i : ℕ) → i < n → i ≢ x → g i ≡ f i) → from g 0 n ≡ set (from f 0 n) x v
from-set z f g n x v l here other =
    ext_get_or z (from g 0 n) (set (from f 0 n) x v) (from-length g 0 n ∙ sym (length-set (from f 0 n) x v ∙ from-length f 0 n)) (λ i h. go i (rw (from-length g 0 n) at h) (ℕ_discrete i x))
  where
    go : (i : ℕ) → i < n → Dec (i ≡ x) → get_or (from g 0 n) i z ≡ get_or (set (from f 0 n) x v) i z
    go i h (yes e) = from-get g 0 n i z h ∙ ap g (zero-add i ∙ e) ∙ here ∙ sym (ap (λ (k : ℕ). get_or (set (from f 0 n) x v) k z) e ∙ get_or-set_same (from f 0 n) x v z (rw (from-length f 0 n) l))
    go i h (no e) = from-get g 0 n i z h ∙ ap g (zero-add i) ∙ other i h e ∙ sym (get_or-set_other (from f 0 n) x i v z e ∙ from-get f 0 n i z h ∙ ap f (zero-add i))

-- What stands at a part's bytes.
pub cell-read : (bs : List ℕ) (a n k : ℕ) → k < n
    → get_or (cells_in bs a n) k no_cell ≡ cell (get_or bs (a + 4 * k) 0) (get_or bs (a + 4 * k + 1) 0) (get_or bs (a + 4 * k + 2) 0) (get_or bs (a + 4 * k + 3) 0)
unfolding cells_in
cell-read bs a n k l = from-get f 0 n k no_cell l ∙ ap f (zero-add k)
  where
    f : ℕ → Cell
    f j = cell (get_or bs (a + 4 * j) 0) (get_or bs (a + 4 * j + 1) 0) (get_or bs (a + 4 * j + 2) 0) (get_or bs (a + 4 * j + 3) 0)

pub byte-read : (bs : List ℕ) (a n k : ℕ) → k < n → get_or (bytes_in bs a n) k 0 ≡ get_or bs (a + k) 0
unfolding bytes_in
byte-read bs a n k l = from-get (λ j. get_or bs (a + j) 0) 0 n k 0 l ∙ ap (λ (j : ℕ). get_or bs (a + j) 0) (zero-add k)

pub bytes-length : (bs : List ℕ) (a n : ℕ) → length (bytes_in bs a n) ≡ n
unfolding bytes_in
bytes-length bs a n = from-length (λ k. get_or bs (a + k) 0) 0 n

pub order-length : (bs : List ℕ) → length (record_in bs).tally.order ≡ 80
unfolding record_in
order-length bs = bytes-length bs 493 80

pub pair_read : (bs : List ℕ) (a n k : ℕ) → k < n → get_or (pairs_in bs a n) k 0 ≡ pair_in bs (a + 2 * k)
unfolding pairs_in
pair_read bs a n k l = from-get (λ j. pair_in bs (a + 2 * j)) 0 n k 0 l ∙ ap (λ (j : ℕ). pair_in bs (a + 2 * j)) (zero-add k)

pub unit-read : (bs : List ℕ) (u : ℕ) → 1 ≤ u → u ≤ 4 → unit_at (record_in bs) u ≡ unit_in bs (u - 1)
unfolding record_in
unit-read bs u p q = from-get (unit_in bs) 0 4 (u - 1) no_unit (omega arith) ∙ ap (unit_in bs) (zero-add (u - 1))

-- A part of the bytes.
pub part-read : (bs : List ℕ) (a n : ℕ) → a + n ≤ length bs → take n (drop a bs) ≡ bytes_in bs a n
part-read bs a n l =
    ext_get_or 0 (take n (drop a bs)) (bytes_in bs a n) (part-length ∙ sym (bytes-length bs a n))
    (λ i h. get_or-take n (drop a bs) i 0 (omega (arith, part-length)) ∙ get_or-drop a bs i 0 ∙ sym (byte-read bs a n i (omega (arith, part-length))))
  where
    part-length : length (take n (drop a bs)) ≡ n
    part-length = length-take-le n (drop a bs) (omega (arith, length-drop a bs))

pub ruleset reads = (byte-read, pair_read, unit-read, cell-read, part-read)

-- Others in its place.
module _ (bs ys : List ℕ) (a k : ℕ) (l : a + k ≤ length bs) (m : length ys ≡ k) where
  front-length : length (take a bs) ≡ a
  front-length = length-take-le a bs (omega arith)

  put-here : (i : ℕ) → i < k → get_or (put_mid a k bs ys) (a + i) 0 ≡ get_or ys i 0
  put-here i h =
      let e : a + i ≡ length (take a bs) + i = omega (arith, front-length) in
      ap (λ (j : ℕ). get_or (put_mid a k bs ys) j 0) e ∙ get_or-append-add (take a bs) (ys ++ post_of a k bs) i 0 ∙ get_or-append ys (post_of a k bs) 0 i (omega arith)

  put-other : (j : ℕ) → j < a ⊎ a + k ≤ j → get_or (put_mid a k bs ys) j 0 ≡ get_or bs j 0
  put-other j (inl h) = get_or-append (take a bs) (ys ++ post_of a k bs) 0 j (omega (arith, front-length)) ∙ get_or-take a bs j 0 h
  put-other j (inr h) =
      let e : j - length (take a bs) - length ys ≡ j - a - k = omega (arith, front-length) in
      get_or-append_right (take a bs) (ys ++ post_of a k bs) j 0 (omega (arith, front-length))
      ∙ get_or-append_right ys (post_of a k bs) (j - length (take a bs)) 0 (omega (arith, front-length))
      ∙ ap (λ (i : ℕ). get_or (post_of a k bs) i 0) e
      ∙ get_or-drop k (drop a bs) (j - a - k) 0 ∙ get_or-drop a bs (k + (j - a - k)) 0
      ∙ ap (λ (i : ℕ). get_or bs i 0) (omega arith)

  put-bytes : bytes_in (put_mid a k bs ys) a k ≡ ys
  put-bytes =
      ext_get_or 0 (bytes_in (put_mid a k bs ys) a k) ys (bytes-length (put_mid a k bs ys) a k ∙ sym m)
      (λ i h. let n : i < k = omega (arith, bytes-length (put_mid a k bs ys) a k) in byte-read (put_mid a k bs ys) a k i n ∙ put-here i n)

-- A number in two of them.
pair_sum : (n : ℕ) → n < 65536 → n % 256 + 256 * (n / 256 % 256) ≡ n
pair_sum n h = omega arith

pub pair-put : (bs ys : List ℕ) (a k n : ℕ) → k ≡ 2 → a + 2 ≤ length bs → ys ≡ n % 256 ∷ n / 256 % 256 ∷ [] → put_mid a k bs ys ≡ pair_set bs a n
pair-put bs ys a k n e l q = rw (e, q) (go a bs l)
  where
    x : ℕ
    x = n % 256

    y : ℕ
    y = n / 256 % 256

    go : (a : ℕ) (bs : List ℕ) → a + 2 ≤ length bs → put_mid a 2 bs (x ∷ y ∷ []) ≡ set (set bs a x) (a + 1) y
    go zero (b ∷ c ∷ bs) l = refl
    go zero (b ∷ []) l = absurd (omega arith)
    go zero [] l = absurd (omega arith)
    go (suc a) [] l = absurd (omega arith)
    go (suc a) (b ∷ bs) l = let e : suc a + 1 ≡ suc (a + 1) = omega arith in rw e (ap (λ (zs : List ℕ). b ∷ zs) (go a bs (omega arith)))

-- Bytes that agree from a up to e.
abbrev Agree : List ℕ → List ℕ → ℕ → ℕ → Type 0
Agree bs cs a e = (i : ℕ) → a ≤ i → i < e → get_or cs i 0 ≡ get_or bs i 0

cells_agree : (bs cs : List ℕ) (a n : ℕ) → Agree bs cs a (a + 4 * n) → cells_in cs a n ≡ cells_in bs a n
unfolding cells_in
cells_agree bs cs a n h =
    from-ext (λ k. cell (get_or cs (a + 4 * k) 0) (get_or cs (a + 4 * k + 1) 0) (get_or cs (a + 4 * k + 2) 0) (get_or cs (a + 4 * k + 3) 0))
    (λ k. cell (get_or bs (a + 4 * k) 0) (get_or bs (a + 4 * k + 1) 0) (get_or bs (a + 4 * k + 2) 0) (get_or bs (a + 4 * k + 3) 0)) n
    (λ k l i.
    cell (h (a + 4 * k) (omega arith) (omega arith) i) (h (a + 4 * k + 1) (omega arith) (omega arith) i) (h (a + 4 * k + 2) (omega arith) (omega arith) i) (h (a + 4 * k + 3) (omega arith) (omega arith) i))

bytes-agree : (bs cs : List ℕ) (a n : ℕ) → Agree bs cs a (a + n) → bytes_in cs a n ≡ bytes_in bs a n
unfolding bytes_in
bytes-agree bs cs a n h = from-ext (λ k. get_or cs (a + k) 0) (λ k. get_or bs (a + k) 0) n (λ k l. h (a + k) (omega arith) (omega arith))

unit-agree : (bs cs : List ℕ) (i : ℕ) → i < 4 → get_or cs (368 + i) 0 ≡ get_or bs (368 + i) 0 → get_or cs (372 + i) 0 ≡ get_or bs (372 + i) 0
    → Agree bs cs (128 + 60 * i) (128 + 60 * i + 60) → unit_in cs i ≡ unit_in bs i
unfolding unit_in
unit-agree bs cs i l o n h j = unit (o j) (n j) (cells_agree bs cs (128 + 60 * i) 15 h j)

-- A record by its parts.
parts : (cs : List ℕ) {q : Ring} {h : Held} {t : Tally} → (record_in cs).ring ≡ q → (record_in cs).held ≡ h → (record_in cs).tally ≡ t → record_in cs ≡ record { ring = q; held = h; tally = t }
parts cs q h t i = record { ring = q i; held = h i; tally = t i }

-- Those that bytes agree on.
module _ (bs cs : List ℕ) where
  same-pair : (a : ℕ) → Agree bs cs a (a + 2) → pair_in cs a ≡ pair_in bs a
  same-pair a h i = h a (omega arith) (omega arith) i + 256 * h (a + 1) (omega arith) (omega arith) i

  same-pairs : (a n : ℕ) → Agree bs cs a (a + 2 * n) → pairs_in cs a n ≡ pairs_in bs a n
  unfolding pairs_in
  same-pairs a n h = from-ext (λ k. pair_in cs (a + 2 * k)) (λ k. pair_in bs (a + 2 * k)) n (λ k l. same-pair (a + 2 * k) (λ j p q. h j (omega arith) (omega arith)))

  same_units : Agree bs cs 128 376 → from (unit_in cs) 0 4 ≡ from (unit_in bs) 0 4
  same_units h =
      from-ext (unit_in cs) (unit_in bs) 4
      (λ i l. unit-agree bs cs i l (h (368 + i) (omega arith) (omega arith)) (h (372 + i) (omega arith) (omega arith)) (λ j p q. h j (omega arith) (omega arith)))

  same-holder : Agree bs cs 376 456 → bytes_in cs 376 80 ≡ bytes_in bs 376 80
  same-holder h = bytes-agree bs cs 376 80 h

  same-ring : Agree bs cs 0 128 → Agree bs cs 456 460 → (record_in cs).ring ≡ (record_in bs).ring
  unfolding record_in
  same-ring h k i = record {
    queue = cells_agree bs cs 0 32 h i;
    head = k 456 (omega arith) (omega arith) i;
    len = k 457 (omega arith) (omega arith) i;
    done = same-pair 458 (λ j p q. k j (omega arith) q) i;
  }

  same-held : Agree bs cs 128 456 → (record_in cs).held ≡ (record_in bs).held
  unfolding record_in
  same-held h i = record { units = same_units (λ j p q. h j p (omega arith)) i; holder = same-holder (λ j p q. h j (omega arith) q) i }

  same-tally : Agree bs cs 460 573 → (record_in cs).tally ≡ (record_in bs).tally
  unfolding record_in
  same-tally h i = record { order = bytes-agree bs cs 493 80 (λ j p q. h j (omega arith) q) i; listed = h 460 (omega arith) (omega arith) i; conflicts = same-pairs 461 16 (λ j p q. h j (omega arith) (omega arith)) i }

  -- a unit more or less than it was
  units-set : (x : Unit) (i : ℕ) → i < 4 → unit_in cs i ≡ x → ((j : ℕ) → j < 4 → j ≢ i → unit_in cs j ≡ unit_in bs j) → from (unit_in cs) 0 4 ≡ set (from (unit_in bs) 0 4) i x
  units-set x i l here other = from-set no_unit (unit_in bs) (unit_in cs) 4 i x l here other

-- A byte stored in a row of bytes.
bytes-set : (bs : List ℕ) (a n x v : ℕ) → x < n → a + n ≤ length bs → bytes_in (set bs (a + x) v) a n ≡ set (bytes_in bs a n) x v
unfolding bytes_in
bytes-set bs a n x v l m =
    from-set 0 (λ k. get_or bs (a + k) 0) (λ k. get_or (set bs (a + x) v) (a + k) 0) n x v l (get_or-set_same bs (a + x) v 0 (omega arith))
    (λ i h e. get_or-set_other bs (a + x) (a + i) v 0 (λ z. e (omega arith)))

-- A cell stored.
module _ (bs : List ℕ) (i : ℕ) (c : Cell) (l : i + 4 ≤ length bs) where
  abbrev b0 : List ℕ
  b0 = set bs i c.map

  abbrev b1 : List ℕ
  b1 = set b0 (i + 1) c.first

  abbrev b2 : List ℕ
  b2 = set b1 (i + 2) c.second

  n0 : length b0 ≡ length bs
  n0 = length-set bs i c.map

  n1 : length b1 ≡ length bs
  n1 = length-set b0 (i + 1) c.first ∙ n0

  n2 : length b2 ≡ length bs
  n2 = length-set b1 (i + 2) c.second ∙ n1

  pub cell_set-length : length (cell_set bs i c) ≡ length bs
  cell_set-length = length-set b2 (i + 3) c.third ∙ n2

  stored-map : get_or (cell_set bs i c) i 0 ≡ c.map
  stored-map =
      get_or-set_other b2 (i + 3) i c.third 0 (λ z. omega arith) ∙ get_or-set_other b1 (i + 2) i c.second 0 (λ z. omega arith)
      ∙ get_or-set_other b0 (i + 1) i c.first 0 (λ z. omega arith) ∙ get_or-set_same bs i c.map 0 (omega arith)

  stored-first : get_or (cell_set bs i c) (i + 1) 0 ≡ c.first
  stored-first =
      get_or-set_other b2 (i + 3) (i + 1) c.third 0 (λ z. omega arith) ∙ get_or-set_other b1 (i + 2) (i + 1) c.second 0 (λ z. omega arith)
      ∙ get_or-set_same b0 (i + 1) c.first 0 (omega (arith, n0))

  stored-second : get_or (cell_set bs i c) (i + 2) 0 ≡ c.second
  stored-second = get_or-set_other b2 (i + 3) (i + 2) c.third 0 (λ z. omega arith) ∙ get_or-set_same b1 (i + 2) c.second 0 (omega (arith, n1))

  stored-third : get_or (cell_set bs i c) (i + 3) 0 ≡ c.third
  stored-third = get_or-set_same b2 (i + 3) c.third 0 (omega (arith, n2))

  stored_other : (j : ℕ) → j ≢ i → j ≢ i + 1 → j ≢ i + 2 → j ≢ i + 3 → get_or (cell_set bs i c) j 0 ≡ get_or bs j 0
  stored_other j p q r s =
      get_or-set_other b2 (i + 3) j c.third 0 s ∙ get_or-set_other b1 (i + 2) j c.second 0 r ∙ get_or-set_other b0 (i + 1) j c.first 0 q
      ∙ get_or-set_other bs i j c.map 0 p

cells-set : (bs : List ℕ) (a n p : ℕ) (c : Cell) → p < n → a + 4 * n ≤ length bs → cells_in (cell_set bs (a + 4 * p) c) a n ≡ set (cells_in bs a n) p c
unfolding cells_in
cells-set bs a n p c l m =
    from-set no_cell
    (λ k. cell (get_or bs (a + 4 * k) 0) (get_or bs (a + 4 * k + 1) 0) (get_or bs (a + 4 * k + 2) 0) (get_or bs (a + 4 * k + 3) 0))
    (λ k. cell (get_or (cell_set bs (a + 4 * p) c) (a + 4 * k) 0) (get_or (cell_set bs (a + 4 * p) c) (a + 4 * k + 1) 0) (get_or (cell_set bs (a + 4 * p) c) (a + 4 * k + 2) 0) (get_or (cell_set bs (a + 4 * p) c) (a + 4 * k + 3) 0))
    n p c l
    (λ j. cell (stored-map bs (a + 4 * p) c (omega arith) j) (stored-first bs (a + 4 * p) c (omega arith) j) (stored-second bs (a + 4 * p) c (omega arith) j) (stored-third bs (a + 4 * p) c (omega arith) j))
    (λ i h e j. cell (other i e (a + 4 * i) (omega arith) (omega arith) j) (other i e (a + 4 * i + 1) (omega arith) (omega arith) j) (other i e (a + 4 * i + 2) (omega arith) (omega arith) j) (other i e (a + 4 * i + 3) (omega arith) (omega arith) j))
  where
    other : (i : ℕ) → i ≢ p → (j : ℕ) → a + 4 * i ≤ j → j < a + 4 * i + 4 → get_or (cell_set bs (a + 4 * p) c) j 0 ≡ get_or bs j 0
    other i e j h k = stored_other bs (a + 4 * p) c (omega arith) j (λ z. e (omega arith)) (λ z. e (omega arith)) (λ z. e (omega arith)) (λ z. e (omega arith))

cells_at : (bs : List ℕ) (a n p i : ℕ) (c : Cell) → i ≡ a + 4 * p → p < n → a + 4 * n ≤ length bs → cells_in (cell_set bs i c) a n ≡ set (cells_in bs a n) p c
cells_at bs a n p i c e l m = ap (λ (j : ℕ). cells_in (cell_set bs j c) a n) e ∙ cells-set bs a n p c l m

-- The parts changed, one by one: bytes cs, which agree with bs elsewhere.
module _ (bs : List ℕ) (l : length bs ≡ 573) where
  -- a byte elsewhere
  away : (i v j : ℕ) → j ≢ i → get_or (set bs i v) j 0 ≡ get_or bs j 0
  away i v j n = get_or-set_other bs i j v 0 n

  pub listed_in_lem : (v : ℕ) → record_in (set bs 460 v) ≡ with_tally (record_in bs) (record_in bs).tally.order v (record_in bs).tally.conflicts
  unfolding record_in
  listed_in_lem v =
      let cs = set bs 460 v in
      let other = away 460 v in
      parts cs (same-ring bs cs (λ j p q. other j (λ z. omega arith)) (λ j p q. other j (λ z. omega arith))) (same-held bs cs (λ j p q. other j (λ z. omega arith)))
      (λ i. record { order = bytes-agree bs cs 493 80 (λ j p q. other j (λ z. omega arith)) i; listed = get_or-set_same bs 460 v 0 (omega arith) i; conflicts = same-pairs bs cs 461 16 (λ j p q. other j (λ z. omega arith)) i })

  pub order-in : (x v : ℕ) → x < 80 → record_in (set bs (493 + x) v) ≡ with_tally (record_in bs) (set (record_in bs).tally.order x v) (record_in bs).tally.listed (record_in bs).tally.conflicts
  unfolding record_in
  order-in x v h =
      let cs = set bs (493 + x) v in
      let other = away (493 + x) v in
      parts cs (same-ring bs cs (λ j p q. other j (λ z. omega arith)) (λ j p q. other j (λ z. omega arith))) (same-held bs cs (λ j p q. other j (λ z. omega arith)))
      (λ i. record { order = bytes-set bs 493 80 x v h (omega arith) i; listed = other 460 (λ z. omega arith) i; conflicts = same-pairs bs cs 461 16 (λ j p q. other j (λ z. omega arith)) i })

  pub holder_in : (x v : ℕ) → x < 80 → record_in (set bs (376 + x) v) ≡ with_held (record_in bs) (record_in bs).held.units (set (record_in bs).held.holder x v)
  unfolding record_in
  holder_in x v h =
      let cs = set bs (376 + x) v in
      let other = away (376 + x) v in
      parts cs (same-ring bs cs (λ j p q. other j (λ z. omega arith)) (λ j p q. other j (λ z. omega arith)))
      (λ i. record { units = same_units bs cs (λ j p q. other j (λ z. omega arith)) i; holder = bytes-set bs 376 80 x v h (omega arith) i })
      (same-tally bs cs (λ j p q. other j (λ z. omega arith)))

  -- two bytes
  twice : (i v k w j : ℕ) → j ≢ i → j ≢ k → get_or (set (set bs i v) k w) j 0 ≡ get_or bs j 0
  twice i v k w j n m = get_or-set_other (set bs i v) k j w 0 m ∙ away i v j n

  count-bytes : (x a b : ℕ) → x < 16
      → record_in (set (set bs (461 + 2 * x) a) (461 + 2 * x + 1) b) ≡ with_tally (record_in bs) (record_in bs).tally.order (record_in bs).tally.listed (set (record_in bs).tally.conflicts x (a + 256 * b))
  unfolding record_in pairs_in
  count-bytes x a b h =
      let y = 461 + 2 * x in
      let cs = set (set bs y a) (y + 1) b in
      let other = twice y a (y + 1) b in
      let low : get_or cs y 0 ≡ a = get_or-set_other (set bs y a) (y + 1) y b 0 (λ z. omega arith) ∙ get_or-set_same bs y a 0 (omega arith) in
      let high : get_or cs (y + 1) 0 ≡ b = get_or-set_same (set bs y a) (y + 1) b 0 (omega (arith, length-set bs y a)) in
      parts cs (same-ring bs cs (λ j p q. other j (λ z. omega arith) (λ z. omega arith)) (λ j p q. other j (λ z. omega arith) (λ z. omega arith)))
      (same-held bs cs (λ j p q. other j (λ z. omega arith) (λ z. omega arith)))
      (λ i. record {
        order = bytes-agree bs cs 493 80 (λ j p q. other j (λ z. omega arith) (λ z. omega arith)) i;
        listed = other 460 (λ z. omega arith) (λ z. omega arith) i;
        conflicts =
            from-set 0 (λ k. pair_in bs (461 + 2 * k)) (λ k. pair_in cs (461 + 2 * k)) 16 x (a + 256 * b) h (λ j. low j + 256 * high j)
            (λ k l n. same-pair bs cs (461 + 2 * k) (λ j p q. other j (λ z. n (omega arith)) (λ z. n (omega arith)))) i;
      })

  pub count-in : (w n : ℕ) → 1 ≤ w → w ≤ 16 → n < 65536 → record_in (pair_set bs (461 + 2 * (w - 1)) n) ≡ with_count (record_in bs) w n
  count-in w n p q h = count-bytes (w - 1) (n % 256) (n / 256 % 256) (omega arith) ∙ ap (with_count (record_in bs) w) (pair_sum n h)

  pub turn_in : (i o : ℕ) → i < 4 → record_in (set (set bs (368 + i) o) (372 + i) 0) ≡ with_held (record_in bs) (set (record_in bs).held.units i (emptied o (unit_in bs i))) (record_in bs).held.holder
  unfolding record_in unit_in
  turn_in i o h =
      let cs = set (set bs (368 + i) o) (372 + i) 0 in
      let other = twice (368 + i) o (372 + i) 0 in
      let flag : get_or cs (368 + i) 0 ≡ o = get_or-set_other (set bs (368 + i) o) (372 + i) (368 + i) 0 0 (λ z. omega arith) ∙ get_or-set_same bs (368 + i) o 0 (omega arith) in
      let count : get_or cs (372 + i) 0 ≡ 0 = get_or-set_same (set bs (368 + i) o) (372 + i) 0 0 (omega (arith, length-set bs (368 + i) o)) in
      let cells : cells_in cs (128 + 60 * i) 15 ≡ cells_in bs (128 + 60 * i) 15 = cells_agree bs cs (128 + 60 * i) 15 (λ j p q. other j (λ z. omega arith) (λ z. omega arith)) in
      parts cs (same-ring bs cs (λ j p q. other j (λ z. omega arith) (λ z. omega arith)) (λ j p q. other j (λ z. omega arith) (λ z. omega arith)))
      (λ x. record {
        units = units-set bs cs (emptied o (unit_in bs i)) i h (λ k. unit (flag k) (count k) (cells k))
            (λ j k n.
            unit-agree bs cs j k (other (368 + j) (λ z. n (omega arith)) (λ z. omega arith)) (other (372 + j) (λ z. omega arith) (λ z. n (omega arith)))
            (λ y p q. other y (λ z. omega arith) (λ z. omega arith))) x;
        holder = same-holder bs cs (λ j p q. other j (λ z. omega arith) (λ z. omega arith)) x;
      })
      (same-tally bs cs (λ j p q. other j (λ z. omega arith) (λ z. omega arith)))

  -- a cell, and a byte behind all of them
  celled : (a k w j : ℕ) (c : Cell) → a ≤ 364 → 368 ≤ k → j < a ⊎ a + 4 ≤ j → j ≢ k → get_or (set (cell_set bs a c) k w) j 0 ≡ get_or bs j 0
  celled a k w j c h m (inl n) o =
      get_or-set_other (cell_set bs a c) k j w 0 o ∙ stored_other bs a c (omega arith) j (λ z. omega arith) (λ z. omega arith) (λ z. omega arith) (λ z. omega arith)
  celled a k w j c h m (inr n) o =
      get_or-set_other (cell_set bs a c) k j w 0 o ∙ stored_other bs a c (omega arith) j (λ z. omega arith) (λ z. omega arith) (λ z. omega arith) (λ z. omega arith)

  pub append-in : (p v : ℕ) (c : Cell) → p < 32 → record_in (set (cell_set bs (4 * p) c) 457 v) ≡ with_ring (record_in bs) (set (record_in bs).ring.queue p c) (record_in bs).ring.head v (record_in bs).ring.done
  unfolding record_in
  append-in p v c h =
      let ds = cell_set bs (4 * p) c in
      let cs = set ds 457 v in
      let m : length ds ≡ 573 = cell_set-length bs (4 * p) c (omega arith) ∙ l in
      let other : (j : ℕ) → 128 ≤ j → j ≢ 457 → get_or cs j 0 ≡ get_or bs j 0 = λ j a n. celled (4 * p) 457 v j c (omega arith) (omega arith) (inr (omega arith)) n in
      parts cs
      (λ i. record {
        queue = (cells_agree ds cs 0 32 (λ j x y. get_or-set_other ds 457 j v 0 (λ z. omega arith)) ∙ cells_at bs 0 32 p (4 * p) c (sym (zero-add (4 * p))) h (omega arith)) i;
        head = other 456 (omega arith) (λ z. omega arith) i;
        len = get_or-set_same ds 457 v 0 (omega arith) i;
        done = same-pair bs cs 458 (λ j x y. other j (omega arith) (λ z. omega arith)) i;
      })
      (same-held bs cs (λ j x y. other j (omega arith) (λ z. omega arith))) (same-tally bs cs (λ j x y. other j (omega arith) (λ z. omega arith)))

  pub journal-in : (i n v : ℕ) (c : Cell) → i < 4 → n < 15
      → record_in (set (cell_set bs (128 + 4 * (15 * i + n)) c) (372 + i) v)
      ≡ with_held (record_in bs) (set (record_in bs).held.units i (unit (unit_in bs i).window v (set (unit_in bs i).journal n c))) (record_in bs).held.holder
  unfolding record_in unit_in
  journal-in i n v c h g =
      let a = 128 + 4 * (15 * i + n) in
      let ds = cell_set bs a c in
      let cs = set ds (372 + i) v in
      let m : length ds ≡ 573 = cell_set-length bs a c (omega arith) ∙ l in
      let other : (j : ℕ) → j < a ⊎ a + 4 ≤ j → j ≢ 372 + i → get_or cs j 0 ≡ get_or bs j 0 = λ j s o. celled a (372 + i) v j c (omega arith) (omega arith) s o in
      let cells : cells_in cs (128 + 60 * i) 15 ≡ set (cells_in bs (128 + 60 * i) 15) n c =
      cells_agree ds cs (128 + 60 * i) 15 (λ j x y. get_or-set_other ds (372 + i) j v 0 (λ z. omega arith)) ∙ cells_at bs (128 + 60 * i) 15 n a c (omega arith) g (omega arith) in
      let count : get_or cs (372 + i) 0 ≡ v = get_or-set_same ds (372 + i) v 0 (omega arith) in
      let flag : get_or cs (368 + i) 0 ≡ get_or bs (368 + i) 0 = other (368 + i) (inr (omega arith)) (λ z. omega arith) in
      parts cs (same-ring bs cs (λ j x y. other j (inl (omega arith)) (λ z. omega arith)) (λ j x y. other j (inr (omega arith)) (λ z. omega arith)))
      (λ y. record {
        units = units-set bs cs (unit (get_or bs (368 + i) 0) v (set (cells_in bs (128 + 60 * i) 15) n c)) i h (λ k. unit (flag k) (count k) (cells k))
            (λ j k e.
            unit-agree bs cs j k (other (368 + j) (inr (omega arith)) (λ z. omega arith)) (other (372 + j) (inr (omega arith)) (λ z. e (omega arith)))
            (λ x p q. other x (side x j e p q (dec_lt i j)) (λ z. omega arith))) y;
        holder = same-holder bs cs (λ j x y. other j (inr (omega arith)) (λ z. omega arith)) y;
      })
      (same-tally bs cs (λ j x y. other j (inr (omega arith)) (λ z. omega arith)))
    where
      side : (x j : ℕ) → j ≢ i → 128 + 60 * j ≤ x → x < 128 + 60 * j + 60 → Dec (i < j) → x < 128 + 4 * (15 * i + n) ⊎ 128 + 4 * (15 * i + n) + 4 ≤ x
      side x j e p q (yes o) = inr (omega arith)
      side x j e p q (no o) = inl (omega arith)

  -- four numbers of the queue
  flowed : (h n a b j : ℕ) → j < 456 ⊎ 460 ≤ j → get_or (set (set (set (set bs 456 h) 457 n) 458 a) 459 b) j 0 ≡ get_or bs j 0
  flowed h n a b j (inl m) =
      get_or-set_other (set (set (set bs 456 h) 457 n) 458 a) 459 j b 0 (λ z. omega arith) ∙ get_or-set_other (set (set bs 456 h) 457 n) 458 j a 0 (λ z. omega arith) ∙ twice 456 h 457 n j (λ z. omega arith) (λ z. omega arith)
  flowed h n a b j (inr m) =
      get_or-set_other (set (set (set bs 456 h) 457 n) 458 a) 459 j b 0 (λ z. omega arith) ∙ get_or-set_other (set (set bs 456 h) 457 n) 458 j a 0 (λ z. omega arith) ∙ twice 456 h 457 n j (λ z. omega arith) (λ z. omega arith)

  flow-bytes : (h n a b : ℕ) → record_in (set (set (set (set bs 456 h) 457 n) 458 a) 459 b) ≡ with_flow (record_in bs) h n (a + 256 * b)
  unfolding record_in
  flow-bytes h n a b =
      let x = set bs 456 h in
      let y = set x 457 n in
      let w = set y 458 a in
      let cs = set w 459 b in
      let other = flowed h n a b in
      let lx : length x ≡ 573 = length-set bs 456 h ∙ l in
      let ly : length y ≡ 573 = length-set x 457 n ∙ lx in
      let lw : length w ≡ 573 = length-set y 458 a ∙ ly in
      let head : get_or cs 456 0 ≡ h = get_or-set_other w 459 456 b 0 (λ z. omega arith) ∙ get_or-set_other y 458 456 a 0 (λ z. omega arith) ∙ get_or-set_other x 457 456 n 0 (λ z. omega arith) ∙ get_or-set_same bs 456 h 0 (omega arith) in
      let len : get_or cs 457 0 ≡ n = get_or-set_other w 459 457 b 0 (λ z. omega arith) ∙ get_or-set_other y 458 457 a 0 (λ z. omega arith) ∙ get_or-set_same x 457 n 0 (omega arith) in
      let low : get_or cs 458 0 ≡ a = get_or-set_other w 459 458 b 0 (λ z. omega arith) ∙ get_or-set_same y 458 a 0 (omega arith) in
      let high : get_or cs 459 0 ≡ b = get_or-set_same w 459 b 0 (omega arith) in
      parts cs (λ i. record { queue = cells_agree bs cs 0 32 (λ j p q. other j (inl (omega arith))) i; head = head i; len = len i; done = low i + 256 * high i })
      (same-held bs cs (λ j p q. other j (inl (omega arith)))) (same-tally bs cs (λ j p q. other j (inr (omega arith))))

  pub flow-in : (h n k : ℕ) → k < 65536 → record_in (pair_set (set (set bs 456 h) 457 n) 458 k) ≡ with_flow (record_in bs) h n k
  flow-in h n k q = flow-bytes h n (k % 256) (k / 256 % 256) ∙ ap (with_flow (record_in bs) h n) (pair_sum k q)

holder-bytes : (bs : List ℕ) → (record_in bs).held.holder ≡ bytes_in bs 376 80
unfolding record_in
holder-bytes bs = refl

-- What unit u holds, given up: other bytes in the holders' place.
holder-put : (bs ys : List ℕ) → length bs ≡ 573 → length ys ≡ 80 → record_in (put_mid 376 80 bs ys) ≡ with_held (record_in bs) (record_in bs).held.units ys
unfolding record_in
holder-put bs ys l m =
    let cs = put_mid 376 80 bs ys in
    let other : (j : ℕ) → j < 376 ⊎ 456 ≤ j → get_or cs j 0 ≡ get_or bs j 0 = put-other bs ys 376 80 (omega arith) m in
    parts cs (same-ring bs cs (λ j p q. other j (inl (omega arith))) (λ j p q. other j (inr p)))
    (λ x. record { units = same_units bs cs (λ j p q. other j (inl q)) x; holder = put-bytes bs ys 376 80 (omega arith) m x })
    (same-tally bs cs (λ j p q. other j (inr (omega arith))))

pub released_in : (u : ℕ) (bs ys : List ℕ) (i : ℕ) → length bs ≡ 573 → length (take 80 (drop 376 bs)) ≤ i
    → ys ≡ map (λ h. cond (eqb h u) 0 h) (take i (take 80 (drop 376 bs))) ++ drop i (take 80 (drop 376 bs)) → record_in (put_mid 376 80 bs ys) ≡ releasing u (record_in bs)
unfolding released
released_in u bs ys i l h e =
    let hs = bytes_in bs 376 80 in
    let n : length hs ≡ 80 = bytes-length bs 376 80 in
    let mid = part-read bs 376 80 (omega arith) in
    let m : length hs ≤ i = rw mid at h in
    let q : ys ≡ released u hs =
    e ∙ ap (λ (ms : List ℕ). released u (take i ms) ++ drop i ms) mid
    ∙ rw (take_all i hs (omega arith), drop_all i hs (omega arith)) (append-nil (released u hs)) in
    holder-put bs ys l (ap length q ∙ length-map hs (λ h. cond (eqb h u) 0 h) ∙ n)
    ∙ ap (λ (zs : List ℕ). with_held (record_in bs) (record_in bs).held.units zs) (q ∙ ap (released u) (sym (holder-bytes bs)))

pub ruleset writes = (listed_in_lem, order-in, holder_in, count-in, turn_in, append-in, journal-in, flow-in, unit-read)

-- Every record that bytes mean has its shape.
pub in-shaped : (bs : List ℕ) → shaped (record_in bs) ≡ true
unfolding shaped record_in unit_in cells_in bytes_in pairs_in from
in-shaped bs = refl
