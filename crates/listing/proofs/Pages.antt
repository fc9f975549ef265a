-- The page part by part: how long each part is, and what a state with other contents has.
use mathlib.Core.Path.{◌≡◌, refl, sym, ap, ◌∙◌}
use mathlib.Core.Logic.{◌≢◌}
use mathlib.Core.Bool.{Bool, true, false, cond}
use mathlib.Core.List.{List, [], ◌∷◌, ◌++◌, map}
use Prim.Native.Nat.{ℕ, zero, suc, ◌+◌, ◌-◌, ◌*◌, ◌≤◌, ◌<◌}
use native.Mathlib.Omega.{arith}
use lib.Dec.{eqb}
use lib.ListN.{length, get_or, length-append, length-drop, length-take, take, take-append-drop}
use lib.Seq.{slice, take_all, take-take}
use Rattle.lists.specs.Basic.{all, from, joined}
use Rattle.lists.specs.State.{Row, taken, map_row}
use Rattle.lists.specs.Lookup.{blocks_of}
use Rattle.lists.proofs.Basic.{and-true, all_append, eqb-true, eqb-false, eq-true, from_all, from-length, from-shift}
use Rattle.lists.proofs.Naturality.{taken-map, blocks_of-map}
use Rattle.text.specs.Columns.{blanks, right_aligned}
use Rattle.text.proofs.Columns.{blanks-length, aligned-length}
use Rattle.listing.specs.Page.{cells, on_line, margin, filled, page_line, line_count, list_page, page_lines, page_text}
use Rattle.listing.specs.promises.Taken.{of_taken}
use Rattle.listing.proofs.Lines.{joined-append, joined-more, each_take}

-- The columns.
pub cells-length : (bs : List ℕ) → length (cells bs) ≡ 3 * length bs
unfolding cells joined
cells-length [] = refl
cells-length (b ∷ bs) =
    omega (arith, length-append (right_aligned 3 b) (joined (map (right_aligned 3) bs)), aligned-length 3 b, cells-length bs)

pub cells-none : cells [] ≡ []
unfolding cells joined
cells-none = refl

pub cells-take : (bs : List ℕ) (i : ℕ) → i < length bs → cells (take (suc i) bs) ≡ cells (take i bs) ++ right_aligned 3 (get_or bs i 0)
unfolding cells
cells-take bs i h = each_take (right_aligned 3) bs i h

pub margin-first : (l : ℕ) → margin l 0 ≡ right_aligned 4 l ++ 32 ∷ []
unfolding margin
margin-first l = refl

pub margin-further : (l k : ℕ) → k ≢ 0 → margin l k ≡ blanks 5
unfolding margin blanks
margin-further l k h = rw (eqb-false k 0 h)

pub margin-length : (l k : ℕ) → length (margin l k) ≡ 5
unfolding margin
margin-length l k = go (eqb k 0)
  where
    go : (b : Bool) → length (cond b (right_aligned 4 l) (blanks 4) ++ 32 ∷ []) ≡ 5
    go true = omega (arith, length-append (right_aligned 4 l) (32 ∷ []), aligned-length 4 l)
    go false = omega (arith, length-append (blanks 4) (32 ∷ []), blanks-length 4)

pub line-few : (k : ℕ) (bs : List ℕ) → length (on_line k bs) ≤ 11
unfolding on_line
line-few k bs = omega (arith, length-drop (11 * k) (take (11 * k + 11) bs), length-take (11 * k + 11) bs)

module _ (l : ℕ) (bs : List ℕ) (k : ℕ) where
  abbrev here : List ℕ
  here = on_line k bs

  text-length : length (margin l k ++ cells here) ≡ 5 + 3 * length here
  text-length = omega (arith, length-append (margin l k) (cells here), margin-length l k, cells-length here)

  pub line-parts : page_line l bs k ≡ ((margin l k ++ cells here) ++ blanks (35 - 3 * length here)) ++ 10 ∷ []
  unfolding page_line filled
  line-parts =
      let e : 40 - length (margin l k ++ cells here) ≡ 35 - 3 * length here = omega (arith, text-length) in
      rw e

  -- "lines of exactly 40 characters and a line end"
  pub line-length : length (page_line l bs k) ≡ 41
  line-length =
      ap length line-parts
      ∙ omega (
        arith,
        line-few k bs,
        text-length,
        blanks-length (35 - 3 * length here),
        length-append (margin l k ++ cells here) (blanks (35 - 3 * length here)),
        length-append ((margin l k ++ cells here) ++ blanks (35 - 3 * length here)) (10 ∷ []),
      )

-- no list has more than 6 lines
pub count-few : (n : ℕ) → n ≤ 64 → line_count n ≤ 6
unfolding line_count
count-few n h = omega arith

-- A list's lines have all its blocks, in order.
lines-taken : (bs : List ℕ) (n : ℕ) → joined (from (λ k. on_line k bs) 0 n) ≡ take (11 * n) bs
unfolding joined from on_line
lines-taken bs zero = refl
lines-taken bs (suc n) =
    let e : 11 * suc n ≡ 11 * n + 11 = omega arith in
    let z : 0 + n ≡ n = omega arith in
    joined-more (λ k. on_line k bs) 0 n
    ∙ rw (z, lines-taken bs n, e)
    (ap (λ (t : List ℕ). t ++ slice (11 * n) (11 * n + 11) bs) (sym (take-take (11 * n) (11 * n + 11) bs (omega arith)))
    ∙ take-append-drop (11 * n) (take (11 * n + 11) bs))

pub lines-all : (bs : List ℕ) → joined (from (λ k. on_line k bs) 0 (line_count (length bs))) ≡ bs
unfolding line_count
lines-all bs = lines-taken bs (line_count (length bs)) ∙ take_all (11 * line_count (length bs)) bs (omega arith)

-- Lines joined.
abbrev is41 : List ℕ → Bool
is41 x = eqb (length x) 41

all-joined : {A : Type 0} (p : A → Bool) (f : ℕ → List A) (k n : ℕ) → ((j : ℕ) → all p (f j) ≡ true) → all p (joined (from f k n)) ≡ true
unfolding joined from all
all-joined p f k zero h = refl
all-joined p f k (suc n) h = all_append p (f k) (joined (from f (suc k) n)) (h k) (all-joined p f (suc k) n h)

joined_length : (xss : List (List ℕ)) → all is41 xss ≡ true → length (joined xss) ≡ 41 * length xss
unfolding joined all
joined_length [] h = refl
joined_length (x ∷ xss) h =
    let (a, b) = and-true (is41 x) (all is41 xss) h in
    omega (arith, length-append x (joined xss), eqb-true (length x) 41 a, joined_length xss b)

joined-joined : (f : ℕ → List (List ℕ)) (k n : ℕ) → joined (joined (from f k n)) ≡ joined (from (λ j. joined (f j)) k n)
unfolding joined from
joined-joined f k zero = refl
joined-joined f k (suc n) = joined-append (f k) (joined (from f (suc k) n)) ∙ ap (λ (t : List ℕ). joined (f k) ++ t) (joined-joined f (suc k) n)

-- the lines of a list, one behind the other
abbrev pub page_part : ℕ → List ℕ → List ℕ
page_part l bs = joined (from (page_line l bs) 0 (line_count (length bs)))

module _ {D : Type 0} (rs : List (Row D)) (l : ℕ) where
  pub list-page-none : taken l rs ≡ false → joined (list_page rs l) ≡ []
  unfolding list_page joined
  list-page-none h = rw h

  pub list-page-some : taken l rs ≡ true → list_page rs l ≡ from (page_line l (blocks_of rs l)) 0 (line_count (length (blocks_of rs l)))
  unfolding list_page
  list-page-some h = rw h

  pub list-page-part : joined (list_page rs l) ≡ cond (taken l rs) (page_part l (blocks_of rs l)) []
  unfolding list_page joined
  list-page-part = go (taken l rs)
    where
      go : (b : Bool)
          → joined (cond b (from (page_line l (blocks_of rs l)) 0 (line_count (length (blocks_of rs l)))) []) ≡ cond b (page_part l (blocks_of rs l)) []
      go true = refl
      go false = refl

  list-41 : all is41 (list_page rs l) ≡ true
  unfolding list_page all
  list-41 = go (taken l rs)
    where
      go : (b : Bool) → all is41 (cond b (from (page_line l (blocks_of rs l)) 0 (line_count (length (blocks_of rs l)))) []) ≡ true
      go true = from_all is41 (page_line l (blocks_of rs l)) 0 _ (λ k a b. eq-true _ 41 (line-length l (blocks_of rs l) k))
      go false = refl

  -- a list's bytes are those of its lines
  pub list-page-length : taken l rs ≡ true → length (joined (list_page rs l)) ≡ 41 * line_count (length (blocks_of rs l))
  list-page-length h =
      joined_length (list_page rs l) list-41
      ∙ ap (λ (x : List (List ℕ)). 41 * length x) (list-page-some h)
      ∙ ap (λ (n : ℕ). 41 * n) (from-length (page_line l (blocks_of rs l)) 0 (line_count (length (blocks_of rs l))))

module _ {D : Type 0} (rs : List (Row D)) where
  -- list after list
  pub page-by-list : page_text rs ≡ joined (from (λ l. joined (list_page rs l)) 1 16)
  unfolding page_text page_lines
  page-by-list = joined-joined (list_page rs) 1 16

  -- list after list, as `of_taken` puts them
  pub page-taken : page_text rs ≡ of_taken page_part rs
  unfolding of_taken
  page-taken = page-by-list ∙ ap joined (from-shift (λ l. joined (list_page rs l)) (λ l. cond (taken l rs) (page_part l (blocks_of rs l)) []) 1 1 16 (λ k l. list-page-part rs (1 + k)))

  -- "every line has 41 bytes"
  pub page-lines : all (λ x. eqb (length x) 41) (page_lines rs) ≡ true
  unfolding page_lines
  page-lines = all-joined is41 (list_page rs) 1 16 (list-41 rs)

  pub page-length : length (page_text rs) ≡ 41 * length (page_lines rs)
  unfolding page_text
  page-length = joined_length (page_lines rs) page-lines

-- The page says nothing of contents.
pub page-map : {D E : Type 0} (h : D → E) (rs : List (Row D)) → page_text (map (map_row h) rs) ≡ page_text rs
unfolding page_text page_lines list_page
page-map h rs =
    ap (λ (x : List (List (List ℕ))). joined (joined x))
    (from-shift (list_page (map (map_row h) rs)) (list_page rs) 1 1 16 (λ k l. rw (taken-map h (1 + k) rs, blocks_of-map h rs (1 + k))))
