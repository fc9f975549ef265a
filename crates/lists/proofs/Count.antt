-- How often a list and a block stand in a state, and how far a change can raise that.
use mathlib.Core.Path.{◌≡◌, refl}
use mathlib.Core.Bool.{Bool, true, false, cond}
use mathlib.Core.Option.{none, some}
use mathlib.Core.List.{List, [], ◌∷◌, ◌++◌, map}
use Prim.Native.Nat.{ℕ, suc, ◌+◌, ◌*◌, ◌≤◌}
use native.Mathlib.Nat.{le_refl, mul-le-mul_left}
use native.Mathlib.Omega.{arith}
use lib.Dec.{eqb}
use lib.ListN.{length}
use Rattle.lists.specs.Basic.{any, keep}
use Rattle.lists.specs.Change.{Change, take_list, put_first, put_after, write, del_block, del_list}
use Rattle.lists.specs.State.{Block, Row, block, row, is_block_num, is_row, on_row, taken, placed, insert_after, on_blocks, at, put, other_block, other_row, changed}
use Rattle.lists.proofs.Basic.{or-both, eqb-true}

-- the sum of f over a list
abbrev pub total : {A : Type 0} → (A → ℕ) → List A → ℕ
total f [] = 0
total f (x ∷ xs) = f x + total f xs

-- 1 where the test holds
abbrev pub one : Bool → ℕ
one b = cond b 1 0

module _ {A : Type 0} (f : A → ℕ) where
  total-append : (xs ys : List A) → total f (xs ++ ys) ≡ total f xs + total f ys
  total-append [] ys = omega arith
  total-append (x ∷ xs) ys = omega (arith, total-append xs ys)

  total-keep : (q : A → Bool) (xs : List A) → total f (keep q xs) ≤ total f xs
  total-keep q [] = le_refl 0
  total-keep q (x ∷ xs) = go (q x) (total-keep q xs)
    where
      go : (t : Bool) → total f (keep q xs) ≤ total f xs → total f (cond t (x ∷ keep q xs) (keep q xs)) ≤ f x + total f xs
      go true ih = omega arith
      go false ih = omega arith

  total-map : {B : Type 0} (g : B → ℕ) (h : B → A) → ((x : B) → f (h x) ≤ g x) → (xs : List B) → total f (map h xs) ≤ total g xs
  total-map g h e [] = le_refl 0
  total-map g h e (x ∷ xs) = omega (arith, e x, total-map g h e xs)

-- a sum is 0 where no element passes a test, if the test tells which elements count
module _ {A : Type 0} (p : A → Bool) (f : A → ℕ) where
  total-none : ((x : A) → p x ≡ false → f x ≡ 0) → (xs : List A) → any p xs ≡ false → total f xs ≡ 0
  total-none e [] h = refl
  total-none e (x ∷ xs) h = let (a, b) = or-both (p x) (any p xs) h in omega (arith, e x a, total-none e xs b)

  none-total : ((x : A) → f x ≡ 0 → p x ≡ false) → (xs : List A) → total f xs ≡ 0 → any p xs ≡ false
  none-total e [] h = refl
  none-total e (x ∷ xs) h = rw (e x (omega arith)) (none-total e xs (omega arith))

one_none : (b : Bool) → b ≡ false → one b ≡ 0
one_none b h = rw h

none-one : (b : Bool) → one b ≡ 0 → b ≡ false
none-one true h = absurd (omega arith)
none-one false h = refl

module _ {D : Type 0} where
  -- how often list l stands in a state, block b on a row, and block b in a state
  abbrev pub rows_of : ℕ → List (Row D) → ℕ
  rows_of l rs = total (λ r. one (is_row l r)) rs

  abbrev pub times_on : ℕ → List (Block D) → ℕ
  times_on b xs = total (λ x. one (is_block_num b x)) xs

  abbrev pub places_of : ℕ → List (Row D) → ℕ
  places_of b rs = total (λ r. times_on b r.blocks) rs

  pub taken_none : (l : ℕ) (rs : List (Row D)) → taken l rs ≡ false → rows_of l rs ≡ 0
  unfolding taken
  taken_none l rs h = total-none (is_row l) (λ r. one (is_row l r)) (λ r. one_none (is_row l r)) rs h

  pub none-taken : (l : ℕ) (rs : List (Row D)) → rows_of l rs ≡ 0 → taken l rs ≡ false
  unfolding taken
  none-taken l rs h = none-total (is_row l) (λ r. one (is_row l r)) (λ r. none-one (is_row l r)) rs h

  pub placed-none : (b : ℕ) (rs : List (Row D)) → placed b rs ≡ false → places_of b rs ≡ 0
  unfolding placed
  placed-none b rs h =
      total-none (on_row b) (λ r. times_on b r.blocks) (λ r. total-none (is_block_num b) (λ x. one (is_block_num b x)) (λ x. one_none (is_block_num b x)) r.blocks) rs h

  pub none-placed : (b : ℕ) (rs : List (Row D)) → places_of b rs ≡ 0 → placed b rs ≡ false
  unfolding placed
  none-placed b rs h =
      none-total (on_row b) (λ r. times_on b r.blocks) (λ r. none-total (is_block_num b) (λ x. one (is_block_num b x)) (λ x. none-one (is_block_num b x)) r.blocks) rs h

  pub rows-length : (l : ℕ) (rs : List (Row D)) → rows_of l rs ≤ length rs
  rows-length l [] = omega arith
  rows-length l (r ∷ rs) = go (is_row l r) (rows-length l rs)
    where
      go : (t : Bool) → rows_of l rs ≤ length rs → one t + rows_of l rs ≤ suc (length rs)
      go true ih = omega arith
      go false ih = omega arith

  -- does the change take list l? does it put block b?
  abbrev pub takes : Change D → ℕ → Bool
  takes (take_list n) l = eqb n l
  takes (put_first b n) l = false
  takes (put_after b n p) l = false
  takes (write b d) l = false
  takes (del_block b) l = false
  takes (del_list n) l = false

  abbrev pub puts : Change D → ℕ → Bool
  puts (take_list l) b = false
  puts (put_first n l) b = eqb n b
  puts (put_after n l p) b = eqb n b
  puts (write n d) b = false
  puts (del_block n) b = false
  puts (del_list l) b = false

  -- changed blocks leave the rows' numbers
  rows-kept : (h : Row D → Row D) → ((r : Row D) → (h r).num ≡ r.num) → (l : ℕ) (rs : List (Row D)) → rows_of l (map h rs) ≤ rows_of l rs
  rows-kept h e l rs = total-map (λ r. one (is_row l r)) (λ r. one (is_row l r)) h (λ r. rw (e r) (le_refl _)) rs

  pub at-num : (l : ℕ) (f : List (Block D) → List (Block D)) (r : Row D) → (at l f r).num ≡ r.num
  at-num l f r = go (is_row l r)
    where
      go : (t : Bool) → (cond t (on_blocks f r) r).num ≡ r.num
      go true = refl
      go false = refl

  pub rows-changed : (c : Change D) (rs : List (Row D)) (l : ℕ) → rows_of l (changed c rs) ≤ one (takes c l) + rows_of l rs
  unfolding changed
  rows-changed (take_list n) rs l = omega (arith, total-append (λ r. one (is_row l r)) rs (row n [] ∷ []))
  rows-changed (put_first b n) rs l = omega (arith, rows-kept (at n (λ bs. block b none ∷ bs)) (at-num n (λ bs. block b none ∷ bs)) l rs)
  rows-changed (put_after b n p) rs l = omega (arith, rows-kept (at n (insert_after p (block b none))) (at-num n (insert_after p (block b none))) l rs)
  rows-changed (write b d) rs l = omega (arith, rows-kept (on_blocks (map (put b d))) (λ r. refl) l rs)
  rows-changed (del_block b) rs l = omega (arith, rows-kept (on_blocks (keep (other_block b))) (λ r. refl) l rs)
  rows-changed (del_list n) rs l = omega (arith, total-keep (λ r. one (is_row l r)) (other_row n) rs)

  module _ (b : ℕ) where
    insert-times : (p n : ℕ) (bs : List (Block D)) → times_on b (insert_after p (block n none) bs) ≤ one (eqb n b) + times_on b bs
    insert-times p n [] = omega arith
    insert-times p n (x ∷ bs) = go (is_block_num p x) (insert-times p n bs)
      where
        go : (t : Bool) → times_on b (insert_after p (block n none) bs) ≤ one (eqb n b) + times_on b bs
            → times_on b (cond t (x ∷ block n none ∷ bs) (x ∷ insert_after p (block n none) bs)) ≤ one (eqb n b) + times_on b (x ∷ bs)
        go true ih = omega arith
        go false ih = omega arith

    put-times : (n : ℕ) (d : D) (x : Block D) → one (is_block_num b (put n d x)) ≤ one (is_block_num b x)
    put-times n d x = go (is_block_num n x) refl
      where
        go : (t : Bool) → is_block_num n x ≡ t → one (is_block_num b (cond t (block n (some d)) x)) ≤ one (is_block_num b x)
        go true e = rw (eqb-true x.num n e) (le_refl _)
        go false e = le_refl _

    at_places : (l k : ℕ) (f : List (Block D) → List (Block D)) → ((bs : List (Block D)) → times_on b (f bs) ≤ k + times_on b bs)
        → (rs : List (Row D)) → places_of b (map (at l f) rs) ≤ k * rows_of l rs + places_of b rs
    at_places l k f e [] = omega arith
    at_places l k f e (r ∷ rs) = go (is_row l r) (at_places l k f e rs)
      where
        go : (t : Bool) → places_of b (map (at l f) rs) ≤ k * rows_of l rs + places_of b rs
            → times_on b (cond t (on_blocks f r) r).blocks + places_of b (map (at l f) rs) ≤ k * (one t + rows_of l rs) + (times_on b r.blocks + places_of b rs)
        go true ih = omega (arith, e r.blocks)
        go false ih = omega arith

    rows-places : (f : List (Block D) → List (Block D)) → ((bs : List (Block D)) → times_on b (f bs) ≤ times_on b bs)
        → (rs : List (Row D)) → places_of b (map (on_blocks f) rs) ≤ places_of b rs
    rows-places f e rs = total-map (λ r. times_on b r.blocks) (λ r. times_on b r.blocks) (on_blocks f) (λ r. e r.blocks) rs

    -- m bounds how often a list stands
    pub places-changed : (c : Change D) (rs : List (Row D)) (m : ℕ) → ((l : ℕ) → rows_of l rs ≤ m) → places_of b (changed c rs) ≤ one (puts c b) * m + places_of b rs
    unfolding changed
    places-changed (take_list l) rs m h = omega (arith, total-append (λ r. times_on b r.blocks) rs (row l [] ∷ []))
    places-changed (put_first n l) rs m h =
        omega (arith, at_places l (one (eqb n b)) (λ bs. block n none ∷ bs) (λ bs. le_refl _) rs, mul-le-mul_left (one (eqb n b)) (h l))
    places-changed (put_after n l p) rs m h =
        omega (arith, at_places l (one (eqb n b)) (insert_after p (block n none)) (insert-times p n) rs, mul-le-mul_left (one (eqb n b)) (h l))
    places-changed (write n d) rs m h =
        omega (arith, rows-places (map (put n d)) (λ bs. total-map (λ x. one (is_block_num b x)) (λ x. one (is_block_num b x)) (put n d) (put-times n d) bs) rs)
    places-changed (del_block n) rs m h = omega (arith, rows-places (keep (other_block n)) (λ bs. total-keep (λ x. one (is_block_num b x)) (other_block n) bs) rs)
    places-changed (del_list l) rs m h = omega (arith, total-keep (λ r. times_on b r.blocks) (other_row l) rs)
