-- The numbers of a state's lists: changes keep them within what they may take, and lists numbered 1 to n, each once, are at most n (`lists-few`); so are
-- blocks, on all lists together (`blocks-few`).
use mathlib.Core.Path.{◌≡◌, refl, sym, subst, ◌∙◌}
use mathlib.Core.Bool.{Bool, true, false, ◌&&◌, cond, false≢true}
use mathlib.Core.Option.{Option, none, some, some-injective}
use mathlib.Core.List.{List, [], ◌∷◌, map}
use Prim.Native.Nat.{ℕ, zero, suc, ◌+◌, ◌≤◌, ◌<◌}
use native.Mathlib.Omega.{arith}
use native.Mathlib.Decide.{ℕ_discrete}
use lib.Dec.{leb, eqb}
use lib.ListN.{length, length-map}
use Rattle.lists.specs.Basic.{all, keep, from, or_else}
use Rattle.lists.specs.Change.{Change, take_list, put_first, put_after, write, del_block, del_list}
use Rattle.lists.specs.State.{Block, Row, State, block, row, is_block_num, on_blocks_of, is_row, on_row, placed, insert_after, on_blocks, at, put, other_block, other_row, changed, apply, apply_all, overlay}
use Rattle.lists.specs.Lookup.{blocks_of}
use Rattle.lists.proofs.Basic.{and-true, or-both, eqb_same, eqb-false, eq-true, leb-true, bind-some, all_append, from-length}
use Rattle.lists.proofs.Apply.{apply_some}
use Rattle.lists.proofs.Count.{total, one, rows_of, times_on, places_of, at-num}
use Rattle.lists.proofs.Distinct.{Distinct}

module _ {D : Type 0} (p : ℕ → Bool) where
  -- does the list that the change takes, if any, pass the test? does every list of a state?
  abbrev pub may_take : Change D → Bool
  may_take (take_list l) = p l
  may_take (put_first b l) = true
  may_take (put_after b l q) = true
  may_take (write b d) = true
  may_take (del_block b) = true
  may_take (del_list l) = true

  abbrev pub numbered : List (Row D) → Bool
  numbered rs = all (λ r. p r.num) rs

  map-numbered : (h : Row D → Row D) → ((r : Row D) → (h r).num ≡ r.num) → (rs : List (Row D)) → numbered rs ≡ true → numbered (map h rs) ≡ true
  unfolding all
  map-numbered h e [] k = refl
  map-numbered h e (r ∷ rs) k = let (a, b) = and-true (p r.num) (numbered rs) k in rw (e r, a) (map-numbered h e rs b)

  keep-numbered : (q : Row D → Bool) (rs : List (Row D)) → numbered rs ≡ true → numbered (keep q rs) ≡ true
  unfolding all
  keep-numbered q [] k = refl
  keep-numbered q (r ∷ rs) k = let (a, b) = and-true (p r.num) (numbered rs) k in go (q r) a (keep-numbered q rs b)
    where
      go : (t : Bool) → p r.num ≡ true → numbered (keep q rs) ≡ true → numbered (cond t (r ∷ keep q rs) (keep q rs)) ≡ true
      go true a ih = rw a ih
      go false a ih = ih

  changed-numbered : (c : Change D) (rs : List (Row D)) → may_take c ≡ true → numbered rs ≡ true → numbered (changed c rs) ≡ true
  unfolding changed all
  changed-numbered (take_list l) rs m h = all_append (λ r. p r.num) rs (row l [] ∷ []) h (rw m)
  changed-numbered (put_first b l) rs m h = map-numbered (at l (λ bs. block b none ∷ bs)) (at-num l (λ bs. block b none ∷ bs)) rs h
  changed-numbered (put_after b l q) rs m h = map-numbered (at l (insert_after q (block b none))) (at-num l (insert_after q (block b none))) rs h
  changed-numbered (write b d) rs m h = map-numbered (on_blocks (map (put b d))) (λ r. refl) rs h
  changed-numbered (del_block b) rs m h = map-numbered (on_blocks (keep (other_block b))) (λ r. refl) rs h
  changed-numbered (del_list l) rs m h = keep-numbered (other_row l) rs h

  pub apply-numbered : (c : Change D) (s t : State D) → may_take c ≡ true → apply c s ≡ some t → numbered s.lists ≡ true → numbered t.lists ≡ true
  apply-numbered c s t m e h = let (a, f) = apply_some c s t e in rw f (changed-numbered c s.lists m h)

  pub apply_all-numbered : (cs : List (Change D)) (s t : State D) → all may_take cs ≡ true → apply_all cs s ≡ some t → numbered s.lists ≡ true → numbered t.lists ≡ true
  unfolding apply_all all
  apply_all-numbered [] s t m e h = subst (λ (x : State D). numbered x.lists ≡ true) (some-injective _ _ e) h
  apply_all-numbered (c ∷ cs) s t m e h =
      let (u, f, g) = bind-some (apply c s) (λ x. apply_all cs x) t e in
      let (a, b) = and-true (may_take c) (all may_take cs) m in
      apply_all-numbered cs u t b g (apply-numbered c s u a f h)

  pub overlay-numbered : (cs : List (Change D)) (s : State D) → all may_take cs ≡ true → numbered s.lists ≡ true → numbered (overlay cs s).lists ≡ true
  unfolding overlay or_else all
  overlay-numbered [] s m h = h
  overlay-numbered (c ∷ cs) s m h =
      let (a, b) = and-true (may_take c) (all may_take cs) m in
      overlay-numbered cs (or_else s (apply c s)) b (go a (apply c s) refl)
    where
      go : may_take c ≡ true → (o : Option (State D)) → apply c s ≡ o → numbered (or_else s o).lists ≡ true
      go a none e = h
      go a (some t) e = apply-numbered c s t a e h

-- Lists counted by their numbers.
module _ {A : Type 0} where
  total-plus : (f g : A → ℕ) (xs : List A) → total (λ x. f x + g x) xs ≡ total f xs + total g xs
  total-plus f g [] = omega arith
  total-plus f g (x ∷ xs) = omega (arith, total-plus f g xs)

  total-most : (f : A → ℕ) (xs : List A) → ((x : A) → f x ≤ 1) → total f xs ≤ length xs
  total-most f [] h = omega arith
  total-most f (x ∷ xs) h = omega (arith, h x, total-most f xs h)

-- a number in range is one of the numbers from k on
number-among : (m k n : ℕ) → k ≤ m → m < k + n → 1 ≤ total (λ l. one (eqb m l)) (from (λ l. l) k n)
unfolding from
number-among m k zero a b = absurd (omega arith)
number-among m k (suc n) a b = go (ℕ_discrete m k) (number-among m (suc k) n)
  where
    go : Dec (m ≡ k) → (suc k ≤ m → m < suc k + n → 1 ≤ total (λ l. one (eqb m l)) (from (λ l. l) (suc k) n))
        → 1 ≤ one (eqb m k) + total (λ l. one (eqb m l)) (from (λ l. l) (suc k) n)
    go (yes e) ih = rw (eq-true m k e) (omega arith)
    go (no e) ih = omega (arith, ih (omega arith) (omega arith))

module _ {D : Type 0} (n : ℕ) where
  lists-among : (rs : List (Row D)) → numbered (λ l. leb 1 l && leb l n) rs ≡ true → length rs ≤ total (λ l. rows_of l rs) (from (λ l. l) 1 n)
  unfolding all
  lists-among [] h = omega arith
  lists-among (r ∷ rs) h =
      let (a, b) = and-true (leb 1 r.num && leb r.num n) _ h in
      let (x, y) = and-true (leb 1 r.num) (leb r.num n) a in
      let lo = leb-true 1 r.num x in
      let hi = leb-true r.num n y in
      omega (arith, total-plus (λ l. one (is_row l r)) (λ l. rows_of l rs) (from (λ l. l) 1 n), number-among r.num 1 n lo (omega arith), lists-among rs b)

  pub lists-few : (rs : List (Row D)) → Distinct rs → numbered (λ l. leb 1 l && leb l n) rs ≡ true → length rs ≤ n
  lists-few rs d h = omega (arith, lists-among rs h, total-most (λ l. rows_of l rs) (from (λ l. l) 1 n) d.lists, from-length (λ l. l) 1 n)

-- Blocks counted by theirs, where none above n is on a list, nor is block 0.
abbrev pub blocks_in : {D : Type 0} → List (Row D) → ℕ
blocks_in rs = total (λ r. length r.blocks) rs

abbrev up_to : ℕ → List ℕ
up_to n = from (λ b. b) 1 n

module _ {D : Type 0} (n : ℕ) where
  row-among : (xs : List (Block D)) → ((b : ℕ) → leb 1 b && leb b n ≡ false → on_blocks_of b xs ≡ false) → length xs ≤ total (λ b. times_on b xs) (up_to n)
  row-among [] h = omega arith
  row-among (x ∷ xs) h = go (leb 1 x.num && leb x.num n) refl (row-among xs (λ b o. (or-both (is_block_num b x) (on_blocks_of b xs) (h b o)).1))
    where
      go : (t : Bool) → leb 1 x.num && leb x.num n ≡ t → length xs ≤ total (λ b. times_on b xs) (up_to n) → suc (length xs) ≤ total (λ b. one (is_block_num b x) + times_on b xs) (up_to n)
      go true e ih =
          let (u, v) = and-true (leb 1 x.num) (leb x.num n) e in
          let lo = leb-true 1 x.num u in
          let hi = leb-true x.num n v in
          omega (arith, total-plus (λ b. one (is_block_num b x)) (λ b. times_on b xs) (up_to n), number-among x.num 1 n lo (omega arith))
      go false e ih = absurd (false≢true (sym (or-both (is_block_num x.num x) (on_blocks_of x.num xs) (h x.num e)).0 ∙ eqb_same x.num))

  blocks-among : (rs : List (Row D)) → ((b : ℕ) → leb 1 b && leb b n ≡ false → placed b rs ≡ false) → blocks_in rs ≤ total (λ b. places_of b rs) (up_to n)
  unfolding placed
  blocks-among [] h = omega arith
  blocks-among (r ∷ rs) h =
      omega (arith, total-plus (λ b. times_on b r.blocks) (λ b. places_of b rs) (up_to n), row-among r.blocks (λ b o. (or-both (on_row b r) (placed b rs) (h b o)).0), blocks-among rs (λ b o. (or-both (on_row b r) (placed b rs) (h b o)).1))

  pub blocks-few : (rs : List (Row D)) → Distinct rs → ((b : ℕ) → leb 1 b && leb b n ≡ false → placed b rs ≡ false) → blocks_in rs ≤ n
  blocks-few rs d h = omega (arith, blocks-among rs h, total-most (λ b. places_of b rs) (up_to n) d.blocks, from-length (λ b. b) 1 n)

-- The blocks of the lists from k on, looked up list by list: no more than there are.
weight-none : (c m k n : ℕ) → m < k → total (λ l. cond (eqb m l) c 0) (from (λ l. l) k n) ≡ 0
unfolding from
weight-none c m k zero h = refl
weight-none c m k (suc n) h = rw (eqb-false m k (λ e. omega arith)) (omega (arith, weight-none c m (suc k) n (omega arith)))

weight-once : (c m k n : ℕ) → total (λ l. cond (eqb m l) c 0) (from (λ l. l) k n) ≤ c
unfolding from
weight-once c m k zero = omega arith
weight-once c m k (suc n) = go (ℕ_discrete m k) (weight-once c m (suc k) n)
  where
    go : Dec (m ≡ k) → total (λ l. cond (eqb m l) c 0) (from (λ l. l) (suc k) n) ≤ c
        → cond (eqb m k) c 0 + total (λ l. cond (eqb m l) c 0) (from (λ l. l) (suc k) n) ≤ c
    go (yes e) ih = rw (eq-true m k e) (omega (arith, weight-none c m (suc k) n (omega arith)))
    go (no e) ih = rw (eqb-false m k e) (omega arith)

total-le : {A : Type 0} (f g : A → ℕ) (xs : List A) → ((x : A) → f x ≤ g x) → total f xs ≤ total g xs
total-le f g [] h = omega arith
total-le f g (x ∷ xs) h = omega (arith, h x, total-le f g xs h)

module _ {D : Type 0} where
  row-looked : (r : Row D) (rs : List (Row D)) (l : ℕ) → length (blocks_of (r ∷ rs) l) ≤ cond (eqb r.num l) (length r.blocks) 0 + length (blocks_of rs l)
  unfolding blocks_of
  row-looked r rs l = go (eqb r.num l) refl
    where
      go : (t : Bool) → eqb r.num l ≡ t → length (blocks_of (r ∷ rs) l) ≤ cond t (length r.blocks) 0 + length (blocks_of rs l)
      go true e = rw (e, blocks_of) (omega (arith, length-map r.blocks (λ (x : Block D). x.num)))
      go false e = rw (e, blocks_of) (omega arith)

  pub blocks-looked : (k n : ℕ) (rs : List (Row D)) → total (λ l. length (blocks_of rs l)) (from (λ l. l) k n) ≤ blocks_in rs
  unfolding blocks_of
  blocks-looked k n [] = none (from (λ l. l) k n)
    where
      none : (ls : List ℕ) → total (λ l. length (blocks_of {D = D} [] l)) ls ≤ 0
      none [] = omega arith
      none (l ∷ ls) = omega (arith, none ls)
  blocks-looked k n (r ∷ rs) =
      let ls = from (λ l. l) k n in
      omega (
        arith,
        total-le (λ l. length (blocks_of (r ∷ rs) l)) (λ l. cond (eqb r.num l) (length r.blocks) 0 + length (blocks_of rs l)) ls (row-looked r rs),
        total-plus (λ l. cond (eqb r.num l) (length r.blocks) 0) (λ l. length (blocks_of rs l)) ls,
        weight-once (length r.blocks) r.num k n,
        blocks-looked k n rs,
      )
