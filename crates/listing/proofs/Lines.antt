-- Texts and sums by one part more, and the bytes on a card that a number says.
use mathlib.Core.Path.{◌≡◌, refl, sym, ap, ap₂, ◌∙◌}
use mathlib.Core.Bool.{Bool, true, false, cond}
use mathlib.Core.Option.{Option}
use mathlib.Core.List.{List, [], ◌∷◌, ◌++◌, map, map-append, append_assoc, append-nil}
use Prim.Native.Nat.{ℕ, suc, ◌+◌, ◌-◌, ◌*◌, ◌%◌, ◌≤◌, ◌<◌}
use native.Mathlib.Omega.{arith}
use native.Mathlib.Decide.{dec_le}
use native.Mathlib.Nat.{zero-add, mul_comm}
use native.Mathlib.Numerals.{add-one}
use lib.Dec.{ltb}
use Rattle.std.specs.Int.{from_bool}
use Rattle.std.specs.List.{sum}
use Rattle.std.proofs.lemmas.List.Recursion.{is_sum_by}
use lib.ListN.{length, take, drop, get_or, length-take, drop_of_length-le}
use lib.Seq.{slice, take-suc, take-add, drop_at, length-take-le}
use Rattle.lists.specs.Basic.{from, joined}
use Rattle.lists.specs.State.{Row, placed}
use Rattle.lists.specs.Lookup.{content_of}
use Rattle.lists.proofs.Basic.{from-snoc, ge-false}
use Rattle.card_log.specs.Card.{slot, count}
use Rattle.card_log.specs.promises.Location.{bytes_at, content_at}
use Rattle.card_log.proofs.Copying.{at-card}
use Rattle.text.specs.Decimal.{decimal}
use Rattle.listing.specs.Listing.{total, numbers, content_text, block_line, block_part}
use Rattle.listing.specs.promises.Shown.{sum_at}

pub joined-append : {A : Type 0} (xs ys : List (List A)) → joined (xs ++ ys) ≡ joined xs ++ joined ys
unfolding joined
joined-append [] ys = refl
joined-append (x ∷ xs) ys = rw (joined-append xs ys) (sym (append_assoc x (joined xs) (joined ys)))

pub joined-more : {A : Type 0} (f : ℕ → List A) (k n : ℕ) → joined (from f k (suc n)) ≡ joined (from f k n) ++ f (k + n)
unfolding joined
joined-more f k n =
    rw (from-snoc f k n) (joined-append (from f k n) (f (k + n) ∷ []) ∙ ap (λ (t : List _). joined (from f k n) ++ t) (append-nil (f (k + n))))

-- of what is numbered from 1 on
pub lines_more : (f : ℕ → List ℕ) (n : ℕ) → 1 ≤ n → joined (from f 1 (n + 1 - 1)) ≡ joined (from f 1 (n - 1)) ++ f n
lines_more f n h =
    let a : n + 1 - 1 ≡ suc (n - 1) = omega arith in
    let b : 1 + (n - 1) ≡ n = omega arith in
    ap (λ (m : ℕ). joined (from f 1 m)) a ∙ joined-more f 1 (n - 1) ∙ ap (λ (m : ℕ). joined (from f 1 (n - 1)) ++ f m) b

total-append : (a b : List ℕ) → total (a ++ b) ≡ total a + total b
unfolding total
total-append [] b = omega arith
total-append (x ∷ a) b = omega (arith, total-append a b)

total-more : (f : ℕ → ℕ) (k n : ℕ) → total (from f k (suc n)) ≡ total (from f k n) + f (k + n)
unfolding total
total-more f k n = ap total (from-snoc f k n) ∙ total-append (from f k n) (f (k + n) ∷ []) ∙ omega arith

-- std's sum
pub total-sum : (xs : List ℕ) → total xs ≡ sum xs
unfolding total
total-sum xs = simp (is_sum_by total (λ x. x) refl (λ _ _. refl))

-- a test counted
pub counted : (b : Bool) → from_bool b ≡ cond b 1 0
counted true = refl
counted false = refl

-- one segment more
pub total-step : (f : ℕ → ℕ) (g m n : ℕ) → m ≡ total (from f 0 g) → n ≡ f g → m + n ≡ total (from f 0 (g + 1))
total-step f g m n h k =
    ap₂ (λ (a b : ℕ). a + b) h (k ∙ ap f (sym (zero-add g))) ∙ sym (ap (λ (j : ℕ). total (from f 0 j)) (add-one g) ∙ total-more f 0 g)

pub count_at : (c : List ℕ) (g : ℕ) → get_or c (g * 4096 + 3584) 0 ≡ count c g
unfolding count
count_at c g = ap (λ (k : ℕ). get_or c (k + 3584) 0) (mul_comm g 4096)

pub numbers-one : (b : ℕ) → numbers (b ∷ []) ≡ 32 ∷ decimal b
unfolding numbers joined
numbers-one b = append-nil (32 ∷ decimal b)

-- texts of numbers one behind the other, one number more
pub each_take : (f : ℕ → List ℕ) (bs : List ℕ) (i : ℕ) → i < length bs → joined (map f (take (suc i) bs)) ≡ joined (map f (take i bs)) ++ f (get_or bs i 0)
unfolding joined
each_take f bs i h =
    ap (λ (l : List ℕ). joined (map f l)) (take-suc bs i 0 h)
    ∙ ap joined (map-append f (take i bs) (get_or bs i 0 ∷ []))
    ∙ joined-append (map f (take i bs)) (f (get_or bs i 0) ∷ [])
    ∙ ap (λ (t : List ℕ). joined (map f (take i bs)) ++ t) (append-nil (f (get_or bs i 0)))

pub numbers-take : (bs : List ℕ) (i : ℕ) → i < length bs → numbers (take (suc i) bs) ≡ numbers (take i bs) ++ numbers (get_or bs i 0 ∷ [])
unfolding numbers
numbers-take bs i h = each_take (λ b. 32 ∷ decimal b) bs i h ∙ ap (λ (t : List ℕ). numbers (take i bs) ++ t) (sym (numbers-one (get_or bs i 0)))

pub numbers-none : numbers [] ≡ []
unfolding numbers joined
numbers-none = refl

-- The parts of the text.
module _ {D : Type 0} (rs : List (Row D)) where
  module _ (sum : D → ℕ) (b : ℕ) where
    pub block_none : placed b rs ≡ false → block_part sum rs b ≡ []
    unfolding block_part
    block_none h = rw h

    pub block-some : (o : Option D) → placed b rs ≡ true → content_of rs b ≡ o → block_part sum rs b ≡ block_line b (content_text sum o)
    unfolding block_part
    block-some o h e = rw (h, e)

-- The bytes that a number says.
slot-none : (k : ℕ) → slot [] k ≡ []
unfolding slot
slot-none k = ap (take 256) (drop_of_length-le [] {i = 256 * k} (omega arith))

content-out : (c : List ℕ) (n : ℕ) → 1024 ≤ (n - 1) % 2048 → (content_at c [] [] n).body ≡ []
unfolding content_at bytes_at
content-out c n h = let i = (n - 1) % 2048 in rw (ge-false i 1024 h, slot-none (i - 1024), slot-none (i - 1056)) (same (ltb i 1056))
  where
    same : (b : Bool) → cond {A = List ℕ} b [] [] ≡ []
    same true = refl
    same false = refl

slot-part : (c : List ℕ) (k : ℕ) → slice (256 * k) (256 * k + 256) c ≡ slot c k
unfolding slot
slot-part c k = go (dec_le (256 * k) (length c))
  where
    go : Dec (256 * k ≤ length c) → slice (256 * k) (256 * k + 256) c ≡ take 256 (drop (256 * k) c)
    go (yes h) =
        ap (drop (256 * k)) (take-add (256 * k) 256 c)
        ∙ drop_at (take (256 * k) c) (take 256 (drop (256 * k) c)) (256 * k) (length-take-le (256 * k) c h)
    go (no h) =
        drop_of_length-le (take (256 * k + 256) c) {i = 256 * k} (omega (arith, length-take (256 * k + 256) c))
        ∙ sym (ap (take 256) (drop_of_length-le c {i = 256 * k} (omega arith)))

module _ (c : List ℕ) where
  pub sum-in : (n : ℕ) → (n - 1) % 2048 < 1024 → total (slice ((n - 1) % 2048 * 256) ((n - 1) % 2048 * 256 + 256) c) ≡ sum_at c n
  sum-in n h = let k = (n - 1) % 2048 in rw (mul_comm k 256, slot-part c k) (ap total (sym (at-card c [] [] n h)))

  pub sum-out : (n : ℕ) → 1024 ≤ (n - 1) % 2048 → 0 ≡ sum_at c n
  unfolding total
  sum-out n h = sym (ap total (content-out c n h))
