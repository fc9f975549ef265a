-- The order of the free numbers as loops read it: its places one by one, and how often each number is listed, counted in a table.
use mathlib.Core.Path.{◌≡◌, sym, ap, ◌∙◌}
use mathlib.Core.Bool.{true}
use mathlib.Core.List.{List, [], ◌∷◌}
use Prim.Native.Nat.{ℕ, ◌+◌, ◌≤◌, ◌<◌}
use native.Mathlib.Omega.{arith}
use native.Mathlib.Numerals.{add-one}
use native.Mathlib.Decide.{ℕ_discrete}
use lib.Dec.{leb}
use lib.ListN.{length, get_or, set, take, replicate, length-set, length-replicate, get_or-replicate}
use lib.Seq.{take-suc, length-take-le, get_or-set_same, get_or-set_other}
use Rattle.lists.specs.Basic.{times}
use Rattle.lists.proofs.Basic.{and-true, leb-true}
use Rattle.lists.proofs.Dropping.{times-most}
use Rattle.lists.proofs.Times.{times-append, times-here, times-other}
use Rattle.disk.specs.Record.{Record}
use Rattle.disk.specs.Sound.{order_sound}

module _ (r : Record) where
  pub order-few : order_sound r ≡ true → r.tally.listed ≤ 80
  unfolding order_sound
  order-few h = leb-true r.tally.listed 80 (and-true (leb r.tally.listed 80) _ (and-true _ _ h).0).0

-- `seen` says of every byte how often it is among the first k.
pub record Counted (xs : List ℕ) (k : ℕ) (seen : List ℕ) : Type 0 where
  pub long : length seen ≡ 256
  pub count : (n : ℕ) → n < 256 → get_or seen n 0 ≡ times n (take k xs)

pub counted_none : (xs seen : List ℕ) → seen ≡ replicate 256 0 → Counted xs 0 seen
unfolding times
counted_none xs seen e = record {
  long = ap length e ∙ length-replicate {A = ℕ} 256 0;
  count = λ n l. ap (λ (s : List ℕ). get_or s n 0) e ∙ get_or-replicate 256 n 0 0 l;
}

module _ (xs : List ℕ) (k : ℕ) (seen : List ℕ) (h : Counted xs k seen) where
  pub counted-few : k ≤ length xs → (n : ℕ) → n < 256 → get_or seen n 0 ≤ k
  counted-few l n b = omega (arith, h.count n b, times-most n (take k xs), length-take-le k xs l)

  -- number x, in place k, counted too
  module _ (x : ℕ) (e : x ≡ get_or xs k 0) (l : k < length xs) where
    one_more : (n : ℕ) → times n (take (k + 1) xs) ≡ times n (take k xs) + times n (x ∷ [])
    one_more n =
        ap (λ (j : ℕ). times n (take j xs)) (add-one k) ∙ ap (times n) (take-suc xs k 0 l) ∙ times-append n (take k xs) (get_or xs k 0 ∷ [])
        ∙ ap (λ (j : ℕ). times n (take k xs) + times n (j ∷ [])) (sym e)

    count_next : (n : ℕ) → n < 256 → Dec (n ≡ x) → get_or (set seen x (get_or seen x 0 + 1)) n 0 ≡ times n (take (k + 1) xs)
    unfolding times
    count_next n b (yes q) =
        rw q (omega (arith, get_or-set_same seen x (get_or seen x 0 + 1) 0 (omega (arith, h.long)), h.count x (omega arith), one_more x, times-here x []))
    count_next n b (no c) =
        omega (arith, get_or-set_other seen x n (get_or seen x 0 + 1) 0 c, h.count n b, one_more n, times-other n x [] (λ q. c (sym q)))

    pub counted_next : Counted xs (k + 1) (set seen x (get_or seen x 0 + 1))
    counted_next = record {
      long = length-set seen x (get_or seen x 0 + 1) ∙ h.long;
      count = λ n b. count_next n b (ℕ_discrete n x);
    }
