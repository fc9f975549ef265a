-- A loop that tests one element after the other; what the tests of units and holders say of the record's clauses.
use mathlib.Core.Path.{◌≡◌, refl, sym, ap, ◌∙◌}
use mathlib.Core.Logic.{◌≢◌}
use mathlib.Core.Bool.{Bool, true, false, ◌&&◌, and-true as and_yes, false≢true}
use mathlib.Core.List.{List, [], ◌∷◌, ◌++◌}
use Prim.Native.Nat.{ℕ, zero, suc, ◌+◌, ◌-◌, ◌≤◌, ◌<◌}
use native.Mathlib.Omega.{arith}
use native.Mathlib.Numerals.{add-one}
use lib.Dec.{eqb}
use lib.ListN.{get_or}
use Rattle.std.specs.List.{list_all, range_with_len}
use Rattle.lists.specs.Basic.{all, from}
use Rattle.lists.specs.Change.{Change, map_change}
use Rattle.lists.specs.InUse.{brings}
use Rattle.lists.specs.Numbers.{all_numbers}
use Rattle.lists.proofs.Basic.{le-true, gt-false}
use Rattle.card_log.specs.Raced.{Raced}
use Rattle.card_log.specs.Entry.{member, raw, map_entry, legal, legal_change, as_change}
use Rattle.card_log.specs.declared.entry.LogEntry.{LogEntry}
use Rattle.card_log.specs.declared.entry.LogEntry.TheVariants.{Take, PutFirst, PutAfter, Write, DeleteBlock, DeleteList, Commit}
use Rattle.disk.specs.Record.{Record, unit_at, is_open}
use Rattle.disk.specs.Sound.{open_unit}
use Rattle.inspect.specs.promises.Clauses.{change_right, unit_right}

pub and-behind : (a b c : Bool) → a && b && c ≡ a && (b && c)
and-behind true b c = refl
and-behind false b c = refl

-- a test of each element, as an iterator asks it
listed-all : {A : Type 0} (p : A → Bool) (xs : List A) → list_all p xs ≡ all p xs
unfolding all
listed-all p [] = refl
listed-all p (x ∷ xs) = ap (λ (b : Bool). p x && b) (listed-all p xs)

pub all_listed : {A : Type 0} (p : A → Bool) (xs : List A) (b : Bool) → b ≡ list_all p xs → b ≡ all p xs
all_listed p xs b e = e ∙ listed-all p xs

-- and of the numbers from a on, n of them
pub all-range : {A : Type 0} (p : A → Bool) (f : ℕ → A) (test : ℕ → Bool) (a n : ℕ) → ((k : ℕ) → k < a + n → test k ≡ p (f k)) → list_all test (range_with_len a n) ≡ all p (from f a n)
unfolding all from
all-range p f test a zero e = refl
all-range p f test a (suc n) e = rw (e a (omega arith), add-one a, all-range p f test (suc a) n (λ k l. e k (omega arith)))

-- a test of numbers, by two halves
pub all-joined : {A : Type 0} (p : A → Bool) (f : ℕ → A) (a m n : ℕ) → all p (from f a (m + n)) ≡ all p (from f a m) && all p (from f (a + m) n)
unfolding all from
all-joined p f a zero n =
    let e : zero + n ≡ n = omega arith in
    let g : a + zero ≡ a = omega arith in
    rw (e, g)
all-joined p f a (suc m) n =
    let e : suc m + n ≡ suc (m + n) = omega arith in
    let g : a + suc m ≡ suc a + m = omega arith in
    rw (e, g, all-joined p f (suc a) m n) (sym (and-behind (p (f a)) (all p (from f (suc a) m)) (all p (from f (suc a + m) n))))

-- the blocks, then the lists
module _ (p : ℕ → Bool) (a : Bool) (e : a ≡ all p (from (λ n. n) 1 64)) where
  pub kinds-right : (b : Bool) → a ≡ true → b ≡ all p (from (λ n. n) 65 16) → b ≡ all p all_numbers
  unfolding all_numbers
  kinds-right b t f = f ∙ ap (λ (x : Bool). x && all p (from (λ n. n) 65 16)) (sym t ∙ e) ∙ sym (all-joined p (λ n. n) 1 64 16)

  pub kinds-wrong : a ≡ false → a ≡ all p all_numbers
  unfolding all_numbers
  kinds-wrong t = t ∙ ap (λ (x : Bool). x && all p (from (λ n. n) 65 16)) (sym t ∙ e) ∙ sym (all-joined p (λ n. n) 1 64 16)

-- and of one element more
pub all-snoc : {A : Type 0} (p : A → Bool) (xs : List A) (x : A) → all p (xs ++ x ∷ []) ≡ all p xs && p x
unfolding all
all-snoc p [] x = and_yes (p x)
all-snoc p (y ∷ ys) x = ap (λ (b : Bool). p y && b) (all-snoc p ys x) ∙ sym (and-behind (p y) (all p ys) (p x))

-- A change in unit u's journal.
module _ (hs : List ℕ) (u : ℕ) where
  pub change-wrong : (c : Change (Raced ℕ)) → legal (raw 0 (member c)) ≡ false → false ≡ change_right hs u c
  unfolding change_right
  change-wrong c h = rw h

  pub change-brings : (c : Change (Raced ℕ)) (b : ℕ) → legal (raw 0 (member c)) ≡ true → brings c ≡ b ∷ [] → eqb (get_or hs (b - 1) 0) u ≡ change_right hs u c
  unfolding change_right all
  change-brings c b h k = rw (h, k) (sym (and_yes (eqb (get_or hs (b - 1) 0) u)))

  pub change-brings-none : (e : LogEntry) → ((l : ℕ) → e ≢ Take l) → ((b l : ℕ) → e ≢ PutFirst b l) → ((b l p : ℕ) → e ≢ PutAfter b l p) → legal (raw 0 (member (as_change e))) ≡ true → true ≡ change_right hs u (as_change e)
  unfolding change_right all as_change legal raw map_entry map_change legal_change
  change-brings-none (Take l) f g k h = absurd (f l refl)
  change-brings-none (PutFirst b l) f g k h = absurd (g b l refl)
  change-brings-none (PutAfter b l p) f g k h = absurd (k b l p refl)
  change-brings-none (Write b s n) f g k h = rw h
  change-brings-none (DeleteBlock b) f g k h = rw h
  change-brings-none (DeleteList l) f g k h = rw h
  change-brings-none (Commit n) f g k h = absurd (false≢true h)

-- The units.
abbrev pub unit_good : Record → ℕ → Bool
unit_good r u = unit_right r.held.holder (unit_at r u) u

module _ (r : Record) (u : ℕ) where
  pub open-low : u < 1 → false ≡ open_unit r u
  unfolding open_unit
  open-low l = rw (gt-false 1 u l)

  pub open-high : 4 < u → false ≡ open_unit r u
  unfolding open_unit
  open-high l = rw (le-true 1 u (omega arith), gt-false u 4 l)

  pub open-unit : 1 ≤ u → u ≤ 4 → is_open (unit_at r u) ≡ open_unit r u
  unfolding open_unit
  open-unit a b = rw (le-true 1 u a, le-true u 4 b)

pub ruleset opens = (open-low, open-high, open-unit)
