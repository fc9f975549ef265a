-- A formatted card: each segment whose count is 0 holds nothing, and a whole formatting leaves a card of empty segments (`formatted-carries`).
use mathlib.Core.Path.{◌≡◌, refl, sym, ap, ◌∙◌}
use mathlib.Core.List.{List, [], ◌∷◌}
use Prim.Native.Nat.{ℕ, zero, suc, ◌+◌, ◌*◌, ◌≤◌, ◌<◌}
use native.Mathlib.Omega.{arith}
use native.Mathlib.Decide.{ℕ_discrete}
use lib.ListN.{length, get_or, set, replicate, length-set, length-replicate}
use lib.Seq.{get_or-set_same, get_or-set_other}
use Rattle.lists.proofs.Basic.{get_or-same}
use Rattle.card_log.specs.Entry.{Entry}
use Rattle.card_log.specs.Card.{Written}
use Rattle.card_log.specs.Store.{Store, do_stores, format_stores}
use Rattle.card_log.proofs.Segment.{codes, slots_after, Holds, Empties, Packed, Carries}

pub holds-none : (c : List ℕ) (g : ℕ) → get_or c (4096 * g + 3584) 0 ≡ 0 → Holds c g []
unfolding codes slots_after
holds-none c g h = record { counted = h; coded = λ j l. absurd (omega arith); filled = tt; fine = tt; short = omega arith; few = omega arith }

-- Segments that hold nothing.
abbrev pub nils : ℕ → List (List (Entry Written))
nils n = replicate n []

nils-length : (n : ℕ) → length (nils n) ≡ n
nils-length n = length-replicate n []

get_or-nils : (n h : ℕ) → get_or (nils n) h [] ≡ []
get_or-nils n h = get_or-same n h []

empties-nils : (n : ℕ) → Empties (nils n)
empties-nils zero = tt
empties-nils (suc n) = empties-nils n

pub packed-nils : (n : ℕ) → Packed (nils n)
packed-nils zero = tt
packed-nils (suc n) = empties-nils n

-- The stores of a formatting.
pub format-length : (n : ℕ) → length (format_stores n) ≡ n
unfolding format_stores
format-length zero = refl
format-length (suc n) = ap suc (format-length n)

do_stores-length : (xs : List Store) (c : List ℕ) → length (do_stores xs c) ≡ length c
unfolding do_stores
do_stores-length [] c = refl
do_stores-length (x ∷ xs) c = do_stores-length xs (set c x.0 x.1) ∙ length-set c x.0 x.1

-- the counts from n on are 0 already
counts_zero : (n m : ℕ) (c : List ℕ) → 4096 * m ≤ length c → n ≤ m → ((h : ℕ) → n ≤ h → h < m → get_or c (4096 * h + 3584) 0 ≡ 0)
    → (h : ℕ) → h < m → get_or (do_stores (format_stores n) c) (4096 * h + 3584) 0 ≡ 0
unfolding do_stores format_stores
counts_zero zero m c l b z h i = z h (omega arith) i
counts_zero (suc n) m c l b z h i =
    counts_zero n m (set c (4096 * n + 3584) 0) (omega (arith, length-set c (4096 * n + 3584) 0)) (omega arith) (λ h a b. go h a b (ℕ_discrete h n)) h i
  where
    go : (h : ℕ) → n ≤ h → h < m → Dec (h ≡ n) → get_or (set c (4096 * n + 3584) 0) (4096 * h + 3584) 0 ≡ 0
    go h a b (yes q) = rw q (get_or-set_same c (4096 * n + 3584) 0 0 (omega arith))
    go h a b (no d) = get_or-set_other c (4096 * n + 3584) (4096 * h + 3584) 0 0 (omega arith) ∙ z h (omega arith) b

pub formatted-carries : (n : ℕ) (c : List ℕ) → 0 < n → length c ≡ 4096 * n → Carries (do_stores (format_stores n) c) (nils n)
formatted-carries n c p l =
    record {
      size = do_stores-length (format_stores n) c ∙ l ∙ ap (λ (m : ℕ). 4096 * m) (sym (nils-length n));
      some-segment = rw (nils-length n) p;
      packed = packed-nils n;
      holds = λ h i. rw (get_or-nils n h)
          (holds-none (do_stores (format_stores n) c) h
          (counts_zero n n c (omega arith) (omega arith) (λ k a b. absurd (omega arith)) h (rw (nils-length n) at i)));
    }
