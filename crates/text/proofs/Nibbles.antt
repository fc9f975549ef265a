-- Hex digits put and read pair by pair, and lists without the zeros at their end.
use mathlib.Core.Path.{◌≡◌, refl, ◌∙◌}
use mathlib.Core.Logic.{◌≢◌}
use mathlib.Core.List.{List, [], ◌∷◌, ◌++◌}
use Prim.Native.Nat.{ℕ, zero, suc, ◌+◌, ◌*◌, ◌≤◌, ◌<◌}
use native.Mathlib.Numerals.{add-one}
use native.Mathlib.Omega.{arith}
use borrow.Author.Tests.{ne_eqb}
use Rattle.std.proofs.lemmas.Bool.Decides.{nat_tests}
use Rattle.std.specs.Char.{is_ascii_hexdigit}
use Rattle.std.specs.List.{list_all, AllWithin, HoldsAt}
use Rattle.std.specs.Option.{MatchOption}
use Rattle.std.specs.Prelude.{Option, None, Some}
use lib.ListN.{length, get_or, take, replicate, length-append, length-take, length-replicate}
use lib.Seq.{get_or-take}
use Rattle.text.specs.Hex.{glyphs, trim_onto, trimmed, or_dash, hex_text, between, is_nibble, nibble, hex_only, pairs, hex_bytes}

-- The text of some bytes.
pub glyphs-append : (a b : List ℕ) → glyphs (a ++ b) ≡ glyphs a ++ glyphs b
unfolding glyphs
glyphs-append [] b = refl
glyphs-append (x ∷ a) b = rw (glyphs-append a b)

-- the zeros at the end go, and the last other byte stays with all before it
trimmed-zeros : (l : List ℕ) → AllWithin (λ (b : ℕ). b ≡ 0) l 0 (length l) → trimmed l ≡ []
unfolding trimmed trim_onto
trimmed-zeros [] h = refl
trimmed-zeros (x ∷ l) h =
    rw (trimmed-zeros l (λ k d p q. h (suc k) d (omega arith) (omega arith)), h 0 0 (omega arith) (omega arith))

trimmed-upto : (l : List ℕ) (i : ℕ) → i < length l → HoldsAt (λ (b : ℕ). b ≢ 0) l i → AllWithin (λ (b : ℕ). b ≡ 0) l (i + 1) (length l)
    → trimmed l ≡ take (i + 1) l
unfolding trimmed trim_onto
trimmed-upto [] i h n z = absurd (omega arith)
trimmed-upto (x ∷ l) zero h n z =
    rw (trimmed-zeros l (λ k d p q. z (suc k) d (omega arith) (omega arith)), ne_eqb x 0 (n 0))
trimmed-upto (x ∷ []) (suc i) h n z = absurd (omega arith)
trimmed-upto (x ∷ y ∷ l) (suc i) h n z =
    rw (trimmed-upto (y ∷ l) i (omega arith) n (λ k d p q. z (suc k) d (omega arith) (omega arith)), add-one i, add-one (suc i))

-- r is the last byte that is no zero, and n bytes are those up to it
pub take-trimmed : (l : List ℕ) (r : Option ℕ) (n : ℕ)
    → MatchOption r (AllWithin (λ (b : ℕ). b ≡ 0) l 0 (length l)) (λ i. (i < length l) × HoldsAt (λ (b : ℕ). b ≢ 0) l i × AllWithin (λ (b : ℕ). b ≡ 0) l (i + 1) (length l))
    → MatchOption r (n ≡ 0) (λ i. n ≡ i + 1) → take n l ≡ trimmed l
take-trimmed l None n h e = rw (e, trimmed-zeros l h)
take-trimmed l (Some i) n h e = rw (e, trimmed-upto l i h.0 h.1 h.2)

pub hex_none : (l : List ℕ) → length (trimmed l) ≡ 0 → hex_text l ≡ 45 ∷ []
unfolding hex_text or_dash glyphs
hex_none l h = go (trimmed l) h
  where
    go : (t : List ℕ) → length t ≡ 0 → or_dash (glyphs t) ≡ 45 ∷ []
    go [] h = refl
    go (x ∷ t) h = absurd (omega arith)

pub hex_some : (l : List ℕ) → 0 < length (trimmed l) → hex_text l ≡ glyphs (trimmed l)
unfolding hex_text or_dash glyphs
hex_some l h = go (trimmed l) h
  where
    go : (t : List ℕ) → 0 < length t → or_dash (glyphs t) ≡ glyphs t
    go [] h = absurd (omega arith)
    go (x ∷ t) h = refl

-- The bytes that digits spell.
pub pairs-in : (text : List ℕ) (i : ℕ) → 2 * i + 1 < length text
    → get_or (pairs text) i 0 ≡ 16 * nibble (get_or text (2 * i) 0) + nibble (get_or text (2 * i + 1) 0)
unfolding pairs
pairs-in [] i h = absurd (omega arith)
pairs-in (a ∷ []) i h = absurd (omega arith)
pairs-in (a ∷ b ∷ rest) zero h = refl
pairs-in (a ∷ b ∷ rest) (suc i) h =
    let e : 2 * suc i ≡ suc (suc (2 * i)) = omega arith in
    let f : 2 * suc i + 1 ≡ suc (suc (2 * i + 1)) = omega arith in
    rw (f, e) (pairs-in rest i (omega arith))

pub pairs-out : (text : List ℕ) (i : ℕ) → length text ≤ 2 * i + 1 → get_or (pairs text) i 0 ≡ 0
unfolding pairs
pairs-out [] i h = refl
pairs-out (a ∷ []) i h = refl
pairs-out (a ∷ b ∷ rest) zero h = absurd (omega arith)
pairs-out (a ∷ b ∷ rest) (suc i) h = pairs-out rest i (omega arith)

-- n elements of a list with zeros behind it
padded-length : (n : ℕ) (l : List ℕ) → length (take n (l ++ replicate n 0)) ≡ n
padded-length n l =
    length-take n (l ++ replicate n 0) ∙ omega (arith, length-append l (replicate n 0), length-replicate {A = ℕ} n 0)

padded-at : (n : ℕ) (l : List ℕ) (i : ℕ) → i < n → get_or (take n (l ++ replicate n 0)) i 0 ≡ get_or l i 0
padded-at n l i h = get_or-take n (l ++ replicate n 0) i 0 h ∙ behind l i
  where
    zeros : (n i : ℕ) → ◌≡◌ {A = ℕ} (get_or (replicate n 0) i 0) 0
    zeros zero i = refl
    zeros (suc n) zero = refl
    zeros (suc n) (suc i) = zeros n i

    behind : (l : List ℕ) (i : ℕ) → get_or (l ++ replicate n 0) i 0 ≡ get_or l i 0
    behind [] i = zeros n i
    behind (x ∷ l) zero = refl
    behind (x ∷ l) (suc i) = behind l i

pub hex_bytes-length : (text : List ℕ) → length (hex_bytes text) ≡ 256
unfolding hex_bytes
hex_bytes-length text = padded-length 256 (pairs text)

pub hex_bytes-at : (text : List ℕ) (i : ℕ) → i < 256 → get_or (hex_bytes text) i 0 ≡ get_or (pairs text) i 0
unfolding hex_bytes
hex_bytes-at text i h = padded-at 256 (pairs text) i h

-- Tests, as the library makes them.
is_nibble-is : (c : ℕ) → is_ascii_hexdigit c ≡ is_nibble c
unfolding is_nibble between
is_nibble-is c = grind (arith, nat_tests)

pub hex_only-is : (text : List ℕ) → list_all is_ascii_hexdigit text ≡ hex_only text
unfolding hex_only
hex_only-is [] = refl
hex_only-is (c ∷ cs) = rw (is_nibble-is c, hex_only-is cs)

pub ruleset pair = (pairs-in, pairs-out)
