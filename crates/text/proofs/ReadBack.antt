-- What is put is read back: a number of 64 bits, and 256 bytes.
use mathlib.Core.Path.{◌≡◌, refl, sym, ap, ◌∙◌}
use mathlib.Core.Bool.{Bool, true, false, ◌&&◌, ◌||◌, cond}
use mathlib.Core.List.{List, [], ◌∷◌, ◌++◌}
use Prim.Native.Nat.{ℕ, zero, suc, ◌+◌, ◌-◌, ◌*◌, ◌/◌, ◌%◌, ◌^◌, ◌≤◌, ◌<◌}
use native.Mathlib.Omega.{arith}
use native.Mathlib.Decide.{dec_lt}
use borrow.Author.Tests.{lt-ltb, le-ltb, le-leb, lt-leb, eq-eqb, eqb-true}
use lib.Dec.{leb, eqb}
use lib.ListN.{length, get_or, length-append}
use lib.Seq.{ext_get_or}
use Rattle.std.specs.Prelude.{Some}
use Rattle.text.specs.Decimal.{digits, decimal, digits_only, value, number_after, number_of}
use Rattle.text.specs.Hex.{glyph, glyphs, trim_onto, trimmed, or_dash, hex_text, between, is_nibble, nibble, hex_only, is_hex, pairs, hex_bytes}
use Rattle.text.specs.Line.{same}
use Rattle.text.proofs.Digits.{number-some}
use Rattle.text.proofs.Nibbles.{hex_bytes-length, hex_bytes-at}

-- Decimal digits.
value-last : (m : ℕ) (a : List ℕ) (b : ℕ) → value m (a ++ b ∷ []) ≡ 10 * value m a + (b - 48)
unfolding value
value-last m [] b = refl
value-last m (x ∷ a) b = value-last (10 * m + (x - 48)) a b

only-last : (a : List ℕ) (b : ℕ) → leb 48 b && leb b 57 ≡ true → digits_only (a ++ b ∷ []) ≡ digits_only a
unfolding digits_only
only-last [] b h = rw h
only-last (x ∷ a) b h = rw (only-last a b h)

is_digit : (d : ℕ) → d < 10 → leb 48 (48 + d) && leb (48 + d) 57 ≡ true
is_digit d h = rw (le-leb 48 (48 + d) (omega arith), le-leb (48 + d) 57 (omega arith))

record Reads (n : ℕ) (text : List ℕ) : Type 0 where
  some : 0 < length text
  only : digits_only text ≡ true
  says : value 0 text ≡ n

digits-read : (k n : ℕ) → n < k → Reads n (digits k n)
unfolding digits digits_only value
digits-read zero n h = absurd (omega arith)
digits-read (suc k) n h = go (dec_lt n 10) (λ g. digits-read k (n / 10) (omega arith))
  where
    go : Dec (n < 10) → (10 ≤ n → Reads (n / 10) (digits k (n / 10))) → Reads n (digits (suc k) n)
    go (yes g) f = rw (lt-ltb n 10 g) (record { some = omega arith; only = rw (is_digit n g); says = omega arith })
    go (no g) f =
        let r = f (omega arith) in
        let front = digits k (n / 10) in
        let last = 48 + n % 10 in
        rw (le-ltb n 10 (omega arith))
        (record {
          some = omega (arith, length-append front (last ∷ []));
          only = only-last front last (is_digit (n % 10) (omega arith)) ∙ r.only;
          says = value-last 0 front last ∙ omega (arith, r.says);
        })

pub decimal-read : (n : ℕ) → n < 2 ^ 64 → number_of (decimal n) ≡ Some n
unfolding decimal number_after
decimal-read n h =
    let r = digits-read (suc n) n (omega arith) in
    number-some (decimal n) r.some ∙ rw (r.only, r.says, lt-ltb n (2 ^ 64) h)

-- Hex digits.
glyph-read : (d : ℕ) → d < 16 → (nibble (glyph d) ≡ d) × (is_nibble (glyph d) ≡ true)
unfolding nibble is_nibble glyph between
glyph-read d h = go (dec_lt d 10)
  where
    go : Dec (d < 10) → (nibble (glyph d) ≡ d) × (is_nibble (glyph d) ≡ true)
    go (yes g) = (rw (lt-ltb d 10 g, is_digit d g) (omega arith), rw (lt-ltb d 10 g, is_digit d g))
    go (no g) =
        let n = le-ltb d 10 (omega arith) in
        let a = le-leb 48 (87 + d) (omega arith) in
        let b = lt-leb (87 + d) 57 (omega arith) in
        let c = le-leb 97 (87 + d) (omega arith) in
        let e = le-leb (87 + d) 102 (omega arith) in
        (rw (n, a, b, c, e) (omega arith), rw (n, a, b, c, e))

-- every element is a byte
abbrev Bytes : List ℕ → Type 0
Bytes l = (i : ℕ) → get_or l i 0 < 256

glyphs-read : (l : List ℕ) → Bytes l → (pairs (glyphs l) ≡ l) × (hex_only (glyphs l) ≡ true) × (length (glyphs l) ≡ 2 * length l)
unfolding pairs glyphs hex_only
glyphs-read [] h = (refl, refl, refl)
glyphs-read (x ∷ l) h =
    let k : x < 256 = h 0 in
    let p = glyph-read (x / 16) (omega arith) in
    let q = glyph-read (x % 16) (omega arith) in
    let r = glyphs-read l (λ i. h (suc i)) in
    let e : 16 * (x / 16) + x % 16 ≡ x = omega arith in
    (rw (p.0, q.0, r.0, e), rw (p.1, q.1) r.1, omega (arith, r.2))

-- the zeros that are left off are zeros past the end
trimmed-at : (l : List ℕ) (i : ℕ) → get_or (trimmed l) i 0 ≡ get_or l i 0
unfolding trimmed trim_onto
trimmed-at [] i = refl
trimmed-at (x ∷ l) i = onto (trimmed l) (trimmed-at l) i
  where
    none : (b : Bool) → eqb x 0 ≡ b → ((j : ℕ) → 0 ≡ get_or l j 0) → (i : ℕ) → get_or (cond b [] (x ∷ [])) i 0 ≡ get_or (x ∷ l) i 0
    none true e f zero = sym (eqb-true x 0 e)
    none true e f (suc i) = f i
    none false e f zero = refl
    none false e f (suc i) = f i

    onto : (t : List ℕ) → ((j : ℕ) → get_or t j 0 ≡ get_or l j 0) → (i : ℕ) → get_or (trim_onto x t) i 0 ≡ get_or (x ∷ l) i 0
    onto [] f i = none (eqb x 0) refl f i
    onto (y ∷ t) f zero = refl
    onto (y ∷ t) f (suc i) = f i

trimmed-length : (l : List ℕ) → length (trimmed l) ≤ length l
unfolding trimmed trim_onto
trimmed-length [] = omega arith
trimmed-length (x ∷ l) = onto (trimmed l) (trimmed-length l)
  where
    none : (b : Bool) → length (cond b [] (x ∷ [])) ≤ 1
    none true = omega arith
    none false = omega arith

    onto : (t : List ℕ) → length t ≤ length l → length (trim_onto x t) ≤ suc (length l)
    onto [] h = omega (arith, none (eqb x 0))
    onto (y ∷ t) h = omega arith

text-read : (t : List ℕ) → Bytes t → length t ≤ 256 → (is_hex (or_dash (glyphs t)) ≡ true) × (pairs (or_dash (glyphs t)) ≡ t)
unfolding or_dash glyphs is_hex pairs same
text-read [] h n = (refl, refl)
text-read (x ∷ t) h n =
    let r = glyphs-read (x ∷ t) h in
    let m = length (glyphs (x ∷ t)) in (
      or_right (same (glyphs (x ∷ t)) (45 ∷ []))
          (rw (lt-ltb 0 m (omega (arith, r.2)), le-leb m 512 (omega (arith, r.2)), eq-eqb (m % 2) 0 (omega (arith, r.2))) r.1),
      r.0,
    )
  where
    or_right : (a : Bool) {b : Bool} → b ≡ true → a || b ≡ true
    or_right true e = refl
    or_right false e = e

pub hex-read : (l : List ℕ) → length l ≡ 256 → Bytes l → (is_hex (hex_text l) ≡ true) × (hex_bytes (hex_text l) ≡ l)
unfolding hex_text
hex-read l n h =
    let (t, p) = text-read (trimmed l) (λ i. rw (trimmed-at l i) (h i)) (omega (arith, trimmed-length l)) in (
      t,
      ext_get_or 0 (hex_bytes (hex_text l)) l (hex_bytes-length (hex_text l) ∙ sym n)
          (λ i b.
          hex_bytes-at (hex_text l) i (omega (arith, hex_bytes-length (hex_text l)))
          ∙ ap (λ (r : List ℕ). get_or r i 0) p
          ∙ trimmed-at l i),
    )
