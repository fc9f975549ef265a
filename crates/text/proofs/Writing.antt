-- Texts put into a buffer one after the other are one text; where it fits, it stands there.
use mathlib.Core.Path.{◌≡◌, refl, sym, ap, ◌∙◌}
use mathlib.Core.List.{List, [], ◌∷◌, ◌++◌}
use Prim.Native.Nat.{ℕ, suc, ◌+◌, ◌≤◌, ◌<◌}
use native.Mathlib.Omega.{arith}
use native.Mathlib.Decide.{dec_lt}
use native.Mathlib.Nat.{add-zero, add-suc, suc-add}
use lib.ListN.{length, take, drop, set, length-append}
use lib.Seq.{sets-eq, length-sets, set_out, take_at, length-take-le}
use Rattle.text.specs.Written.{written, after_text, Puts}

pub written-length : (out : List ℕ) (at : ℕ) (text : List ℕ) → length (written out at text) ≡ length out
unfolding written
written-length out at text = length-sets out at text

-- nothing is stored past the end
pub written_out : (out : List ℕ) (at : ℕ) (text : List ℕ) → length out ≤ at → written out at text ≡ out
unfolding written
written_out out at [] h = refl
written_out out at (b ∷ text) h = rw (set_out out at b h) (written_out out (suc at) text (omega arith))

pub written-append : (out : List ℕ) (at : ℕ) (a b : List ℕ) → written (written out at a) (at + length a) b ≡ written out at (a ++ b)
unfolding written
written-append out at [] b = rw (add-zero at)
written-append out at (x ∷ a) b =
    ap (λ (k : ℕ). written (written (set out at x) (suc at) a) k b) (add-suc at (length a) ∙ sym (suc-add at (length a)))
    ∙ written-append (set out at x) (suc at) a b

after-after : (n at j k : ℕ) → after_text n (after_text n at j) k ≡ after_text n at (j + k)
unfolding after_text
after-after n at j k = omega arith

-- past the end one position is as good as another
written_after : (n : ℕ) (l : List ℕ) (at k : ℕ) (text : List ℕ) → length l ≡ n → written l (after_text n at k) text ≡ written l (at + k) text
unfolding after_text
written_after n l at k text e = go (dec_lt (suc n) (at + k))
  where
    go : Dec (suc n < at + k) → written l (after_text n at k) text ≡ written l (at + k) text
    go (yes h) = written_out l (after_text n at k) text (omega arith) ∙ sym (written_out l (at + k) text (omega arith))
    go (no h) = let same : after_text n at k ≡ at + k = omega arith in rw same

pub puts_none : (out : List ℕ) (at : ℕ) → Puts out at [] out at
unfolding written after_text
puts_none out at = record { bytes = refl; position = omega arith }

-- a text, and then another
pub puts-more : {out a one b two : List ℕ} {at next last : ℕ} → Puts out at a one next → Puts one next b two last → Puts out at (a ++ b) two last
puts-more {out} {a} {one} {b} {two} {at} {next} {last} p q =
    let same : length one ≡ length out = ap length p.bytes ∙ written-length out at a in
    record {
      bytes =
          q.bytes
          ∙ ap (λ (k : ℕ). written one k b) p.position
          ∙ written_after (length out) one at (length a) b same
          ∙ ap (λ (l : List ℕ). written l (at + length a) b) p.bytes
          ∙ written-append out at a b;
      position =
          q.position
          ∙ ap (λ (n : ℕ). after_text n next (length b)) same
          ∙ ap (λ (k : ℕ). after_text (length out) k (length b)) p.position
          ∙ after-after (length out) at (length a) (length b)
          ∙ ap (after_text (length out) at) (sym (length-append a b));
    }

-- the position tells whether the text fits
pub puts-fit : {out text filled : List ℕ} {at next : ℕ} → Puts out at text filled next → next ≤ length out
    → (next ≡ at + length text) × (take next filled ≡ take at out ++ text)
unfolding written after_text
puts-fit {out} {text} {filled} {at} {next} p h =
    let e : next ≡ at + length text = omega (arith, p.position) in
    let fits : at + length text ≤ length out = omega arith in (
      e,
      ap (take next) (p.bytes ∙ sets-eq text out at fits)
          ∙ take_at (take at out ++ text) (drop (at + length text) out) next
          (length-append (take at out) text ∙ omega (arith, length-take-le at out (omega arith))),
    )

pub puts-length : {out text filled : List ℕ} {at next : ℕ} → Puts out at text filled next → length filled ≡ length out
puts-length {out} {text} {filled} {at} {next} p = ap length p.bytes ∙ written-length out at text
