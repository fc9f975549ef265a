-- Texts that differ in length or in a byte, and texts whose bytes were read, for `same`.
use mathlib.Core.Path.{◌≡◌, refl}
use mathlib.Core.Logic.{◌≢◌}
use mathlib.Core.Bool.{true, false, ◌&&◌, and-false}
use mathlib.Core.List.{List, [], ◌∷◌}
use Prim.Native.Nat.{ℕ, zero, suc, ◌<◌}
use native.Mathlib.Omega.{arith}
use borrow.Author.Tests.{ne_eqb, eq-eqb}
use lib.Dec.{eqb}
use lib.ListN.{length, get_or}
use Rattle.text.specs.Line.{same}
use Rattle.std.proofs.lemmas.Slice.Eq.{text_from_reads, HasBytesAt}
use Rattle.std.proofs.lemmas.Bool.Decides.{nat_tests}

pub differs_length : (a b : List ℕ) → length a ≢ length b → same a b ≡ false
unfolding same
differs_length [] [] h = absurd (h refl)
differs_length [] (y ∷ b) h = refl
differs_length (x ∷ a) [] h = refl
differs_length (x ∷ a) (y ∷ b) h = rw (differs_length a b (omega arith), and-false (eqb x y))

pub differs_at : (a b : List ℕ) (i : ℕ) → i < length a → get_or a i 0 ≢ get_or b i 0 → same a b ≡ false
unfolding same
differs_at [] b i h n = absurd (omega arith)
differs_at (x ∷ a) [] i h n = refl
differs_at (x ∷ a) (y ∷ b) zero h n = rw (ne_eqb x y n)
differs_at (x ∷ a) (y ∷ b) (suc i) h n = rw (differs_at a b i (omega arith) n, and-false (eqb x y))

same_itself : (a : List ℕ) → same a a ≡ true
unfolding same
same_itself [] = refl
same_itself (x ∷ a) = rw (eq-eqb x x refl) (same_itself a)

pub same_reads : (a b : List ℕ) → length a ≡ length b → HasBytesAt a 0 b → same a b ≡ true
same_reads a b n h = rw (text_from_reads a b n h) (same_itself b)

pub ruleset words = (differs_length, differs_at, same_reads, nat_tests)
