-- Numbers found one after the other, each stored behind the one before, until there is none: 0 says that.
use mathlib.Core.Path.{◌≡◌, refl, sym, ap, ◌∙◌}
use mathlib.Core.Logic.{◌≢◌}
use mathlib.Core.List.{List, ◌++◌}
use Prim.Native.Nat.{ℕ, suc, ◌+◌, ◌≤◌, ◌<◌}
use native.Mathlib.Omega.{arith}
use native.Mathlib.Numerals.{add-one}
use native.Mathlib.Decide.{dec_lt}
use lib.ListN.{length, get_or, set, take, drop}
use lib.Seq.{take-length, paste-suc}
use Rattle.lists.specs.promises.Tables.{Away}
use Rattle.lists.proofs.Runs.{away-at, some-within}

store-next : (d ns : List ℕ) (i : ℕ) → i < length d → i < length ns → set (take i ns ++ drop i d) i (get_or ns i 0) ≡ take (suc i) ns ++ drop (suc i) d
store-next d ns i h k =
    let e : 0 + i ≡ i = omega arith in
    let f : 0 + suc i ≡ suc i = omega arith in
    rw (e, f) at (paste-suc d 0 ns i 0 (omega arith) k)

-- i of the numbers ns are stored, and next is the one that follows
pub record Storing (dest₀ ns : List ℕ) (i : ℕ) (dest : List ℕ) (next : ℕ) : Type 0 where
  pub room : i ≤ length ns
  pub stored : dest ≡ take i ns ++ drop i dest₀
  pub follows : next ≡ get_or ns i 0

-- all are
abbrev pub Stored : List ℕ → List ℕ → ℕ → List ℕ → Type 0
Stored dest₀ ns i dest = (i ≡ length ns) × (dest ≡ ns ++ drop (length ns) dest₀)

pub storing-none : (dest ns : List ℕ) (next : ℕ) → next ≡ get_or ns 0 0 → Storing dest ns 0 dest next
storing-none dest ns next e = record { room = omega arith; stored = refl; follows = e }

module _ {dest₀ ns : List ℕ} {i : ℕ} {dest : List ℕ} {next : ℕ} (p : Storing dest₀ ns i dest next) where
  pub storing-within : next ≢ 0 → i < length ns
  storing-within n = some-within ns i (λ e. n (p.follows ∙ e))

  pub storing-more : {next' : ℕ} → i < length dest₀ → next ≢ 0 → next' ≡ get_or ns (suc i) 0 → Storing dest₀ ns (i + 1) (set dest i next) next'
  storing-more h n e =
      let k = storing-within n in
      record {
        room = omega arith;
        stored = rw (add-one i, p.stored, p.follows) (store-next dest₀ ns i h k);
        follows = rw (add-one i) e;
      }

  done : i ≡ length ns → Stored dest₀ ns i dest
  done e = (e, p.stored ∙ ap (λ (n : ℕ). take n ns ++ drop n dest₀) e ∙ ap (λ (l : List ℕ). l ++ drop (length ns) dest₀) (take-length ns))

  -- the end: there is no next one, or there were as many as there can be
  pub storing-end : Away 0 ns → next ≡ 0 → Stored dest₀ ns i dest
  storing-end a e = go (dec_lt i (length ns))
    where
      go : Dec (i < length ns) → Stored dest₀ ns i dest
      go (yes k) = absurd (away-at 0 ns i a k (sym e ∙ p.follows))
      go (no k) = done (omega (arith, p.room))

  pub storing-full : length ns ≤ i → Stored dest₀ ns i dest
  storing-full h = done (omega (arith, p.room))
