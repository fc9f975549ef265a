-- Which blocks a change can place: none but the one that it puts.
use mathlib.Core.Path.{◌≡◌}
use mathlib.Core.Bool.{false}
use mathlib.Core.Option.{some}
use mathlib.Core.List.{List}
use Prim.Native.Nat.{ℕ, ◌+◌, ◌*◌, ◌≤◌}
use native.Mathlib.Omega.{arith}
use lib.ListN.{length}
use Rattle.lists.specs.Change.{Change}
use Rattle.lists.specs.State.{Row, State, placed, changed, apply}
use Rattle.lists.proofs.Apply.{apply_some}
use Rattle.lists.proofs.Count.{one, puts, placed-none, none-placed, rows-length, places-changed, places_of}

module _ {D : Type 0} where
  pub placed-changed : (c : Change D) (rs : List (Row D)) (b : ℕ) → puts c b ≡ false → placed b rs ≡ false → placed b (changed c rs) ≡ false
  placed-changed c rs b p h =
      let e : places_of b (changed c rs) ≤ one (puts c b) * length rs + places_of b rs = places-changed b c rs (length rs) (λ l. rows-length l rs) in
      let f = placed-none b rs h in
      let g = rw p at e in
      none-placed b (changed c rs) (omega arith)

  pub placed-apply : (c : Change D) (s t : State D) (b : ℕ) → puts c b ≡ false → placed b s.lists ≡ false → apply c s ≡ some t → placed b t.lists ≡ false
  placed-apply c s t b p h e = let (a, f) = apply_some c s t e in rw f (placed-changed c s.lists b p h)
