-- The owner of the block's node is looked at. Assumes nothing.
use mathlib.Core.Path.{ap}
use mathlib.Core.Bool.{not}
use Prim.Native.Nat.{ℕ}
use lib.Dec.{eqb}
use Rattle.lists.proofs.tables.is_placed.Goals as goal

pub returns : goal.returns
returns c = record { answer = ap (λ (n : ℕ). not (eqb n 0)) c.owner_of.ensures }
