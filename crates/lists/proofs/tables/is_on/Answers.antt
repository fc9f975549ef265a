-- The owner of the block's node is looked at. Assumes nothing.
use mathlib.Core.Path.{ap}
use Prim.Native.Nat.{ℕ}
use lib.Dec.{eqb}
use Rattle.lists.proofs.tables.is_on.Goals as goal

pub returns : goal.returns
returns c = record { answer = ap (λ (n : ℕ). eqb n c.args.list) c.owner_of.ensures }
