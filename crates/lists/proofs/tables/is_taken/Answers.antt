-- The owner of the list's node is looked at. Assumes nothing.
use mathlib.Core.Path.{◌∙◌, ap}
use mathlib.Core.Bool.{not}
use Prim.Native.Nat.{ℕ}
use lib.Dec.{eqb}
use Rattle.lists.specs.promises.Tables.{tables_in, owner_of}
use Rattle.lists.proofs.tables.is_taken.Goals as goal

pub returns : goal.returns
returns c = record { answer = ap (λ (n : ℕ). not (eqb n 0)) (c.owner_of.ensures ∙ ap (λ (n : ℕ). owner_of (tables_in c.args.nodes.now) n) c.list_node.ensures) }
