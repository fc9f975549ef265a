-- The map tells the number of slots. Assumes nothing.
use mathlib.Core.Path.{ap, ◌∙◌}
use mathlib.Core.Bool.{false}
use Prim.Native.Nat.{ℕ, ◌/◌, ◌%◌}
use Rattle.card_log.proofs.EntryBytes.{code-slots}
use Rattle.card_log.proofs.encode.slots_of.Goals as goal

pub returns : goal.returns
returns c = c.slots.ensures ∙ ap (λ (m : ℕ). m / 8 % 2) c.map_of.ensures ∙ code-slots false c.args.e
