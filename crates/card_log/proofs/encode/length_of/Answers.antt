-- The map tells the length. Assumes nothing.
use mathlib.Core.Path.{ap, ◌∙◌}
use mathlib.Core.Bool.{false}
use Prim.Native.Nat.{ℕ}
use Rattle.card_log.specs.Entry.{size_of}
use Rattle.card_log.proofs.EntryBytes.{code-length}
use Rattle.card_log.proofs.encode.length_of.Goals as goal

pub returns : goal.returns
returns c = c.length.ensures ∙ ap (λ (m : ℕ). size_of m) c.map_of.ensures ∙ code-length false c.args.e
