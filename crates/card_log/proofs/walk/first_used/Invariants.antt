-- The invariant: up to h no segment is used. Assumes nothing.
use mathlib.Core.Path.{◌≡◌}
use Prim.Native.Nat.{ℕ, ◌-◌, ◌≤◌}
use Rattle.card_log.specs.Card.{after_empty}
use Rattle.card_log.proofs.walk.first_used.Given as goal

abbrev pub invariant-loop-h : goal.invariant-loop-h
invariant-loop-h l = (l.g ≤ l.h) × (l.h ≤ l.n) × (after_empty {D = ℕ} l.card (l.n - l.g) l.g ≡ after_empty l.card (l.n - l.h) l.h)

abbrev pub decreases-loop-h : goal.decreases-loop-h
decreases-loop-h l = l.n - l.h
