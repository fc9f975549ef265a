-- Each turn adds one segment's count. Assumes nothing.
use mathlib.Core.Path.{◌≡◌}
use mathlib.Core.Bool.{cond}
use Prim.Native.Nat.{◌*◌, ◌≤◌}
use lib.Dec.{ltb}
use Rattle.lists.specs.Basic.{from}
use Rattle.card_log.specs.Card.{count}
use Rattle.listing.specs.Listing.{total}
use Rattle.listing.proofs.head_line.counts.Given as goal

abbrev pub invariant-loop-g : goal.invariant-loop-g
invariant-loop-g l =
    (l.used ≤ l.g) × (l.entries ≤ 255 * l.g)
    × (l.used ≡ total (from (λ k. cond (ltb 0 (count l.card k)) 1 0) 0 l.g)) × (l.entries ≡ total (from (count l.card) 0 l.g))
