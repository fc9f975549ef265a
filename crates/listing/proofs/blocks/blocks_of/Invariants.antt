-- Each turn stores the next block of the list. Assumes nothing.
use mathlib.Core.Path.{◌≡◌}
use mathlib.Core.Bool.{true}
use Prim.Native.Nat.{◌-◌, ◌≤◌}
use lib.ListN.{length}
use Rattle.lists.specs.State.{taken}
use Rattle.lists.specs.promises.Tables.{OfShown, tables_in}
use Rattle.listing.proofs.Gathering.{Gathering}
use Rattle.listing.proofs.blocks.blocks_of.Given as goal

abbrev pub invariant-loop-i : goal.invariant-loop-i
invariant-loop-i l =
    (l.i ≤ 64) × (length l.dest ≡ length l.initial.dest) × OfShown (tables_in l.nodes) (λ rs. taken l.list rs ≡ true → Gathering l.initial.dest rs l.list l.i l.dest l.block)

abbrev pub decreases-loop-i : goal.decreases-loop-i
decreases-loop-i l = 64 - l.i
