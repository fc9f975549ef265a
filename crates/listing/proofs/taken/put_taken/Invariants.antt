-- Each turn puts what is put of one list more. Assumes nothing.
use mathlib.Core.Bool.{cond}
use mathlib.Core.List.{List, []}
use Prim.Native.Nat.{ℕ, ◌-◌}
use Rattle.lists.specs.Basic.{from, joined}
use Rattle.lists.specs.State.{taken}
use Rattle.lists.specs.Lookup.{blocks_of}
use Rattle.lists.specs.promises.Tables.{tables_in, OfShown}
use Rattle.text.specs.Written.{Puts}
use Rattle.listing.specs.promises.Taken.{PutsEach}
use Rattle.listing.proofs.taken.put_taken.Given as goal

abbrev pub invariant-loop-list : goal.invariant-loop-list
invariant-loop-list g l =
    (text : ℕ → List ℕ → List ℕ) → PutsEach (goal.F-post g l.put) text
    → OfShown (tables_in l.nodes) (λ rs. Puts l.initial.out l.at (joined (from (λ k. cond (taken k rs) (text k (blocks_of rs k)) []) 1 (l.list - 1))) l.out l.position)
