-- Each turn adds one list's lines. Assumes nothing.
use mathlib.Core.Path.{◌≡◌}
use Prim.Native.Nat.{◌-◌, ◌*◌, ◌≤◌}
use lib.ListN.{length}
use Rattle.lists.specs.promises.Tables.{tables_in, OfShown}
use Rattle.lists.specs.Basic.{from, joined}
use Rattle.listing.specs.Page.{list_page}
use Rattle.listing.proofs.page.page_length.Given as goal

abbrev pub invariant-loop-list : goal.invariant-loop-list
invariant-loop-list l =
    (l.n ≤ 246 * (l.list - 1)) × OfShown (tables_in l.nodes) (λ rs. l.n ≡ length (joined (from (λ k. joined (list_page rs k)) 1 (l.list - 1))))
