-- Each turn adds one list's lines. Assumes nothing.
use mathlib.Core.Path.{◌≡◌, refl}
use mathlib.Core.List.{List}
use Prim.Native.Nat.{ℕ, ◌-◌}
use native.Mathlib.Omega.{arith}
use lib.ListN.{length-append}
use Rattle.lists.specs.Basic.{from, joined}
use Rattle.listing.specs.Page.{list_page}
use Rattle.listing.proofs.Lines.{lines_more}
use Rattle.listing.proofs.Pages.{page-by-list}
use Rattle.listing.proofs.page.page_length.Goals as goal

pub loop-list-init : goal.loop-list-init
unfolding joined from
loop-list-init c = (omega arith, λ rs w. refl)

pub loop-list-preserved : goal.loop-list-preserved
loop-list-preserved c =
    let s = c.loop-list in (
      omega (arith, s.invariant.0, c.list_length-n.ensures.upper_bound),
      λ rs w.
          let f : ℕ → List ℕ = λ l. joined (list_page rs l) in
          rw (lines_more f s.list (omega arith), length-append (joined (from f 1 (s.list - 1))) (f s.list), ← (s.invariant.1 rs w), ← (c.list_length-n.ensures.of_shown rs w (omega arith, omega arith))),
    )

pub returns : goal.returns
returns c = λ rs w.
    let s = c.loop-list in
    let e : s.list - 1 ≡ 16 = omega arith in
    rw (page-by-list rs, ← e) (s.invariant.1 rs w)
