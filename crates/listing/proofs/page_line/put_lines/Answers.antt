-- Each turn puts one line more. Assumes nothing.
use native.Mathlib.Omega.{arith}
use native.Mathlib.Numerals.{add-one}
use native.Mathlib.Nat.{zero-add}
use Rattle.lists.specs.Basic.{from, joined}
use Rattle.text.proofs.Writing.{puts_none, puts-more}
use Rattle.listing.specs.Page.{page_line}
use Rattle.listing.proofs.Lines.{joined-more}
use Rattle.listing.proofs.Pages.{count-few}
use Rattle.listing.proofs.page_line.put_lines.Goals as goal

pub loop-k-init : goal.loop-k-init
unfolding joined from
loop-k-init c = puts_none c.args.out.now c.args.at

pub put_line-position-requires : goal.put_line-position-requires
put_line-position-requires c = omega (arith, c.line_count-k-end.ensures, count-few _ c.requires)

pub loop-k-preserved : goal.loop-k-preserved
loop-k-preserved c =
    let s = c.loop-k in
    let a = c.args in
    rw (add-one s.k, joined-more (page_line a.list a.blocks.now) 0 s.k, zero-add s.k) (puts-more s.invariant c.put_line-position.ensures)
