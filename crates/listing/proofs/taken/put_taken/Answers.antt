-- Each turn puts what is put of one list more. Assumes nothing.
use Rattle.std.proofs.Common.{arith, ◌≡◌, ℕ, ◌-◌, List, [], true, cond, sym, ◌∙◌}
use Rattle.lists.proofs.Lookup.{taken-said}
use Rattle.lists.specs.State.{taken}
use Rattle.lists.specs.Lookup.{blocks_of}
use Rattle.lists.specs.Basic.{from, joined}
use Rattle.text.proofs.Writing.{puts_none, puts-more}
use Rattle.listing.specs.promises.Taken.{of_taken}
use Rattle.listing.proofs.Lines.{lines_more}
use Rattle.listing.proofs.taken.put_taken.Goals as goal
use Rattle.listing.proofs.taken.put_taken.Goals.{then-is_taken, else-is_taken}

pub loop-list-init : goal.loop-list-init
unfolding joined from
loop-list-init g c = λ text each rs w. puts_none c.args.out.now c.args.at

pub loop-list-preserved : goal.loop-list-preserved
loop-list-preserved g c = λ text each rs w.
    let s = c.loop-list in
    let f : ℕ → List ℕ = λ k. cond (taken k rs) (text k (blocks_of rs k)) [] in
    rw (lines_more f s.list (omega arith))
    (puts-more (s.invariant text each rs w)
    (elim c.if-is_taken.branch [
      | then-is_taken t ↦
          let is : taken s.list rs ≡ true = sym (taken-said c.is_taken.ensures rs w (omega arith, omega arith)) ∙ t.if-is_taken.true in
          let here = t.part.ensures ∙ (t.blocks_of-n.ensures.of_shown rs w is).first in
          rw (t.out-is, t.position-is, is, ← here) (each _ _ _ _ _ _ t.put-position.ensures)
      | else-is_taken e ↦
          rw (e.out-is, e.position-is, sym (taken-said c.is_taken.ensures rs w (omega arith, omega arith)) ∙ e.if-is_taken.false) (puts_none _ _)
    ]))

pub returns-clause-of_shown : goal.returns-clause-of_shown
unfolding of_taken
returns-clause-of_shown g c = λ text each rs w.
    let s = c.loop-list in
    let e : s.list - 1 ≡ 16 = omega arith in
    rw e at (s.invariant text each rs w)
