-- The invariant: the holders passed are given up, the others are as they were. Assumes nothing.
use Rattle.std.proofs.Common.{◌≡◌, ◌∙◌, arith, cond, eqb, set, take, drop, get_or}
use Rattle.std.proofs.lemmas.List.{get_or_default}
use Rattle.std.proofs.lemmas.List.Edits.{map_over_more}
use borrow.Author.Tests.{eq-eqb, ne_eqb}
use Rattle.disk.proofs.Bytes.{released_in}
use Rattle.disk.proofs.change.release.Goals as goal
use Rattle.disk.proofs.change.release.Goals.{then-h-u, else-h-u}

pub loop-h-preserved : goal.loop-h-preserved
loop-h-preserved c =
    let l = c.loop-h in
    let u = c.args.u in
    let x = get_or l.h-items l.h-index 0 in
    let e : c.if-h-u.h-items ≡ set l.h-items l.h-index (cond (eqb x u) 0 x) =
    elim c.if-h-u.branch [
      | then-h-u w ↦ w.h-items-is ∙ rw (eq-eqb x u w.if-h-u.true)
      | else-h-u w ↦ w.h-items-is ∙ rw (ne_eqb x u w.if-h-u.false)
    ] in
    e
    ∙ map_over_more (λ h. cond (eqb h u) 0 h) (take 80 (drop 376 c.args.rec.now)) l.h-items l.h-index x c.loop-h-test.true l.invariant
    (get_or_default l.h-items l.h-index 0 x (omega (arith, c.loop-h-test.true)))

pub returns : goal.returns
returns c = released_in c.args.u c.args.rec.now c.loop-h.h-items c.loop-h.h-index c.told-rec c.loop-h-test.false c.loop-h.invariant
