-- Each turn pastes one byte more of the source; after 256 turns that is the splice. Assumes nothing.
use mathlib.Core.Path.{◌≡◌, sym, ap, ◌∙◌}
use mathlib.Core.List.{List, ◌++◌}
use Prim.Native.Nat.{ℕ, ◌+◌}
use native.Mathlib.Omega.{arith}
use native.Mathlib.Numerals.{add-one}
use lib.ListN.{length, take, drop, get_or, set}
use lib.Seq.{paste, paste-zero, paste-suc, length-paste, take_all}
use Rattle.card_log.specs.Card.{splice}
use Rattle.card_log.proofs.copy.copy_in.Goals as goal

pub loop-i-init : goal.loop-i-init
loop-i-init c = (omega arith, paste-zero c.args.dest.now c.args.at c.args.src.now)

pub bounds-src-i : goal.bounds-src-i
bounds-src-i c = omega arith

pub overflow_add-dest : goal.overflow_add-dest
overflow_add-dest c = omega arith

pub bounds-dest-at : goal.bounds-dest-at
bounds-dest-at c =
    let a = c.args in
    omega (arith, ap length c.loop-i.invariant.1, length-paste a.dest.now a.at a.src.now c.loop-i.i (omega arith) (omega arith))

pub overflow_add-i : goal.overflow_add-i
overflow_add-i c = omega arith

pub loop-i-smaller : goal.loop-i-smaller
loop-i-smaller c = omega arith

pub loop-i-preserved : goal.loop-i-preserved
loop-i-preserved c =
    let a = c.args in (
      omega arith,
      ap (λ (l : List ℕ). set l (a.at + c.loop-i.i) (get_or a.src.now c.loop-i.i 0)) c.loop-i.invariant.1
          ∙ paste-suc a.dest.now a.at a.src.now c.loop-i.i 0 (omega arith) (omega arith)
          ∙ ap (paste a.dest.now a.at a.src.now) (sym (add-one c.loop-i.i)),
    )

pub shape_of-dest : goal.shape_of-dest
shape_of-dest c =
    let a = c.args in
    ap length c.loop-i.invariant.1 ∙ length-paste a.dest.now a.at a.src.now c.loop-i.i (omega arith) (omega arith)

pub returns : goal.returns
unfolding splice
returns c =
    let a = c.args in
    let e : c.loop-i.i ≡ 256 = omega arith in
    let n : length a.src.now ≡ 256 = omega arith in
    c.loop-i.invariant.1
    ∙ ap (paste a.dest.now a.at a.src.now) e
    ∙ ap (λ (l : List ℕ). take a.at a.dest.now ++ l ++ drop (a.at + 256) a.dest.now) (take_all 256 a.src.now (omega arith))
    ∙ ap (λ (m : ℕ). take a.at a.dest.now ++ a.src.now ++ drop (a.at + m) a.dest.now) (sym n)
