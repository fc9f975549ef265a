-- So many bytes are filled as fit. Assumes nothing.
use mathlib.Core.Path.{◌≡◌, sym, ap, ◌∙◌}
use mathlib.Core.List.{List, ◌++◌}
use Prim.Native.Nat.{ℕ}
use native.Mathlib.Omega.{arith}
use lib.ListN.{length, take, drop, replicate}
use lib.Seq.{length-take-le}
use Rattle.commands.proofs.run.refill.Goals as goal

pub slice_bounds-fill-end-2 : goal.slice_bounds-fill-end-2
slice_bounds-fill-end-2 c = sym (length-take-le c.min-n.result c.args.card.now (omega arith))

pub returns : goal.returns
returns c =
    let a = c.args in
    let n = c.min-n.result in
    let e : length (take n a.card.now) ≡ n = length-take-le n a.card.now (omega arith) in
    (c.min-n.ensures, ap (λ (x : List ℕ). x ++ drop n a.card.now) (c.fill.ensures.after (λ y e. e) ∙ ap (λ (k : ℕ). replicate k a.byte) e))
