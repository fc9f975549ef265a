-- All places are done. Assumes nothing.
use Rattle.std.proofs.Common.{◌∙◌, arith}
use Rattle.disk.proofs.Listing.{sifted-all}
use Rattle.disk.proofs.free.withdraw.Goals as goal

pub returns : goal.returns
returns c =
    let l = c.loop-k in
    let p = c.requires in
    c.list_first.ensures ∙ sifted-all _ _ l.k l.left _ p.many (omega (arith, c.listed-k-end.ensures, c.loop-k-test.false)) l.invariant
