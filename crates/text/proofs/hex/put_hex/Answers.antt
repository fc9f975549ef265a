-- Each turn puts one byte more, in two digits, behind what is there. Assumes nothing.
use mathlib.Core.List.{[], ◌∷◌}
use native.Mathlib.Omega.{arith}
use native.Mathlib.Numerals.{add-one}
use Rattle.std.proofs.lemmas.Bool.Decides.{nat_tests}
use lib.ListN.{take, get_or}
use lib.Seq.{take-suc, take_all}
use Rattle.text.specs.Hex.{glyphs}
use Rattle.text.proofs.Nibbles.{glyphs-append, hex_none, hex_some}
use Rattle.text.proofs.Writing.{puts_none, puts-more}
use Rattle.text.proofs.hex.put_hex.Goals as goal

pub returns-then-is_empty : goal.returns-then-is_empty
returns-then-is_empty c = rw (hex_none c.args.bytes.now (rw (← c.trimmed-kept.ensures) (grind (arith, nat_tests)))) c.put_byte.ensures

pub loop-b-init : goal.loop-b-init
unfolding glyphs
loop-b-init c = puts_none c.args.out.now c.args.at

pub loop-b-preserved : goal.loop-b-preserved
loop-b-preserved c =
    let kept = c.trimmed-kept.result.now in
    let i = c.loop-b.b-index in
    rw (add-one, take-suc kept i 0 (omega arith), glyphs-append (take i kept) (get_or kept i 0 ∷ []))
    (puts-more c.loop-b.invariant c.put_pair-position.ensures)

pub returns : goal.returns
returns c =
    let kept = c.trimmed-kept.result.now in
    let all = take_all c.loop-b.b-index kept (omega arith) in
    rw (hex_some c.args.bytes.now (rw (← c.trimmed-kept.ensures) (grind (arith, nat_tests))), ← c.trimmed-kept.ensures, ← all) c.loop-b.invariant
