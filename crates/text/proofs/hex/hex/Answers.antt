-- Each turn puts one byte more of the 256. Assumes nothing.
use mathlib.Core.Path.{sym, ◌∙◌}
use native.Mathlib.Omega.{arith}
use native.Mathlib.Numerals.{add-one}
use lib.Seq.{take-suc, take-suc-set, take_all}
use Rattle.text.specs.Hex.{hex_bytes}
use Rattle.text.proofs.Nibbles.{hex_bytes-length, hex_bytes-at}
use Rattle.text.proofs.hex.hex.Goals as goal

pub loop-i-preserved : goal.loop-i-preserved
loop-i-preserved c =
    let text = c.args.text.now in
    let out = c.loop-i.out in
    let i = c.loop-i.i in
    rw (add-one, take-suc-set out i c.pair_at.result (omega arith), c.loop-i.invariant, c.pair_at.ensures, ← hex_bytes-at text i (omega arith))
    (sym (take-suc (hex_bytes text) i 0 (omega (arith, hex_bytes-length text))))

pub returns : goal.returns
returns c =
    let bytes = hex_bytes c.args.text.now in
    sym (take_all c.loop-i.i c.loop-i.out (omega arith))
    ∙ c.loop-i.invariant
    ∙ take_all c.loop-i.i bytes (omega (arith, hex_bytes-length c.args.text.now))
