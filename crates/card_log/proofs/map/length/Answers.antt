-- The ones of the masked map are the sum of its standing bits. Assumes nothing.
use native.Mathlib.Omega.{arith}
use Rattle.card_log.proofs.Bits.{ones-masked}
use Rattle.card_log.proofs.map.length.Goals as goal

pub overflow_cast-result : goal.overflow_cast-result
overflow_cast-result c = omega (arith, ones-masked c.args.map c.ranges.map.fits)

pub overflow_add-result : goal.overflow_add-result
overflow_add-result c = omega (arith, ones-masked c.args.map c.ranges.map.fits)

pub returns : goal.returns
returns c = omega (arith, ones-masked c.args.map c.ranges.map.fits)
