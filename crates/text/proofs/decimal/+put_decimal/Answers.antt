-- The digits before the last are put by the call on a tenth, and the last behind them.
use Rattle.std.proofs.Common.{arith}
use Rattle.text.proofs.Digits.{decimal-one, decimal-more}
use Rattle.text.proofs.Writing.{puts-more}
use Rattle.text.proofs.decimal.+put_decimal.Goals as goal

pub returns-then-n-lt10 : goal.returns-then-n-lt10
returns-then-n-lt10 t c = rw (decimal-one c.args.n (omega arith)) c.put_byte.ensures

pub returns : goal.returns
returns t c = rw (decimal-more c.args.n (omega arith)) (puts-more c.put_decimal-position.ensures c.put_byte-2.ensures)
