-- By the three ranges of a byte. Assumes nothing.
use native.Mathlib.Omega.{arith}
use mathlib.Core.Path.{sym}
use Rattle.text.proofs.Columns.{one-digit, two_digits, three-digits}
use Rattle.listing.proofs.page_line.digits.Goals as goal

pub returns-then-n-lt10 : goal.returns-then-n-lt10
returns-then-n-lt10 c = (sym (one-digit _ c.if-n-lt10.true), omega arith)

pub returns-then-n-lt100 : goal.returns-then-n-lt100
returns-then-n-lt100 c = (sym (two_digits _ (omega arith) c.if-n-lt100.true), omega arith)

pub returns-else-n-lt100 : goal.returns-else-n-lt100
returns-else-n-lt100 c = (sym (three-digits _ c.if-n-lt100.false (omega arith)), omega arith)
