-- The byte of the number; past the last there is none. Assumes nothing.
use Rattle.std.proofs.Common.{◌≡◌, ◌-◌, sym, arith}
use lib.ListN.{get_or-eq_default}
use Rattle.disk.specs.Record.{record_in, bytes_in}
use Rattle.disk.proofs.Bytes.{byte-read, bytes-length}
use Rattle.disk.proofs.record.holder_of.Goals as goal
use Rattle.disk.proofs.record.holder_of.Goals.{then-number-eq0, else-number-eq0}

pub returns-then-i-lt-NUMBERS : goal.returns-then-i-lt-NUMBERS
unfolding record_in
returns-then-i-lt-NUMBERS c =
    let a = c.args in
    let e : c.if-number-eq0.i ≡ a.number - 1 = elim c.if-number-eq0.branch [ then-number-eq0 w ↦ omega arith | else-number-eq0 w ↦ omega arith ] in
    rw e (sym (byte-read a.rec.now 376 80 (a.number - 1) (omega (arith, e))))

pub returns-else-i-lt-NUMBERS : goal.returns-else-i-lt-NUMBERS
unfolding record_in
returns-else-i-lt-NUMBERS c =
    let a = c.args in
    let e : c.if-number-eq0.i ≡ a.number - 1 = elim c.if-number-eq0.branch [ then-number-eq0 w ↦ omega arith | else-number-eq0 w ↦ omega arith ] in
    sym (get_or-eq_default (bytes_in a.rec.now 376 80) 0 (omega (arith, e, bytes-length a.rec.now 376 80)))
