-- The two bytes of the number. Assumes nothing.
use Rattle.std.proofs.Common.{◌∙◌, arith}
use Rattle.disk.proofs.Bytes.{pair-put}
use Rattle.disk.proofs.change.put_pair.Goals as goal

pub returns : goal.returns
returns c =
    let a = c.args in
    pair-put a.rec.now c.copy_from_slice.new.self a.i _ a.n (omega arith) (omega arith) (c.copy_from_slice.ensures.after ∙ c.to_le_bytes.ensures)
