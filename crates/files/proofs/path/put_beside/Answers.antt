-- The folder's bytes, and the name behind them. Assumes nothing.
use Rattle.std.proofs.Common.{◌∙◌, ap, ℕ, take}
use Rattle.text.proofs.Writing.{puts-more}
use Rattle.files.proofs.path.put_beside.Goals as goal

pub returns : goal.returns
returns c =
    let path = c.args.path.now in
    rw (c.part.ensures ∙ ap (λ (k : ℕ). take k path) c.folder.ensures)
    at (puts-more c.put_bytes-at.ensures c.put_bytes.ensures)
