-- The digits, and the race where there is one. Assumes nothing.
use mathlib.Core.List.{append-nil}
use Rattle.lists.proofs.Basic.{eqb-false}
use Rattle.text.specs.Hex.{hex_text}
use Rattle.text.proofs.Writing.{puts-more}
use Rattle.script.specs.Lines.{raced_text}
use Rattle.script.specs.Spelling.{bytes}
use Rattle.script.proofs.lines.put_raced.Goals as goal

pub returns-then-race-eq0 : goal.returns-then-race-eq0
unfolding raced_text
returns-then-race-eq0 c =
    let a = c.args in
    rw (c.if-race-eq0.true, append-nil (hex_text a.content.now)) c.put_hex-position.ensures

pub returns : goal.returns
unfolding raced_text bytes
returns c =
    let a = c.args in
    rw (eqb-false a.race 0 c.if-race-eq0.false, ← c.from.ensures)
    (puts-more c.put_hex-position.ensures (puts-more c.put_bytes-position.ensures c.put_decimal.ensures))
