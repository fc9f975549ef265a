-- Each arm is a row of the table; what is lent to a call cut short is what the definition lends, and what it leaves goes back. Assumes nothing.
use mathlib.Core.Path.{◌≡◌, sym, ◌∙◌}
use Prim.Native.Nat.{min}
use native.Mathlib.Omega.{arith}
use lib.ListN.{length}
use lib.Seq.{length-take-le}
use Rattle.disk.specs.Record.{record_in}
use Rattle.script.specs.Spelling.{bytes}
use Rattle.commands.specs.Cut.{cut_flush, cut_format}
use Rattle.commands.specs.Ran.{cutting}
use Rattle.commands.proofs.Breaking.{disk-lent, broken-runs}
use Rattle.commands.proofs.Running.{cut-runs}
use Rattle.commands.proofs.run.cut_power.Goals as goal

pub slice_bounds-broken_flush-end-in-Flush : goal.slice_bounds-broken_flush-end-in-Flush
slice_bounds-broken_flush-end-in-Flush c = sym (length-take-le c.min-n.result c.args.card.now (omega (arith, c.min-n.ensures, c.requires.whole)))

pub slice_bounds-broken_format-end-in-Format : goal.slice_bounds-broken_format-end-in-Format
slice_bounds-broken_format-end-in-Format c = sym (length-take-le c.min-n-in-Format.result c.args.card.now (omega (arith, c.min-n-in-Format.ensures, c.requires.whole)))

pub returns-in-Between : goal.returns-in-Between
unfolding cutting bytes
returns-in-Between c =
    let a = c.args in
    let (r, q, j) = c.cut-rec.ensures in
    let (k, t) = c.said.ensures in
    rw (c.in-Between.is, q, j) (cut-runs a.card.now a.queue.now a.journal.now a.state c.said.result c.requires (k ∙ rw r) t)

pub returns-in-Flush : goal.returns-in-Flush
unfolding cutting cut_flush
returns-in-Flush c =
    let a = c.args in
    let f = c.requires in
    let n = c.min-n.result in
    let many : n ≡ min (min a.state.card a.state.size) (length a.card.now) = omega (arith, c.min-n.ensures, f.whole) in
    rw (c.in-Flush.is, disk-lent a.card.now a.state f n many a.queue.now a.journal.now, ← c.part.ensures, ← c.part-in-Flush.ensures)
    (broken-runs a.card.now a.state f n many _ c.broken_flush-broken.auto.card _ a.queue.now a.journal.now a.out.now a.at _ _ _ _ _
    c.broken_flush-broken.ensures c.cut_short.ensures)

pub returns-in-Format : goal.returns-in-Format
unfolding cutting cut_format
returns-in-Format c =
    let a = c.args in
    let f = c.requires in
    let n = c.min-n-in-Format.result in
    let many : n ≡ min (min a.state.card a.state.size) (length a.card.now) = omega (arith, c.min-n-in-Format.ensures, f.whole) in
    rw (c.in-Format.is, disk-lent a.card.now a.state f n many a.queue.now a.journal.now, ← c.part-in-Format.ensures, ← c.part-in-Format-2.ensures)
    (broken-runs a.card.now a.state f n many _ c.broken_format-broken.auto.card _ a.queue.now a.journal.now a.out.now a.at _ _ _ _ _
    (c.broken_format-broken.ensures (record_in a.state.rec)) c.cut_short-in-Format.ensures)
