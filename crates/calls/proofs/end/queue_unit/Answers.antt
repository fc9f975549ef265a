-- The invariant: the entries passed are queued in their order (Along). Assumes nothing.
use native.Mathlib.Omega.{arith}
use borrow.Author.Rules.{rules}
use Rattle.disk.specs.Record.{record_in}
use Rattle.calls.proofs.Ending.{along-start, along-lawful, along-step, along-end}
use Rattle.calls.proofs.end.queue_unit.Goals as goal

pub loop-k-init : goal.loop-k-init
loop-k-init c = along-start c.args.queue_data.now c.args.journal_data.now c.args.u (record_in c.args.rec.now) c.requires.0

pub queue_member-requires : goal.queue_member-requires
queue_member-requires c =
    let a = c.args in
    let r = c.requires.0 in
    let l = c.loop-k in
    let i = l.invariant in
    let n = c.journal_len-entries.ensures in (
      i.size,
      r.journal_data,
      omega (arith, i.len, n, c.requires.1),
      omega (arith, i.head, r.head),
      omega (arith, r.last, r.room, n),
      along-lawful a.queue_data.now a.journal_data.now a.u (record_in a.rec.now) l.queue_data (record_in l.rec) l.k i _ c.journal_entry-e.ensures r (omega (arith, n)),
    )

pub loop-k-preserved : goal.loop-k-preserved
loop-k-preserved c =
    let a = c.args in
    let l = c.loop-k in
    let m = c.queue_member in
    along-step a.queue_data.now a.journal_data.now a.u (record_in a.rec.now) l.queue_data (record_in l.rec) l.k l.invariant _ _ (record_in m.new.rec) c.journal_entry-e.ensures (omega (arith, c.journal_len-entries.ensures)) (search rules) m.ensures

pub returns : goal.returns
returns c =
    let a = c.args in
    let l = c.loop-k in
    along-end a.queue_data.now a.journal_data.now a.u (record_in a.rec.now) l.queue_data (record_in l.rec) l.k l.invariant (record_in c.append.new.rec) (omega (arith, c.journal_len-entries.ensures)) (rw c.journal_len-entries.ensures at c.append.ensures)
