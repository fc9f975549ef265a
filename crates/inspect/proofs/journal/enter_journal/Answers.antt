-- The invariant: the changes from number k on lead from the state that the tables show to where all of them led, and so far every one applied if
-- `every` says so. Assumes nothing.
use Rattle.std.proofs.Common.{◌+◌, ◌-◌, ◌*◌, arith}
use Rattle.lists.proofs.Basic.{all_from}
use Rattle.disk.specs.Record.{record_in, unit_at}
use Rattle.inspect.specs.promises.Clauses.{change_in}
use Rattle.inspect.proofs.Overlaying.{change-here, laid_none, laid-turn, laid-all}
use Rattle.inspect.proofs.journal.enter_journal.Goals as goal

pub loop-k-init : goal.loop-k-init
loop-k-init c = λ s h. laid_none _ _ s _ h

pub act_entry-every-requires : goal.act_entry-every-requires
act_entry-every-requires c =
    let x = unit_at (record_in c.args.rec.now) c.args.u in
    let k = c.loop-k.k in
    (rw c.journal_entry.ensures (all_from _ (change_in x) 0 x.len c.requires.3 k (omega arith) (omega (arith, c.journal_len-k-end.ensures))), omega arith, omega arith)

pub loop-k-preserved : goal.loop-k-preserved
loop-k-preserved c =
    let l = c.loop-k in
    let u = c.args.u in
    let x = unit_at (record_in c.args.rec.now) u in
    let acted = rw (change-here x u l.k c.journal_entry.result (1057 + (u - 1) * 15 + l.k) c.journal_entry.ensures (omega arith)) at c.act_entry-every.ensures in
    λ s h. laid-turn x u s c.requires.3 l.every c.act_entry-every.result l.k _ _ (omega (arith, c.journal_len-k-end.ensures)) acted (l.invariant s h)

pub returns : goal.returns
returns c = laid-all _ _ _ _ c.loop-k.k _ (omega (arith, c.journal_len-k-end.ensures)) c.loop-k.invariant
