-- The journal laid over a copy of the committed state tells whether every entry applies; then its entries act on the order one by one. Assumes nothing.
use mathlib.Core.Path.{sym, ◌∙◌}
use borrow.Author.Tests.{not-true, not-false}
use Rattle.lists.specs.promises.Tables.{tables_in}
use Rattle.lists.proofs.Lookup.{lists-shown}
use Rattle.disk.specs.Record.{record_in, conflict_counted}
use Rattle.inspect.proofs.Asking.{exit_asked}
use Rattle.calls.proofs.Ending.{queued-ready, ends-conflict, ends-full, ends-accepted}
use Rattle.calls.proofs.end.end_unit.Goals as goal

pub returns-then-not-enter_journal : goal.returns-then-not-enter_journal
returns-then-not-enter_journal c st sh =
    let j = c.enter_journal in
    let a = c.args in
    ends-conflict st a.queue_data.now a.journal_data.now (record_in a.rec.now) a.u (record_in c.count_conflict.new.rec) (sym (j.ensures.answer st sh) ∙ not-true j.result c.if-not-enter_journal.true-raw)
    (c.count_conflict.ensures ∙ (λ i. conflict_counted (c.window-w.ensures i) (c.close.ensures st.lists (lists-shown _ st sh) i)))

pub returns-in_err-ask : goal.returns-in_err-ask
returns-in_err-ask c st sh =
    let a = c.args in
    let j = c.enter_journal in
    rw (exit_asked _ _ _ c.from_residual.ensures.1 c.in_err-ask.ensures.0)
    (ends-full st a.queue_data.now a.journal_data.now (record_in a.rec.now) a.u (sym (j.ensures.answer st sh) ∙ not-false j.result c.if-not-enter_journal.false-raw) (rw (c.len.ensures, c.journal_len.ensures) at c.in_err-ask.ensures.1))

pub relist_journal-requires : goal.relist_journal-requires
relist_journal-requires c =
    let q = c.queue_unit in
    queued-ready c.args.queue_data.now c.args.journal_data.now (record_in c.args.rec.now) c.args.u _ (record_in q.new.rec) q.ensures c.requires

pub returns : goal.returns
returns c st sh =
    let a = c.args in
    let j = c.enter_journal in
    let q = c.queue_unit in
    let f = c.relist_journal in
    ends-accepted st a.queue_data.now a.journal_data.now (record_in a.rec.now) a.u (sym (j.ensures.answer st sh) ∙ not-false j.result c.if-not-enter_journal.false-raw)
    _ (tables_in f.new.nodes) _ (record_in q.new.rec) (record_in f.new.rec) (record_in c.close-2.new.rec) sh
    (rw (c.len.ensures, c.journal_len.ensures) at c.in_ok-ask.ensures) q.ensures f.ensures c.close-2.ensures
