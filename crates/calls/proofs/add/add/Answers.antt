-- Each answer is that of the length tested, of the queue or of the unit's journal. Assumes nothing.
use mathlib.Core.Path.{refl}
use Rattle.lists.proofs.Basic.{eqb-false}
use Rattle.disk.specs.Record.{record_in}
use Rattle.answers.specs.Answers.{number}
use Rattle.inspect.proofs.Asking.{exit_asked}
use Rattle.calls.specs.promises.Adds.{added}
use Rattle.calls.proofs.Adding.{queue-full, queue-takes, journal-full, journal-takes}
use Rattle.calls.proofs.add.add.Goals as goal

pub returns-in_err-ask : goal.returns-in_err-ask
unfolding number
returns-in_err-ask c =
    rw (exit_asked _ _ _ c.from_residual.ensures.1 c.in_err-ask.ensures.0) (refl, λ d e. queue-full d (record_in c.args.rec.now) c.args.s e c.if-s-eq0.true (rw c.len.ensures at c.in_err-ask.ensures.1))

pub returns-in_err-ask-2 : goal.returns-in_err-ask-2
unfolding number
returns-in_err-ask-2 c =
    rw (exit_asked _ _ _ c.from_residual-in_err-ask-2.ensures.1 c.in_err-ask-2.ensures.0) (refl, λ d e. journal-full d (record_in c.args.rec.now) c.args.s e c.if-s-eq0.false (rw c.journal_len.ensures at c.in_err-ask-2.ensures.1))

pub returns-in_ok-ask : goal.returns-in_ok-ask
unfolding added
returns-in_ok-ask c =
    rw c.if-s-eq0.true (c.append.ensures, λ d e. queue-takes d (record_in c.args.rec.now) 0 e refl (rw c.len.ensures at c.in_ok-ask.ensures))

pub returns-in_ok-ask-2 : goal.returns-in_ok-ask-2
unfolding added
returns-in_ok-ask-2 c =
    (rw (eqb-false c.args.s 0 c.if-s-eq0.false) c.journal.ensures, λ d e. journal-takes d (record_in c.args.rec.now) c.args.s e c.if-s-eq0.false (rw c.journal_len.ensures at c.in_ok-ask-2.ensures))
