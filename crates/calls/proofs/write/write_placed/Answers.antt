-- Questions 5 and 8 are tested one by one, the latter over the lists that the owners show; the rest is `add`'s. Assumes nothing.
use mathlib.Core.Path.{refl, sym, ◌∙◌}
use mathlib.Core.Bool.{◌&&◌}
use lib.Dec.{eqb}
use Rattle.lists.proofs.Lookup.{placed-said}
use Rattle.lists.specs.State.{placed}
use Rattle.card_log.specs.declared.entry.LogEntry.TheVariants.{Write}
use Rattle.card_log.specs.Entry.{is_block, is_race}
use Rattle.disk.specs.Record.{record_in}
use Rattle.answers.specs.declared.Refusal.TheVariants.{OutOfRange, BlockNotPlaced}
use Rattle.answers.specs.Answers.{number}
use Rattle.inspect.proofs.Asking.{exit_asked}
use Rattle.calls.specs.promises.Adds.{added}
use Rattle.calls.proofs.Adding.{first-no, second-no, both_yes}
use Rattle.calls.proofs.Writing.{write-range}
use Rattle.calls.proofs.write.write_placed.Goals as goal

pub returns-in_err-ask : goal.returns-in_err-ask
unfolding number
returns-in_err-ask c = λ rs h.
    let a = c.args in
    rw (exit_asked _ _ _ c.from_residual.ensures.1 c.in_err-ask.ensures.0)
    (first-no 5 8 (is_block a.b && is_race a.race && eqb a.n 256) (placed a.b rs) a.s (record_in a.rec.now) OutOfRange refl (sym c.is_write.ensures ∙ c.in_err-ask.ensures.1))

pub returns-in_err-ask-2 : goal.returns-in_err-ask-2
unfolding number
returns-in_err-ask-2 c = λ rs h.
    let a = c.args in
    let w = sym c.is_write.ensures ∙ c.in_ok-ask.ensures in
    rw (exit_asked _ _ _ c.from_residual-in_err-ask-2.ensures.1 c.in_err-ask-2.ensures.0)
    (second-no 5 8 (is_block a.b && is_race a.race && eqb a.n 256) (placed a.b rs) a.s (record_in a.rec.now) BlockNotPlaced refl w
    (sym (placed-said c.is_placed.ensures rs h (write-range a.b a.race a.n w).0) ∙ c.in_err-ask-2.ensures.1))

pub returns : goal.returns
returns c = λ rs h.
    let a = c.args in
    let w = sym c.is_write.ensures ∙ c.in_ok-ask.ensures in
    both_yes 5 8 (is_block a.b && is_race a.race && eqb a.n 256) (placed a.b rs) a.s (record_in a.rec.now) (added a.s (Write a.b 0 a.race) (record_in a.rec.now)) c.add.result (record_in c.add.new.rec) w
    (sym (placed-said c.is_placed.ensures rs h (write-range a.b a.race a.n w).0) ∙ c.in_ok-ask-2.ensures) c.add.ensures
