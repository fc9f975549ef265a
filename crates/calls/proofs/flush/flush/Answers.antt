-- Questions 1 and 3 as `examine` answers them, then 5; a disk that all accept is one that the stores ask for. Assumes nothing.
use mathlib.Core.Path.{◌≡◌, refl, ◌∙◌}
use mathlib.Core.Bool.{true, false}
use mathlib.Core.List.{[]}
use Prim.Native.Nat.{ℕ}
use lib.Dec.{leb}
use Rattle.std.specs.Prelude.{Err}
use Rattle.answers.specs.declared.Refusal.TheVariants.{OutOfRange}
use Rattle.disk.specs.Disk.{Disk, disk_in}
use Rattle.disk.specs.Sound.{lengths_right, record_sound}
use Rattle.disk.specs.Call.{flush, destination}
use Rattle.disk.specs.Questions.{questions, refusal}
use Rattle.answers.specs.Answers.{number, flush_answer}
use Rattle.inspect.specs.promises.Inspect.{checked}
use Rattle.inspect.proofs.Asking.{ask-no, last-yes, exit_asked}
use Rattle.calls.specs.Performs.{Performs}
use Rattle.calls.proofs.Refusing.{sound-yes, usual-performs-refused, flush-refused, first-refused, performs-accepted}
use Rattle.calls.proofs.Draining.{flushable}
use Rattle.calls.proofs.flush.flush.Goals as goal

module _ (a : ℕ) (d : Disk) (l : lengths_right d ≡ true) (s : record_sound d ≡ true) where
  outside : leb a 65535 ≡ false → Performs (flush a) d d (flush_answer (Err OutOfRange)) []
  unfolding refusal questions destination flush_answer number
  outside h = usual-performs-refused (flush a) d OutOfRange tt (sound-yes d _ l s ∙ ask-no 5 _ [] h)

  within : leb a 65535 ≡ true → refusal (flush a) d ≡ 0
  unfolding refusal questions
  within h = sound-yes d _ l s ∙ last-yes 5 _ h

pub returns-in_err-behind : goal.returns-in_err-behind
unfolding refusal questions destination
returns-in_err-behind c =
    let a = c.args in
    let d = disk_in a.card.now a.queue_data.now a.journal_data.now a.rec.now in
    first-refused flush_answer flush-refused (flush a.allowance) d (checked d) _ tt refl _ _ c.from_residual.ensures.1 c.in_err-behind.ensures

pub returns-in_err-ask : goal.returns-in_err-ask
returns-in_err-ask c =
    let a = c.args in
    let x = c.in_ok-behind.ensures in
    rw (exit_asked _ _ _ c.from_residual-in_err-ask.ensures.1 c.in_err-ask.ensures.0)
    (outside a.allowance (disk_in a.card.now a.queue_data.now a.journal_data.now a.rec.now) x.lengths x.sound c.in_err-ask.ensures.1)

pub drain-requires : goal.drain-requires
drain-requires c =
    let a = c.args in
    let x = c.in_ok-behind.ensures in
    flushable (disk_in a.card.now a.queue_data.now a.journal_data.now a.rec.now) _ x.lengths x.sound x.place

pub returns : goal.returns
returns c =
    let a = c.args in
    let x = c.in_ok-behind.ensures in
    let d = disk_in a.card.now a.queue_data.now a.journal_data.now a.rec.now in
    performs-accepted (flush a.allowance) d _ (within a.allowance d x.lengths x.sound c.in_ok-ask.ensures) (c.drain.ensures a.journal_data.now)
