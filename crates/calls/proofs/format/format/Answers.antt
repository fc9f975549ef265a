-- Question 1 alone decides, the stores are the definition's, and cleared tables show the empty state. Assumes nothing.
use mathlib.Core.Path.{◌≡◌, refl, sym, ◌∙◌, subst}
use mathlib.Core.Bool.{true, false}
use mathlib.Core.List.{[]}
use Rattle.lists.specs.Numbers.{all_numbers}
use Rattle.lists.specs.State.{empty}
use Rattle.lists.specs.promises.Tables.{Tables, ShowsAll}
use Rattle.lists.proofs.Emptied.{shows-emptied}
use Rattle.card_log.specs.Card.{segments_in}
use Rattle.answers.specs.declared.Refusal.TheVariants.{WrongLength}
use Rattle.disk.specs.Record.{record_in, fresh_record}
use Rattle.disk.specs.Disk.{Disk, disk}
use Rattle.disk.specs.Sound.{lengths_right}
use Rattle.disk.specs.Call.{format, destination}
use Rattle.disk.specs.Questions.{questions, refusal, first_no, ask}
use Rattle.disk.specs.Perform.{formatted, accepted}
use Rattle.answers.specs.Answers.{number, reply_answer}
use Rattle.calls.specs.Performs.{Performs}
use Rattle.std.specs.Prelude.{Ok, Err}
use Rattle.inspect.proofs.Asking.{ask-no, exit_asked}
use Rattle.calls.proofs.Refusing.{usual-performs-refused, performs-accepted}
use Rattle.calls.proofs.format.format.Goals as goal

format-refused : (d : Disk) → lengths_right d ≡ false → Performs format d d (reply_answer (Err WrongLength)) []
unfolding refusal questions destination reply_answer number
format-refused d h = usual-performs-refused format d WrongLength tt (ask-no 1 _ [] h)

format-accepted : (d : Disk) → lengths_right d ≡ true
    → Performs format d (disk (formatted (segments_in d.card) d.card) d.queue_data d.journal_data (fresh_record all_numbers)) (reply_answer (Ok tt)) []
unfolding refusal questions first_no ask accepted reply_answer
format-accepted d h = performs-accepted format d _ (rw h) refl

pub returns-in_err-ask : goal.returns-in_err-ask
returns-in_err-ask c =
    rw (exit_asked _ _ _ c.from_residual.ensures.1 c.in_err-ask.ensures.0) (format-refused _ (sym (c.lengths_right.ensures (record_in c.args.rec.now)) ∙ c.in_err-ask.ensures.1))

pub returns : goal.returns
unfolding formatted
returns c =
    rw (c.format_stores.ensures, c.renew_from.ensures [] all_numbers (subst (λ (t : Tables). ShowsAll t empty) (sym c.clear.ensures) shows-emptied))
    (format-accepted _ (sym (c.lengths_right.ensures (record_in c.args.rec.now)) ∙ c.in_ok-ask.ensures))
