-- Questions 1 and 2 are those of the log's mounting, and the tables show the free numbers of the state mounted. Assumes nothing.
use mathlib.Core.Path.{◌≡◌, sym, ap, ◌∙◌}
use mathlib.Core.Bool.{Bool, true, false, ◌&&◌, and-false}
use mathlib.Core.List.{[]}
use Prim.Native.Nat.{ℕ}
use lib.Dec.{eqb}
use lib.ListN.{length}
use Rattle.lists.specs.Basic.{is_some}
use Rattle.card_log.specs.Reader.{Reader}
use Rattle.card_log.specs.Card.{Written, card_length, sound, fault, mounted}
use Rattle.card_log.proofs.Mounting.{mounted-shown}
use Rattle.answers.specs.declared.Refusal.TheVariants.{WrongLength}
use Rattle.answers.specs.declared.MountRefusal.TheVariants.{Fault, Refused}
use Rattle.std.specs.Prelude.{Ok, Err}
use Rattle.disk.specs.Record.{fresh_record}
use Rattle.disk.specs.Disk.{Disk, with_record, reader_of, state_of, persistent}
use Rattle.disk.specs.Sound.{lengths_right}
use Rattle.disk.specs.Call.{mount, ends, destination}
use Rattle.disk.specs.Questions.{mountable, questions, refusal, first_no, ask}
use Rattle.disk.specs.Perform.{accepted, refused, fault_at, refusal_answer}
use Rattle.answers.specs.Answers.{number, mount_answer}
use Rattle.disk.proofs.Performing.{perform-accepted, perform-refused}
use Rattle.inspect.proofs.Judging.{and-behind}
use Rattle.inspect.proofs.Asking.{exit_is}
use Rattle.calls.specs.Performs.{Performs}
use Rattle.calls.proofs.mount.mount.Goals as goal

abbrev DataRight : Disk → Bool
DataRight d = eqb (length d.queue_data) 8192 && eqb (length d.journal_data) 15360

mount-refused : (d : Disk) → lengths_right d ≡ false → Performs mount d d (mount_answer (Err (Refused WrongLength))) []
unfolding refusal questions first_no ask refused ends refusal_answer destination mount_answer number
mount-refused d h = perform-refused mount d 0 (rw h)

mount-fault : (d : Disk) (g i : ℕ) → lengths_right d ≡ true → mounted d.card ≡ fault g i → Performs mount d d (mount_answer (Err (Fault g i))) []
unfolding refusal questions first_no ask mountable reader_of is_some refused ends refusal_answer fault_at destination mount_answer
mount-fault d g i h m = perform-refused mount d 1 (rw (h, m)) ∙ rw m

mount-accepted : (d : Disk) (r : Reader Written) → lengths_right d ≡ true → mounted d.card ≡ sound r
    → Performs mount d (with_record d (fresh_record r.state.free)) (mount_answer (Ok tt)) []
unfolding refusal questions first_no ask mountable reader_of is_some persistent state_of accepted mount_answer
mount-accepted d r h m = perform-accepted mount d (rw (h, m)) ∙ rw m

-- the three lengths, of which the card's is asked last
lengths-data : (d : Disk) → DataRight d ≡ false → lengths_right d ≡ false
unfolding lengths_right
lengths-data d h = and-behind (card_length d.card) (eqb (length d.queue_data) 8192) (eqb (length d.journal_data) 15360) ∙ ap (λ (b : Bool). card_length d.card && b) h ∙ and-false (card_length d.card)

lengths-card : (d : Disk) → card_length d.card ≡ false → lengths_right d ≡ false
unfolding lengths_right
lengths-card d h = and-behind (card_length d.card) (eqb (length d.queue_data) 8192) (eqb (length d.journal_data) 15360) ∙ rw h

lengths-all : (d : Disk) → DataRight d ≡ true → card_length d.card ≡ true → lengths_right d ≡ true
unfolding lengths_right
lengths-all d h k = and-behind (card_length d.card) (eqb (length d.queue_data) 8192) (eqb (length d.journal_data) 15360) ∙ rw k h

pub returns-in_err-ask : goal.returns-in_err-ask
returns-in_err-ask c = rw (exit_is _ _ c.from_residual.ensures.1, c.in_err-ask.ensures.0) (mount-refused _ (lengths-data _ (sym c.data_right.ensures ∙ c.in_err-ask.ensures.1)))

pub returns-in-WrongLength : goal.returns-in-WrongLength
returns-in-WrongLength c = mount-refused _ (lengths-card _ (rw c.in-WrongLength.is at c.mount_on.ensures))

pub returns-in-Fault : goal.returns-in-Fault
returns-in-Fault c =
    let w = rw c.in-Fault.is at c.mount_on.ensures in
    mount-fault _ _ _ (lengths-all _ (sym c.data_right.ensures ∙ c.in_ok-ask.ensures) w.0) w.1

pub returns-in-Sound : goal.returns-in-Sound
returns-in-Sound c =
    let w = rw c.in-Sound.is at c.mount_on.ensures in
    let r = w.accepts.reader in
    let (rs, s) = mounted-shown _ _ _ r w w.accepts.walked in
    rw (c.renew_from.ensures rs r.state.free s)
    (mount-accepted _ r (lengths-all _ (sym c.data_right.ensures ∙ c.in_ok-ask.ensures) w.accepts.right) w.accepts.walked)
