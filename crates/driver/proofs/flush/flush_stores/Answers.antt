-- Questions 1 and 3 as `examine` answers them, then 5; the queue of a disk that all accept is listed. Assumes nothing.
use mathlib.Core.Path.{◌≡◌, ap, ◌∙◌}
use mathlib.Core.Bool.{true, false}
use mathlib.Core.List.{List, []}
use Prim.Native.Nat.{ℕ, min}
use native.Mathlib.Omega.{arith}
use lib.Dec.{leb}
use lib.ListN.{length, take}
use Rattle.std.specs.Prelude.{Ok, Err}
use Rattle.card_log.specs.Store.{Store}
use Rattle.answers.specs.declared.Refusal.TheVariants.{OutOfRange}
use Rattle.disk.specs.Disk.{Disk, disk_in}
use Rattle.disk.specs.Sound.{lengths_right, record_sound}
use Rattle.disk.specs.Call.{flush}
use Rattle.disk.specs.Questions.{questions, refusal}
use Rattle.answers.specs.Answers.{number, number_answer}
use Rattle.disk.specs.Statements.{todo}
use Rattle.inspect.specs.promises.Inspect.{checked}
use Rattle.inspect.proofs.Asking.{ask-no, last-yes, refused-more, exit_asked}
use Rattle.calls.proofs.Refusing.{sound-yes}
use Rattle.calls.proofs.Draining.{flushable}
use Rattle.driver.specs.Stores.{stores_made, list_stores}
use Rattle.driver.specs.promises.Listing.{listed}
use Rattle.driver.proofs.Listing.{take-smaller, lists-accepted, lists-refused, lists-exit}
use Rattle.driver.proofs.flush.flush_stores.Goals as goal

module _ (a : ℕ) (d : Disk) (x : List ℕ) (l : lengths_right d ≡ true) (s : record_sound d ≡ true) where
  outside : leb a 65535 ≡ false → list_stores (flush a) d x ≡ (number_answer (Err OutOfRange), x)
  unfolding refusal questions number number_answer
  outside h = lists-refused (flush a) d x OutOfRange (λ e. omega arith) (sound-yes d _ l s ∙ ask-no 5 _ [] h)

  -- m is the smaller of the allowance and the room
  stores-listed : (m r : ℕ) (x' : List ℕ) → leb a 65535 ≡ true → m ≡ min a (length x) → listed 0 (take m (todo d)) x ≡ (r, x') → list_stores (flush a) d x ≡ (number_answer (Ok r), x')
  unfolding refusal questions number_answer stores_made
  stores-listed m r x' h n e =
      lists-accepted (flush a) d x r x' (sound-yes d _ l s ∙ last-yes 5 _ h) (ap (λ (ss : List Store). listed 0 ss x) (take-smaller a (length x) m (todo d) n) ∙ e)

pub returns-in_err-behind : goal.returns-in_err-behind
unfolding refusal questions
returns-in_err-behind c =
    let a = c.args in
    let d = disk_in a.card.now a.queue_data.now a.journal_data.now a.rec.now in
    lists-exit (flush a.allowance) d a.stores.now tt _ _ c.from_residual.ensures.1 (refused-more _ (checked d) _ c.in_err-behind.ensures)

pub returns-in_err-ask : goal.returns-in_err-ask
returns-in_err-ask c =
    let a = c.args in
    let x = c.in_ok-behind.ensures in
    rw (exit_asked _ _ _ c.from_residual-in_err-ask.ensures.1 c.in_err-ask.ensures.0)
    (outside a.allowance (disk_in a.card.now a.queue_data.now a.journal_data.now a.rec.now) a.stores.now x.lengths x.sound c.in_err-ask.ensures.1)

pub list_queue-requires : goal.list_queue-requires
list_queue-requires c =
    let a = c.args in
    let x = c.in_ok-behind.ensures in
    (flushable (disk_in a.card.now a.queue_data.now a.journal_data.now a.rec.now) _ x.lengths x.sound x.place, omega (arith, c.min-most.ensures))

pub returns : goal.returns
returns c =
    let a = c.args in
    let x = c.in_ok-behind.ensures in
    stores-listed a.allowance (disk_in a.card.now a.queue_data.now a.journal_data.now a.rec.now) a.stores.now x.lengths x.sound _ _ _ c.in_ok-ask.ensures c.min-most.ensures (c.list_queue.ensures a.journal_data.now)
