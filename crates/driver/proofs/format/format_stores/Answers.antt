-- Question 1, and the counts of the card's segments. Assumes nothing.
use mathlib.Core.Path.{◌≡◌, sym, ◌∙◌}
use mathlib.Core.Bool.{true, false}
use mathlib.Core.List.{List}
use Prim.Native.Nat.{ℕ}
use native.Mathlib.Omega.{arith}
use lib.ListN.{length, take}
use Rattle.std.specs.Prelude.{Ok, Err}
use Rattle.card_log.specs.Card.{segments_in}
use Rattle.card_log.specs.Store.{format_stores}
use Rattle.card_log.proofs.CardLength.{card-small}
use Rattle.answers.specs.declared.Refusal.TheVariants.{WrongLength}
use Rattle.disk.specs.Disk.{Disk, disk_in}
use Rattle.disk.specs.Sound.{lengths_right}
use Rattle.disk.specs.Call.{format}
use Rattle.disk.specs.Questions.{questions, refusal}
use Rattle.answers.specs.Answers.{number, number_answer}
use Rattle.disk.proofs.Questions.{card-length}
use Rattle.inspect.proofs.Asking.{ask-no, last-yes, exit_asked}
use Rattle.driver.specs.Stores.{stores_made, list_stores}
use Rattle.driver.specs.promises.Listing.{listed}
use Rattle.driver.proofs.Listing.{lists-accepted, lists-refused}
use Rattle.driver.proofs.format.format_stores.Goals as goal

module _ (d : Disk) (x : List ℕ) where
  wrong-length : lengths_right d ≡ false → list_stores format d x ≡ (number_answer (Err WrongLength), x)
  unfolding refusal questions number number_answer
  wrong-length h = lists-refused format d x WrongLength (λ e. omega arith) (ask-no 1 _ _ h)

  counts : (r : ℕ) (x' : List ℕ) → lengths_right d ≡ true → listed 0 (take (length x) (format_stores (segments_in d.card))) x ≡ (r, x') → list_stores format d x ≡ (number_answer (Ok r), x')
  unfolding refusal questions number_answer stores_made
  counts r x' h e = lists-accepted format d x r x' (last-yes 1 _ h) e

pub returns-in_err-ask : goal.returns-in_err-ask
returns-in_err-ask c =
    let a = c.args in
    let d = disk_in a.card.now a.queue_data.now a.journal_data.now a.rec.now in
    rw (exit_asked _ _ _ c.from_residual.ensures.1 c.in_err-ask.ensures.0) (wrong-length d a.stores.now (sym (c.lengths_right.ensures d.rec) ∙ c.in_err-ask.ensures.1))

pub list_counts-requires : goal.list_counts-requires
list_counts-requires c =
    let a = c.args in
    let d = disk_in a.card.now a.queue_data.now a.journal_data.now a.rec.now in
    (card-small d.card (card-length d (sym (c.lengths_right.ensures d.rec) ∙ c.in_ok-ask.ensures))).1

pub returns : goal.returns
returns c =
    let a = c.args in
    let d = disk_in a.card.now a.queue_data.now a.journal_data.now a.rec.now in
    counts d a.stores.now _ _ (sym (c.lengths_right.ensures d.rec) ∙ c.in_ok-ask.ensures) c.list_counts.ensures
