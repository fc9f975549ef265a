-- `look` answers the questions 1, 3 and 4; behind them the tables show the view and where the block's content stands, which has 256 bytes. Assumes nothing.
use mathlib.Core.Path.{sym, ◌∙◌}
use native.Mathlib.Omega.{arith}
use lib.ListN.{length}
use borrow.Author.Tests.{not-true}
use Rattle.lists.proofs.Basic.{eqb-neq}
use Rattle.lists.proofs.Lookup.{location-said, placed-said}
use Rattle.card_log.specs.promises.Location.{content_at}
use Rattle.disk.specs.Disk.{disk_in}
use Rattle.disk.specs.Call.{lent_to}
use Rattle.answers.specs.Answers.{read_answer}
use Rattle.inspect.proofs.Asking.{exit_asked}
use Rattle.calls.proofs.Refusing.{read-refused, look-unseen}
use Rattle.calls.proofs.Reading.{read-range, read_out, read-unplaced, read-unwritten, read-sized, read-given}
use Rattle.calls.proofs.read.read.Goals as goal

pub returns-in_err-look_view : goal.returns-in_err-look_view
unfolding lent_to
returns-in_err-look_view c = look-unseen read_answer read-refused _ _ _ _ _ c.from_residual.ensures.1 c.in_err-look_view.ensures

pub returns-in_err-ask : goal.returns-in_err-ask
returns-in_err-ask c =
    rw (exit_asked _ _ _ c.from_residual-in_err-ask.ensures.1 c.in_err-ask.ensures.0)
    (read_out _ _ _ _ _ c.in_ok-look_view.ensures (sym c.is_read.ensures ∙ c.in_err-ask.ensures.1))

pub returns-in_err-ask-2 : goal.returns-in_err-ask-2
returns-in_err-ask-2 c =
    rw (exit_asked _ _ _ c.from_residual-in_err-ask-2.ensures.1 c.in_err-ask-2.ensures.0)
    (read-unplaced _ _ _ _ _ c.in_ok-look_view.ensures (sym c.is_read.ensures ∙ c.in_ok-ask.ensures) _ (placed-said c.is_placed.ensures) c.in_err-ask-2.ensures.1)

pub returns-in_err-ask-3 : goal.returns-in_err-ask-3
returns-in_err-ask-3 c =
    rw (exit_asked _ _ _ c.from_residual-in_err-ask-3.ensures.1 c.in_err-ask-3.ensures.0)
    (read-unwritten _ _ _ _ _ c.in_ok-look_view.ensures (sym c.is_read.ensures ∙ c.in_ok-ask.ensures) _ (placed-said c.is_placed.ensures) c.in_ok-ask-2.ensures
    c.location_of-number.result (location-said c.location_of-number.ensures) c.in_err-ask-3.ensures.1)

pub copy_content-requires : goal.copy_content-requires
copy_content-requires c =
    let a = c.args in
    let w = sym c.is_read.ensures ∙ c.in_ok-ask.ensures in
    let z = eqb-neq c.location_of-number.result 0 (not-true _ c.in_ok-ask-3.ensures) in (
      omega arith,
      read-sized (disk_in a.card.now a.queue_data.now a.journal_data.now a.rec.now) a.view a.block a.dest.now _ c.in_ok-look_view.ensures w
          _ (placed-said c.is_placed.ensures) c.in_ok-ask-2.ensures c.location_of-number.result (location-said c.location_of-number.ensures) c.in_ok-ask-3.ensures,
      (read-range a.block (length a.dest.now) w).1,
    )

pub returns : goal.returns
unfolding content_at
returns c =
    read-given _ _ _ _ _ c.in_ok-look_view.ensures (sym c.is_read.ensures ∙ c.in_ok-ask.ensures) _ (placed-said c.is_placed.ensures) c.in_ok-ask-2.ensures
    c.location_of-number.result (location-said c.location_of-number.ensures) c.in_ok-ask-3.ensures _ _ c.copy_content.ensures c.race_in.ensures
