-- The questions in their order; a unit's view is the committed state with its journal laid over it. Assumes nothing.
use mathlib.Core.Path.{◌≡◌, refl, sym, ◌∙◌}
use mathlib.Core.Bool.{true, false}
use Rattle.disk.specs.Record.{record_in}
use Rattle.disk.specs.Disk.{disk_in}
use Rattle.disk.specs.Sound.{open_unit}
use Rattle.disk.proofs.Questions.{open-in-range}
use Rattle.inspect.proofs.Looking.{unit_lawful, look-unsound, look-closed, look-seen, open-zero, open-unit, look-unit}
use Rattle.inspect.proofs.look.look_stream.Goals as goal

pub returns-in_err-examine : goal.returns-in_err-examine
returns-in_err-examine c = look-unsound _ _ _ _ _ _ c.from_residual.ensures.1 c.in_err-examine.ensures

pub returns-in_err-ask : goal.returns-in_err-ask
returns-in_err-ask c =
    let s = c.args in
    let d = disk_in s.card.now s.queue_data.now s.journal_data.now s.rec.now in
    look-closed false d s.stream 0 _ _ c.in_ok-examine.ensures _ _ _ c.from_residual-in_err-ask.ensures.1 c.in_err-ask.ensures.0
    (open-unit d s.stream c.if-stream-ne0.true ∙ sym c.is_open.ensures ∙ c.in_err-ask.ensures.1)

pub enter_journal-requires : goal.enter_journal-requires
enter_journal-requires c =
    let s = c.args in
    let a = c.in_ok-examine.ensures in
    let o : open_unit (record_in s.rec.now) s.stream ≡ true = sym c.is_open.ensures ∙ c.in_ok-ask.ensures in
    let r = open-in-range (record_in s.rec.now) s.stream o in
    let k = unit_lawful (disk_in s.card.now s.queue_data.now s.journal_data.now s.rec.now) s.stream a.lengths a.sound r.0 r.1 in
    (k.room, r.0, r.1, k.lawful)

pub returns-in_ok-ask : goal.returns-in_ok-ask
returns-in_ok-ask c =
    let s = c.args in
    look-unit (disk_in s.card.now s.queue_data.now s.journal_data.now s.rec.now) s.stream _ _ c.in_ok-examine.ensures c.if-stream-ne0.true
    (sym c.is_open.ensures ∙ c.in_ok-ask.ensures) _ _ c.enter_journal.ensures

pub returns-else-stream-ne0 : goal.returns-else-stream-ne0
returns-else-stream-ne0 c =
    let s = c.args in
    let d = disk_in s.card.now s.queue_data.now s.journal_data.now s.rec.now in
    rw c.if-stream-ne0.false (look-seen false d 0 0 _ _ c.in_ok-examine.ensures refl (open-zero d))
