-- The persistent state is open as a view; any other view is a stream's. Assumes nothing.
use mathlib.Core.Path.{refl}
use mathlib.Core.Bool.{true}
use Rattle.disk.specs.Disk.{disk_in}
use Rattle.inspect.proofs.Looking.{look-unsound, look-seen, open-persistent, as-stream}
use Rattle.inspect.proofs.look.look_view.Goals as goal

pub returns-in_err-examine_persistent : goal.returns-in_err-examine_persistent
returns-in_err-examine_persistent c = look-unsound _ _ _ _ _ _ c.from_residual.ensures.1 c.in_err-examine_persistent.ensures

pub returns-in_ok-examine_persistent : goal.returns-in_ok-examine_persistent
returns-in_ok-examine_persistent c =
    let s = c.args in
    let d = disk_in s.card.now s.queue_data.now s.journal_data.now s.rec.now in
    rw c.if-view-eq-PERSISTENT.true (look-seen true d 5 5 _ _ c.in_ok-examine_persistent.ensures refl (open-persistent d))

pub returns-else-view-eq-PERSISTENT : goal.returns-else-view-eq-PERSISTENT
returns-else-view-eq-PERSISTENT c = as-stream _ _ _ _ c.if-view-eq-PERSISTENT.false c.look_stream.ensures
