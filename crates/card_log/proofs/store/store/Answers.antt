-- A store within the slice sets one byte; outside it nothing is set, and nothing stored. Assumes nothing.
use mathlib.Core.Path.{sym}
use lib.Seq.{set_out}
use Rattle.card_log.proofs.store.store.Goals as goal

pub returns-else-at-bytes : goal.returns-else-at-bytes
returns-else-at-bytes c = sym (set_out c.args.bytes.now c.args.at c.args.value c.if-at-bytes.false)
