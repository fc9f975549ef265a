-- The parts are put one behind the other. Assumes nothing.
use Rattle.text.proofs.Writing.{puts-more}
use Rattle.files.proofs.message.put_message.Goals as goal

pub returns : goal.returns
returns c = puts-more (puts-more c.put_bytes-at.ensures c.put_bytes-at-2.ensures) c.put_bytes.ensures
