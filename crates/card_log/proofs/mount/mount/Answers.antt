-- Mounting on tables of its own. Assumes nothing.
use Rattle.lists.specs.promises.Tables.{tables_in}
use Rattle.card_log.proofs.Mounting.{mounts}
use Rattle.card_log.proofs.mount.mount.Goals as goal

pub returns : goal.returns
returns c = mounts c.args.card.now (tables_in c.mount_on.new.nodes) c.mount_on.result c.mount_on.ensures
