-- By the cases of the reply. Assumes nothing.
use Rattle.commands.specs.Viewed.{disk_of}
use Rattle.commands.proofs.Showing.{block_read, block-unread}
use Rattle.commands.proofs.show.show_block.Goals as goal

pub returns-in-Ok : goal.returns-in-Ok
returns-in-Ok c =
    let a = c.args in
    rw (block_read (disk_of a.v) a.v.number a.block _ _ (rw c.in-Ok.is at c.read.ensures)) c.put_block.ensures

pub returns-in-Err : goal.returns-in-Err
returns-in-Err c =
    let a = c.args in
    rw (block-unread (disk_of a.v) a.v.number a.block _ _ (rw c.in-Err.is at c.read.ensures)) c.put_unwritten.ensures
