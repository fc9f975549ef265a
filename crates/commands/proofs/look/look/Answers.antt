-- Each arm is one look-up and its line. Assumes nothing.
use Rattle.commands.specs.Replies.{line_of, look_line}
use Rattle.commands.specs.Called.{look_of}
use Rattle.commands.proofs.Calling.{calls}
use Rattle.commands.proofs.look.look.Goals as goal

pub returns-in-Read : goal.returns-in-Read
unfolding look_of
returns-in-Read c = rw c.in-Read.is c.read.ensures

pub returns-in-Next : goal.returns-in-Next
unfolding look_of line_of look_line
returns-in-Next c =
    rw c.in-Next.is (calls c.next-reply.ensures c.put_numbered.ensures)

pub returns-in-Inventory : goal.returns-in-Inventory
unfolding look_of
returns-in-Inventory c = rw c.in-Inventory.is c.inventory.ensures

pub returns-in-Page : goal.returns-in-Page
unfolding look_of
returns-in-Page c = rw c.in-Page.is c.page.ensures
