-- Each arm has the fields of its kind. Assumes nothing.
use Rattle.card_log.proofs.feed.fields_of.Goals as goal

pub returns-in-Take : goal.returns-in-Take
returns-in-Take c = rw (c.in-Take.is, c.change_fields.ensures)

pub returns-in-PutFirst : goal.returns-in-PutFirst
returns-in-PutFirst c = rw (c.in-PutFirst.is, c.change_fields-in-PutFirst.ensures)

pub returns-in-PutAfter : goal.returns-in-PutAfter
returns-in-PutAfter c = rw (c.in-PutAfter.is, c.change_fields-in-PutAfter.ensures)

pub returns-in-Write : goal.returns-in-Write
returns-in-Write c = rw (c.in-Write.is, c.change_fields-in-Write.ensures)

pub returns-in-DeleteBlock : goal.returns-in-DeleteBlock
returns-in-DeleteBlock c = rw (c.in-DeleteBlock.is, c.change_fields-in-DeleteBlock.ensures)

pub returns-in-DeleteList : goal.returns-in-DeleteList
returns-in-DeleteList c = rw (c.in-DeleteList.is, c.change_fields-in-DeleteList.ensures)

pub returns-in-Commit : goal.returns-in-Commit
returns-in-Commit c = rw c.in-Commit.is
