-- Each arm tests what `member-tested` says of its kind. Assumes nothing.
use Rattle.card_log.proofs.LegalEntry.{member-tested}
use Rattle.card_log.specs.declared.entry.LogEntry.TheVariants.{Take, PutFirst, PutAfter, Write, DeleteBlock, DeleteList, Commit}
use Rattle.card_log.proofs.legal.is_member.Goals as goal

pub returns-in-Take : goal.returns-in-Take
returns-in-Take c = cc (member-tested (Take c.in-Take.list))

pub returns-in-PutFirst : goal.returns-in-PutFirst
returns-in-PutFirst c = cc (member-tested (PutFirst c.in-PutFirst.block c.in-PutFirst.list))

pub returns-in-PutAfter : goal.returns-in-PutAfter
returns-in-PutAfter c = cc (member-tested (PutAfter c.in-PutAfter.block c.in-PutAfter.list c.in-PutAfter.predecessor))

pub returns-in-Write : goal.returns-in-Write
returns-in-Write c = cc (member-tested (Write c.in-Write.block c.in-Write.slot c.in-Write.race))

pub returns-in-DeleteBlock : goal.returns-in-DeleteBlock
returns-in-DeleteBlock c = cc (member-tested (DeleteBlock c.in-DeleteBlock.block))

pub returns-in-DeleteList : goal.returns-in-DeleteList
returns-in-DeleteList c = cc (member-tested (DeleteList c.in-DeleteList.list))

pub returns-in-Commit : goal.returns-in-Commit
returns-in-Commit c = cc (member-tested (Commit c.in-Commit.count))
