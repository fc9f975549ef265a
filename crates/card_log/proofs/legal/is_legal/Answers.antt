-- Each arm tests what `legal-tested` says of its kind. Assumes nothing.
use Rattle.card_log.proofs.LegalEntry.{legal-tested}
use Rattle.card_log.specs.declared.entry.LogEntry.TheVariants.{Take, PutFirst, PutAfter, Write, DeleteBlock, DeleteList, Commit}
use Rattle.card_log.proofs.legal.is_legal.Goals as goal

pub returns-in-Take : goal.returns-in-Take
returns-in-Take c = cc (legal-tested c.args.member (Take c.in-Take.list))

pub returns-in-PutFirst : goal.returns-in-PutFirst
returns-in-PutFirst c = cc (legal-tested c.args.member (PutFirst c.in-PutFirst.block c.in-PutFirst.list))

pub returns-in-PutAfter : goal.returns-in-PutAfter
returns-in-PutAfter c = cc (legal-tested c.args.member (PutAfter c.in-PutAfter.block c.in-PutAfter.list c.in-PutAfter.predecessor))

pub returns-in-Write : goal.returns-in-Write
returns-in-Write c = cc (legal-tested c.args.member (Write c.in-Write.block c.in-Write.slot c.in-Write.race))

pub returns-in-DeleteBlock : goal.returns-in-DeleteBlock
returns-in-DeleteBlock c = cc (legal-tested c.args.member (DeleteBlock c.in-DeleteBlock.block))

pub returns-in-DeleteList : goal.returns-in-DeleteList
returns-in-DeleteList c = cc (legal-tested c.args.member (DeleteList c.in-DeleteList.list))

pub returns-in-Commit : goal.returns-in-Commit
returns-in-Commit c = cc (legal-tested c.args.member (Commit c.in-Commit.count))
