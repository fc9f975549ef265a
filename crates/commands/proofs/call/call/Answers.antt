-- Each arm is one call and its line, or those of an edit or a look-up. Assumes nothing.
use Rattle.commands.specs.Replies.{line_of}
use Rattle.commands.specs.Called.{call_of}
use Rattle.commands.proofs.Calling.{calls}
use Rattle.commands.proofs.call.call.Goals as goal

pub returns-in-Format : goal.returns-in-Format
unfolding call_of line_of
returns-in-Format c =
    rw c.in-Format.is (calls c.format-reply.ensures c.put_answer.ensures)

pub returns-in-Mount : goal.returns-in-Mount
unfolding call_of line_of
returns-in-Mount c =
    rw c.in-Mount.is (calls c.mount-reply.ensures c.put_mounted.ensures)

pub returns-in-Begin : goal.returns-in-Begin
unfolding call_of line_of
returns-in-Begin c =
    rw c.in-Begin.is (calls c.begin-reply.ensures c.put_answer-in-Begin.ensures)

pub returns-in-End : goal.returns-in-End
unfolding call_of line_of
returns-in-End c =
    rw c.in-End.is (calls c.end-reply.ensures c.put_answer-in-End.ensures)

pub returns-in-Flush : goal.returns-in-Flush
unfolding call_of line_of
returns-in-Flush c =
    rw c.in-Flush.is (calls c.flush-reply.ensures c.put_flushed.ensures)

pub returns-in-Conflicts : goal.returns-in-Conflicts
unfolding call_of line_of
returns-in-Conflicts c =
    rw c.in-Conflicts.is (calls c.conflicts-reply.ensures c.put_numbered.ensures)

pub returns-in-Edit : goal.returns-in-Edit
unfolding call_of
returns-in-Edit c = rw c.in-Edit.is c.edit.ensures

pub returns-in-Look : goal.returns-in-Look
unfolding call_of
returns-in-Look c = rw c.in-Look.is c.look.ensures
