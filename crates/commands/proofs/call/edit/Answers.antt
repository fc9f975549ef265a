-- Each arm is one edit and its line; the data of a write are the digits' bytes. Assumes nothing.
use mathlib.Core.Path.{sym}
use Prim.Native.Nat.{ℕ}
use lib.ListN.{replicate}
use lib.Seq.{length_front}
use Rattle.commands.specs.Replies.{line_of, edit_line}
use Rattle.commands.specs.Called.{edit_of, data_lent}
use Rattle.commands.proofs.Calling.{calls}
use Rattle.commands.proofs.call.edit.Goals as goal

pub slice_bounds-part-end : goal.slice_bounds-part-end
slice_bounds-part-end c = sym (length_front {A = ℕ} (replicate 300 0) c.hex.new.out 256 c.hex.auto.out)

pub returns-in-NewList : goal.returns-in-NewList
unfolding edit_of line_of edit_line
returns-in-NewList c = rw c.in-NewList.is (calls c.new_list-reply.ensures c.put_numbered.ensures)

pub returns-in-NewBlock : goal.returns-in-NewBlock
unfolding edit_of line_of edit_line
returns-in-NewBlock c = rw c.in-NewBlock.is (calls c.new_block-reply.ensures c.put_numbered-in-NewBlock.ensures)

pub returns-in-Write : goal.returns-in-Write
unfolding edit_of data_lent line_of edit_line
returns-in-Write c =
    rw c.in-Write.is
    (calls (rw (c.part-in-Write.ensures, c.hex.ensures, c.part.ensures) at c.write-reply.ensures) c.put_answer.ensures)

pub returns-in-DeleteBlock : goal.returns-in-DeleteBlock
unfolding edit_of line_of edit_line
returns-in-DeleteBlock c = rw c.in-DeleteBlock.is (calls c.delete_block-reply.ensures c.put_answer-in-DeleteBlock.ensures)

pub returns-in-DeleteList : goal.returns-in-DeleteList
unfolding edit_of line_of edit_line
returns-in-DeleteList c = rw c.in-DeleteList.is (calls c.delete_list-reply.ensures c.put_answer-in-DeleteList.ensures)
