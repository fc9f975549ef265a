-- The line that a call's result is printed as.
use Rattle.std.specs.Prelude.{List, ℕ}
use Rattle.disk.specs.Call.{Edit, new_list, new_block, write_block, delete_block, delete_list, Look, read_block, block_after, inventory, page, Call, format, mount, conflict_count, on_stream, in_view, begin, end, flush}
use Rattle.disk.specs.Perform.{Result}
use Rattle.answers.specs.Answers.{Answer}
use Rattle.script.specs.Lines.{answer_line, numbered_line, mount_line, flush_line, read_line, inventory_line, page_reply}

-- an edit: the number where one is given
unfoldable pub edit_line : Edit → Answer → List ℕ
edit_line new_list a = numbered_line a
edit_line (new_block l p) a = numbered_line a
edit_line (write_block b n x) a = answer_line a
edit_line (delete_block b) a = answer_line a
edit_line (delete_list l) a = answer_line a

unfoldable pub look_line : Look → Result → List ℕ
look_line (read_block b x) r = read_line r.answer r.lent
look_line (block_after l p) r = numbered_line r.answer
look_line (inventory x) r = inventory_line r.answer r.lent
look_line (page x) r = page_reply r.answer r.lent

unfoldable pub line_of : Call → Result → List ℕ
line_of format r = answer_line r.answer
line_of mount r = mount_line r.answer
line_of (conflict_count w) r = numbered_line r.answer
line_of (on_stream s e) r = edit_line e r.answer
line_of (in_view v k) r = look_line k r
line_of (begin u w) r = answer_line r.answer
line_of (end u) r = answer_line r.answer
line_of (flush a) r = flush_line r.answer
