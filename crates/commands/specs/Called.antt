-- Which call a command makes: "Numbers given to a call go to it as they are, however large".
use Rattle.std.specs.Prelude.{◌≡◌, List, ◌++◌, ℕ, take, replicate}
use Rattle.disk.specs.Disk.{Disk}
use Rattle.disk.specs.Call.{Edit, new_list, new_block, write_block, delete_block, delete_list, Look, read_block, block_after, inventory, page, Call, format, mount, conflict_count, on_stream, in_view, begin, end, flush}
use Rattle.disk.specs.Perform.{perform}
use Rattle.text.specs.Hex.{hex_bytes}
use Rattle.text.specs.Written.{Puts}
use Rattle.script.specs.declared.command.Request as Q
use Rattle.script.specs.declared.command.Edit as E
use Rattle.script.specs.declared.command.Look as K
use Rattle.script.specs.Arguments.{text_of}
use Rattle.commands.specs.Shell.{Shell, Printed, printed, lent_disk, after_call}
use Rattle.commands.specs.Replies.{line_of}

-- "with N (0 to 300) the data lent are the first N bytes of HEX's 256 and zeros"
unfoldable pub data_lent : List ℕ → ℕ → List ℕ
data_lent digits n = take n (hex_bytes digits ++ replicate 44 0)

-- "with N (0 to 300) the destination lent has N bytes"; of a page "the buffer lent has 820 bytes, or N (0 to 1,000)"
unfoldable pub bytes_lent : ℕ → List ℕ
bytes_lent n = take n (replicate 1000 0)

-- the data to write stand in the line
unfoldable pub edit_of : List ℕ → E.Edit → Edit
edit_of line E.TheVariants.NewList = new_list
edit_of line (E.TheVariants.NewBlock l p) = new_block l p
edit_of line (E.TheVariants.Write b n r w) = write_block b r (data_lent (text_of line w) n)
edit_of line (E.TheVariants.DeleteBlock b) = delete_block b
edit_of line (E.TheVariants.DeleteList l) = delete_list l

unfoldable pub look_of : K.Look → Look
look_of (K.TheVariants.Read b n) = read_block b (bytes_lent n)
look_of (K.TheVariants.Next l p) = block_after l p
look_of (K.TheVariants.Inventory n) = inventory (bytes_lent n)
look_of (K.TheVariants.Page n) = page (bytes_lent n)

unfoldable pub call_of : List ℕ → Q.Request → Call
call_of line Q.TheVariants.Format = format
call_of line Q.TheVariants.Mount = mount
call_of line (Q.TheVariants.Begin u w) = begin u w
call_of line (Q.TheVariants.End u) = end u
call_of line (Q.TheVariants.Flush a) = flush a
call_of line (Q.TheVariants.Conflicts w) = conflict_count w
call_of line (Q.TheVariants.Edit s e) = on_stream s (edit_of line e)
call_of line (Q.TheVariants.Look v k) = in_view v (look_of k)

-- a call, on what is lent
unfoldable pub called : Call → Shell → Printed
called c s = let r = perform c (lent_disk s) in printed (after_call s r.disk) (line_of c r)

-- a call in code, of disk d: what it leaves of d, and its line put at a position
pub record Calls (c : Call) (d d' : Disk) (out : List ℕ) (at : ℕ) (out' : List ℕ) (next : ℕ) : Type 0 where
  pub left : d' ≡ (perform c d).disk
  pub text : Puts out at (line_of c (perform c d)) out' next
