-- The call on the lent bytes, and its line. Assumes nothing.
use Rattle.commands.specs.Replies.{line_of, look_line}
use Rattle.commands.specs.Called.{bytes_lent}
use Rattle.commands.proofs.Lending.{zeros-lent, zeros-back}
use Rattle.commands.proofs.Calling.{calls}
use Rattle.commands.proofs.look.page.Goals as goal

pub returns : goal.returns
unfolding bytes_lent line_of look_line
returns c =
    let n = c.args.lent in
    let k = c.min.ensures in
    calls (rw (zeros-lent n _ k) at c.page-reply.ensures) (rw (c.part.ensures, zeros-back n _ k _ c.page-reply.auto.buffer) at c.put_page.ensures)
