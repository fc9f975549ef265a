-- The range first, then what `put_on` asks of the first free number. Assumes nothing.
use mathlib.Core.Path.{sym, ◌∙◌}
use Rattle.lists.specs.Basic.{or_else}
use Rattle.disk.specs.Record.{record_in, listed_in}
use Rattle.inspect.proofs.Asking.{exit_asked}
use Rattle.calls.specs.promises.Giving.{none0, free_block_in}
use Rattle.calls.proofs.Refusing.{position-range}
use Rattle.calls.proofs.Giving.{none0-is, given-block, put-outside, put-inside}
use Rattle.calls.proofs.Putting.{puts-number}
use Rattle.calls.proofs.give.put_free.Goals as goal

pub returns-in_err-ask : goal.returns-in_err-ask
returns-in_err-ask c rs sh =
    let x = c.args in
    let r = record_in x.rec.now in
    rw (exit_asked _ _ _ c.from_residual.ensures.1 c.in_err-ask.ensures.0)
    (put-outside x.s x.l x.p (or_else 0 (free_block_in r)) r rs (sym c.is_position.ensures ∙ c.in_err-ask.ensures.1))

pub put_on-requires : goal.put_on-requires
put_on-requires c =
    let h = c.requires in
    let (l, q) = position-range c.args.l c.args.p (sym c.is_position.ensures ∙ c.in_ok-ask.ensures) in
    (h.0, h.1, l, q, given-block (listed_in (record_in c.args.rec.now)) _ c.first_free-free.ensures, h.2)

pub returns : goal.returns
returns c rs sh =
    let x = c.args in
    let r = record_in x.rec.now in
    let b = none0 c.first_free-free.result in
    puts-number rs x.s x.l x.p b _ r c.put_on.result (record_in c.put_on.new.rec) (none0-is 0 64 (listed_in r) _ c.first_free-free.ensures)
    (put-inside x.s x.l x.p b r rs c.put_on.result (record_in c.put_on.new.rec) (sym c.is_position.ensures ∙ c.in_ok-ask.ensures) (c.put_on.ensures rs sh))
