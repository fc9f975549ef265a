-- The invariant: the table has how often each byte is among the places passed (Counted). None is among more than 80. Assumes nothing.
use Rattle.std.proofs.Common.{◌∙◌, ◌<◌, ap, length, rules, arith}
use Rattle.std.proofs.lemmas.List.{take_all}
use Rattle.lists.specs.Basic.{times}
use Rattle.disk.specs.Record.{record_in}
use Rattle.disk.proofs.Bytes.{order-length}
use Rattle.disk.proofs.Listing.{listed-length}
use Rattle.inspect.proofs.Ordering.{counted_none, counted-few, counted_next}
use Rattle.inspect.proofs.listed.count_listed.Goals as goal

pub loop-x-init : goal.loop-x-init
loop-x-init c = counted_none _ _ c.requires.1

pub overflow_add-seen : goal.overflow_add-seen
overflow_add-seen c =
    let l = c.loop-x in
    let r = record_in c.args.rec.now in
    let xs = c.free_numbers-x-items in
    let byte : c.from-number.result < 256 = search rules in
    omega (
      arith,
      counted-few xs.result.now l.x-index l.seen l.invariant (omega (arith, c.loop-x-test.true)) c.from-number.result byte,
      ap length xs.ensures,
      listed-length r (order-length c.args.rec.now) c.requires.0,
    )

pub loop-x-preserved : goal.loop-x-preserved
loop-x-preserved c =
    let l = c.loop-x in
    let ys = c.free_numbers-x-items in
    counted_next ys.result.now l.x-index l.seen l.invariant c.from-number.result c.from-number.ensures c.loop-x-test.true

pub returns : goal.returns
returns c = λ n b.
    let l = c.loop-x in
    let zs = c.free_numbers-x-items in
    l.invariant.count n b ∙ ap (times n) (take_all l.x-index zs.result.now (omega (arith, c.loop-x-test.false)) ∙ zs.ensures)
