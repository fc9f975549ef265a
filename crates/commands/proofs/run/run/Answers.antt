-- Each arm is a row of the table; a call is made on the parts that are lent, which go back to their places. Assumes nothing.
use mathlib.Core.Path.{◌≡◌, refl, sym}
use Prim.Native.Nat.{min}
use native.Mathlib.Omega.{arith}
use lib.ListN.{length}
use lib.Seq.{length-take-le}
use Rattle.text.proofs.Writing.{puts_none}
use Rattle.script.specs.Spelling.{bytes}
use Rattle.commands.specs.Called.{call_of}
use Rattle.commands.specs.Ran.{ran}
use Rattle.commands.proofs.Lending.{lent-count}
use Rattle.commands.proofs.Running.{runs, lent_runs}
use Rattle.commands.proofs.run.run.Goals as goal

pub slice_bounds-call-end-in-Call : goal.slice_bounds-call-end-in-Call
slice_bounds-call-end-in-Call c = sym (length-take-le c.min-n.result c.args.card.now (omega (arith, c.min-n.ensures, c.requires.whole)))

pub slice_bounds-call-end-in-Call-3 : goal.slice_bounds-call-end-in-Call-3
slice_bounds-call-end-in-Call-3 c = rw c.min-m.ensures (lent-count _ c.args.queue.now)

pub slice_bounds-call-end-in-Call-5 : goal.slice_bounds-call-end-in-Call-5
slice_bounds-call-end-in-Call-5 c = rw c.min-k.ensures (lent-count _ c.args.journal.now)

pub returns-in-Nothing : goal.returns-in-Nothing
unfolding ran
returns-in-Nothing c =
    let a = c.args in
    rw (← c.command.ensures, c.in-Some.is, c.in-Nothing.is) (runs _ a.state _ refl c.requires refl refl (puts_none a.out.now a.at))

pub returns-in_default : goal.returns-in_default
unfolding ran bytes
returns-in_default c =
    let a = c.args in
    rw (← c.command.ensures, c.in_default.is) (runs _ a.state _ c.said.ensures.0 c.requires refl refl c.said.ensures.1)

pub returns-in-Call : goal.returns-in-Call
unfolding ran
returns-in-Call c =
    let a = c.args in
    let f = c.requires in
    let s = a.state in
    let n : c.min-n.result ≡ min (min s.card s.size) (length a.card.now) = omega (arith, c.min-n.ensures, f.whole) in
    let q = c.min-m.ensures in
    let j = c.min-k.ensures in
    rw (← c.command.ensures, c.in-Some.is, c.in-Call.is, n, q, j)
    (lent_runs a.card.now a.queue.now a.journal.now s f _ _ _ _ (call_of a.line.now _) _ (rw n at c.card-1.given.0) refl (rw (n, q, j) at c.call-next.ensures))

pub returns-in-Tool : goal.returns-in-Tool
unfolding ran
returns-in-Tool c = rw (← c.command.ensures, c.in-Some.is, c.in-Tool.is) c.work.ensures
