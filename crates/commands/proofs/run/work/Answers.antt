-- Each arm is a row of the table. Assumes nothing.
use mathlib.Core.Path.{refl, ◌∙◌}
use Rattle.script.specs.Spelling.{bytes}
use Rattle.commands.specs.Ran.{worked}
use Rattle.commands.proofs.Running.{runs, inserted-runs}
use Rattle.commands.proofs.run.work.Goals as goal

pub returns-in-Card : goal.returns-in-Card
unfolding worked bytes
returns-in-Card c =
    let a = c.args in
    let (n, e) = c.refill-n.ensures in
    let (r, q, j) = c.cut-rec.ensures in
    let (k, t) = c.said.ensures in
    rw (c.in-Card.is, e, n, q, j) (inserted-runs _ _ a.card.now a.queue.now a.journal.now a.state c.said.result c.requires.longest (k ∙ c.with_card.ensures ∙ rw (r, n)) t)

pub returns-in-Poke : goal.returns-in-Poke
unfolding worked
returns-in-Poke c =
    let a = c.args in
    rw c.in-Poke.is (c.poke.ensures a.queue.now a.journal.now)

pub returns-in-Cut : goal.returns-in-Cut
unfolding worked
returns-in-Cut c = rw c.in-Cut.is c.cut_power.ensures

pub returns-in-Lend : goal.returns-in-Lend
unfolding worked bytes
returns-in-Lend c =
    let a = c.args in
    let f = c.requires in
    let (n, e) = c.lend.ensures in
    rw c.in-Lend.is (runs _ c.lend.result _ c.said-in-Lend.ensures.0 (record { longest = f.longest; whole = rw n f.whole }) refl (e a.card.now a.queue.now a.journal.now f) c.said-in-Lend.ensures.1)

pub returns-in-Print : goal.returns-in-Print
unfolding worked
returns-in-Print c =
    let a = c.args in
    let f = c.requires in
    rw c.in-Print.is (runs _ a.state _ refl f refl refl c.print-next.ensures)
