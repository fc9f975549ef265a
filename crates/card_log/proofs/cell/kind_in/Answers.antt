-- Each arm is its row of the table. Assumes nothing.
use borrow.Author.Tests.{ne_eqb}
use Rattle.card_log.specs.Cell.{kind_in}
use Rattle.card_log.proofs.cell.kind_in.Goals as goal

pub returns-in-2 : goal.returns-in-2
unfolding kind_in
returns-in-2 c = rw c.in-2.is

pub returns-in-3 : goal.returns-in-3
unfolding kind_in
returns-in-3 c = rw c.in-3.is

pub returns-in-7 : goal.returns-in-7
unfolding kind_in
returns-in-7 c = rw c.in-7.is

pub returns-in-9 : goal.returns-in-9
unfolding kind_in
returns-in-9 c = rw c.in-9.is

pub returns-in-73 : goal.returns-in-73
unfolding kind_in
returns-in-73 c = rw c.in-73.is

pub returns-in-33 : goal.returns-in-33
unfolding kind_in
returns-in-33 c = rw c.in-33.is

pub returns-in-34 : goal.returns-in-34
unfolding kind_in
returns-in-34 c = rw c.in-34.is

pub returns-in_default : goal.returns-in_default
unfolding kind_in
returns-in_default c =
    let r = c.in_default.in_default-own.rest in
    let k = c.args.kind in
    simp (ne_eqb k 2 r.0.0.0.0.0.0.1, ne_eqb k 3 r.0.0.0.0.0.1, ne_eqb k 7 r.0.0.0.0.1, ne_eqb k 9 r.0.0.0.1, ne_eqb k 73 r.0.0.1, ne_eqb k 33 r.0.1, ne_eqb k 34 r.1)
