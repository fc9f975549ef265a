-- The invariant: the members from number j on lead from the state that the tables show to where all of them lead from the reader's.
-- Assumes nothing.
use mathlib.Core.Path.{sym, ap, ◌∙◌}
use mathlib.Core.Bool.{true, false}
use mathlib.Core.List.{List}
use Prim.Native.Nat.{ℕ}
use native.Mathlib.Omega.{arith}
use lib.ListN.{get_or}
use borrow.Author.Tests.{not-true, not-false}
use Rattle.lists.specs.Change.{Change, take_list}
use Rattle.lists.specs.State.{apply, apply_all}
use Rattle.lists.specs.promises.Tables.{tables_in, Represents}
use Rattle.card_log.proofs.Feeding.{read_short, read-commit, last-from, turn-made, turn-refused, all_made, none-refused}
use Rattle.card_log.proofs.feed.commit.Goals as goal

pub returns-then-run-n : goal.returns-then-run-n
returns-then-run-n c = λ r k h. read_short _ _ r k _ c.if-run-n.true

pub loop-j-init : goal.loop-j-init
loop-j-init c =
    (omega arith, omega arith, omega arith, λ r k h. (r.state, k.shows, ap (λ (cs : List (Change ℕ)). apply_all cs r.state) (last-from r.run _ _ k.recalls.size)))

pub returns-then-not-act_member : goal.returns-then-not-act_member
returns-then-not-act_member c =
    λ r k h.
    let s = c.args in
    let l = c.loop-j in
    let (v, w, e) = l.invariant.3 r k h in
    let u = tables_in c.act_member.new.nodes in
    let a = c.act_member.ensures (get_or r.run l.j (take_list 0)) v (k.recalls.each l.j c.loop-j-test.true (omega arith)) w in
    let b : Represents (apply (get_or r.run l.j (take_list 0)) v) false u = rw (not-true c.act_member.result c.if-not-act_member.true-raw) at a in
    read-commit _ s.run r k s.n false u l.invariant.0 (none-refused _ u (sym e ∙ turn-refused r.run l.j v u (omega (arith, k.recalls.size)) b))

pub overflow_add-j : goal.overflow_add-j
overflow_add-j c = omega arith

pub loop-j-smaller : goal.loop-j-smaller
loop-j-smaller c = omega arith

pub loop-j-preserved : goal.loop-j-preserved
loop-j-preserved c =
    let l = c.loop-j in (
      l.invariant.0,
      omega arith,
      omega arith,
      λ r k h.
          let (v, w, e) = l.invariant.3 r k h in
          let u = tables_in c.act_member.new.nodes in
          let a = c.act_member.ensures (get_or r.run l.j (take_list 0)) v (k.recalls.each l.j c.loop-j-test.true (omega arith)) w in
          let b : Represents (apply (get_or r.run l.j (take_list 0)) v) true u = rw (not-false c.act_member.result c.if-not-act_member.false-raw) at a in
          let (q, x, y) = turn-made r.run l.j v u (omega (arith, k.recalls.size)) b in
          (q, x, y ∙ e),
    )

pub returns : goal.returns
returns c =
    λ r k h.
    let s = c.args in
    let l = c.loop-j in
    let (v, w, e) = l.invariant.3 r k h in
    let u = tables_in l.nodes in
    read-commit _ s.run r k s.n true u l.invariant.0 (all_made r.run l.j v u _ (omega (arith, k.recalls.size)) w e)
