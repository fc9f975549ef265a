-- A commit, a member that is kept, a change that acts: in each way what the tables keep is the reader behind the entry. Assumes nothing.
use mathlib.Core.Path.{sym, ap, ◌∙◌}
use native.Mathlib.Omega.{arith}
use Rattle.card_log.specs.declared.feed.Fields.{Fields}
use Rattle.card_log.proofs.Feeding.{raw-race, run_settled, fed-commit, fed-member, fed-plain}
use Rattle.card_log.proofs.feed.feed.Goals as goal

pub returns-then-f-eq-NO_KIND : goal.returns-then-f-eq-NO_KIND
returns-then-f-eq-NO_KIND c = record {
  short = rw c.settle.ensures (run_settled _ c.commit.result);
  reads = λ r k l f.
      let s = c.args in
      let q = c.fields_of-f.ensures in
      rw c.settle.ensures
      (fed-commit _ s.run r k s.location f s.member s.e l c.commit.result _ (ap (λ (f : Fields). f.kind) (sym q) ∙ c.if-f-eq-NO_KIND.true) (rw q at c.commit.ensures));
}

pub number_of-number-requires : goal.number_of-number-requires
number_of-number-requires c =
    let p = c.requires in
    let q = c.fields_of-f.ensures in
    (p.1, rw q (raw-race _ _ p.2))

pub returns-then-member : goal.returns-then-member
returns-then-member c = record {
  short = omega arith;
  reads = λ r k l f.
      let s = c.args in
      let q = c.fields_of-f.ensures in
      rw (c.keep.ensures.1, c.number_of-number.ensures, q)
      (fed-member _ s.run r k s.location f s.member s.e l (λ z. c.if-f-eq-NO_KIND.false (ap (λ (f : Fields). f.kind) q ∙ z)) c.if-member.true);
}

pub returns : goal.returns
returns c = record {
  short = rw c.settle-2.ensures (run_settled _ c.act.result);
  reads = λ r k l f.
      let s = c.args in
      let q = c.fields_of-f.ensures in
      rw c.settle-2.ensures
      (fed-plain _ s.run r k s.location f s.member s.e l (λ z. c.if-f-eq-NO_KIND.false (ap (λ (f : Fields). f.kind) q ∙ z)) c.act.result _ c.if-member.false (rw (c.number_of-number.ensures, q) at c.act.ensures));
}
