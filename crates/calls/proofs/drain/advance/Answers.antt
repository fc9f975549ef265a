-- The loop's invariant: the stores that are left, done on the card as it is, leave what all of them leave, and are each in turn. Assumes nothing.
use mathlib.Core.Path.{◌≡◌, sym, ◌∙◌}
use native.Mathlib.Omega.{arith}
use lib.ListN.{length}
use Rattle.card_log.specs.Store.{entry_stores}
use Rattle.card_log.proofs.LogStores.{going}
use Rattle.calls.proofs.Storing.{stores-next, stores-done}
use Rattle.calls.proofs.Turns.{turn-now, turns_next}
use Rattle.calls.proofs.drain.advance.Goals as goal

pub store_step-requires : goal.store_step-requires
store_step-requires c =
    let l = c.loop-k in
    let s : length l.card ≡ length c.args.card.now = omega arith in (
      record {
        within = c.requires.0.within;
        room = c.requires.0.room;
        inside = rw s c.requires.0.inside;
        left = omega (arith, c.loop-k-test.true, c.requires.1);
      },
      c.requires.2,
      turn-now c.args.place (going c.args.content.now c.args.member c.args.e) l.card l.k c.args.upto c.loop-k-test.true l.invariant.1,
    )

pub loop-k-preserved : goal.loop-k-preserved
loop-k-preserved c =
    let l = c.loop-k in
    let ss = entry_stores c.args.place (going c.args.content.now c.args.member c.args.e) in (
      rw c.store_step.ensures (stores-next l.k c.args.upto ss l.card c.loop-k-test.true (omega (arith, c.loop-k-test.true, c.requires.1)) ∙ l.invariant.0),
      rw c.store_step.ensures (turns_next c.args.place (going c.args.content.now c.args.member c.args.e) l.card l.k c.args.upto c.loop-k-test.true l.invariant.1 c.requires.1),
    )

pub returns : goal.returns
returns c =
    let a = c.args in
    sym (stores-done c.loop-k.k a.upto (entry_stores a.place (going a.content.now a.member a.e)) c.loop-k.card c.loop-k-test.false)
    ∙ c.loop-k.invariant.0
