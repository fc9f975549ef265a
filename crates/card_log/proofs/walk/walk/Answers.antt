-- The invariant: the walk has come to segment g, the tables keep its reader, and the items left are those of the segments from g on.
-- Assumes nothing.
use mathlib.Core.Path.{refl, sym, subst}
use native.Mathlib.Omega.{arith}
use Rattle.lists.specs.State.{empty}
use Rattle.lists.specs.promises.Tables.{Tables, ShowsAll}
use Rattle.lists.proofs.Emptied.{shows-emptied}
use Rattle.card_log.specs.Card.{segments_in, count}
use Rattle.card_log.specs.promises.Feed.{memory}
use Rattle.card_log.proofs.CardLength.{card-small}
use Rattle.card_log.proofs.Walking.{upto-start, upto-end, upto-empty, upto-used, upto-broken, upto-more}
use Rattle.card_log.proofs.walk.walk.Goals as goal

pub loop-g-init : goal.loop-g-init
loop-g-init c =
    let s = c.args in
    let (a, b) = card-small s.card.now c.requires in
    (omega arith, b, a, omega arith, rw c.opened-behind.ensures (upto-start s.card.now _ (subst (λ (t : Tables). ShowsAll t empty) (sym c.clear.ensures) shows-emptied) refl))

pub overflow_mul-g : goal.overflow_mul-g
overflow_mul-g c = omega arith

pub overflow_add-g : goal.overflow_add-g
overflow_add-g c = omega arith

pub bounds-card-g : goal.bounds-card-g
bounds-card-g c = omega arith

pub overflow_add-g-then-card-g-eq0 : goal.overflow_add-g-then-card-g-eq0
overflow_add-g-then-card-g-eq0 c = omega arith

pub first_used-used-requires : goal.first_used-used-requires
first_used-used-requires c = (omega arith, omega arith, omega arith)

pub returns-then-used-n : goal.returns-then-used-n
returns-then-used-n c =
    let s = c.args in
    let l = c.loop-g in
    upto-used s.card.now (segments_in s.card.now) l.g l.run l.behind (memory l.nodes l.members) l.invariant.4 c.loop-g-test.true c.if-card-g-eq0.true c.first_used-used.result c.first_used-used.ensures c.if-used-n.true

pub returns-then-card-g-eq0 : goal.returns-then-card-g-eq0
returns-then-card-g-eq0 c =
    let s = c.args in
    let l = c.loop-g in
    upto-empty s.card.now (segments_in s.card.now) l.g l.run l.behind (memory l.nodes l.members) l.invariant.4 c.loop-g-test.true c.if-card-g-eq0.true (omega arith) c.first_used-used.result c.first_used-used.ensures
    c.if-used-n.false

pub walk_segment-requires : goal.walk_segment-requires
unfolding count
walk_segment-requires c =
    let l = c.loop-g in
    record { holds = omega arith; small = omega arith; used = c.if-card-g-eq0.false; short = omega arith }

pub returns-in-Broken : goal.returns-in-Broken
returns-in-Broken c =
    let s = c.args in
    let l = c.loop-g in
    let u = l.invariant.4 in
    upto-broken s.card.now (segments_in s.card.now) l.g l.run l.behind (memory l.nodes l.members) u c.loop-g-test.true c.if-card-g-eq0.false _
    ((rw c.in-Broken.is at c.walk_segment.ensures) u.reader u.kept)

pub overflow_add-g-in-loop-g : goal.overflow_add-g-in-loop-g
overflow_add-g-in-loop-g c = omega arith

pub loop-g-smaller : goal.loop-g-smaller
loop-g-smaller c = omega arith

pub loop-g-preserved : goal.loop-g-preserved
loop-g-preserved c =
    let s = c.args in
    let l = c.loop-g in
    let y = c.walk_segment in
    let u = l.invariant.4 in
    let e = rw c.in-Done.is at y.ensures in (
      omega (arith, c.loop-g-test.true),
      l.invariant.1,
      l.invariant.2,
      omega (arith, e.short, l.invariant.3),
      upto-more s.card.now (segments_in s.card.now) l.g l.run l.behind (memory l.nodes l.members) u c.loop-g-test.true c.if-card-g-eq0.false _ _ (memory y.new.nodes y.new.members) e.here (e.through u.reader u.kept),
    )

pub returns : goal.returns
returns c =
    let s = c.args in
    let l = c.loop-g in
    upto-end s.card.now (segments_in s.card.now) l.g l.run l.behind (memory l.nodes l.members) l.invariant.4 c.loop-g-test.false (omega arith)
