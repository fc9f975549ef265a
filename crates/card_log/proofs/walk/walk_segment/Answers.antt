-- The invariant: every reader kept at the start has passed the entries before i, and the place behind them is the cursor's. Assumes nothing.
use mathlib.Core.Path.{◌≡◌, refl}
use Prim.Native.Nat.{◌+◌, ◌*◌, ◌<◌}
use native.Mathlib.Omega.{arith}
use lib.ListN.{get_or}
use Rattle.card_log.specs.Card.{count}
use Rattle.card_log.specs.promises.Feed.{memory}
use Rattle.card_log.proofs.Walking.{past-start, past-stuck, past_more, past_end}
use Rattle.card_log.proofs.walk.walk_segment.Goals as goal

pub overflow_mul-start : goal.overflow_mul-start
overflow_mul-start c = omega arith

pub overflow_add-start : goal.overflow_add-start
overflow_add-start c = omega arith

pub overflow_mul-n : goal.overflow_mul-n
overflow_mul-n c = omega arith

pub overflow_add-n : goal.overflow_add-n
overflow_add-n c = omega arith

pub bounds-card-g : goal.bounds-card-g
bounds-card-g c = omega arith

pub overflow_cast-n : goal.overflow_cast-n
overflow_cast-n c = omega (arith, c.shared_slice_known-2-1.given (4096 * c.args.g + 3584))

pub loop-i-init : goal.loop-i-init
unfolding count
loop-i-init c =
    let s = c.args in (
      omega arith,
      (c.shared_slice_known-2-1.given (4096 * s.g + 3584)).fits,
      omega arith,
      omega arith,
      omega arith,
      omega arith,
      λ r k. past-start s.card.now s.g (get_or s.card.now (4096 * s.g + 3584) 0) s.run r (memory s.nodes.now s.members.now) refl k,
    )

pub step_entry-requires : goal.step_entry-requires
step_entry-requires c =
    let p = c.requires in
    let l = c.loop-i in
    record { holds = p.holds; small = p.small; until = l.invariant.3; few = omega arith; short = omega arith }

pub returns-in-Stuck : goal.returns-in-Stuck
returns-in-Stuck c =
    let s = c.args in
    let l = c.loop-i in
    λ r k.
    let w = l.invariant.6 r k in
    past-stuck s.card.now s.g _ l.i l.cur r (memory l.nodes l.members) w c.loop-i-test.true ((rw c.in-Stuck.is at c.step_entry.ensures) w.reader w.kept)

pub overflow_add-i : goal.overflow_add-i
overflow_add-i c = omega arith

pub loop-i-smaller : goal.loop-i-smaller
loop-i-smaller c = omega arith

pub loop-i-preserved : goal.loop-i-preserved
loop-i-preserved c =
    let s = c.args in
    let l = c.loop-i in
    let y = c.step_entry in
    let e = rw c.in-Next.is at y.ensures in (
      omega arith,
      l.invariant.1,
      omega (arith, e.onward),
      e.until,
      omega (arith, e.few),
      omega (arith, e.short),
      λ r k.
          let w = l.invariant.6 r k in
          past_more s.card.now s.g _ l.i l.cur r (memory l.nodes l.members) w _ (memory y.new.nodes y.new.members) c.loop-i-test.true l.invariant.2 (e.went w.reader w.kept),
    )

pub overflow_sub-behind : goal.overflow_sub-behind
overflow_sub-behind c = c.loop-i.invariant.2

pub returns : goal.returns
unfolding count
returns c =
    let s = c.args in
    let l = c.loop-i in
    let q : l.i ≡ get_or s.card.now (4096 * s.g + 3584) 0 = omega arith in
    let z : 0 < l.i = omega (arith, c.requires.used) in
    record {
      here = refl;
      short = omega arith;
      through = λ r k. past_end s.card.now s.g _ l.i l.cur r (memory l.nodes l.members) (l.invariant.6 r k) c.loop-i-test.false z q;
    }
