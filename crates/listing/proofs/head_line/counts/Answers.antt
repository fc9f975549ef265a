-- Each turn adds one segment's count. Assumes nothing.
use mathlib.Core.Path.{◌≡◌, refl, ap, ◌∙◌}
use mathlib.Core.Bool.{cond}
use Prim.Native.Nat.{ℕ, ◌+◌, ◌*◌, ◌/◌}
use native.Mathlib.Omega.{arith}
use lib.Dec.{ltb}
use lib.ListN.{length, get_or}
use Rattle.lists.specs.Basic.{from}
use Rattle.card_log.specs.Card.{count}
use Rattle.listing.specs.Listing.{total, used, entries}
use Rattle.lists.proofs.Times.{once-most}
use Rattle.listing.proofs.Lines.{counted, total-step, count_at}
use Rattle.listing.proofs.head_line.counts.Goals as goal

pub loop-g-init : goal.loop-g-init
unfolding total from
loop-g-init c = (omega arith, omega arith, refl, refl)

used-more : (c : goal.After-from-entries)
    → c.loop-g.used + c.from-used.result ≡ total (from (λ k. cond (ltb 0 (count c.args.card.now k)) 1 0) 0 (c.loop-g.g + 1))
used-more c =
    let card = c.args.card.now in
    let s = c.loop-g in
    let used-is = c.from-used.ensures ∙ counted (ltb 0 (get_or card (s.g * 4096 + 3584) 0)) in
    total-step (λ k. cond (ltb 0 (count card k)) 1 0) s.g s.used c.from-used.result s.invariant.2
    (used-is ∙ ap (λ (n : ℕ). cond (ltb 0 n) 1 0) (count_at card s.g))

entries-more : (c : goal.After-from-entries) → c.loop-g.entries + c.from-entries.result ≡ total (from (count c.args.card.now) 0 (c.loop-g.g + 1))
entries-more c =
    let s = c.loop-g in
    total-step (count c.args.card.now) s.g s.entries c.from-entries.result s.invariant.3 (c.from-entries.ensures ∙ count_at c.args.card.now s.g)

pub loop-g-preserved : goal.loop-g-preserved
loop-g-preserved c =
    let byte = get_or c.args.card.now (c.loop-g.g * 4096 + 3584) 0 in
    let used-is = c.from-used.ensures ∙ counted (ltb 0 byte) in
    let one = once-most (ltb 0 byte) in
    let fits = c.type_inv.card (c.loop-g.g * 4096 + 3584) in
    (omega (arith, used-is), omega (arith, c.from-entries.ensures), used-more c, entries-more c)

pub returns : goal.returns
unfolding used entries
returns c =
    let card = c.args.card.now in
    let e : c.loop-g.g ≡ length card / 4096 = omega arith in
    (rw e at c.loop-g.invariant.2, rw e at c.loop-g.invariant.3)
