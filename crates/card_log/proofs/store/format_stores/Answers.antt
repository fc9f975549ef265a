-- The loop's invariant: the stores that are left, done on the card as it is, leave what all of them leave, and the segments behind them are empty.
-- The measure is the number of segments that are left. Assumes nothing.
use mathlib.Core.Path.{◌≡◌, refl, sym, ap, ◌∙◌}
use mathlib.Core.List.{List}
use Prim.Native.Nat.{ℕ, zero, suc, ◌+◌, ◌-◌, ◌*◌, ◌≤◌, ◌<◌}
use native.Mathlib.Omega.{arith}
use native.Mathlib.Decide.{dec_lt, ℕ_discrete}
use lib.ListN.{length, take, get_or, set, length-set}
use lib.Seq.{take_all, get_or-set_same, get_or-set_other}
use Rattle.card_log.specs.Card.{segments_in, count}
use Rattle.card_log.specs.Store.{do_stores, format_stores}
use Rattle.card_log.proofs.Formatting.{format-length}
use Rattle.card_log.proofs.store.format_stores.Invariants.{rest, Empty}
use Rattle.card_log.proofs.store.format_stores.Goals as goal
use Rattle.card_log.proofs.store.format_stores.Goals.{then-k-left, else-k-left}

rest-step : (s g : ℕ) (c : List ℕ) → s < g → rest s (g - 1) (set c (4096 * (g - 1) + 3584) 0) ≡ rest s g c
unfolding do_stores format_stores
rest-step s zero c h = absurd (omega arith)
rest-step s (suc n) c h =
    let i : suc n - s ≡ suc (n - s) = omega arith in
    let j : suc n - 1 ≡ n = omega arith in
    rw (i, j)

rest-none : (s g : ℕ) (c : List ℕ) → g ≤ s → rest s g c ≡ c
unfolding do_stores
rest-none s g c h = let i : g - s ≡ 0 = omega arith in rw i

rest_all : (n k s : ℕ) (c : List ℕ) → s ≡ n - k → rest s n c ≡ do_stores (take k (format_stores n)) c
rest_all n k s c e = ap (λ xs. do_stores xs c) (go (dec_lt k n))
  where
    go : Dec (k < n) → take (n - s) (format_stores n) ≡ take k (format_stores n)
    go (yes h) = let i : n - s ≡ k = omega arith in rw i
    go (no h) =
        take_all (n - s) (format_stores n) (omega (arith, format-length n)) ∙ sym (take_all k (format_stores n) (omega (arith, format-length n)))

empty-step : (g n : ℕ) (c : List ℕ) → 4096 * n ≤ length c → Empty g n c → Empty (g - 1) n (set c (4096 * (g - 1) + 3584) 0)
unfolding count
empty-step g n c l z h a b = go (ℕ_discrete h (g - 1))
  where
    go : Dec (h ≡ g - 1) → get_or (set c (4096 * (g - 1) + 3584) 0) (4096 * h + 3584) 0 ≡ 0
    go (yes q) = rw q (get_or-set_same c (4096 * (g - 1) + 3584) 0 0 (omega arith))
    go (no d) = get_or-set_other c (4096 * (g - 1) + 3584) (4096 * h + 3584) 0 0 (omega arith) ∙ z h (omega arith) b

pub overflow_sub-stop : goal.overflow_sub-stop
overflow_sub-stop c = omega arith

pub loop-left-init : goal.loop-left-init
loop-left-init c =
    let s = c.args in
    (omega arith, refl, rest_all (segments_in s.card.now) s.k c.if-k-left.stop s.card.now (elim c.if-k-left.branch [ then-k-left w ↦ omega arith | else-k-left w ↦ omega arith ]), λ h a b. absurd (omega arith))

pub overflow_sub-left : goal.overflow_sub-left
overflow_sub-left c = omega arith

pub clear_step-requires : goal.clear_step-requires
clear_step-requires c =
    let l = c.loop-left in
    let n : segments_in l.card ≡ segments_in c.args.card.now = omega (arith, l.invariant.1) in
    record { inside = omega (arith, c.loop-left-test.true, l.invariant.0); behind = λ h a b. l.invariant.3 h (omega arith) (omega arith) }

pub loop-left-smaller : goal.loop-left-smaller
loop-left-smaller c = omega arith

pub loop-left-preserved : goal.loop-left-preserved
loop-left-preserved c = (
  omega arith,
  ap length c.clear_step.ensures ∙ simp length-set c.loop-left.invariant.1,
  ap (rest c.if-k-left.stop (c.loop-left.left - 1)) c.clear_step.ensures ∙ rest-step c.if-k-left.stop c.loop-left.left c.loop-left.card c.loop-left-test.true ∙ c.loop-left.invariant.2,
  rw c.clear_step.ensures (empty-step c.loop-left.left _ c.loop-left.card (omega (arith, c.loop-left.invariant.1)) c.loop-left.invariant.3),
)

pub shape_of-card : goal.shape_of-card
shape_of-card c = c.loop-left.invariant.1

pub returns : goal.returns
returns c = sym (rest-none c.if-k-left.stop c.loop-left.left c.loop-left.card c.loop-left-test.false) ∙ c.loop-left.invariant.2
