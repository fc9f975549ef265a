-- The loop's invariant: the stores that are left, done on the card as it is, leave what all of them leave, and the segments behind them are empty.
-- The measure is the number of segments that are left. Assumes nothing.
use mathlib.Core.Path.{◌≡◌}
use mathlib.Core.List.{List}
use Prim.Native.Nat.{ℕ, ◌-◌, ◌≤◌, ◌<◌}
use lib.ListN.{length, take}
use Rattle.card_log.specs.Card.{segments_in, count}
use Rattle.card_log.specs.Store.{do_stores, format_stores}
use Rattle.card_log.proofs.store.format_stores.Given as goal

-- the card when the segments from g on are done, up to segment s
abbrev pub rest : ℕ → ℕ → List ℕ → List ℕ
rest s g c = do_stores (take (g - s) (format_stores g)) c

-- the counts of the segments from g on, of n, are 0
abbrev pub Empty : ℕ → ℕ → List ℕ → Type 0
Empty g n c = (h : ℕ) → g ≤ h → h < n → count c h ≡ 0

abbrev pub invariant-loop-left : goal.invariant-loop-left
invariant-loop-left l =
    (l.left ≤ segments_in l.initial.card) × (length l.card ≡ length l.initial.card) × (rest l.stop l.left l.card ≡ do_stores (take l.k (format_stores (segments_in l.initial.card))) l.initial.card)
    × Empty l.left (segments_in l.initial.card) l.card

abbrev pub decreases-loop-left : goal.decreases-loop-left
decreases-loop-left l = l.left
