-- The loop's invariant: the words that are left, put into the buffer as it is, leave what all of them leave. Assumes nothing.
use mathlib.Core.Path.{◌≡◌}
use Prim.Native.Nat.{◌-◌}
use lib.ListN.{length, take}
use Rattle.card_log.specs.Store.{format_stores}
use Rattle.driver.specs.promises.Listing.{listed}
use Rattle.driver.proofs.format.list_counts.Given as goal

abbrev pub invariant-loop-at : goal.invariant-loop-at
invariant-loop-at l =
    listed l.at (take (l.most - l.at) (format_stores (l.segments - l.at))) l.stores ≡ listed 0 (take (length l.initial.stores) (format_stores l.segments)) l.initial.stores
