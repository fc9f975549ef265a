-- The states by the serial history, after any valid list of events: which blocks are written, and which lists there are, in which order.
use Rattle.std.specs.Prelude.{◌≡◌, Bool, true, false, cond, List, [], ◌∷◌, ◌++◌, ℕ, eqb}
use Rattle.std.proofs.Math.Option.{Option, none, some}
use Rattle.lists.specs.Basic.{joined}
use Rattle.lists.specs.Change.{Change, take_list, put_first, put_after, write, del_block, del_list}
use Rattle.lists.specs.State.{placed}
use Rattle.lists.specs.Lookup.{written, list_nums}
use Rattle.lists.specs.Takings.{in_force}
use Rattle.card_log.specs.Card.{Written}
use Rattle.disk.specs.Disk.{persistent, view}
use Rattle.disk.specs.Call.{inventory, mount, in_view}
use Rattle.disk.specs.Perform.{perform}
use Rattle.disk.specs.Statements.{Fills}
use Rattle.crash.specs.Event.{called, Parts, Rest, lend, leaves, is_accepted, may_happen}
use Rattle.crash.specs.Book.{Book, batch_of, on_card}
use Rattle.crash.specs.Demand3.{Always, Lent}

-- the last word of some changes on whether block b is written: a put of it says no, a write of it yes. Before them o was the last word.
unfoldable pub last_told : ℕ → Option Bool → List (Change Written) → Option Bool
last_told b o [] = o
last_told b o (take_list l ∷ cs) = last_told b o cs
last_told b o (put_first n l ∷ cs) = last_told b (cond (eqb n b) (some false) o) cs
last_told b o (put_after n l p ∷ cs) = last_told b (cond (eqb n b) (some false) o) cs
last_told b o (write n x ∷ cs) = last_told b (cond (eqb n b) (some true) o) cs
last_told b o (del_block n ∷ cs) = last_told b o cs
last_told b o (del_list l ∷ cs) = last_told b o cs

-- "a block that [..] was not written since its present put": of every block of the persistent state, by the changes of the history on the card, which are
-- the log's acting entries in their order
abbrev pub WrittenByHistory : Type 0
WrittenByHistory = Always (λ s.
    let rs = (persistent s.world.disk).lists in
    (b : ℕ) → placed b rs ≡ true → last_told b none (joined (on_card s.book)) ≡ some (written b rs))

-- "a view's lists by when the taking each has in that view stands in the serial history, earliest first": in view 5 the history is its prefix whose closing
-- stores are on the card, in view 0 all of it; in a unit's view the unit's batch stands behind it, so its lists come "after the committed lists, in journal
-- order".
unfoldable pub lists_in : Book → ℕ → List ℕ
lists_in b v = in_force (cond (eqb v 5) (joined (on_card b)) (joined b.history ++ cond (eqb v 0) [] (batch_of b v)))

-- An accepted inventory, of whatever view, gives these lists in this order: the book knows them without the record.
abbrev pub InventoryInOrder : Type 0
InventoryInOrder = Always (λ s. (v : ℕ) (x : List ℕ) (p : Parts)
    → let c = in_view v (inventory x) in let r = perform c (lend p s.world.disk) in
    may_happen s.world (called c p) ≡ true → is_accepted r.answer ≡ true → Fills (lists_in s.book v) r.answer.value x r.lent)

-- "After mounting, the log's order holds.": whatever a cut has left beside the card, a mounting then shows in every view the lists of the history on the
-- card in the order of their takings.
abbrev pub MountedInOrder : Type 0
MountedInOrder = Always (λ s. (x : Rest) → Lent x → (v : ℕ)
    → list_nums (view (perform mount (leaves s.world.disk.card x)).disk v).lists ≡ in_force (joined (on_card s.book)))
