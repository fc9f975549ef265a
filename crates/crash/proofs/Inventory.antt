-- The inventory's order: the state of every view is that of a history, and the law of takings (`lists-by-takings` in lists) holds of its changes.
use mathlib.Core.Path.{◌≡◌, refl, sym, ap, ◌∙◌, subst}
use mathlib.Core.Bool.{Bool, true, false, ◌||◌, not, or-false, true≢false}
use mathlib.Core.List.{List, ◌++◌, append-nil}
use Prim.Native.Nat.{ℕ, zero, suc}
use lib.Dec.{eqb, eqb-suc-zero}
use Rattle.lists.specs.Basic.{joined}
use Rattle.lists.specs.State.{State, empty, apply_all, overlay}
use Rattle.lists.specs.Lookup.{list_nums}
use Rattle.lists.specs.Takings.{undeleted, in_force}
use Rattle.lists.proofs.Basic.{and-true, not-false}
use Rattle.lists.proofs.Takings.{TakenOnce, lists-by-takings, in-force-append, lists-overlaid}
use Rattle.card_log.specs.Reader.{start}
use Rattle.card_log.specs.Card.{Written}
use Rattle.disk.specs.Disk.{Disk, journal_of, persistent, committed, view}
use Rattle.disk.specs.Sound.{is_open_unit}
use Rattle.disk.specs.Call.{Call, inventory, in_view, resets}
use Rattle.disk.specs.Questions.{view_open, stream_open, questions, refusal}
use Rattle.disk.specs.Perform.{Result, perform}
use Rattle.disk.specs.Statements.{Fills}
use Rattle.disk.proofs.Questions.{yes-all, unit-range}
use Rattle.disk.proofs.Clauses.{Right, right}
use Rattle.disk.proofs.Performing.{perform-refused, refusal-code}
use Rattle.disk.proofs.Inventory.{unit-takes-new, inventory-fills}
use Rattle.crash.specs.Event.{called, Parts, World, lend, lent_whole, is_accepted, may_happen}
use Rattle.crash.specs.Book.{Book, Act, batch_of, on_card}
use Rattle.crash.specs.Demand3.{play, begun}
use Rattle.crash.specs.History.{lists_in, InventoryInOrder, MountedInOrder}
use Rattle.crash.proofs.History.{replay-acts}
use Rattle.crash.proofs.Lending.{lend-whole}
use Rattle.crash.proofs.Invariant.{Inv, Live, inv-kept}
use Rattle.crash.proofs.Joining.{committed-state}
use Rattle.crash.proofs.Demand3.{begun-inv, play-inv, demand3}
use Rattle.crash.proofs.Unwritten.{persistent-kept}

pub mounted-in-order : MountedInOrder
mounted-in-order d h es v x l n =
    let k = demand3 d h es v in
    ap (λ (s : State Written). list_nums s.lists) (k.shows x l n) ∙ lists-by-takings (joined (on_card (play (begun d) es).book)) k.state k.prefix

-- Each view of a disk that no cut has touched since its last mounting.
module _ (d : Disk) (b : Book) (i : Live d b) where
  persistent-lists : list_nums (persistent d).lists ≡ in_force (joined (on_card b))
  persistent-lists =
      let k = inv-kept (record { disk = d; down = false }) b i in
      ap (λ (s : State Written). list_nums s.lists) (persistent-kept d b k) ∙ lists-by-takings (joined (on_card b)) k.state k.prefix

  committed-lists : list_nums (committed d).lists ≡ in_force (joined b.history)
  committed-lists =
      let t = i.told in
      ap (λ (s : State Written). list_nums s.lists) (committed-state d b i)
      ∙ lists-by-takings (joined b.history) t.reader.state (ap (λ (l : List Act). apply_all (joined l) empty) t.history ∙ replay-acts t.entries start t.reader t.replays)

  module _ (k : Right d) where
    unit-lists : (u : ℕ) → is_open_unit d u ≡ true → list_nums (overlay (journal_of d u) (committed d)).lists ≡ in_force (joined b.history ++ batch_of b u)
    unit-lists u h =
        let (p, q, o) = unit-range d u h in
        let e = (i.tied refl).journals u p q in
        lists-overlaid (journal_of d u) (committed d) (subst TakenOnce (sym e) ((i.tied refl).once u p q)) (unit-takes-new d k u h)
        ∙ rw e (ap (λ (ls : List ℕ). undeleted (batch_of b u) ls ++ in_force (batch_of b u)) committed-lists)
        ∙ sym (in-force-append (joined b.history) (batch_of b u))

    view-lists : (v : ℕ) → view_open d v ≡ true → list_nums (view d v).lists ≡ lists_in b v
    unfolding view view_open stream_open lists_in
    view-lists v h = go (eqb v 5) refl (eqb v 0) refl
      where
        go : (f : Bool) → eqb v 5 ≡ f → (z : Bool) → eqb v 0 ≡ z → list_nums (view d v).lists ≡ lists_in b v
        go true e z g = rw e persistent-lists
        go false e true g = rw (e, g, append-nil (joined b.history)) committed-lists
        go false e false g = rw (e, g) (unit-lists v (rw (e, g) at h))

-- An accepted call was not refused.
accepted-asked : (c : Call) (d : Disk) → is_accepted (perform c d).answer ≡ true → refusal c d ≡ 0
unfolding is_accepted
accepted-asked c d h = go (refusal c d) refl
  where
    go : (n : ℕ) → refusal c d ≡ n → refusal c d ≡ 0
    go zero q = q
    go (suc m) q =
        let k : (perform c d).answer.code ≡ suc m = ap (λ (r : Result). r.answer.code) (perform-refused c d m q) ∙ refusal-code (suc m) d in
        let z : eqb (suc m) 0 ≡ true = rw k at h in
        absurd (true≢false (sym z ∙ eqb-suc-zero m))

scene-order : (w : World) (b : Book) (v : ℕ) (x : List ℕ) (p : Parts) → Inv w b
    → let c = in_view v (inventory x) in let r = perform c (lend p w.disk) in
    may_happen w (called c p) ≡ true → is_accepted r.answer ≡ true → Fills (lists_in b v) r.answer.value x r.lent
unfolding may_happen resets questions
scene-order w b v x p i m a =
    let c = in_view v (inventory x) in
    let (l, o) = and-true (lent_whole p w.disk) (not w.down || false) (rw a at m) in
    let e : lend p w.disk ≡ w.disk = lend-whole p w.disk l in
    let up : w.down ≡ false = not-false w.down (rw (or-false (not w.down)) at o) in
    let q : refusal c w.disk ≡ 0 = accepted-asked c w.disk (rw e at a) in
    let y = yes-all c w.disk q in
    rw e (rw (← view-lists w.disk b (subst (λ (t : Bool). Inv (record { disk = w.disk; down = t }) b) up i) (right w.disk (y 0) (y 1)) v (y 2)) (inventory-fills v x w.disk q))

pub inventory-in-order : InventoryInOrder
inventory-in-order d h es n v x p m a =
    let s = play (begun d) es in scene-order s.world s.book v x p (play-inv (begun d) es n (begun-inv d h)) m a
