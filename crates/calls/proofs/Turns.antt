-- The stores of an entry, made one after the other from number k on, are each in turn (`all-in-turn`), and leave the flow in which the entry is on the
-- card (`flows-last`).
use mathlib.Core.Path.{◌≡◌, subst}
use mathlib.Core.Option.{some}
use mathlib.Core.List.{List, ◌∷◌}
use Prim.Native.Nat.{ℕ, zero, suc, ◌+◌, ◌-◌, ◌≤◌, ◌<◌}
use native.Mathlib.Omega.{arith}
use native.Mathlib.Nat.{add-zero, add-suc, suc-add}
use lib.ListN.{length, drop, get_or, set, length-drop}
use lib.Seq.{take_all}
use Rattle.card_log.specs.declared.place.Place.{Place}
use Rattle.card_log.specs.Entry.{Entry}
use Rattle.card_log.specs.Card.{Written}
use Rattle.card_log.specs.Store.{Store, do_stores, home, entry_stores}
use Rattle.card_log.specs.Turns.{InTurn, AllInTurn}
use Rattle.card_log.proofs.Places.{add_to}
use Rattle.card_log.proofs.Flows.{end_of, Flows, store-more, store-last}
use Rattle.disk.proofs.Turns.{in-turn}
use Rattle.calls.proofs.Storing.{several, stores-none, stores_one, stores-next, stores-done}

-- As a loop meets them: the first one is in turn, and behind it the others are.
module _ (p : Place) (e : Entry Written) (c : List ℕ) (k u : ℕ) (l : k < u) (t : AllInTurn c p e k u) where
  pub turn-now : InTurn c p e k
  turn-now = rw (stores-done k k (entry_stores p e) c (omega arith)) at (t k (omega arith) l)

  pub turns_next : u ≤ length (entry_stores p e) → (let x = get_or (entry_stores p e) k (0, 0) in AllInTurn (set c x.0 x.1) p e (k + 1) u)
  turns_next m n a b = rw (stores-next k n (entry_stores p e) c (omega arith) (omega arith)) (t n (omega arith) b)

-- The stores of the head e at its place p.
module _ (ess : List (List (Entry Written))) (e : Entry Written) (q : List (Entry Written)) (p : Place) (h : home (length ess) (end_of ess) e ≡ some p) where
  abbrev ss : List Store
  ss = entry_stores p e

  flows-some : (m k : ℕ) (c : List ℕ) → Flows c ess (e ∷ q) k → k + m < length ss → Flows (do_stores (several k m ss) c) ess (e ∷ q) (k + m)
  flows-some zero k c f l = rw (add-zero k, stores-none k ss c) f
  flows-some (suc m) k c f l =
      rw (add-suc k m, stores_one k m ss c (omega arith))
      (rw (suc-add k m) at (flows-some m (suc k) _ (store-more c ess e q k f p h (omega arith)) (omega arith)))

  pub all-in-turn : (k : ℕ) (c : List ℕ) → Flows c ess (e ∷ q) k → AllInTurn c p e k (length ss)
  all-in-turn k c f n a b =
      let i : k + (n - k) ≡ n = omega arith in
      in-turn _ ess e p n q (subst (Flows (do_stores (several k (n - k) ss) c) ess (e ∷ q)) i (flows-some (n - k) k c f (omega arith))) h

  flows-rest : (m k : ℕ) (c : List ℕ) → Flows c ess (e ∷ q) k → suc (k + m) ≡ length ss → Flows (do_stores (several k (suc m) ss) c) (add_to p.segment e ess) q 0
  flows-rest zero k c f l =
      rw (stores_one k 0 ss c (omega arith)) (rw (stores-none (suc k) ss (let x = get_or ss k (0, 0) in set c x.0 x.1)) (store-last c ess e q k f p h (omega arith)))
  flows-rest (suc m) k c f l =
      rw (stores_one k (suc m) ss c (omega arith)) (flows-rest m (suc k) _ (store-more c ess e q k f p h (omega arith)) (omega arith))

  pub flows-last : (k : ℕ) (c : List ℕ) → Flows c ess (e ∷ q) k → Flows (do_stores (drop k ss) c) (add_to p.segment e ess) q 0
  flows-last k c f =
      let l : k < length ss = (f.head.0 p h).1 in
      subst (λ (xs : List Store). Flows (do_stores xs c) (add_to p.segment e ess) q 0)
      (take_all (suc (length ss - suc k)) (drop k ss) (omega (arith, length-drop k ss))) (flows-rest (length ss - suc k) k c f (omega arith))
