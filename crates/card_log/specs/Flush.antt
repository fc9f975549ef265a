-- A flush: the queue's head goes to the card store by store, until an ending.
use Rattle.std.specs.Prelude.{true, false, List, [], ◌∷◌, ◌++◌, ℕ, zero, suc, eqb, length, drop, get_or, set}
use Rattle.std.proofs.Math.Option.{none, some}
use Rattle.card_log.specs.Entry.{Entry}
use Rattle.card_log.specs.Card.{Written}
use Rattle.card_log.specs.Store.{Store, home, after, entry_stores}
use Rattle.card_log.specs.declared.place.Place.{Place}

-- between two stores: the card, the place behind the entries whose count stands, the queue, and the stores of its head that are done
pub record Flow : Type 0 where
  pub card : List ℕ
  pub place : Place
  pub queue : List (Entry Written)
  pub done : ℕ

-- "drained (queue empty); full (head not begun, doesn't fit, last segment); spent (allowance used)"
pub data Ending : Type 0 where
  drained full spent : Ending

pub data Next : Type 0 where
  stored : Flow → Next
  stopped : Ending → Next

-- the head e's next store at its place p: "It leaves the queue with the count store."
unfoldable pub store_next : Flow → Place → Entry Written → List (Entry Written) → Flow
store_next f p e q =
    let ss = entry_stores p e in
    let x = get_or ss f.done (0, 0) in
    let c = set f.card x.0 x.1 in
    elim (eqb (suc f.done) (length ss)) [
      | true ↦ record { card = c; place = after p e; queue = q; done = 0 }
      | false ↦ record { card = c; place = f.place; queue = e ∷ q; done = suc f.done }
    ]

-- the next store on a card of n segments, or an ending
unfoldable pub next_store : ℕ → Flow → Next
next_store n f = elim f.queue [
  | [] ↦ stopped drained
  | e ∷ q ↦ elim (home n f.place e) [ none ↦ stopped full | some p ↦ stored (store_next f p e q) ]
]

pub record Flushed : Type 0 where
  pub flow : Flow
  pub stores : ℕ
  pub ending : Ending

-- "Endings, tested before each store". The first number is the card's segments, the second the allowance left, the third the stores done.
unfoldable pub flush_from : ℕ → ℕ → ℕ → Flow → Flushed
flush_from n zero k f = elim (next_store n f)
    [ stored f' ↦ record { flow = f; stores = k; ending = spent } | stopped e ↦ record { flow = f; stores = k; ending = e } ]
flush_from n (suc a) k f = elim (next_store n f)
    [ stored f' ↦ flush_from n a (suc k) f' | stopped e ↦ record { flow = f; stores = k; ending = e } ]

-- "along this sequence": the stores of the entries from a place on, up to the first that has no place on a card of n segments
unfoldable pub ahead : ℕ → Place → List (Entry Written) → List Store
ahead n p [] = []
ahead n p (e ∷ q) = elim (home n p e) [ none ↦ [] | some h ↦ entry_stores h e ++ ahead n (after h e) q ]

-- those that are still to do
unfoldable pub rest : ℕ → Flow → List Store
rest n f = drop f.done (ahead n f.place f.queue)
