-- How many stores a flush has at most: an entry has 261, and a queue 32 entries (`stores-few`).
use mathlib.Core.Path.{◌≡◌, refl}
use mathlib.Core.Option.{Option, none, some}
use mathlib.Core.List.{◌∷◌}
use Prim.Native.Nat.{ℕ, zero, suc, ◌*◌, ◌≤◌}
use native.Mathlib.Omega.{arith}
use lib.ListN.{length, length-append, length-take, length-drop}
use Rattle.lists.specs.Basic.{from}
use Rattle.card_log.specs.declared.place.Place.{Place}
use Rattle.card_log.specs.Card.{slot, segments_in}
use Rattle.card_log.specs.Store.{home, after, tail, entry_stores}
use Rattle.card_log.specs.Flush.{ahead, rest}
use Rattle.disk.specs.Disk.{Disk, queued_at, queued}
use Rattle.disk.specs.Call.{flush}
use Rattle.disk.specs.Questions.{questions}
use Rattle.disk.specs.Perform.{flow_of}
use Rattle.disk.specs.Statements.{todo}
use Rattle.disk.proofs.Questions.{yes-all}
use Rattle.calls.proofs.Storing.{few-stores}
use Rattle.calls.proofs.Draining.{flushable}
use Rattle.driver.specs.Stores.{stores_made, StoresFew}

module _ (d : Disk) (z : length d.queue_data ≡ 8192) (n : ℕ) where
  few-entry : (i : ℕ) (p : Place) → length (entry_stores p (queued_at d i)) ≤ 261
  unfolding queued_at slot
  few-entry i p = few-stores _ (simp (length-take, length-drop) (omega (arith, z))) _ _ p

  -- the stores of an entry, and of those behind it from whatever place
  few-more : (m i : ℕ) (p : Place) → ((x : Place) → length (ahead n x (from (queued_at d) (suc i) m)) ≤ 261 * m)
      → length (ahead n p (queued_at d i ∷ from (queued_at d) (suc i) m)) ≤ 261 * suc m
  unfolding ahead
  few-more m i p k = go (home n p (queued_at d i)) refl
    where
      go : (h : Option Place) → home n p (queued_at d i) ≡ h → length (ahead n p (queued_at d i ∷ from (queued_at d) (suc i) m)) ≤ 261 * suc m
      go none e = rw (e, ahead) (omega arith)
      go (some h) e =
          let q = ahead n (after h (queued_at d i)) (from (queued_at d) (suc i) m) in
          rw (e, ahead) (omega (arith, length-append (entry_stores h (queued_at d i)) q, few-entry i h, k (after h (queued_at d i))))

  few-ahead : (m i : ℕ) (p : Place) → length (ahead n p (from (queued_at d) i m)) ≤ 261 * m
  unfolding from ahead
  few-ahead zero i p = omega arith
  few-ahead (suc m) i p = few-more m i p (λ x. few-ahead m (suc i) x)

pub stores-few : StoresFew
unfolding stores_made todo rest flow_of queued questions
stores-few a d h =
    let y = yes-all (flush a) d h in
    let f = flushable d (tail d.card) (y 0) (y 1) refl in
    let n = segments_in d.card in
    let m = d.rec.ring.len in
    let ss = ahead n (tail d.card) (from (queued_at d) 0 m) in
    omega (arith, f.room, few-ahead d f.queue_data n m 0 (tail d.card), length-take a (todo d), length-drop d.rec.ring.done ss)
