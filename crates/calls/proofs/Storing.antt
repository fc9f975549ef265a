-- The stores of one entry, several at once: what a flush makes of its head by them. `ss` are the head's stores at its place.
use mathlib.Core.Path.{◌≡◌, refl, sym, ap, ◌∙◌}
use mathlib.Core.Bool.{Bool, false}
use mathlib.Core.Option.{none, some}
use mathlib.Core.List.{List, ◌∷◌}
use Prim.Native.Nat.{ℕ, zero, suc, ◌+◌, ◌-◌, ◌≤◌, ◌<◌}
use native.Mathlib.Omega.{arith}
use native.Mathlib.Nat.{add-zero, add-suc, suc-add, zero-add}
use lib.ListN.{length, take, drop, get_or, set, length-drop}
use lib.Seq.{drop-cons, take_all}
use Rattle.lists.proofs.Basic.{eq-true, eqb-false}
use Rattle.card_log.specs.declared.entry.LogEntry.{LogEntry}
use Rattle.card_log.specs.declared.place.Place.{Place}
use Rattle.card_log.specs.declared.place.Home.{Home}
use Rattle.card_log.specs.declared.place.Home.TheVariants.{At, Full}
use Rattle.card_log.specs.Entry.{Entry, carried, as_entry}
use Rattle.card_log.specs.Card.{Content, Written, segments_in}
use Rattle.card_log.specs.Store.{Store, do_stores, after, home, entry_stores}
use Rattle.card_log.specs.Flush.{full, spent, stored, store_next, next_store, flush_from}
use Rattle.card_log.specs.promises.Within.{Storable, as_place}
use Rattle.card_log.specs.Turns.{AllInTurn}
use Rattle.card_log.proofs.Allowance.{stopped-flush, moved-flush}
use Rattle.card_log.proofs.Places.{entry-short, used-one}
use Rattle.card_log.proofs.LogStores.{going, stores-many}
use Rattle.card_log.proofs.Within.{within-home, within-after, home-of-entry, after-of-entry}
use Rattle.calls.specs.promises.Flushing.{flow, HeadReady, Heads}
use Rattle.calls.specs.declared.drain.Headed.TheVariants as headed

-- m of the stores, from number k on
abbrev pub several : ℕ → ℕ → List Store → List Store
several k m ss = take m (drop k ss)

pub stores-none : (k : ℕ) (ss : List Store) (c : List ℕ) → do_stores (several k 0 ss) c ≡ c
unfolding do_stores
stores-none k ss c = refl

pub stores_one : (k m : ℕ) (ss : List Store) (c : List ℕ) → k < length ss
    → do_stores (several k (suc m) ss) c ≡ (let x = get_or ss k (0, 0) in do_stores (several (suc k) m ss) (set c x.0 x.1))
unfolding do_stores
stores_one k m ss c l = rw (drop-cons ss k (0, 0) l)

-- as a loop up to number u meets them
pub stores-next : (k u : ℕ) (ss : List Store) (c : List ℕ) → k < u → k < length ss
    → (let x = get_or ss k (0, 0) in do_stores (several (k + 1) (u - (k + 1)) ss) (set c x.0 x.1)) ≡ do_stores (several k (u - k) ss) c
stores-next k u ss c g l =
    let i : u - k ≡ suc (u - (k + 1)) = omega arith in
    let j : k + 1 ≡ suc k = omega arith in
    sym (ap (λ (m : ℕ). do_stores (several k m ss) c) i ∙ stores_one k (u - (k + 1)) ss c l ∙ rw j)

pub stores-done : (k u : ℕ) (ss : List Store) (c : List ℕ) → u ≤ k → do_stores (several k (u - k) ss) c ≡ c
stores-done k u ss c g = let i : u - k ≡ 0 = omega arith in ap (λ (m : ℕ). do_stores (several k m ss) c) i ∙ stores-none k ss c

module _ (n : ℕ) (p h : Place) (e : Entry Written) (q : List (Entry Written)) (v : home n p e ≡ some h) where
  abbrev ss : List Store
  ss = entry_stores h e

  abbrev stored_at : List ℕ → ℕ → List ℕ
  stored_at c k = let x = get_or ss k (0, 0) in set c x.0 x.1

  next-some : (c : List ℕ) (k : ℕ) → next_store n (flow c p (e ∷ q) k) ≡ stored (store_next (flow c p (e ∷ q) k) h e q)
  unfolding next_store
  next-some c k = rw (v, next_store)

  next_more : (c : List ℕ) (k : ℕ) → suc k < length ss → next_store n (flow c p (e ∷ q) k) ≡ stored (flow (stored_at c k) p (e ∷ q) (suc k))
  unfolding next_store store_next
  next_more c k l = rw (v, next_store) (rw (eqb-false (suc k) (length ss) (λ x. omega arith), store_next))

  next_last : (c : List ℕ) (k : ℕ) → suc k ≡ length ss → next_store n (flow c p (e ∷ q) k) ≡ stored (flow (stored_at c k) (after h e) q 0)
  unfolding next_store store_next
  next_last c k l = rw (v, next_store) (rw (eq-true (suc k) (length ss) l, store_next))

  -- m stores that leave the head in the queue
  flush-some : (m a s k : ℕ) (c : List ℕ) → k + m < length ss → flush_from n (m + a) s (flow c p (e ∷ q) k) ≡ flush_from n a (s + m) (flow (do_stores (several k m ss) c) p (e ∷ q) (k + m))
  flush-some zero a s k c l = rw (zero-add a, add-zero s, add-zero k, stores-none k ss c)
  flush-some (suc m) a s k c l =
      rw (suc-add m a, add-suc s m, add-suc k m, stores_one k m ss c (omega arith))
      (moved-flush n (m + a) s (flow c p (e ∷ q) k) _ (next_more c k (omega arith))
      ∙ flush-some m a (suc s) (suc k) (stored_at c k) (omega arith)
      ∙ rw (suc-add s m, suc-add k m))

  -- all that are left, with which it leaves the queue
  flush-rest : (m a s k : ℕ) (c : List ℕ) → suc (k + m) ≡ length ss → flush_from n (suc m + a) s (flow c p (e ∷ q) k) ≡ flush_from n a (s + suc m) (flow (do_stores (several k (suc m) ss) c) (after h e) q 0)
  flush-rest zero a s k c l =
      rw (suc-add 0 a, zero-add a, add-suc s 0, add-zero s, stores_one k 0 ss c (omega arith), stores-none (suc k) ss (stored_at c k))
      (moved-flush n a s (flow c p (e ∷ q) k) _ (next_last c k (omega arith)))
  flush-rest (suc m) a s k c l =
      rw (suc-add (suc m) a, add-suc s (suc m), stores_one k (suc m) ss c (omega arith))
      (moved-flush n (suc m + a) s (flow c p (e ∷ q) k) _ (next_more c k (omega arith))
      ∙ flush-rest m a (suc s) (suc k) (stored_at c k) (omega arith)
      ∙ rw (suc-add s (suc m)))

  -- The endings.
  pub flush-spent : (a s k : ℕ) (c : List ℕ) → k + a < length ss
      → flush_from n a s (flow c p (e ∷ q) k) ≡ record { flow = flow (do_stores (several k a ss) c) p (e ∷ q) (k + a); stores = s + a; ending = spent }
  unfolding flush_from
  flush-spent a s k c l =
      (rw (add-zero a) at (flush-some a 0 s k c l)) ∙ rw (next-some (do_stores (several k a ss) c) (k + a), flush_from)

  pub flush-drained : (a s k : ℕ) (c : List ℕ) → k < length ss → length ss - k ≤ a
      → flush_from n a s (flow c p (e ∷ q) k) ≡ flush_from n (a - (length ss - k)) (s + (length ss - k)) (flow (do_stores (several k (length ss - k) ss) c) (after h e) q 0)
  flush-drained a s k c l b =
      let m = length ss - suc k in
      let i : length ss - k ≡ suc m = omega arith in
      let j : a ≡ suc m + (a - suc m) = omega arith in
      rw i (ap (λ (x : ℕ). flush_from n x s (flow c p (e ∷ q) k)) j ∙ flush-rest m (a - suc m) s k c (omega arith))

pub flush-full : (n a s k : ℕ) (p : Place) (e : Entry Written) (q : List (Entry Written)) (c : List ℕ) → home n p e ≡ none
    → flush_from n a s (flow c p (e ∷ q) k) ≡ record { flow = flow c p (e ∷ q) k; stores = s; ending = full }
unfolding next_store
flush-full n a s k p e q c v = stopped-flush n a s (flow c p (e ∷ q) k) full (rw (v, next_store))

after-segment : (p : Place) (e : Entry Written) → (after p e).segment ≡ p.segment
unfolding after
after-segment p e = refl

-- the head's stores are few
pub few-stores : (d : Content) → length d ≡ 256 → (t : Bool) (e : LogEntry) (p : Place) → length (entry_stores p (going d t e)) ≤ 261
few-stores d z t e p = omega (arith, stores-many d z t e p, used-one (carried (as_entry false e)), entry-short (as_entry false e))

-- The head as the code has it, and its place as the code finds it.
module _ (d : Content) (z : length d ≡ 256) (t : Bool) (e : LogEntry) (c : List ℕ) (p : Place) (k : ℕ) (r : HeadReady c p (going d t e) k) (x : Home)
    (i : as_place x ≡ home (segments_in c) p (as_entry false e)) where
  home_found : as_place x ≡ home (segments_in c) p (going d t e)
  home_found = i ∙ sym (home-of-entry d t e (segments_in c) p)

  pub heads-full : (a : ℕ) → x ≡ Full → Heads c p (going d t e) k a headed.Full c
  unfolding as_place
  heads-full a j q s = flush-full (segments_in c) a s k p (going d t e) q c (sym home_found ∙ rw j)

  module _ (h : Place) (j : x ≡ At h) where
    placed : home (segments_in c) p (going d t e) ≡ some h
    unfolding as_place
    placed = sym home_found ∙ rw j

    pub storable : Storable c h (going d t e) k
    storable =
        let (w, n, f) = within-home (segments_in c) p h (going d t e) r.within r.inside placed in
        record { within = w; room = f; inside = n; left = omega (arith, r.left, stores-many d z t e h, stores-many d z t e p) }

    pub in_turns : (u : ℕ) → u ≤ length (entry_stores h (going d t e)) → AllInTurn c h (going d t e) k u
    in_turns u l n a b = r.turns h placed n a (omega arith)

    pub heads-spent : (a : ℕ) (c' : List ℕ) → k + a < length (entry_stores h (going d t e))
        → c' ≡ do_stores (several k (k + a - k) (entry_stores h (going d t e))) c → Heads c p (going d t e) k a (headed.Spent (k + a)) c'
    heads-spent a c' l y = (
      omega (arith, stores-many d z t e h, stores-many d z t e p),
      λ q s. let n : k + a - k ≡ a = omega arith in rw (y, n) (flush-spent (segments_in c) p h (going d t e) q placed a s k c l),
    )

    pub heads-drained : (a n : ℕ) (p' : Place) (c' : List ℕ) → n ≡ length (entry_stores h (going d t e)) → n - k ≤ a → p' ≡ after h (as_entry false e)
        → c' ≡ do_stores (several k (n - k) (entry_stores h (going d t e))) c → Heads c p (going d t e) k a (headed.Drained p' (n - k)) c'
    heads-drained a n p' c' m l u y =
        let v : p' ≡ after h (going d t e) = u ∙ sym (after-of-entry d t e h) in
        record {
          within = rw v (within-after h (going d t e) storable.within storable.room);
          inside = rw (v, after-segment h (going d t e)) storable.inside;
          few = l;
          place = h;
          found = placed;
          behind = v;
          card = y ∙ ap (λ (xs : List Store). do_stores xs c) (take_all (n - k) (drop k (entry_stores h (going d t e))) (omega (arith, m, length-drop k (entry_stores h (going d t e)))));
          onward = λ q s. rw (y, v, m) (flush-drained (segments_in c) p h (going d t e) q placed a s k c storable.left (rw (← m) l));
        }
