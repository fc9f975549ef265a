-- A flush, store by store: the card carries segments of entries, the queue stands behind them, and the flush moves entries from the one to the
-- other (`flush-flows`). A store before an entry's closing one leaves the segments as they are; the closing one adds exactly the entry.
use mathlib.Core.Path.{◌≡◌, refl, sym, ap, ◌∙◌, subst}
use mathlib.Core.Logic.{◌⊎◌, inl, inr}
use mathlib.Core.Bool.{Bool, true, false}
use mathlib.Core.Option.{Option, none, some, none-ne-some, some-injective}
use mathlib.Core.List.{List, [], ◌∷◌, ◌++◌, append_assoc, append-nil}
use Prim.Native.Nat.{ℕ, zero, suc, ◌+◌, ◌-◌, ◌*◌, ◌≤◌, ◌<◌}
use native.Mathlib.Omega.{arith}
use lib.Dec.{eqb}
use lib.ListN.{length, drop, get_or, set, length-set}
use Rattle.lists.specs.Basic.{joined}
use Rattle.lists.proofs.Basic.{eq-true, eqb-false, eqb-true, eqb-neq}
use Rattle.card_log.specs.declared.place.Place.{Place}
use Rattle.card_log.specs.Entry.{Entry, carried}
use Rattle.card_log.specs.Card.{Written}
use Rattle.card_log.specs.Store.{opened, after, after_all, home, tail, data_of, entry_stores}
use Rattle.card_log.specs.Flush.{Flow, drained, full, stored, stopped, store_next, next_store, flush_from}
use Rattle.card_log.proofs.Segment.{Empties, Packed, Carries}
use Rattle.card_log.proofs.EntryStores.{code, Which, in_data, in_code, closing, which, store_of, entry-stores-length}
use Rattle.card_log.proofs.Allowance.{none_left}
use Rattle.card_log.proofs.Places.{used, add_to, used_le, get_or-used, used-add, Good, At, home-behind, behind-add, carries-store, Begun, begun-store, carries-close, tail_none, tail-used}

-- The place behind the entries of segments: in the last one in use, or in segment 0.
unfoldable pub end_of : List (List (Entry Written)) → Place
end_of ess = after_all (opened (used ess - 1)) (get_or ess (used ess - 1) [])

pub tail-end : (c : List ℕ) (ess : List (List (Entry Written))) → Carries c ess → tail c ≡ end_of ess
unfolding end_of after_all
tail-end c ess h = go (used ess) refl
  where
    go : (u : ℕ) → used ess ≡ u → tail c ≡ after_all (opened (used ess - 1)) (get_or ess (used ess - 1) [])
    go zero e =
        let a : 0 ≡ used ess - 1 = omega arith in
        let b : used ess ≡ used ess - 1 = omega arith in
        tail_none c ess h e ∙ ap (after_all (opened 0)) (sym (get_or-used ess h.packed)) ∙ (λ i. after_all (opened (a i)) (get_or ess (b i) []))
    go (suc u) e = tail-used c ess u h e ∙ ap (λ (g : ℕ). after_all (opened g) (get_or ess g [])) (let q : u ≡ used ess - 1 = omega arith in q)

pub home_at : (ess : List (List (Entry Written))) (e : Entry Written) (p : Place) → Packed ess → 0 < length ess
    → home (length ess) (end_of ess) e ≡ some p → At ess p e
unfolding end_of
home_at ess e p h l q = home-behind ess (used ess - 1) e p h (omega (arith, used_le ess)) (edge (used ess) refl) q
  where
    edge : (u : ℕ) → used ess ≡ u → (used ess - 1 ≡ used ess) ⊎ (suc (used ess - 1) ≡ used ess)
    edge zero e = inl (omega arith)
    edge (suc u) e = inr (omega arith)

pub end-add : {ess : List (List (Entry Written))} {p : Place} {e : Entry Written} → At ess p e → Packed ess → end_of (add_to p.segment e ess) ≡ after p e
unfolding end_of
end-add {ess} {p} {e} at h =
    ap (λ (g : ℕ). after_all (opened g) (get_or (add_to p.segment e ess) g []))
    (let q : used (add_to p.segment e ess) - 1 ≡ p.segment = omega (arith, used-add p.segment e ess at.inside at.edge h) in q)
    ∙ behind-add at

-- Segments joined, after one entry was added at their edge.
module _ {A : Type 0} where
  joined-empties : (ss : List (List A)) → Empties ss → joined ss ≡ []
  unfolding joined
  joined-empties [] h = refl
  joined-empties ([] ∷ ss) h = joined-empties ss h
  joined-empties ((x ∷ xs) ∷ ss) h = absurd h

  joined-unused : (ss : List (List A)) → Packed ss → used ss ≡ 0 → joined ss ≡ []
  unfolding joined used
  joined-unused [] h u = refl
  joined-unused ([] ∷ ss) h u = joined-empties ss h
  joined-unused ((x ∷ xs) ∷ ss) h u = absurd (omega arith)

  pub joined-add : (g : ℕ) (w : A) (ss : List (List A)) → g < length ss → (g ≡ used ss) ⊎ (suc g ≡ used ss) → Packed ss
      → joined (add_to g w ss) ≡ joined ss ++ w ∷ []
  unfolding joined used add_to
  joined-add g w [] l u h = absurd (omega arith)
  joined-add zero w ([] ∷ ss) l u h = rw (joined-empties ss h)
  joined-add (suc g) w ([] ∷ ss) l (inl u) h = absurd (omega arith)
  joined-add (suc g) w ([] ∷ ss) l (inr u) h = absurd (omega arith)
  joined-add zero w ((x ∷ xs) ∷ ss) l (inl u) h = absurd (omega arith)
  joined-add zero w ((x ∷ xs) ∷ ss) l (inr u) h =
      rw (joined-unused ss h (omega arith)) (ap (λ (r : List A). x ∷ r) (append-nil (xs ++ w ∷ []) ∙ ap (λ (r : List A). r ++ w ∷ []) (sym (append-nil xs))))
  joined-add (suc g) w ((x ∷ xs) ∷ ss) l (inl u) h =
      rw (joined-add g w ss (omega arith) (inl (omega arith)) h) (sym (append_assoc (x ∷ xs) (joined ss) (w ∷ [])))
  joined-add (suc g) w ((x ∷ xs) ∷ ss) l (inr u) h =
      rw (joined-add g w ss (omega arith) (inr (omega arith)) h) (sym (append_assoc (x ∷ xs) (joined ss) (w ∷ [])))

  pub add-length : (g : ℕ) (w : A) (ss : List (List A)) → length (add_to g w ss) ≡ length ss
  unfolding add_to
  add-length g w ss = length-set ss g (get_or ss g [] ++ w ∷ [])

-- What a flush finds: segments that the card carries, and behind them the queue, of whose head k stores stand.
abbrev pub AllGood : List (Entry Written) → Type 0
AllGood [] = Unit {0}
AllGood (e ∷ es) = Good e × AllGood es

abbrev pub Head : List ℕ → List (List (Entry Written)) → List (Entry Written) → ℕ → Type 0
Head c ess [] k = k ≡ 0
Head c ess (e ∷ q) k =
    ((p : Place) → home (length ess) (end_of ess) e ≡ some p → Begun c p e k × (k < length (entry_stores p e)))
    × (home (length ess) (end_of ess) e ≡ none → k ≡ 0)

pub record Flows (c : List ℕ) (ess : List (List (Entry Written))) (q : List (Entry Written)) (k : ℕ) : Type 0 where
  pub carries : Carries c ess
  pub good : AllGood q
  pub head : Head c ess q k

unfoldable pub flow_for : List ℕ → List (List (Entry Written)) → List (Entry Written) → ℕ → Flow
flow_for c ess q k = record { card = c; place = end_of ess; queue = q; done = k }

head-zero : (c : List ℕ) (ess : List (List (Entry Written))) (q : List (Entry Written)) → Head c ess q 0
head-zero c ess [] = refl
head-zero c ess (e ∷ q) = (λ p h. (λ j l. absurd (omega arith), omega (arith, entry-stores-length p e)), λ h. refl)

-- entries that join the queue
good-append : (q r : List (Entry Written)) → AllGood q → AllGood r → AllGood (q ++ r)
good-append [] r g h = h
good-append (e ∷ q) r g h = (g.0, good-append q r g.1 h)

head-append : (c : List ℕ) (ess : List (List (Entry Written))) (q r : List (Entry Written)) (k : ℕ) → Head c ess q k → Head c ess (q ++ r) k
head-append c ess [] r k h = subst (Head c ess r) (sym h) (head-zero c ess r)
head-append c ess (e ∷ q) r k h = h

pub flows-append : (c : List ℕ) (ess : List (List (Entry Written))) (q r : List (Entry Written)) (k : ℕ) → Flows c ess q k → AllGood r → Flows c ess (q ++ r) k
flows-append c ess q r k f g = record { carries = f.carries; good = good-append q r f.good g; head = head-append c ess q r k f.head }

last-store : (p : Place) (e : Entry Written) (k : ℕ) → suc k ≡ length (entry_stores p e)
    → ((store_of p e k).0 ≡ 4096 * p.segment + 3584) × ((store_of p e k).1 ≡ suc p.entries)
last-store p e k h = go (which p e k (omega arith))
  where
    go : {a b : ℕ} → Which p e k a b → (a ≡ 4096 * p.segment + 3584) × (b ≡ suc p.entries)
    go (in_data u v y) = absurd (omega (arith, entry-stores-length p e))
    go (in_code i u m v y) = absurd (omega (arith, entry-stores-length p e))
    go (closing u v y) = (v, y)

-- One store of the head e, whose place is p.
module _ (c : List ℕ) (ess : List (List (Entry Written))) (e : Entry Written) (q : List (Entry Written)) (k : ℕ) (f : Flows c ess (e ∷ q) k) (p : Place)
    (h : home (length ess) (end_of ess) e ≡ some p) where
  abbrev pub card_next : List ℕ
  card_next = set c (store_of p e k).0 (store_of p e k).1

  pub head_at_lem : At ess p e
  head_at_lem = home_at ess e p f.carries.packed f.carries.some-segment h

  pub store-more : suc k < length (entry_stores p e) → Flows card_next ess (e ∷ q) (suc k)
  store-more l = record {
    carries = carries-store head_at_lem c k l f.good.0.sized f.carries;
    good = f.good;
    head = (
      λ p' h'. subst (λ (x : Place). Begun card_next x e (suc k) × (suc k < length (entry_stores x e))) (some-injective _ _ (sym h ∙ h'))
          (begun-store head_at_lem f.good.0.sized c k f.carries.size (omega arith) (f.head.0 p h).0, l),
      λ h'. absurd (none-ne-some _ (sym h' ∙ h)),
    );
  }

  pub next_more : suc k < length (entry_stores p e) → next_store (length ess) (flow_for c ess (e ∷ q) k) ≡ stored (flow_for card_next ess (e ∷ q) (suc k))
  unfolding next_store flow_for store_next
  next_more l = rw (h, next_store) (rw (eqb-false (suc k) (length (entry_stores p e)) (λ x. omega arith), store_next))

  pub store-last : suc k ≡ length (entry_stores p e) → Flows card_next (add_to p.segment e ess) q 0
  store-last l =
      let (a, b) = last-store p e k l in
      record {
        carries = rw (a, b) (carries-close head_at_lem f.good.0.sized c f.good.0.lawful f.carries
            (subst (Begun c p e) (let n : k ≡ length (data_of (carried e)) + length (code p e) = omega (arith, entry-stores-length p e) in n) (f.head.0 p h).0));
        good = f.good.1;
        head = head-zero card_next (add_to p.segment e ess) q;
      }

  pub next_last : suc k ≡ length (entry_stores p e)
      → next_store (length ess) (flow_for c ess (e ∷ q) k) ≡ stored (flow_for card_next (add_to p.segment e ess) q 0)
  unfolding next_store flow_for store_next
  next_last l =
      rw (h, next_store) (rw (eq-true (suc k) (length (entry_stores p e)) l, store_next)
      (ap (λ (x : Place). stored (record { card = card_next; place = x; queue = q; done = 0 })) (sym (end-add head_at_lem f.carries.packed))))

pub next-none : (c : List ℕ) (ess : List (List (Entry Written))) (k : ℕ) → next_store (length ess) (flow_for c ess [] k) ≡ stopped drained
unfolding next_store flow_for
next-none c ess k = refl

pub next-full : (c : List ℕ) (ess : List (List (Entry Written))) (e : Entry Written) (q : List (Entry Written)) (k : ℕ)
    → home (length ess) (end_of ess) e ≡ none → next_store (length ess) (flow_for c ess (e ∷ q) k) ≡ stopped full
unfolding next_store flow_for
next-full c ess e q k h = rw (h, next_store)

-- What a flush leaves of segments and queue: entries have gone from the one to the other.
pub record Flushes (f : Flow) (ess : List (List (Entry Written))) (q : List (Entry Written)) : Type 0 where
  pub card : List ℕ
  pub segs : List (List (Entry Written))
  pub queue : List (Entry Written)
  pub done : ℕ
  pub flow : f ≡ flow_for card segs queue done
  pub flows : Flows card segs queue done
  pub log : joined segs ++ queue ≡ joined ess ++ q
  pub size : length segs ≡ length ess
  pub gone : ℕ
  pub left : gone ≤ length q
  pub rest : queue ≡ drop gone q

flushes-none : (c : List ℕ) (ess : List (List (Entry Written))) (q : List (Entry Written)) (k : ℕ) → Flows c ess q k → Flushes (flow_for c ess q k) ess q
flushes-none c ess q k f = record {
  card = c;
  segs = ess;
  queue = q;
  done = k;
  flow = refl;
  flows = f;
  log = refl;
  size = refl;
  gone = 0;
  left = omega arith;
  rest = refl;
}

-- after an entry's closing store
flushes-last : (f : Flow) (ess : List (List (Entry Written))) (p : Place) (e : Entry Written) (q : List (Entry Written)) → At ess p e → Packed ess
    → Flushes f (add_to p.segment e ess) q → Flushes f ess (e ∷ q)
flushes-last f ess p e q at h x = record {
  card = x.card;
  segs = x.segs;
  queue = x.queue;
  done = x.done;
  flow = x.flow;
  flows = x.flows;
  log = x.log ∙ ap (λ (r : List (Entry Written)). r ++ q) (joined-add p.segment e ess at.inside at.edge h) ∙ append_assoc (joined ess) (e ∷ []) q;
  size = x.size ∙ add-length p.segment e ess;
  gone = suc x.gone;
  left = omega (arith, x.left);
  rest = x.rest;
}

pub flush-flows : (a m : ℕ) (c : List ℕ) (ess : List (List (Entry Written))) (q : List (Entry Written)) (k : ℕ) → Flows c ess q k
    → Flushes (flush_from (length ess) a m (flow_for c ess q k)).flow ess q
unfolding flush_from
flush-flows zero m c ess q k f = rw (none_left (length ess) m (flow_for c ess q k)).0 (flushes-none c ess q k f)
flush-flows (suc a) m c ess [] k f = rw (next-none c ess k, flush_from) (flushes-none c ess [] k f)
flush-flows (suc a) m c ess (e ∷ q) k f = go (λ c' ess' q' k' f'. flush-flows a (suc m) c' ess' q' k' f') (home (length ess) (end_of ess) e) refl
  where
    Later : Type 0
    Later = (c' : List ℕ) (ess' : List (List (Entry Written))) (q' : List (Entry Written)) (k' : ℕ) → Flows c' ess' q' k'
        → Flushes (flush_from (length ess') a (suc m) (flow_for c' ess' q' k')).flow ess' q'

    go : Later → (o : Option Place) → home (length ess) (end_of ess) e ≡ o
        → Flushes (flush_from (length ess) (suc a) m (flow_for c ess (e ∷ q) k)).flow ess (e ∷ q)
    go later none h = rw (next-full c ess e q k h, flush_from) (flushes-none c ess (e ∷ q) k f)
    go later (some p) h = close (eqb (suc k) (length (entry_stores p e))) refl
      where
        c' : List ℕ
        c' = card_next c ess e q k f p h

        close : (b : Bool) → eqb (suc k) (length (entry_stores p e)) ≡ b
            → Flushes (flush_from (length ess) (suc a) m (flow_for c ess (e ∷ q) k)).flow ess (e ∷ q)
        close true b =
            let l : suc k ≡ length (entry_stores p e) = eqb-true (suc k) (length (entry_stores p e)) b in
            rw (next_last c ess e q k f p h l, flush_from)
            (flushes-last (flush_from (length ess) a (suc m) (flow_for c' (add_to p.segment e ess) q 0)).flow ess p e q (head_at_lem c ess e q k f p h) f.carries.packed
            (subst (λ (n : ℕ). Flushes (flush_from n a (suc m) (flow_for c' (add_to p.segment e ess) q 0)).flow (add_to p.segment e ess) q)
            (add-length p.segment e ess) (later c' (add_to p.segment e ess) q 0 (store-last c ess e q k f p h l))))
        close false b =
            let n = eqb-neq (suc k) (length (entry_stores p e)) b in
            let l : suc k < length (entry_stores p e) = omega (arith, (f.head.0 p h).1) in
            rw (next_more c ess e q k f p h l, flush_from) (later c' ess (e ∷ q) (suc k) (store-more c ess e q k f p h l))
