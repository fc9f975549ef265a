-- The store sequence of a flush (`ahead`): a flush does the next stores of it, as many as it may, and reports how far it went (`along`); it is spent
-- just where stores are left after its allowance (`ended`), and if it is drained, the queue is empty (`drained-empty`).
use mathlib.Core.Path.{◌≡◌, refl, sym, ap, ◌∙◌, subst}
use mathlib.Core.Logic.{◌≢◌}
use mathlib.Core.Bool.{Bool, true, false}
use mathlib.Core.Option.{Option, none, some}
use mathlib.Core.List.{List, [], ◌∷◌, ◌++◌}
use Prim.Native.Nat.{ℕ, zero, suc, ◌+◌, ◌≤◌, ◌<◌, min}
use native.Mathlib.Omega.{arith}
use lib.Dec.{eqb}
use lib.ListN.{length, drop, take, get_or, set, length-append, get_or-append, drop_of_length-le}
use lib.Seq.{drop-cons, drop-append-le, drop-nil}
use Rattle.lists.proofs.Basic.{eqb-true, eqb-neq}
use Rattle.card_log.specs.declared.place.Place.{Place}
use Rattle.card_log.specs.Entry.{Entry}
use Rattle.card_log.specs.Card.{Written}
use Rattle.card_log.specs.Store.{Store, do_stores, home, after, entry_stores}
use Rattle.card_log.specs.Flush.{Flow, Flushed, Ending, drained, full, spent, Next, stored, stopped, store_next, next_store, flush_from, ahead, rest}
use Rattle.card_log.proofs.EntryStores.{entry-stores-length}
use Rattle.card_log.proofs.Allowance.{none_left, stopped-flush, moved-flush}

-- k stores of the head are done, fewer than it has; none if it has no place, or the queue is empty
abbrev pub ReadyHead : Option Place → Entry Written → ℕ → Type 0
ReadyHead none e k = k ≡ 0
ReadyHead (some h) e k = k < length (entry_stores h e)

abbrev pub Ready : ℕ → Place → List (Entry Written) → ℕ → Type 0
Ready n p [] k = k ≡ 0
Ready n p (e ∷ q) k = ReadyHead (home n p e) e k

ready-head : (o : Option Place) (e : Entry Written) → ReadyHead o e 0
ready-head none e = refl
ready-head (some h) e = omega (arith, entry-stores-length h e)

ready-start : (n : ℕ) (p : Place) (q : List (Entry Written)) → Ready n p q 0
ready-start n p [] = refl
ready-start n p (e ∷ q) = ready-head (home n p e) e

ahead_none : (n : ℕ) (p : Place) (e : Entry Written) (q : List (Entry Written)) → home n p e ≡ none → ahead n p (e ∷ q) ≡ []
unfolding ahead
ahead_none n p e q v = rw (v, ahead)

ahead-some : (n : ℕ) (p : Place) (e : Entry Written) (q : List (Entry Written)) (h : Place) → home n p e ≡ some h → ahead n p (e ∷ q) ≡ entry_stores h e ++ ahead n (after h e) q
unfolding ahead
ahead-some n p e q h v = rw (v, ahead)

-- One store: the first of those still to do.
data Step (n : ℕ) (f : Flow) : Type 0 where
  halt : (x : Ending) → next_store n f ≡ stopped x → rest n f ≡ [] → Step n f
  next : (g : Flow) (x : Store) → next_store n f ≡ stored g → rest n f ≡ x ∷ rest n g → g.card ≡ set f.card x.0 x.1 → Ready n g.place g.queue g.done → Step n f

abbrev flow_at : List ℕ → Place → List (Entry Written) → ℕ → Flow
flow_at c p q k = record { card = c; place = p; queue = q; done = k }

last-drop : (ss t : List Store) (k : ℕ) → suc k ≡ length ss → drop k (ss ++ t) ≡ get_or ss k (0, 0) ∷ t
last-drop ss t k e =
    drop-append-le k ss t (omega arith)
    ∙ ap (λ (l : List Store). l ++ t) (drop-cons ss k (0, 0) (omega arith) ∙ ap (λ (l : List Store). get_or ss k (0, 0) ∷ l) (drop_of_length-le ss {i = suc k} (omega arith)))

more-drop : (ss t : List Store) (k : ℕ) → k < length ss → drop k (ss ++ t) ≡ get_or ss k (0, 0) ∷ drop (suc k) (ss ++ t)
more-drop ss t k l =
    drop-cons (ss ++ t) k (0, 0) (omega (arith, length-append ss t)) ∙ ap (λ (x : Store). x ∷ drop (suc k) (ss ++ t)) (get_or-append ss t (0, 0) k l)

step-at : (n : ℕ) (c : List ℕ) (p : Place) (q : List (Entry Written)) (k : ℕ) → Ready n p q k → Step n (flow_at c p q k)
unfolding next_store store_next rest ahead
step-at n c p [] k r = halt drained refl (drop-nil k)
step-at n c p (e ∷ q) k r = go (home n p e) refl
  where
    go : (o : Option Place) → home n p e ≡ o → Step n (flow_at c p (e ∷ q) k)
    go none v = halt full (rw (v, next_store)) (ap (drop k) (ahead_none n p e q v) ∙ drop-nil k)
    go (some h) v = close (eqb (suc k) (length (entry_stores h e))) refl
      where
        l : k < length (entry_stores h e)
        l = subst (λ (o : Option Place). ReadyHead o e k) v r

        x : Store
        x = get_or (entry_stores h e) k (0, 0)

        close : (b : Bool) → eqb (suc k) (length (entry_stores h e)) ≡ b → Step n (flow_at c p (e ∷ q) k)
        close true f =
            next (flow_at (set c x.0 x.1) (after h e) q 0) x (rw (v, next_store) (rw (f, store_next)))
            (ap (drop k) (ahead-some n p e q h v) ∙ last-drop (entry_stores h e) (ahead n (after h e) q) k (eqb-true (suc k) (length (entry_stores h e)) f))
            refl (ready-start n (after h e) q)
        close false f =
            next (flow_at (set c x.0 x.1) p (e ∷ q) (suc k)) x (rw (v, next_store) (rw (f, store_next)))
            (ap (drop k) (ahead-some n p e q h v) ∙ more-drop (entry_stores h e) (ahead n (after h e) q) k l
            ∙ ap (λ (s : List Store). x ∷ drop (suc k) s) (sym (ahead-some n p e q h v)))
            refl (subst (λ (o : Option Place). ReadyHead o e (suc k)) (sym v) far)
          where
            far : suc k < length (entry_stores h e)
            far = let d : suc k ≢ length (entry_stores h e) = eqb-neq (suc k) (length (entry_stores h e)) f in omega (arith, l)

step_of : (n : ℕ) (f : Flow) → Ready n f.place f.queue f.done → Step n f
step_of n f r = step-at n f.card f.place f.queue f.done r

-- A flush with allowance a from f, k stores being done before.
pub record Along (n a k : ℕ) (f : Flow) : Type 0 where
  pub card : (flush_from n a k f).flow.card ≡ do_stores (take a (rest n f)) f.card
  pub todo : rest n (flush_from n a k f).flow ≡ drop a (rest n f)
  pub count : (flush_from n a k f).stores ≡ k + min a (length (rest n f))

none_done : (c : List ℕ) → do_stores [] c ≡ c
unfolding do_stores
none_done c = refl

one-done : (x : Store) (xs : List Store) (c : List ℕ) → do_stores (x ∷ xs) c ≡ do_stores xs (set c x.0 x.1)
unfolding do_stores
one-done x xs c = refl

pub along : (a n k : ℕ) (f : Flow) → Ready n f.place f.queue f.done → Along n a k f
along zero n k f r =
    let (p, q) = none_left n k f in
    record {
      card = ap (λ (y : Flow). y.card) p ∙ sym (none_done f.card);
      todo = ap (rest n) p;
      count = q ∙ omega arith;
    }
along (suc a) n k f r = go (λ g s. along a n (suc k) g s) (step_of n f r)
  where
    go : ((g : Flow) → Ready n g.place g.queue g.done → Along n a (suc k) g) → Step n f → Along n (suc a) k f
    go ih (halt x q e) = record {
      card = ap (λ (y : Flushed). y.flow.card) (stopped-flush n (suc a) k f x q) ∙ sym (ap (λ (l : List Store). do_stores (take (suc a) l) f.card) e ∙ none_done f.card);
      todo = ap (λ (y : Flushed). rest n y.flow) (stopped-flush n (suc a) k f x q) ∙ e ∙ sym (ap (drop (suc a)) e);
      count = ap (λ (y : Flushed). y.stores) (stopped-flush n (suc a) k f x q) ∙ omega (arith, ap length e);
    }
    go ih (next g x q e c s) =
        let h = ih g s in
        record {
          card = ap (λ (y : Flushed). y.flow.card) (moved-flush n a k f g q) ∙ h.card ∙ ap (do_stores (take a (rest n g))) c
              ∙ sym (ap (λ (l : List Store). do_stores (take (suc a) l) f.card) e ∙ one-done x (take a (rest n g)) f.card);
          todo = ap (λ (y : Flushed). rest n y.flow) (moved-flush n a k f g q) ∙ h.todo ∙ sym (ap (drop (suc a)) e);
          count = ap (λ (y : Flushed). y.stores) (moved-flush n a k f g q) ∙ h.count ∙ omega (arith, ap length e);
        }

-- Endings: a flush is spent just where stores are left after its allowance; otherwise there is none left to do.
pub record Ended (n a k : ℕ) (f : Flow) : Type 0 where
  pub spends : (flush_from n a k f).ending ≡ spent → a < length (rest n f)
  pub stops : (flush_from n a k f).ending ≢ spent → length (rest n f) ≤ a

step-full : (n : ℕ) (c : List ℕ) (p : Place) (q : List (Entry Written)) (k : ℕ) → next_store n (flow_at c p q k) ≢ stopped spent
unfolding next_store
step-full n c p [] k h = let z : ◌≡◌ {A = ℕ} 0 1 = cc in omega arith
step-full n c p (e ∷ q) k h = go (home n p e) refl
  where
    never : (x : Next) (y : Flow) → x ≡ stored y → x ≡ stopped spent → ⊥
    never x y u v = let z : ◌≡◌ {A = ℕ} 0 1 = cc in omega arith

    worse : (x : Next) → x ≡ stopped full → x ≡ stopped spent → ⊥
    worse x u v = let z : ◌≡◌ {A = ℕ} 0 1 = cc in omega arith

    go : (o : Option Place) → home n p e ≡ o → ⊥
    go none v = worse (next_store n (flow_at c p (e ∷ q) k)) (rw (v, next_store)) h
    go (some x) v = never (next_store n (flow_at c p (e ∷ q) k)) (store_next (flow_at c p (e ∷ q) k) x e q) (rw (v, next_store)) h

not-spent : (n : ℕ) (f : Flow) (e : Ending) → next_store n f ≡ stopped e → e ≢ spent
not-spent n f e q h = step-full n f.card f.place f.queue f.done (q ∙ ap {B = Next} stopped h)

spent-now : (n k : ℕ) (f g : Flow) → next_store n f ≡ stored g → (flush_from n 0 k f).ending ≡ spent
unfolding flush_from
spent-now n k f g q = rw (q, flush_from)

pub ended : (a n k : ℕ) (f : Flow) → Ready n f.place f.queue f.done → Ended n a k f
ended zero n k f r = go (step_of n f r)
  where
    go : Step n f → Ended n 0 k f
    go (halt x q e) = record {
      spends = λ h. absurd (not-spent n f x q (sym (ap (λ (y : Flushed). y.ending) (stopped-flush n 0 k f x q)) ∙ h));
      stops = λ h. omega (arith, ap length e);
    }
    go (next g x q e c s) = record {
      spends = λ h. omega (arith, ap length e);
      stops = λ h. absurd (h (spent-now n k f g q));
    }
ended (suc a) n k f r = go (λ g s. ended a n (suc k) g s) (step_of n f r)
  where
    go : ((g : Flow) → Ready n g.place g.queue g.done → Ended n a (suc k) g) → Step n f → Ended n (suc a) k f
    go ih (halt x q e) = record {
      spends = λ h. absurd (not-spent n f x q (sym (ap (λ (y : Flushed). y.ending) (stopped-flush n (suc a) k f x q)) ∙ h));
      stops = λ h. omega (arith, ap length e);
    }
    go ih (next g x q e c s) =
        let i = ih g s in
        let m : (flush_from n (suc a) k f).ending ≡ (flush_from n a (suc k) g).ending = ap (λ (y : Flushed). y.ending) (moved-flush n a k f g q) in
        record {
          spends = λ h. omega (arith, i.spends (sym m ∙ h), ap length e);
          stops = λ h. omega (arith, i.stops (λ t. h (m ∙ t)), ap length e);
        }

-- A drained flush has emptied the queue.
not_full : stopped full ≡ stopped drained → ⊥
not_full p = let z : ◌≡◌ {A = ℕ} 0 1 = cc in omega arith

not-stored : (g : Flow) → stored g ≡ stopped drained → ⊥
not-stored g p = let z : ◌≡◌ {A = ℕ} 0 1 = cc in omega arith

drained-flow : (n : ℕ) (c : List ℕ) (p : Place) (q : List (Entry Written)) (k : ℕ) → next_store n (record { card = c; place = p; queue = q; done = k }) ≡ stopped drained → q ≡ []
unfolding next_store
drained-flow n c p [] k h = refl
drained-flow n c p (e ∷ q) k h = go (home n p e) refl
  where
    go : (o : Option Place) → home n p e ≡ o → e ∷ q ≡ []
    go none v = absurd (not_full (rw (v, next_store) at h))
    go (some x) v = absurd (not-stored (store_next (record { card = c; place = p; queue = e ∷ q; done = k }) x e q) (rw (v, next_store) at h))

stopped-drained : (n : ℕ) (f : Flow) → next_store n f ≡ stopped drained → f.queue ≡ []
stopped-drained n f h = drained-flow n f.card f.place f.queue f.done h

spent-not : (e : Ending) → e ≡ spent → e ≡ drained → ⊥
spent-not e p q = let z : ◌≡◌ {A = ℕ} 0 1 = cc in omega arith

pub drained-empty : (n a k : ℕ) (f : Flow) → (flush_from n a k f).ending ≡ drained → (flush_from n a k f).flow.queue ≡ []
unfolding flush_from
drained-empty n zero k f h = go (next_store n f) refl
  where
    go : (x : Next) → next_store n f ≡ x → (flush_from n zero k f).flow.queue ≡ []
    go (stored g) q = absurd (spent-not (flush_from n zero k f).ending (rw (q, flush_from)) h)
    go (stopped e) q = rw (q, flush_from) (stopped-drained n f (q ∙ ap {B = Next} stopped (rw (q, flush_from) at h)))
drained-empty n (suc a) k f h = go (λ g. drained-empty n a (suc k) g) (next_store n f) refl
  where
    go : ((g : Flow) → (flush_from n a (suc k) g).ending ≡ drained → (flush_from n a (suc k) g).flow.queue ≡ []) → (x : Next) → next_store n f ≡ x → (flush_from n (suc a) k f).flow.queue ≡ []
    go ih (stored g) q = rw (q, flush_from) (ih g (rw (q, flush_from) at h))
    go ih (stopped e) q = rw (q, flush_from) (stopped-drained n f (q ∙ ap {B = Next} stopped (rw (q, flush_from) at h)))
