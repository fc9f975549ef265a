-- A flush with allowance m + n leaves what m, then n leaves, and its stores add up (`flush-add`).
use mathlib.Core.Path.{◌≡◌, refl, sym, ap, ◌∙◌}
use Prim.Native.Nat.{ℕ, zero, suc, ◌+◌}
use native.Mathlib.Nat.{zero-add, suc-add}
use Rattle.card_log.specs.Flush.{Flow, Flushed, flush_from, next_store, Next, stored, stopped, Ending}

pub stopped-flush : (n b k : ℕ) (f : Flow) (e : Ending) → next_store n f ≡ stopped e → flush_from n b k f ≡ record { flow = f; stores = k; ending = e }
unfolding flush_from
stopped-flush n zero k f e q = rw (q, flush_from)
stopped-flush n (suc b) k f e q = rw (q, flush_from)

pub moved-flush : (n a k : ℕ) (f g : Flow) → next_store n f ≡ stored g → flush_from n (suc a) k f ≡ flush_from n a (suc k) g
unfolding flush_from
moved-flush n a k f g q = rw (q, flush_from)

pub none_left : (n k : ℕ) (f : Flow) → ((flush_from n 0 k f).flow ≡ f) × ((flush_from n 0 k f).stores ≡ k)
unfolding flush_from
none_left n k f = go (next_store n f) refl
  where
    go : (x : Next) → next_store n f ≡ x → ((flush_from n 0 k f).flow ≡ f) × ((flush_from n 0 k f).stores ≡ k)
    go (stored g) q = (rw (q, flush_from), rw (q, flush_from))
    go (stopped e) q = (rw (q, flush_from), rw (q, flush_from))

pub flush-add : (a b n k : ℕ) (f : Flow) → flush_from n (a + b) k f ≡ flush_from n b (flush_from n a k f).stores (flush_from n a k f).flow
flush-add zero b n k f = let (p, q) = none_left n k f in rw (zero-add b) (rw (p, q))
flush-add (suc a) b n k f = rw (suc-add a b) (go (λ g. flush-add a b n (suc k) g) (next_store n f) refl)
  where
    go : ((g : Flow) → flush_from n (a + b) (suc k) g ≡ flush_from n b (flush_from n a (suc k) g).stores (flush_from n a (suc k) g).flow) → (x : Next) → next_store n f ≡ x
        → flush_from n (suc (a + b)) k f ≡ flush_from n b (flush_from n (suc a) k f).stores (flush_from n (suc a) k f).flow
    go ih (stored g) q = moved-flush n (a + b) k f g q ∙ ih g ∙ sym (ap (λ (y : Flushed). flush_from n b y.stores y.flow) (moved-flush n a k f g q))
    go ih (stopped e) q = stopped-flush n (suc (a + b)) k f e q
        ∙ sym (ap (λ (y : Flushed). flush_from n b y.stores y.flow) (stopped-flush n (suc a) k f e q) ∙ stopped-flush n b k f e q)
