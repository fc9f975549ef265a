-- Stores in their order in time: the steps of a flush and of a formatting, each required of the card as it is, lead through the cards that its
-- allowances leave, and through no others (`flush-in-order`, `format-in-order`). After k stores of a formatting the last k counts are 0 (`cut-format`).
use mathlib.Core.Path.{◌≡◌, refl, sym, ap, ◌∙◌, subst}
use mathlib.Core.Bool.{Bool, true, false}
use mathlib.Core.Option.{Option, none, some}
use mathlib.Core.List.{List, [], ◌∷◌}
use Prim.Native.Nat.{ℕ, zero, suc, ◌+◌, ◌*◌, ◌/◌, ◌≤◌, ◌<◌}
use native.Mathlib.Omega.{arith}
use native.Mathlib.Decide.{ℕ_discrete}
use lib.Dec.{eqb}
use lib.ListN.{length, take, get_or, length-set}
use lib.Seq.{get_or-set_same, get_or-set_other}
use Rattle.lists.proofs.Basic.{eqb-true, eqb-neq}
use Rattle.card_log.specs.declared.place.Place.{Place}
use Rattle.card_log.specs.Entry.{Entry}
use Rattle.card_log.specs.Card.{Written, card_length, segments_in, count}
use Rattle.card_log.specs.Store.{do_stores, format_stores, home, entry_stores}
use Rattle.card_log.specs.Flush.{Flow, Flushed, Ending, stopped, next_store, flush_from}
use Rattle.card_log.specs.Turns.{InTurn, stored_at, cleared_at, Steps, no_step, more, last, Clears, no_clear, clear}
use Rattle.card_log.proofs.CardLength.{card-size}
use Rattle.card_log.proofs.Segment.{carries-segments}
use Rattle.card_log.proofs.Allowance.{none_left, stopped-flush, moved-flush}
use Rattle.card_log.proofs.Places.{add_to}
use Rattle.card_log.proofs.Flows.{end_of, Flows, flow_for, store-more, store-last, next_more, next_last, next-none, next-full, add-length}
use Rattle.disk.specs.Disk.{queued}
use Rattle.disk.specs.Perform.{flushed, formatted}
use Rattle.disk.specs.Statements.{FlushInOrder, FormatInOrder, CutFormat}
use Rattle.disk.proofs.Clauses.{right}
use Rattle.disk.proofs.Standing.{home_same}
use Rattle.disk.proofs.Turns.{in-turn}
use Rattle.disk.proofs.Draining.{open-log, flow-of}

-- A flush with allowance a from segments ess that the card carries, m stores being counted before.
abbrev flush_of : ℕ → ℕ → List ℕ → List (List (Entry Written)) → List (Entry Written) → ℕ → Flushed
flush_of a m c ess q k = flush_from (length ess) a m (flow_for c ess q k)

abbrev card_of : Flushed → List ℕ
card_of x = x.flow.card

flow-card : (c : List ℕ) (ess : List (List (Entry Written))) (q : List (Entry Written)) (k : ℕ) → (flow_for c ess q k).card ≡ c
unfolding flow_for
flow-card c ess q k = refl

flush-none : (m : ℕ) (c : List ℕ) (ess : List (List (Entry Written))) (q : List (Entry Written)) (k : ℕ) → card_of (flush_of 0 m c ess q k) ≡ c
flush-none m c ess q k = ap (λ (f : Flow). f.card) (none_left (length ess) m (flow_for c ess q k)).0 ∙ flow-card c ess q k

module _ (c : List ℕ) (ess : List (List (Entry Written))) (e : Entry Written) (q : List (Entry Written)) (k : ℕ) (f : Flows c ess (e ∷ q) k) (p : Place)
    (h : home (length ess) (end_of ess) e ≡ some p) where
  flush-more : (a m : ℕ) → suc k < length (entry_stores p e) → flush_of (suc a) m c ess (e ∷ q) k ≡ flush_of a (suc m) (stored_at c p e k) ess (e ∷ q) (suc k)
  flush-more a m l = moved-flush (length ess) a m _ _ (next_more c ess e q k f p h l)

  flush-last : (a m : ℕ) → suc k ≡ length (entry_stores p e)
      → flush_of (suc a) m c ess (e ∷ q) k ≡ flush_of a (suc m) (stored_at c p e k) (add_to p.segment e ess) q 0
  flush-last a m l =
      moved-flush (length ess) a m _ _ (next_last c ess e q k f p h l)
      ∙ ap (λ (n : ℕ). flush_from n a (suc m) (flow_for (stored_at c p e k) (add_to p.segment e ess) q 0)) (sym (add-length p.segment e ess))

steps-only : {c c' : List ℕ} {q : List (Entry Written)} {n a : ℕ} → Steps c q n a c' → (m : ℕ) (ess : List (List (Entry Written))) → Flows c ess q n
    → c' ≡ card_of (flush_of a m c ess q n)
steps-only {c} {c'} {q} {n} {a} no_step m ess f = sym (flush-none m c ess q n)
steps-only {c} {c'} {q} {n} {a} (more {e = e} {q = r} {k = k} p t l s) m ess f =
    let h : home (length ess) (end_of ess) e ≡ some p = sym (home_same c ess f.carries e) ∙ t.behind in
    steps-only s (suc m) ess (store-more c ess e r n f p h l) ∙ ap card_of (sym (flush-more c ess e r n f p h k m l))
steps-only {c} {c'} {q} {n} {a} (last {e = e} {q = r} {k = k} p t l s) m ess f =
    let h : home (length ess) (end_of ess) e ≡ some p = sym (home_same c ess f.carries e) ∙ t.behind in
    steps-only s (suc m) (add_to p.segment e ess) (store-last c ess e r n f p h l) ∙ ap card_of (sym (flush-last c ess e r n f p h k m l))

-- A flush that makes all the stores that it may has made them step by step.
stopped-short : (n a m : ℕ) (f : Flow) (x : Ending) → next_store n f ≡ stopped x → (flush_from n (suc a) m f).stores ≡ m + suc a → ⊥
stopped-short n a m f x h e = let z : m ≡ m + suc a = sym (ap (λ (y : Flushed). y.stores) (stopped-flush n (suc a) m f x h)) ∙ e in omega arith

steps-each : (a m : ℕ) (c : List ℕ) (ess : List (List (Entry Written))) (q : List (Entry Written)) (n : ℕ) → Flows c ess q n
    → (flush_of a m c ess q n).stores ≡ m + a → Steps c q n a (card_of (flush_of a m c ess q n))
steps-each zero m c ess q n f e = rw (flush-none m c ess q n) no_step
steps-each (suc a) m c ess [] n f e = absurd (stopped-short (length ess) a m _ _ (next-none c ess n) e)
steps-each (suc a) m c ess (x ∷ q) n f e = go (λ c' ess' q' n' f' e'. steps-each a (suc m) c' ess' q' n' f' e') (home (length ess) (end_of ess) x) refl
  where
    Later : Type 0
    Later = (c' : List ℕ) (ess' : List (List (Entry Written))) (q' : List (Entry Written)) (n' : ℕ) → Flows c' ess' q' n'
        → (flush_of a (suc m) c' ess' q' n').stores ≡ suc m + a → Steps c' q' n' a (card_of (flush_of a (suc m) c' ess' q' n'))

    go : Later → (o : Option Place) → home (length ess) (end_of ess) x ≡ o → Steps c (x ∷ q) n (suc a) (card_of (flush_of (suc a) m c ess (x ∷ q) n))
    go later none h = absurd (stopped-short (length ess) a m _ _ (next-full c ess x q n h) e)
    go later (some p) h = close (eqb (suc n) (length (entry_stores p x))) refl
      where
        t : InTurn c p x n
        t = in-turn c ess x p n q f h

        close : (b : Bool) → eqb (suc n) (length (entry_stores p x)) ≡ b → Steps c (x ∷ q) n (suc a) (card_of (flush_of (suc a) m c ess (x ∷ q) n))
        close true b =
            let l = eqb-true (suc n) (length (entry_stores p x)) b in
            let i = flush-last c ess x q n f p h a m l in
            rw i (last p t l (later (stored_at c p x n) (add_to p.segment x ess) q 0 (store-last c ess x q n f p h l)
            (ap (λ (y : Flushed). y.stores) (sym i) ∙ e ∙ omega arith)))
        close false b =
            let d = eqb-neq (suc n) (length (entry_stores p x)) b in
            let l : suc n < length (entry_stores p x) = omega (arith, (f.head.0 p h).1) in
            let i = flush-more c ess x q n f p h a m l in
            rw i (more p t l (later (stored_at c p x n) ess (x ∷ q) (suc n) (store-more c ess x q n f p h l)
            (ap (λ (y : Flushed). y.stores) (sym i) ∙ e ∙ omega arith)))

pub flush-in-order : FlushInOrder
unfolding flushed
flush-in-order d l s =
    let k = right d l s in
    let o = open-log d k.reader k.log in
    let c = o.flows.carries in
    let i : (a : ℕ) → flush_of a 0 d.card o.segs (queued d) d.rec.ring.done ≡ flushed a d
    = λ a. sym (λ j. flush_from (carries-segments d.card o.segs c j) a 0 (flow-of d o.segs c j)) in
    record {
      only = λ a c' w. steps-only w 0 o.segs o.flows ∙ ap card_of (i a);
      each = λ a e. subst (λ (x : Flushed). Steps d.card (queued d) d.rec.ring.done a (card_of x)) (i a)
          (steps-each a 0 d.card o.segs (queued d) d.rec.ring.done o.flows (ap (λ (x : Flushed). x.stores) (i a) ∙ e ∙ omega arith));
    }

-- The steps of a formatting with g segments to come.
clears-only : {c c' : List ℕ} {g k : ℕ} → Clears c g k c' → c' ≡ do_stores (take k (format_stores g)) c
unfolding do_stores format_stores
clears-only {c} {c'} {g} {k} no_clear = refl
clears-only {c} {c'} {g} {k} (clear t s) = clears-only s

-- the counts from segment g on are 0
abbrev EmptyFrom : List ℕ → ℕ → Type 0
EmptyFrom c g = (h : ℕ) → g ≤ h → h < segments_in c → count c h ≡ 0

segments-cleared : (c : List ℕ) (g : ℕ) → segments_in (cleared_at c g) ≡ segments_in c
segments-cleared c g = ap (λ (n : ℕ). n / 4096) (length-set c (4096 * g + 3584) 0)

empty-cleared : (c : List ℕ) (g : ℕ) → 4096 * g + 3584 < length c → EmptyFrom c (suc g) → EmptyFrom (cleared_at c g) g
unfolding count
empty-cleared c g l z h a b = go (ℕ_discrete h g)
  where
    go : Dec (h ≡ g) → get_or (cleared_at c g) (4096 * h + 3584) 0 ≡ 0
    go (yes q) = rw q (get_or-set_same c (4096 * g + 3584) 0 0 l)
    go (no d) = get_or-set_other c (4096 * g + 3584) (4096 * h + 3584) 0 0 (omega arith) ∙ z h (omega arith) (rw (segments-cleared c g) at b)

clears-each : (k g : ℕ) (c : List ℕ) → k ≤ g → g ≤ segments_in c → 4096 * segments_in c ≤ length c → EmptyFrom c g
    → let c' = do_stores (take k (format_stores g)) c in Clears c g k c' × ((h : ℕ) → g ≤ h + k → h < segments_in c → count c' h ≡ 0)
unfolding do_stores format_stores
clears-each zero g c a b l z = (no_clear, λ h i j. z h (omega arith) j)
clears-each (suc k) zero c a b l z = absurd (omega arith)
clears-each (suc k) (suc g) c a b l z =
    let n = segments-cleared c g in
    let m : 4096 * g + 3584 < length c = omega arith in
    let (s, t) = clears-each k g (cleared_at c g) (omega arith) (omega (arith, n)) (omega (arith, n, length-set c (4096 * g + 3584) 0)) (empty-cleared c g m z) in
    (clear {c = c} {g = g} (record { inside = omega arith; behind = λ h i j. z h (omega arith) j }) s, λ h i j. t h (omega arith) (omega (arith, n)))

module _ (c : List ℕ) (l : card_length c ≡ true) (k : ℕ) (m : k ≤ segments_in c) where
  clears-card : Clears c (segments_in c) k (formatted k c) × ((h : ℕ) → segments_in c ≤ h + k → h < segments_in c → count (formatted k c) h ≡ 0)
  unfolding formatted
  clears-card = clears-each k (segments_in c) c m (omega arith) (omega (arith, (card-size c l).0)) (λ h a b. absurd (omega arith))

pub format-in-order : FormatInOrder
unfolding formatted
format-in-order c l = record { only = λ k c' w. clears-only w; each = λ k m. (clears-card c l k m).0 }

pub cut-format : CutFormat
cut-format k c l m g a b = (clears-card c l k m).1 g a (omega arith)
