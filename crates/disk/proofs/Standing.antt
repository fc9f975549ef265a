-- Stores of the queue's head that stand on the card: question 3's test, and the facts that a flush goes on from.
use mathlib.Core.Path.{◌≡◌, refl, sym, ap, ◌∙◌}
use mathlib.Core.Bool.{true}
use mathlib.Core.Option.{Option, none, some}
use mathlib.Core.List.{List, [], ◌∷◌}
use Prim.Native.Nat.{ℕ, zero, suc, ◌≤◌, ◌<◌}
use native.Mathlib.Omega.{arith}
use lib.Dec.{eqb, ltb}
use lib.ListN.{length, take, get_or}
use Rattle.lists.proofs.Basic.{and-true, eqb-true, ltb-true, eq-true, lt-true, any-default}
use Rattle.card_log.specs.declared.place.Place.{Place}
use Rattle.card_log.specs.Entry.{Entry}
use Rattle.card_log.specs.Card.{Written, segments_in}
use Rattle.card_log.specs.Store.{Store, standing, home, tail, entry_stores, head_at}
use Rattle.card_log.proofs.Segment.{Carries, carries-segments}
use Rattle.card_log.proofs.EntryStores.{which, store_of}
use Rattle.card_log.proofs.Places.{Good, store-inside}
use Rattle.card_log.proofs.Flows.{end_of, tail-end, home_at, AllGood, Head}
use Rattle.disk.specs.Sound.{head_standing}

standing-at : (ss : List Store) (k : ℕ) (c : List ℕ) (j : ℕ) → standing (take k ss) c ≡ true → j < k → k ≤ length ss
    → get_or c (get_or ss j (0, 0)).0 256 ≡ (get_or ss j (0, 0)).1
unfolding standing
standing-at [] k c j h l m = absurd (omega arith)
standing-at (x ∷ ss) zero c j h l m = absurd (omega arith)
standing-at (x ∷ ss) (suc k) c zero h l m = eqb-true (get_or c x.0 256) x.1 (and-true (eqb (get_or c x.0 256) x.1) (standing (take k ss) c) h).0
standing-at (x ∷ ss) (suc k) c (suc j) h l m =
    standing-at ss k c j (and-true (eqb (get_or c x.0 256) x.1) (standing (take k ss) c) h).1 (omega arith) (omega arith)

standing-all : (ss : List Store) (k : ℕ) (c : List ℕ) → k ≤ length ss → ((j : ℕ) → j < k → get_or c (get_or ss j (0, 0)).0 256 ≡ (get_or ss j (0, 0)).1)
    → standing (take k ss) c ≡ true
unfolding standing
standing-all [] zero c m f = refl
standing-all [] (suc k) c m f = refl
standing-all (x ∷ ss) zero c m f = refl
standing-all (x ∷ ss) (suc k) c m f =
    rw (eq-true (get_or c x.0 256) x.1 (f 0 (omega arith))) (standing-all ss k c (omega arith) (λ j l. f (suc j) (omega arith)))

module _ (c : List ℕ) (ess : List (List (Entry Written))) (h : Carries c ess) where
  pub home_same : (e : Entry Written) → home (segments_in c) (tail c) e ≡ home (length ess) (end_of ess) e
  home_same e i = home (carries-segments c ess h i) (tail-end c ess h i) e

  store-on : (p : Place) (e : Entry Written) (j : ℕ) → home (length ess) (end_of ess) e ≡ some p → Good e → j < length (entry_stores p e) → (store_of p e j).0 < length c
  store-on p e j q g l =
      store-inside (home_at ess e p h.packed h.some-segment q) g.sized c j (store_of p e j).0 (store_of p e j).1 h.size (which p e j l)

  pub standing-head : (q : List (Entry Written)) (k : ℕ) → AllGood q → head_standing c k q ≡ true → Head c ess q k
  unfolding head_standing head_at
  standing-head [] k g s = eqb-true k 0 s
  standing-head (e ∷ q) k g s = (
    λ p v.
        let t : head_at c k (some p) e ≡ true = ap (λ (o : Option Place). head_at c k o e) (sym (home_same e ∙ v)) ∙ s in
        let (a, b) = and-true (ltb k (length (entry_stores p e))) (standing (take k (entry_stores p e)) c) t in
        let l : k < length (entry_stores p e) = ltb-true k (length (entry_stores p e)) a in
        (λ j m. any-default c (store_of p e j).0 0 256 (store-on p e j v g.0 (omega arith)) ∙ standing-at (entry_stores p e) k c j b m (omega arith), l),
    λ v. eqb-true k 0 (ap (λ (o : Option Place). head_at c k o e) (sym (home_same e ∙ v)) ∙ s),
  )

  pub head-standing : (q : List (Entry Written)) (k : ℕ) → AllGood q → Head c ess q k → head_standing c k q ≡ true
  unfolding head_standing head_at
  head-standing [] k g s = eq-true k 0 s
  head-standing (e ∷ q) k g s = ap (λ (o : Option Place). head_at c k o e) (home_same e) ∙ go (home (length ess) (end_of ess) e) refl
    where
      go : (o : Option Place) → home (length ess) (end_of ess) e ≡ o → head_at c k (home (length ess) (end_of ess) e) e ≡ true
      go none v = ap (λ (o : Option Place). head_at c k o e) v ∙ eq-true k 0 (s.1 v)
      go (some p) v =
          let (b, l) = s.0 p v in
          ap (λ (o : Option Place). head_at c k o e) v
          ∙ rw (lt-true k (length (entry_stores p e)) l)
          (standing-all (entry_stores p e) k c (omega arith)
          (λ j m. any-default c (store_of p e j).0 256 0 (store-on p e j v g.0 (omega arith)) ∙ b j m))
