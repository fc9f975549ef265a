-- The first stores of an entry, which are those of its data and then those of its bytes: whether they stand on the card, and what of this a loop over
-- bytes finds.
use mathlib.Core.Path.{◌≡◌, refl, sym, ap, ◌∙◌}
use mathlib.Core.Logic.{◌≢◌}
use mathlib.Core.Bool.{Bool, true, false, ◌&&◌}
use mathlib.Core.Option.{some}
use mathlib.Core.List.{List, [], ◌∷◌}
use Prim.Native.Nat.{ℕ, zero, suc, ◌+◌, ◌-◌, ◌≤◌, ◌<◌}
use native.Mathlib.Omega.{arith}
use native.Mathlib.Nat.{add-zero, add-suc, suc-add, zero-add}
use lib.Dec.{eqb}
use lib.ListN.{length, take, get_or}
use Rattle.lists.specs.Basic.{each, from}
use Rattle.lists.proofs.Basic.{eq-true, eqb-false, lt-true, ge-false, from-shift, from-ext, from_step, from-none, any-default}
use Rattle.card_log.specs.declared.entry.LogEntry.{LogEntry}
use Rattle.card_log.specs.declared.place.Place.{Place}
use Rattle.card_log.specs.Entry.{as_entry, encode, raw}
use Rattle.card_log.specs.Card.{card_length, segments_in}
use Rattle.card_log.specs.Store.{Store, standing, fits, entry_stores, head_at}
use Rattle.card_log.proofs.CardLength.{card-size}
use Rattle.card_log.proofs.Places.{fits_both}
use Rattle.card_log.proofs.EntryStores.{store_of, data_at, code_at}
use Rattle.card_log.proofs.LogStores.{going, data_bytes, code_bytes, stores-many, store-data, store_code}
use Rattle.card_log.specs.promises.Begun.{stands_from}

-- A loop over bytes.
abbrev pub same_at : List ℕ → ℕ → List ℕ → ℕ → Bool
same_at c a v i = eqb (get_or c (a + i) 0) (get_or v i 0)

module _ (c : List ℕ) (a : ℕ) (v : List ℕ) (n : ℕ) where
  -- what is left of the bytes at byte i
  abbrev pub left_at : ℕ → Bool
  left_at i = each (from (same_at c a v) i (n - i))

  pub left-all : stands_from c a v n ≡ left_at 0
  unfolding stands_from
  left-all = let e : n - 0 ≡ n = omega arith in rw e

  pub left-same : (i : ℕ) → i < n → get_or c (a + i) 0 ≡ get_or v i 0 → left_at i ≡ left_at (i + 1)
  unfolding each
  left-same i l h = rw (from_step (same_at c a v) i n l) (rw (eq-true (get_or c (a + i) 0) (get_or v i 0) h))

  pub left_other : (i : ℕ) → i < n → get_or c (a + i) 0 ≢ get_or v i 0 → left_at i ≡ false
  unfolding each
  left_other i l h = rw (from_step (same_at c a v) i n l) (rw (eqb-false (get_or c (a + i) 0) (get_or v i 0) h))

  pub left-none : (i : ℕ) → n ≤ i → left_at i ≡ true
  unfolding each
  left-none i l = rw (from-none (same_at c a v) i n l)

-- Stores by number.
abbrev stands_at : List ℕ → Store → Bool
stands_at c x = eqb (get_or c x.0 256) x.1

standing-each : (ss : List Store) (c : List ℕ) (k : ℕ) → k ≤ length ss → standing (take k ss) c ≡ each (from (λ j. stands_at c (get_or ss j (0, 0))) 0 k)
unfolding standing each from
standing-each [] c zero l = refl
standing-each [] c (suc k) l = absurd (omega arith)
standing-each (x ∷ ss) c zero l = refl
standing-each (x ∷ ss) c (suc k) l =
    ap (λ (b : Bool). stands_at c x && b)
    (standing-each ss c k (omega arith)
    ∙ ap each (from-shift (λ j. stands_at c (get_or ss j (0, 0))) (λ j. stands_at c (get_or (x ∷ ss) j (0, 0))) 0 1 k (λ j h.
    ap (λ (i : ℕ). stands_at c (get_or ss i (0, 0))) (zero-add j) ∙ ap (λ (i : ℕ). stands_at c (get_or (x ∷ ss) i (0, 0))) (let e : suc j ≡ 1 + j = omega arith in e))))

each-split : (f : ℕ → Bool) (a n m : ℕ) → each (from f a (n + m)) ≡ each (from f a n) && each (from f (a + n) m)
unfolding each from
each-split f a zero m = rw (zero-add m, add-zero a)
each-split f a (suc n) m =
    rw (suc-add n m) (rw (each-split f (suc a) n m)
    (and_assoc (f a) (each (from f (suc a) n)) (each (from f (suc a + n) m))
    ∙ ap (λ (i : ℕ). (f a && each (from f (suc a) n)) && each (from f i m)) (suc-add a n ∙ sym (add-suc a n))))
  where
    and_assoc : (x y z : Bool) → x && (y && z) ≡ (x && y) && z
    and_assoc true y z = refl
    and_assoc false y z = refl

-- the bytes w are those of the list v
abbrev pub SameBytes : List ℕ → List ℕ → ℕ → Type 0
SameBytes w v n = (i : ℕ) → i < n → get_or w i 0 ≡ get_or v i 0

pub same-four : (v : List ℕ) (w x y z n : ℕ) → w ≡ get_or v 0 0 → x ≡ get_or v 1 0 → y ≡ get_or v 2 0 → z ≡ get_or v 3 0 → n ≤ 4 → SameBytes (w ∷ x ∷ y ∷ z ∷ []) v n
same-four v w x y z n a b c d l zero h = a
same-four v w x y z n a b c d l (suc zero) h = b
same-four v w x y z n a b c d l (suc (suc zero)) h = c
same-four v w x y z n a b c d l (suc (suc (suc zero))) h = d
same-four v w x y z n a b c d l (suc (suc (suc (suc i)))) h = absurd (omega arith)

-- a place with room for an entry: all of it is on the card
pub room : (c : List ℕ) (p : Place) (e : LogEntry) → card_length c ≡ true → p.segment < segments_in c → fits p (as_entry false e) ≡ true
    → (data_at p + data_bytes e ≤ length c) × (code_at p + code_bytes e ≤ length c)
room c p e l s f =
    let (b, k) = fits_both p (as_entry false e) f in
    let n = (card-size c l).0 in
    (omega arith, omega arith)

module _ (c d : List ℕ) (z : length d ≡ 256) (m : Bool) (e : LogEntry) (p : Place)
    (right : card_length c ≡ true) (on : p.segment < segments_in c) (fit : fits p (as_entry false e) ≡ true) where
  abbrev stands : ℕ → Bool
  stands j = stands_at c (store_of p (going d m e) j)

  stands-data : (j : ℕ) → j < data_bytes e → stands j ≡ same_at c (data_at p) d j
  stands-data j l = let (a, b) = store-data d z m e p j l in rw (a, b) (ap (λ (x : ℕ). eqb x (get_or d j 0)) (any-default c (data_at p + j) 256 0 (omega (arith, (room c p e right on fit).0))))

  stands-code : (j : ℕ) → j < code_bytes e → stands (data_bytes e + j) ≡ same_at c (code_at p) (encode (raw p.slots (as_entry m e))) j
  stands-code j l =
      let q : data_bytes e + j - data_bytes e ≡ j = omega arith in
      let (a, b) = store_code d z m e p (data_bytes e + j) (omega arith) (omega arith) in
      rw (a, b) (rw q (ap (λ (x : ℕ). eqb x (get_or (encode (raw p.slots (as_entry m e))) j 0)) (any-default c (code_at p + j) 256 0 (omega (arith, (room c p e right on fit).1)))))

  counted : (k : ℕ) → k ≤ data_bytes e + code_bytes e → head_at c k (some p) (going d m e) ≡ each (from stands 0 k)
  unfolding head_at
  counted k l =
      let n = stores-many d z m e p in
      rw (lt-true k (length (entry_stores p (going d m e))) (omega (arith, n))) (standing-each (entry_stores p (going d m e)) c k (omega (arith, n)))

  pub begun-over : (k : ℕ) → data_bytes e + code_bytes e < k → head_at c k (some p) (going d m e) ≡ false
  unfolding head_at
  begun-over k l = rw (ge-false k (length (entry_stores p (going d m e))) (omega (arith, stores-many d z m e p)))

  pub begun-data : (k : ℕ) → k ≤ data_bytes e → head_at c k (some p) (going d m e) ≡ stands_from c (data_at p) d k
  unfolding stands_from
  begun-data k l = counted k (omega arith) ∙ ap each (from-ext stands (same_at c (data_at p) d) k (λ j h. stands-data j (omega arith)))

  begun-both : (n k : ℕ) (w : List ℕ) → n ≡ data_bytes e → n ≤ k → k ≤ n + code_bytes e → SameBytes w (encode (raw p.slots (as_entry m e))) (code_bytes e)
      → head_at c k (some p) (going d m e) ≡ stands_from c (data_at p) d n && stands_from c (code_at p) w (k - n)
  unfolding stands_from
  begun-both n k w q g l s =
      counted k (omega arith)
      ∙ ap (λ (i : ℕ). each (from stands 0 i)) (let r : k ≡ n + (k - n) = omega arith in r)
      ∙ each-split stands 0 n (k - n)
      ∙ (λ i. each (x i) && each (y i))
    where
      x : from stands 0 n ≡ from (same_at c (data_at p) d) 0 n
      x = from-ext stands (same_at c (data_at p) d) n (λ j h. stands-data j (omega arith))

      y : from stands (0 + n) (k - n) ≡ from (same_at c (code_at p) w) 0 (k - n)
      y = from-shift stands (same_at c (code_at p) w) (0 + n) 0 (k - n) (λ j h.
          ap stands (let r : 0 + n + j ≡ data_bytes e + j = omega arith in r)
          ∙ stands-code j (omega arith)
          ∙ ap (λ (b : ℕ). eqb (get_or c (code_at p + j) 0) b) (sym (s j (omega arith)))
          ∙ ap (same_at c (code_at p) w) (sym (zero-add j)))

  pub begun-missed : (n k : ℕ) → n ≡ data_bytes e → n ≤ k → k ≤ n + code_bytes e → stands_from c (data_at p) d n ≡ false → head_at c k (some p) (going d m e) ≡ false
  begun-missed n k q g l h = begun-both n k (encode (raw p.slots (as_entry m e))) q g l (λ i r. refl) ∙ rw h

  pub begun-code : (n k : ℕ) (w : List ℕ) → n ≡ data_bytes e → n ≤ k → k ≤ n + code_bytes e → SameBytes w (encode (raw p.slots (as_entry m e))) (code_bytes e)
      → stands_from c (data_at p) d n ≡ true → head_at c k (some p) (going d m e) ≡ stands_from c (code_at p) w (k - n)
  begun-code n k w q g l s h = begun-both n k w q g l s ∙ rw h
