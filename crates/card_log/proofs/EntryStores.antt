-- One store of a flush: what it leaves of what the card holds, and which of an entry's stores it is.
use mathlib.Core.Path.{◌≡◌, refl, sym, ap, ◌∙◌}
use mathlib.Core.Logic.{◌⊎◌, inl, inr}
use mathlib.Core.Bool.{true}
use mathlib.Core.List.{List, [], ◌∷◌, ◌++◌, append_assoc, append-nil}
use Prim.Native.Nat.{ℕ, zero, suc, ◌+◌, ◌-◌, ◌*◌, ◌≤◌, ◌<◌}
use native.Mathlib.Omega.{arith}
use native.Mathlib.Decide.{dec_lt}
use lib.ListN.{length, get_or, set, length-append, get_or-append}
use lib.Seq.{get_or-set_same, get_or-set_other, get_or-append-add}
use Rattle.card_log.specs.declared.place.Place.{Place}
use Rattle.card_log.specs.Entry.{Entry, carried, encode, raw, legal}
use Rattle.card_log.specs.Card.{Written, used_by}
use Rattle.card_log.specs.Store.{Store, stores_from, data_of, entry_stores}
use Rattle.card_log.proofs.Slot.{Stands, stands-other, stands-append}
use Rattle.card_log.proofs.Segment.{codes, slots_after, slots_after-le, Sized, Fine, FilledAt, Holds, data-length}

-- Snoc laws.
pub codes-snoc : (k : ℕ) (es : List (Entry Written)) (e : Entry Written) → codes k (es ++ e ∷ []) ≡ codes k es ++ encode (raw (slots_after k es) e)
unfolding codes slots_after
codes-snoc k [] e = append-nil (encode (raw k e))
codes-snoc k (x ∷ es) e =
    ap (λ (l : List ℕ). encode (raw k x) ++ l) (codes-snoc (k + used_by (carried x)) es e)
    ∙ sym (append_assoc (encode (raw k x)) (codes (k + used_by (carried x)) es) (encode (raw (slots_after (k + used_by (carried x)) es) e)))

pub slots-snoc : (k : ℕ) (es : List (Entry Written)) (e : Entry Written) → slots_after k (es ++ e ∷ []) ≡ slots_after k es + used_by (carried e)
unfolding slots_after
slots-snoc k [] e = refl
slots-snoc k (x ∷ es) e = slots-snoc (k + used_by (carried x)) es e

pub fine-snoc : (k : ℕ) (es : List (Entry Written)) (e : Entry Written) → Fine k es → legal (raw (slots_after k es) e) ≡ true → Sized (carried e) → Fine k (es ++ e ∷ [])
unfolding slots_after
fine-snoc k [] e f l z = (l, z, tt)
fine-snoc k (x ∷ es) e f l z = (f.0, f.1, fine-snoc (k + used_by (carried x)) es e f.2 l z)

pub filled-snoc : (c : List ℕ) (a k : ℕ) (es : List (Entry Written)) (e : Entry Written) → FilledAt c a k es
    → Stands c (a + 256 * slots_after k es) (data_of (carried e)) → FilledAt c a k (es ++ e ∷ [])
unfolding slots_after
filled-snoc c a k [] e f s = (s, tt)
filled-snoc c a k (x ∷ es) e f s = (f.0, filled-snoc c a (k + used_by (carried x)) es e f.1 s)

-- Where a store changes nothing of what segment g holds.
abbrev pub Free : ℕ → List (Entry Written) → ℕ → Type 0
Free g es o = (o < 4096 * g) ⊎ (((4096 * g + 256 * slots_after 0 es ≤ o) × (o < 4096 * g + 3584)) ⊎ (4096 * g + 3585 + length (codes 0 es) ≤ o))

filled-free : (c : List ℕ) (g k : ℕ) (es : List (Entry Written)) (o b : ℕ) → slots_after k es ≤ 14 → Fine k es
    → (o < 4096 * g) ⊎ (4096 * g + 256 * slots_after k es ≤ o) → FilledAt c (4096 * g) k es → FilledAt (set c o b) (4096 * g) k es
unfolding slots_after
filled-free c g k [] o b n f w h = tt
filled-free c g k (e ∷ es) o b n f (inl w) h = (
  stands-other c (4096 * g + 256 * k) (data_of (carried e)) o b (inl (omega arith)) h.0,
  filled-free c g (k + used_by (carried e)) es o b n f.2 (inl w) h.1,
)
filled-free c g k (e ∷ es) o b n f (inr w) h = (
  stands-other c (4096 * g + 256 * k) (data_of (carried e)) o b
      (inr (omega (arith, data-length (carried e) f.1, slots_after-le (k + used_by (carried e)) es))) h.0,
  filled-free c g (k + used_by (carried e)) es o b n f.2 (inr w) h.1,
)

pub holds-free : (c : List ℕ) (g : ℕ) (es : List (Entry Written)) (o b : ℕ) → Free g es o → Holds c g es → Holds (set c o b) g es
holds-free c g es o b (inl w) h = record {
  counted = get_or-set_other c o (4096 * g + 3584) b 0 (omega arith) ∙ h.counted;
  coded = stands-other c (4096 * g + 3585) (codes 0 es) o b (inl (omega arith)) h.coded;
  filled = filled-free c g 0 es o b h.few h.fine (inl w) h.filled;
  fine = h.fine;
  short = h.short;
  few = h.few;
}
holds-free c g es o b (inr (inl w)) h = record {
  counted = get_or-set_other c o (4096 * g + 3584) b 0 (omega arith) ∙ h.counted;
  coded = stands-other c (4096 * g + 3585) (codes 0 es) o b (inl (omega arith)) h.coded;
  filled = filled-free c g 0 es o b h.few h.fine (inr w.0) h.filled;
  fine = h.fine;
  short = h.short;
  few = h.few;
}
holds-free c g es o b (inr (inr w)) h = record {
  counted = get_or-set_other c o (4096 * g + 3584) b 0 (omega arith) ∙ h.counted;
  coded = stands-other c (4096 * g + 3585) (codes 0 es) o b (inr w) h.coded;
  filled = filled-free c g 0 es o b h.few h.fine (inr (omega (arith, h.few))) h.filled;
  fine = h.fine;
  short = h.short;
  few = h.few;
}

-- The closing store: the count byte takes in an entry whose bytes and data stand.
filled-count : (c : List ℕ) (g k : ℕ) (es : List (Entry Written)) (b : ℕ) → slots_after k es ≤ 14 → Fine k es → FilledAt c (4096 * g) k es
    → FilledAt (set c (4096 * g + 3584) b) (4096 * g) k es
filled-count c g k es b n f h = filled-free c g k es (4096 * g + 3584) b n f (inr (omega arith)) h

pub holds-close : (c : List ℕ) (g : ℕ) (es : List (Entry Written)) (e : Entry Written) → 4096 * g + 4096 ≤ length c → Holds c g es
    → legal (raw (slots_after 0 es) e) ≡ true → Sized (carried e)
    → length (codes 0 es) + length (encode (raw (slots_after 0 es) e)) ≤ 511 → slots_after 0 es + used_by (carried e) ≤ 14
    → Stands c (4096 * g + 256 * slots_after 0 es) (data_of (carried e))
    → Stands c (4096 * g + 3585 + length (codes 0 es)) (encode (raw (slots_after 0 es) e))
    → Holds (set c (4096 * g + 3584) (suc (length es))) g (es ++ e ∷ [])
holds-close c g es e l h w z b s d t = record {
  counted = get_or-set_same c (4096 * g + 3584) (suc (length es)) 0 (omega arith) ∙ (let q : suc (length es) ≡ length (es ++ e ∷ []) = omega (arith, length-append es (e ∷ [])) in q);
  coded = rw (codes-snoc 0 es e) (stands-other c (4096 * g + 3585) (codes 0 es ++ encode (raw (slots_after 0 es) e)) (4096 * g + 3584) (suc (length es)) (inl (omega arith))
      (stands-append c (4096 * g + 3585) (codes 0 es) (encode (raw (slots_after 0 es) e)) h.coded t));
  filled = filled-count c g 0 (es ++ e ∷ []) (suc (length es)) (rw (slots-snoc 0 es e) s) f (filled-snoc c (4096 * g) 0 es e h.filled d);
  fine = f;
  short = rw (codes-snoc 0 es e) (omega (arith, length-append (codes 0 es) (encode (raw (slots_after 0 es) e))));
  few = rw (slots-snoc 0 es e) s;
}
  where
    f : Fine 0 (es ++ e ∷ [])
    f = fine-snoc 0 es e h.fine w z

-- An entry's stores, by number.
abbrev pub data_at : Place → ℕ
data_at p = 4096 * p.segment + 256 * p.slots

abbrev pub code_at : Place → ℕ
code_at p = 4096 * p.segment + 3585 + p.bytes

abbrev pub code : Place → Entry Written → List ℕ
code p e = encode (raw p.slots e)

pub data Which (p : Place) (e : Entry Written) (j a b : ℕ) : Type 0 where
  in_data : j < length (data_of (carried e)) → a ≡ data_at p + j → b ≡ get_or (data_of (carried e)) j 0 → Which p e j a b
  in_code : (i : ℕ) → j ≡ length (data_of (carried e)) + i → i < length (code p e) → a ≡ code_at p + i → b ≡ get_or (code p e) i 0 → Which p e j a b
  closing : j ≡ length (data_of (carried e)) + length (code p e) → a ≡ 4096 * p.segment + 3584 → b ≡ suc p.entries → Which p e j a b

stores-length : (a : ℕ) (v : List ℕ) → length (stores_from a v) ≡ length v
unfolding stores_from
stores-length a [] = refl
stores-length a (b ∷ v) = ap suc (stores-length (suc a) v)

stores_at : (a : ℕ) (v : List ℕ) (j : ℕ) → j < length v → ((get_or (stores_from a v) j (0, 0)).0 ≡ a + j) × ((get_or (stores_from a v) j (0, 0)).1 ≡ get_or v j 0)
unfolding stores_from
stores_at a [] j h = absurd (omega arith)
stores_at a (b ∷ v) zero h = (omega arith, refl)
stores_at a (b ∷ v) (suc j) h = let s = stores_at (suc a) v j (omega arith) in (s.0 ∙ (let q : suc a + j ≡ a + suc j = omega arith in q), s.1)

pub entry-stores-length : (p : Place) (e : Entry Written) → length (entry_stores p e) ≡ suc (length (data_of (carried e)) + length (code p e))
unfolding entry_stores
entry-stores-length p e =
    length-append (stores_from (data_at p) (data_of (carried e)) ++ stores_from (code_at p) (code p e)) ((4096 * p.segment + 3584, suc p.entries) ∷ [])
    ∙ omega (arith, length-append (stores_from (data_at p) (data_of (carried e))) (stores_from (code_at p) (code p e)), stores-length (data_at p) (data_of (carried e)), stores-length (code_at p) (code p e))

abbrev pub store_of : Place → Entry Written → ℕ → Store
store_of p e j = get_or (entry_stores p e) j (0, 0)

pub which : (p : Place) (e : Entry Written) (j : ℕ) → j < length (entry_stores p e) → Which p e j (store_of p e j).0 (store_of p e j).1
unfolding entry_stores
which p e j h = go (dec_lt j (length ds)) (dec_lt j (length ds + length cs))
  where
    ds : List ℕ
    ds = data_of (carried e)

    cs : List ℕ
    cs = code p e

    x : List Store
    x = stores_from (data_at p) ds

    y : List Store
    y = stores_from (code_at p) cs

    nx : length x ≡ length ds
    nx = stores-length (data_at p) ds

    ny : length y ≡ length cs
    ny = stores-length (code_at p) cs

    z : List Store
    z = (4096 * p.segment + 3584, suc p.entries) ∷ []

    nxy : length (x ++ y) ≡ length ds + length cs
    nxy = length-append x y ∙ omega (arith, nx, ny)

    go : Dec (j < length ds) → Dec (j < length ds + length cs) → Which p e j (store_of p e j).0 (store_of p e j).1
    go (yes l) d =
        let q : get_or (x ++ y ++ z) j (0, 0) ≡ get_or x j (0, 0) = get_or-append (x ++ y) z (0, 0) j (omega (arith, nx, ny, nxy)) ∙ get_or-append x y (0, 0) j (omega (arith, nx, ny, nxy)) in
        in_data l (ap (λ (s : Store). s.0) q ∙ (stores_at (data_at p) ds j l).0) (ap (λ (s : Store). s.1) q ∙ (stores_at (data_at p) ds j l).1)
    go (no n) (yes l) =
        let i = j - length ds in
        let q : get_or (x ++ y ++ z) j (0, 0) ≡ get_or y i (0, 0) =
        get_or-append (x ++ y) z (0, 0) j (omega (arith, nx, ny, nxy))
        ∙ ap (λ (m : ℕ). get_or (x ++ y) m (0, 0)) (let r : j ≡ length x + i = omega (arith, nx, ny, nxy) in r)
        ∙ get_or-append-add x y i (0, 0) in
        in_code i (omega (arith, nx, ny, nxy)) (omega (arith, nx, ny, nxy)) (ap (λ (s : Store). s.0) q ∙ (stores_at (code_at p) cs i (omega (arith, nx, ny, nxy))).0) (ap (λ (s : Store). s.1) q ∙ (stores_at (code_at p) cs i (omega (arith, nx, ny, nxy))).1)
    go (no n) (no m) =
        let q : get_or (x ++ y ++ z) j (0, 0) ≡ get_or z 0 (0, 0) =
        ap (λ (k : ℕ). get_or (x ++ y ++ z) k (0, 0)) (let r : j ≡ length (x ++ y) + 0 = omega (arith, nx, ny, nxy, length-append (x ++ y) z) in r)
        ∙ get_or-append-add (x ++ y) z 0 (0, 0) in
        closing (omega (arith, nx, ny, nxy, length-append (x ++ y) z)) (ap (λ (s : Store). s.0) q) (ap (λ (s : Store). s.1) q)
