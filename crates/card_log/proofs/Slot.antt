-- Bytes that stand in a buffer from an offset on, and the buffer's slots.
use mathlib.Core.Path.{◌≡◌, sym, ap, ◌∙◌}
use mathlib.Core.Logic.{◌⊎◌, inl, inr}
use mathlib.Core.List.{List, [], ◌∷◌, ◌++◌}
use Prim.Native.Nat.{ℕ, suc, ◌+◌, ◌-◌, ◌*◌, ◌≤◌, ◌<◌}
use native.Mathlib.Omega.{arith}
use native.Mathlib.Decide.{dec_lt}
use lib.ListN.{length, drop, take, get_or, set, length-append, length-drop, get_or-append}
use lib.Seq.{drop-cons, get_or-set_other, get_or-take, get_or-drop, get_or-append-add, take_at, length-take-le}
use Rattle.card_log.specs.Card.{slot}

-- the bytes v stand in l from a on
abbrev pub Stands : List ℕ → ℕ → List ℕ → Type 0
Stands l a v = (j : ℕ) → j < length v → get_or l (a + j) 0 ≡ get_or v j 0

pub same-get_or : (l : List ℕ) (m n : ℕ) → m ≡ n → get_or l m 0 ≡ get_or l n 0
same-get_or l m n e = ap (λ (k : ℕ). get_or l k 0) e

pub same_drop : (l : List ℕ) (m n : ℕ) → m ≡ n → drop m l ≡ drop n l
same_drop l m n e = ap (λ (k : ℕ). drop k l) e

pub stands-other : (l : List ℕ) (a : ℕ) (v : List ℕ) (o b : ℕ) → (o < a) ⊎ (a + length v ≤ o) → Stands l a v → Stands (set l o b) a v
stands-other l a v o b (inl h) s j k = get_or-set_other l o (a + j) b 0 (omega arith) ∙ s j k
stands-other l a v o b (inr h) s j k = get_or-set_other l o (a + j) b 0 (omega arith) ∙ s j k

pub stands-append : (l : List ℕ) (a : ℕ) (v w : List ℕ) → Stands l a v → Stands l (a + length v) w → Stands l a (v ++ w)
stands-append l a v w s t j h = go (dec_lt j (length v))
  where
    go : Dec (j < length v) → get_or l (a + j) 0 ≡ get_or (v ++ w) j 0
    go (yes k) = s j k ∙ sym (get_or-append v w 0 j k)
    go (no n) =
        same-get_or l (a + j) (a + length v + (j - length v)) (omega arith)
        ∙ t (j - length v) (omega (arith, length-append v w))
        ∙ sym (get_or-append-add v w (j - length v) 0)
        ∙ ap (λ (m : ℕ). get_or (v ++ w) m 0) (let q : length v + (j - length v) ≡ j = omega arith in q)

pub stands-drop : (v : List ℕ) (l : List ℕ) (a : ℕ) → a + length v ≤ length l → Stands l a v → drop a l ≡ v ++ drop (a + length v) l
stands-drop [] l a h s = same_drop l a (a + 0) (omega arith)
stands-drop (x ∷ v) l a h s =
    drop-cons l a 0 (omega arith)
    ∙ ap (λ (y : ℕ). y ∷ drop (suc a) l) (same-get_or l a (a + 0) (omega arith) ∙ s 0 (omega arith))
    ∙ ap (λ (r : List ℕ). x ∷ r)
    (stands-drop v l (suc a) (omega arith) (λ j k. same-get_or l (suc a + j) (a + suc j) (omega arith) ∙ s (suc j) (omega arith))
    ∙ ap (λ (r : List ℕ). v ++ r) (same_drop l (suc a + length v) (a + suc (length v)) (omega arith)))

-- Slot k of a buffer.
pub length-slot : (l : List ℕ) (k : ℕ) → 256 * k + 256 ≤ length l → length (slot l k) ≡ 256
unfolding slot
length-slot l k h = length-take-le 256 (drop (256 * k) l) (omega (arith, length-drop (256 * k) l))

pub get_or-slot : (l : List ℕ) (k j : ℕ) → j < 256 → get_or (slot l k) j 0 ≡ get_or l (256 * k + j) 0
unfolding slot
get_or-slot l k j h = get_or-take 256 (drop (256 * k) l) j 0 h ∙ get_or-drop (256 * k) l j 0

pub slot-stands : (l : List ℕ) (k : ℕ) (v : List ℕ) → length v ≡ 256 → 256 * k + 256 ≤ length l → Stands l (256 * k) v → slot l k ≡ v
unfolding slot
slot-stands l k v z h s = ap (take 256) (stands-drop v l (256 * k) (omega arith) s) ∙ take_at v _ 256 z
