-- Data buffers of 256 bytes a place: what a place holds after bytes were put into one of them.
use mathlib.Core.Path.{◌≡◌, refl, sym, ◌∙◌}
use mathlib.Core.Logic.{◌⊎◌, inl, inr, ◌≢◌}
use mathlib.Core.Option.{Option, none, some}
use mathlib.Core.List.{List, ◌++◌}
use Prim.Native.Nat.{ℕ, ◌+◌, ◌-◌, ◌*◌, ◌≤◌, ◌<◌}
use native.Mathlib.Omega.{arith}
use native.Mathlib.Decide.{dec_lt}
use lib.ListN.{length, drop, take, get_or, length-append, length-drop, get_or-append}
use lib.Seq.{get_or-take, get_or-drop, get_or-append-add, length-take-le}
use Rattle.card_log.specs.Card.{Content, Written, slot, splice}
use Rattle.card_log.proofs.Segment.{Sized}
use Rattle.card_log.proofs.Slot.{Stands, same-get_or, length-slot, get_or-slot, slot-stands}
use Rattle.disk.specs.Perform.{splice_some}

-- Bytes put into a buffer.
pub length-splice : (l : List ℕ) (i : ℕ) (v : List ℕ) → i + length v ≤ length l → length (splice l i v) ≡ length l
unfolding splice
length-splice l i v h =
    length-append (take i l ++ v) (drop (i + length v) l)
    ∙ omega (arith, length-append (take i l) v, length-take-le i l (omega arith), length-drop (i + length v) l)

splice-same : (l : List ℕ) (i : ℕ) (v : List ℕ) → i + length v ≤ length l → Stands (splice l i v) i v
unfolding splice
splice-same l i v h j k =
    let n : length (take i l) ≡ i = length-take-le i l (omega arith) in
    get_or-append (take i l ++ v) (drop (i + length v) l) 0 (i + j) (omega (arith, length-append (take i l) v))
    ∙ same-get_or (take i l ++ v) (i + j) (length (take i l) + j) (omega arith)
    ∙ get_or-append-add (take i l) v j 0

splice-other : (l : List ℕ) (i : ℕ) (v : List ℕ) (k : ℕ) → i + length v ≤ length l → (k < i) ⊎ (i + length v ≤ k)
    → get_or (splice l i v) k 0 ≡ get_or l k 0
unfolding splice
splice-other l i v k h (inl b) =
    let n : length (take i l) ≡ i = length-take-le i l (omega arith) in
    get_or-append (take i l ++ v) (drop (i + length v) l) 0 k (omega (arith, length-append (take i l) v))
    ∙ get_or-append (take i l) v 0 k (omega arith) ∙ get_or-take i l k 0 b
splice-other l i v k h (inr b) =
    let n : length (take i l ++ v) ≡ i + length v = length-append (take i l) v ∙ omega (arith, length-take-le i l (omega arith)) in
    same-get_or ((take i l ++ v) ++ drop (i + length v) l) k (length (take i l ++ v) + (k - (i + length v))) (omega arith)
    ∙ get_or-append-add (take i l ++ v) (drop (i + length v) l) (k - (i + length v)) 0
    ∙ get_or-drop (i + length v) l (k - (i + length v)) 0
    ∙ same-get_or l (i + length v + (k - (i + length v))) k (omega arith)

pub slot_same : (l : List ℕ) (i : ℕ) (v : List ℕ) → length v ≡ 256 → 256 * i + 256 ≤ length l → slot (splice l (256 * i) v) i ≡ v
slot_same l i v z h =
    slot-stands (splice l (256 * i) v) i v z (omega (arith, length-splice l (256 * i) v (omega arith))) (splice-same l (256 * i) v (omega arith))

pub slot-other : (l : List ℕ) (i j : ℕ) (v : List ℕ) → length v ≡ 256 → 256 * i + 256 ≤ length l → 256 * j + 256 ≤ length l → i ≢ j
    → slot (splice l (256 * i) v) j ≡ slot l j
slot-other l i j v z h m d =
    slot-stands (splice l (256 * i) v) j (slot l j) (length-slot l j m) (omega (arith, length-splice l (256 * i) v (omega arith)))
    (λ k o. let o' : k < 256 = omega (arith, length-slot l j m) in
    splice-other l (256 * i) v (256 * j + k) (omega arith) (side k o' (dec_lt j i)) ∙ sym (get_or-slot l j k o'))
  where
    side : (k : ℕ) → k < 256 → Dec (j < i) → (256 * j + k < 256 * i) ⊎ (256 * i + length v ≤ 256 * j + k)
    side k o (yes b) = inl (omega arith)
    side k o (no b) = inr (omega arith)

-- Data put in, if there is any.
abbrev pub FillsWith : Content → Option Written → Type 0
FillsWith x none = Unit {0}
FillsWith x (some d) = x ≡ d.body

pub length-spliced : (l : List ℕ) (i : ℕ) (o : Option Written) → i + 256 ≤ length l → Sized o → length (splice_some l i o) ≡ length l
unfolding splice_some
length-spliced l i none h z = refl
length-spliced l i (some v) h z = length-splice l i v.body (omega arith)

pub filled-place : (l : List ℕ) (i : ℕ) (o : Option Written) → 256 * i + 256 ≤ length l → Sized o → FillsWith (slot (splice_some l (256 * i) o) i) o
unfolding splice_some
filled-place l i none h z = tt
filled-place l i (some d) h z = slot_same l i d.body z h

pub other_place : (l : List ℕ) (i j : ℕ) (o : Option Written) → 256 * i + 256 ≤ length l → 256 * j + 256 ≤ length l → Sized o → i ≢ j
    → slot (splice_some l (256 * i) o) j ≡ slot l j
unfolding splice_some
other_place l i j none h m z d = refl
other_place l i j (some v) h m z d = slot-other l i j v.body z h m d
