-- Two units that touch no list in common end in either order (`either_order`).
use mathlib.Core.Path.{◌≡◌, refl, sym, ap, ◌∙◌}
use mathlib.Core.Logic.{◌⊎◌, inl, inr, ◌≢◌}
use mathlib.Core.Bool.{Bool, true, false, false≢true}
use mathlib.Core.Option.{some, some-injective}
use mathlib.Core.List.{List, [], ◌∷◌}
use Prim.Native.Nat.{ℕ, ◌+◌, ◌≤◌}
use native.Mathlib.Omega.{arith}
use native.Mathlib.Decide.{ℕ_discrete}
use lib.Dec.{leb, eqb}
use Rattle.lists.specs.Basic.{any}
use Rattle.lists.specs.Change.{Change, take_list, put_first, put_after, write, del_block, del_list}
use Rattle.lists.specs.State.{State, placed, apply_all}
use Rattle.lists.specs.InUse.{in_use, brought}
use Rattle.lists.specs.Touched.{row_of}
use Rattle.lists.proofs.Basic.{and-true, or-both, leb-true, le-true, is-some}
use Rattle.lists.proofs.Count.{puts}
use Rattle.lists.proofs.Touching.{Unput, named-known, either_order as changes-either}
use Rattle.card_log.specs.Entry.{is_block}
use Rattle.card_log.specs.Card.{Written}
use Rattle.disk.specs.Record.{Unit, is_open, holder_of}
use Rattle.disk.specs.Disk.{Disk, unit_of, journal_of, committed, view}
use Rattle.disk.specs.Sound.{open_unit, is_open_unit}
use Rattle.disk.specs.Call.{end}
use Rattle.disk.specs.Questions.{stream_open, view_open, end_applies, queue_room, questions, first_no, ask, refusal}
use Rattle.disk.specs.TwoUnits.{EitherOrder}
use Rattle.disk.proofs.Questions.{yes-all, unit-range, queue-room}
use Rattle.disk.proofs.Clauses.{Right, right, committed-is, HolderRight}
use Rattle.disk.proofs.Held.{journals-apart}
use Rattle.disk.proofs.Ranges.{unplaced}
use Rattle.disk.proofs.Ended.{ended, ended-state, ended-unit, ended-journal, ended-length}
use Rattle.disk.proofs.Performing.{perform-accepted}
use Rattle.disk.proofs.Soundness.{leaves-sound}

-- a put brings its block into use
put-brought : (c : Change Written) (b : ℕ) → brought c b ≡ false → puts c b ≡ false
put-brought (take_list l) b h = refl
put-brought (put_first x l) b h = (or-both (eqb x b) false h).0
put-brought (put_after x l p) b h = (or-both (eqb x b) false h).0
put-brought (write x w) b h = refl
put-brought (del_block x) b h = refl
put-brought (del_list l) b h = refl

puts-brought : (cs : List (Change Written)) (b : ℕ) → any (λ c. brought c b) cs ≡ false → any (λ c. puts c b) cs ≡ false
puts-brought [] b h = refl
puts-brought (c ∷ cs) b h = let (x, y) = or-both (brought c b) _ h in rw (put-brought c b x, puts-brought cs b y)

-- What unit v's journal names, unit u's does not put: it would be held by u, and so be on no committed list and put by no other.
unput : (u v : ℕ) (d : Disk) (k : Right d) → u ≢ v → 1 ≤ u → u ≤ 4 → 1 ≤ v → v ≤ 4 → (t : State Written) → apply_all (journal_of d v) (committed d) ≡ some t
    → Unput (journal_of d u) (journal_of d v)
unfolding in_use stream_open view_open view
unput u v d k n p q p' q' t e b h = go (ℕ_discrete (holder_of d.rec b) u)
  where
    spared : (w : ℕ) → 1 ≤ w → w ≤ 4 → holder_of d.rec b ≢ w → any (λ c. puts c b) (journal_of d w) ≡ false
    spared w i j m = puts-brought (journal_of d w) b (journals-apart d.rec w (journal_of d w) b m (k.units.units w i j).sound)

    off : holder_of d.rec b ≡ u → placed b (committed d).lists ≡ false
    off w = at (is_block b) refl
      where
        free : b ≤ 64 → HolderRight d k.reader.state b → placed b (committed d).lists ≡ false
        free hi (inl z) = absurd (omega (arith, z, w))
        free hi (inr (o, z)) = ap (λ (s : State Written). placed b s.lists) (committed-is d k.reader k.log.replays) ∙ (rw (le-true b 64 hi) at z)

        at : (x : Bool) → is_block b ≡ x → placed b (committed d).lists ≡ false
        at false f = unplaced b f d k 0 refl
        at true f = let (i, j) = and-true (leb 1 b) (leb b 64) f in free (leb-true b 64 j) (k.units.holders b (leb-true 1 b i) (omega (arith, leb-true b 64 j)))

    unnamed : holder_of d.rec b ≡ u → (placed b (committed d).lists ≡ true) ⊎ (any (λ c. puts c b) (journal_of d v) ≡ true) → ⊥
    unnamed w (inl j) = false≢true (sym (off w) ∙ j)
    unnamed w (inr j) = false≢true (sym (spared v p' q' (λ z. n (sym w ∙ z))) ∙ j)

    go : Dec (holder_of d.rec b ≡ u) → any (λ c. puts c b) (journal_of d u) ≡ false
    go (yes w) = absurd (unnamed w (named-known (journal_of d v) (committed d) t b e h))
    go (no w) = spared u p q w

-- The second End is accepted, on the disk that the first leaves.
open_of : (u : ℕ) (d : Disk) → refusal (end u) d ≡ 0 → (1 ≤ u) × (u ≤ 4) × (is_open (unit_of d u) ≡ true)
unfolding questions
open_of u d h = unit-range d u (yes-all (end u) d h 2)

right_of : (u : ℕ) (d : Disk) → refusal (end u) d ≡ 0 → Right d
unfolding questions
right_of u d h = let y = yes-all (end u) d h in right d (y 0) (y 1)

still_open : (d e : Disk) (v : ℕ) → 1 ≤ v → v ≤ 4 → is_open (unit_of d v) ≡ true → unit_of e v ≡ unit_of d v → is_open_unit e v ≡ true
unfolding open_unit unit_of
still_open d e v p q o s = rw (le-true 1 v p, le-true v 4 q) (ap is_open s ∙ o)

applies-by : (d : Disk) (v : ℕ) (t : State Written) → apply_all (journal_of d v) (committed d) ≡ some t → end_applies d v ≡ true
unfolding end_applies
applies-by d v t e = is-some _ t e

room_by : (d : Disk) (n : ℕ) → d.rec.ring.len + n ≤ 32 → queue_room d n ≡ true
unfolding queue_room
room_by d n h = le-true _ 32 h

module _ (u v : ℕ) (d : Disk) (n : u ≢ v) (h : refusal (end u) d ≡ 0) (g : refusal (end v) d ≡ 0) where
  other-journal : journal_of (ended u d h) v ≡ journal_of d v
  other-journal = ended-journal u d h v (open_of u d h).0 (open_of v d g).0 n

  other-unit : unit_of (ended u d h) v ≡ unit_of d v
  other-unit = ended-unit u d h v (open_of u d h).0 (open_of v d g).0 n

  accepted-second : d.rec.ring.len + (((unit_of d u).len + 1) + ((unit_of d v).len + 1)) ≤ 32
      → (t : State Written) → apply_all (journal_of d v) (committed (ended u d h)) ≡ some t → refusal (end v) (ended u d h) ≡ 0
  unfolding refusal questions first_no ask
  accepted-second r t e =
      let (a, b) = rw (perform-accepted (end u) d h) at (leaves-sound (end u) d (inl h)) in
      let (p, q, o) = open_of v d g in
      rw (a, b, still_open d (ended u d h) v p q o other-unit, applies, room)
    where
      applies : end_applies (ended u d h) v ≡ true
      applies = applies-by (ended u d h) v t (ap (λ (cs : List (Change Written)). apply_all cs (committed (ended u d h))) other-journal ∙ e)

      room : queue_room (ended u d h) ((unit_of (ended u d h) v).len + 1) ≡ true
      room = room_by (ended u d h) _ (omega (arith, ended-length u d h, ap (λ (x : Unit). x.len) other-unit))

-- Either order.
pub either_order : EitherOrder
either_order u v d i =
    let h = i.first in
    let g = i.second in
    let n = i.other in
    let n' : v ≢ u = λ e. n (sym e) in
    let k = right_of u d h in
    let (p, q, _) = open_of u d h in
    let (p', q', _) = open_of v d g in
    let c = changes-either (journal_of d u) (journal_of d v) (committed d) (committed (ended u d h)) (committed (ended v d g)) (ended-state u d h) (ended-state v d g) i.apart
    (unput u v d k n p q p' q' (committed (ended v d g)) (ended-state v d g)) (unput v u d k n' p' q' p q (committed (ended u d h)) (ended-state u d h)) in
    let m = queue-room d (((unit_of d u).len + 1) + ((unit_of d v).len + 1)) i.room in
    let x = accepted-second u v d n h g m c.second c.acts-second in
    let y = accepted-second v u d n' g h (omega arith) c.first c.acts-first in
    let a : committed (ended v (ended u d h) x) ≡ c.second = some-injective _ _
    (sym (ended-state v (ended u d h) x) ∙ ap (λ (cs : List (Change Written)). apply_all cs (committed (ended u d h))) (other-journal u v d n h g) ∙ c.acts-second) in
    let b : committed (ended u (ended v d g) y) ≡ c.first = some-injective _ _
    (sym (ended-state u (ended v d g) y) ∙ ap (λ (cs : List (Change Written)). apply_all cs (committed (ended v d g))) (other-journal v u d n' g h) ∙ c.acts-first) in
    rw (perform-accepted (end u) d h, perform-accepted (end v) d g)
    (rw (perform-accepted (end v) (ended u d h) x, perform-accepted (end u) (ended v d g) y)
    (x, y, λ l. ap (λ (s : State Written). row_of l s.lists) a ∙ c.alike l ∙ ap (λ (s : State Written). row_of l s.lists) (sym b)))
