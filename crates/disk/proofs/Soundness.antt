-- "Every accepted call, and refusal 12, leaves a record that is sound by question 3; this is proved.": `leaves-sound`, on any card, record and data.
-- So a sound disk stays sound whatever is called (`stays-sound`), and on a sound disk no call is refused 1, 2 or 3 (`never-refused`).
use mathlib.Core.Path.{◌≡◌, refl, sym, ap, ◌∙◌, subst}
use mathlib.Core.Logic.{◌⊎◌, inl, inr, ◌≢◌}
use mathlib.Core.Bool.{Bool, true, false, ◌||◌}
use mathlib.Core.Option.{Option, none, some}
use mathlib.Core.List.{List, [], ◌∷◌}
use Prim.Native.Nat.{ℕ, zero, suc, ◌≤◌}
use native.Mathlib.Decide.{ℕ_discrete}
use native.Mathlib.Omega.{arith}
use lib.Dec.{leb, ltb}
use Rattle.lists.specs.Basic.{all}
use Rattle.lists.proofs.Basic.{and-true, eqb-false, leb-true, le-true, ltb-true, all-each, bind-some, is-some}
use Rattle.card_log.specs.Reader.{replay}
use Rattle.card_log.specs.Card.{mounted}
use Rattle.disk.specs.Disk.{Disk, queued, reader_of, committed_reader, view, committed}
use Rattle.disk.specs.Sound.{lengths_right, record_sound}
use Rattle.disk.specs.Call.{Call, format, mount, conflict_count, on_stream, in_view, begin, end, flush, ends}
use Rattle.disk.specs.Questions.{mountable, questions, ask, first_no, refusal}
use Rattle.disk.specs.Perform.{accepted, refused, perform, perform_all}
use Rattle.disk.specs.Statements.{LeavesSound}
use Rattle.disk.proofs.Order.{Behind, edit-behind, look-behind, rising-above}
use Rattle.disk.proofs.Questions.{test, yes-all, twelve-end}
use Rattle.disk.proofs.Clauses.{Right, right, right-sound, right-lengths, OrderRight, committed-is}
use Rattle.disk.proofs.AcceptedOrder.{accepted-order, conflict-order}
use Rattle.disk.proofs.KeepsSound.{edit-right, begin-right, conflict-right, end-right, mount-right, format-right}
use Rattle.disk.proofs.Draining.{flush-right}
use Rattle.disk.proofs.Performing.{perform-accepted, perform-refused}

-- a call that changes nothing, and whose first two questions are 1 and 3
looked : (c : Call) (d : Disk) → refusal c d ≡ 0 → test (questions c d) 0 ≡ lengths_right d → test (questions c d) 1 ≡ record_sound d → Right d
looked c d h p q = right d (sym p ∙ yes-all c d h 0) (sym q ∙ yes-all c d h 1)

accepted-right : (c : Call) (d : Disk) → refusal c d ≡ 0 → Right (accepted c d).disk
unfolding questions accepted
accepted-right format d h = format-right d h
accepted-right mount d h = mount-right d h
accepted-right (conflict_count w) d h = looked (conflict_count w) d h refl refl
accepted-right (on_stream s e) d h = edit-right s e d h
accepted-right (in_view v k) d h = looked (in_view v k) d h refl refl
accepted-right (begin u w) d h = begin-right u w d h
accepted-right (end u) d h = end-right u d h
accepted-right (flush a) d h = flush-right a d h

twelve-right : (c : Call) (d : Disk) → refusal c d ≡ 12 → Right (refused c 12 d)
twelve-right c d h =
    let (u, e) = twelve-end c d h in
    subst (λ (x : Call). Right (refused x 12 d)) (sym e) (conflict-right u d (sym (ap (λ (x : Call). refusal x d) e) ∙ h))

leaves-right : (c : Call) (d : Disk) → (refusal c d ≡ 0) ⊎ (refusal c d ≡ 12) → Right (perform c d).disk
leaves-right c d (inl h) = rw (perform-accepted c d h) (accepted-right c d h)
leaves-right c d (inr h) = rw (perform-refused c d 11 h) (twelve-right c d h)

-- "Beyond refusal 12's closing, a refusal changes nothing."
pub refused-same : (c : Call) (n : ℕ) (d : Disk) → n ≢ 12 → refused c n d ≡ d
unfolding refused
refused-same c n d h = go (ends c) refl
  where
    go : (o : Option ℕ) → ends c ≡ o → refused c n d ≡ d
    go none e = rw (e, refused)
    go (some u) e = rw (e, refused) (rw (eqb-false n 12 h, refused))

stays-right : (c : Call) (d : Disk) → Right d → Right (perform c d).disk
stays-right c d r = go (refusal c d) refl
  where
    twelve : (n : ℕ) → refusal c d ≡ suc n → Dec (suc n ≡ 12) → Right (perform c d).disk
    twelve n e (yes q) = leaves-right c d (inr (e ∙ q))
    twelve n e (no q) = rw (perform-refused c d n e) (rw (refused-same c (suc n) d q) r)

    go : (n : ℕ) → refusal c d ≡ n → Right (perform c d).disk
    go zero e = leaves-right c d (inl e)
    go (suc n) e = twelve n e (ℕ_discrete (suc n) 12)

-- Questions 1, 2 and 3 on a sound disk: each question has a number from 4 on, or is answered yes.
late : ℕ × Bool → Bool
late q = leb 4 q.0 || q.1

ask-late : (b : Bool) (n k : ℕ) → leb 4 n || b ≡ true → (k ≡ 0) ⊎ (4 ≤ k) → (ask b n k ≡ 0) ⊎ (4 ≤ ask b n k)
unfolding ask
ask-late true n k h l = l
ask-late false n k h l = inr (leb-true 4 n (or-false (leb 4 n) h))
  where
    or-false : (b : Bool) → b || false ≡ true → b ≡ true
    or-false true h = refl
    or-false false h = h

first-late : (qs : List (ℕ × Bool)) → all late qs ≡ true → (first_no qs ≡ 0) ⊎ (4 ≤ first_no qs)
unfolding first_no all late
first-late [] h = inl refl
first-late (q ∷ qs) h = let (a, b) = and-true (late q) (all late qs) h in ask-late q.1 q.0 (first_no qs) a (first-late qs b)

behind-late : {qs : List (ℕ × Bool)} → Behind qs → all late qs ≡ true
unfolding late
behind-late {qs} b = all-each (λ q. ltb 4 q.0) late qs (λ q h. let l = ltb-true 4 q.0 h in rw (le-true 4 q.0 (omega arith))) (rising-above 4 4 qs (omega arith) b.rises)

questions-late : (c : Call) (d : Disk) → lengths_right d ≡ true → record_sound d ≡ true → mountable d ≡ true → all late (questions c d) ≡ true
unfolding questions all late
questions-late format d l s m = rw l
questions-late mount d l s m = rw (l, m)
questions-late (conflict_count w) d l s m = rw (l, s)
questions-late (on_stream t e) d l s m = rw (l, s) (behind-late (edit-behind t e d))
questions-late (in_view v k) d l s m = rw (l, s) (behind-late (look-behind k (view d v).lists))
questions-late (begin u w) d l s m = rw (l, s)
questions-late (end u) d l s m = rw (l, s)
questions-late (flush a) d l s m = rw (l, s)

mounts : (d : Disk) → Right d → mountable d ≡ true
unfolding mountable committed_reader
mounts d k =
    let (r, p, u) = bind-some (reader_of (mounted d.card)) (λ r. replay r (queued d)) k.reader k.log.replays in
    is-some (reader_of (mounted d.card)) r p

leaves-order : (c : Call) (d : Disk) → (refusal c d ≡ 0) ⊎ (refusal c d ≡ 12) → OrderRight (perform c d).disk (committed (perform c d).disk)
leaves-order c d (inl h) = rw (perform-accepted c d h) (accepted-order c d h)
leaves-order c d (inr h) =
    let (u, e) = twelve-end c d h in
    rw (perform-refused c d 11 h)
    (subst (λ (x : Call). OrderRight (refused x 12 d) (committed (refused x 12 d))) (sym e) (conflict-order u d (sym (ap (λ (x : Call). refusal x d) e) ∙ h)))

leaves_all : (c : Call) (d : Disk) → (refusal c d ≡ 0) ⊎ (refusal c d ≡ 12) → record_sound (perform c d).disk ≡ true
leaves_all c d h =
    let k = leaves-right c d h in
    right-sound (perform c d).disk k (subst (OrderRight (perform c d).disk) (committed-is (perform c d).disk k.reader k.log.replays) (leaves-order c d h))

-- What is claimed. Every accepted call, and refusal 12, leaves a sound record, from any disk.
pub leaves-sound : LeavesSound
leaves-sound c d h = let k = leaves-right c d h in (right-lengths (perform c d).disk k, leaves_all c d h)

-- A sound disk stays sound whatever is called.
pub stays-sound : (cs : List Call) (d : Disk) → lengths_right d ≡ true → record_sound d ≡ true
    → (lengths_right (perform_all cs d) ≡ true) × (record_sound (perform_all cs d) ≡ true)
unfolding perform_all
stays-sound [] d l r = (l, r)
stays-sound (c ∷ cs) d l r = stays-sound cs (perform c d).disk (right-lengths (perform c d).disk (stays-right c d (right d l r))) (go (refusal c d) refl)
  where
    go : (n : ℕ) → refusal c d ≡ n → record_sound (perform c d).disk ≡ true
    go zero e = leaves_all c d (inl e)
    go (suc n) e = twelve (ℕ_discrete (suc n) 12)
      where
        twelve : Dec (suc n ≡ 12) → record_sound (perform c d).disk ≡ true
        twelve (yes q) = leaves_all c d (inr (e ∙ q))
        twelve (no q) = rw (perform-refused c d n e) (rw (refused-same c (suc n) d q) r)

-- On a sound disk no call is refused 1, 2 or 3.
pub never-refused : (c : Call) (d : Disk) → lengths_right d ≡ true → record_sound d ≡ true → (refusal c d ≡ 0) ⊎ (4 ≤ refusal c d)
unfolding refusal
never-refused c d l s = first-late (questions c d) (questions-late c d l s (mounts d (right d l s)))

-- Nor on a disk that any accepted call or refusal 12 left, whatever calls came since: so not after a mounting or a formatting.
pub never-after : (b : Call) (d : Disk) (cs : List Call) (c : Call) → (refusal b d ≡ 0) ⊎ (refusal b d ≡ 12)
    → let e = perform_all cs (perform b d).disk in (refusal c e ≡ 0) ⊎ (4 ≤ refusal c e)
never-after b d cs c h =
    let (l, s) = leaves-sound b d h in
    let (m, t) = stays-sound cs (perform b d).disk l s in
    never-refused c (perform_all cs (perform b d).disk) m t
