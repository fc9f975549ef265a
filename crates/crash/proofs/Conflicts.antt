-- The counts and the open units' windows are told by the calls and their answers, event by event, while no mounting is due.
use mathlib.Core.Path.{◌≡◌, refl, sym, ap, ◌∙◌}
use mathlib.Core.Logic.{◌⊎◌, inl, inr, ⊎_elim}
use mathlib.Core.Bool.{Bool, true, false, ◌&&◌, ◌||◌, not, cond, and-false, true≢false}
use mathlib.Core.Option.{Option, none, some, some-injective}
use mathlib.Core.List.{List, [], ◌∷◌}
use Prim.Native.Nat.{ℕ, zero, suc, ◌+◌, ◌≤◌, min}
use native.Mathlib.Omega.{arith}
use native.Mathlib.Decide.{ℕ_discrete}
use lib.Dec.{eqb}
use Rattle.lists.proofs.Basic.{and-true, eqb_same, eqb-false, eqb-true}
use Rattle.disk.specs.Record.{count_of}
use Rattle.disk.specs.Disk.{Disk, unit_of}
use Rattle.disk.specs.Call.{Call, format, mount, conflict_count, on_stream, in_view, begin, end, flush, ends, resets}
use Rattle.disk.specs.Questions.{is_window, questions, refusal}
use Rattle.disk.specs.Perform.{perform}
use Rattle.disk.specs.Statements.{count_after}
use Rattle.disk.proofs.Clauses.{open-window}
use Rattle.disk.proofs.Questions.{past, twelve-end, unit-range}
use Rattle.disk.proofs.Performing.{perform-accepted, perform-refused, accepted-code, refusal-code}
use Rattle.disk.proofs.Counting.{counts_move}
use Rattle.disk.proofs.Windows.{Other, window-stays, window-begun, reset-closed}
use Rattle.crash.specs.Event.{Event, called, cut_between, cut_flush, cut_format, Parts, World, lend, give_back, lent_whole, is_accepted, step, may_happen}
use Rattle.crash.specs.Demand3.{Scene, scene_step, play, valid, begun}
use Rattle.crash.specs.Conflicts.{heard, heard_all, window_named, refused_ends, ConflictsByHistory}

abbrev Heard : Type 0
Heard = List (Call × ℕ)

record Counted (d : Disk) (xs : Heard) : Type 0 where
  counts : (n : ℕ) → is_window n ≡ true → count_of d.rec n ≡ min 65535 (refused_ends n xs)
  windows : (u : ℕ) → 1 ≤ u → 1 ≤ (unit_of d u).window → (unit_of d u).window ≡ window_named u xs

-- what a call answers is its refusal
code-refusal : (c : Call) (d : Disk) → (perform c d).answer.code ≡ refusal c d
code-refusal c d = go (refusal c d) refl
  where
    go : (n : ℕ) → refusal c d ≡ n → (perform c d).answer.code ≡ refusal c d
    go zero h = rw (perform-accepted c d h) (accepted-code c d ∙ sym h)
    go (suc m) h = rw (perform-refused c d m h) (refusal-code (suc m) d ∙ sym h)

-- An accepted mounting or formatting, whatever was before.
reset-zero : (c : Call) (d : Disk) (n : ℕ) → is_window n ≡ true → resets c ≡ true → refusal c d ≡ 0 → count_of (perform c d).disk.rec n ≡ 0
unfolding count_after
reset-zero c d n i r h = counts_move c d n i ∙ rw (code-refusal c d ∙ h) (rw (r, count_after))

reset-counted : (c : Call) (d : Disk) (xs : Heard) → resets c ≡ true → refusal c d ≡ 0 → Counted (perform c d).disk ((c, (perform c d).answer.code) ∷ xs)
unfolding refused_ends
reset-counted c d xs r h = record {
  counts = λ n i. reset-zero c d n i r h ∙ rw (code-refusal c d ∙ h) (rw (r, refused_ends));
  windows = λ u p o. absurd (omega (arith, reset-closed c d u r h));
}

-- What the last call says of unit u's window.
named-same : (c : Call) (d : Disk) (u : ℕ) (xs : Heard) → Other c d u → window_named u ((c, refusal c d) ∷ xs) ≡ window_named u xs
unfolding window_named
named-same format d u xs o = refl
named-same mount d u xs o = refl
named-same (conflict_count w) d u xs o = refl
named-same (on_stream s e) d u xs o = refl
named-same (in_view v k) d u xs o = refl
named-same (begin v w) d u xs o = go (ℕ_discrete v u) (ℕ_discrete (refusal (begin v w) d) 0)
  where
    go : Dec (v ≡ u) → Dec (refusal (begin v w) d ≡ 0) → cond (eqb (refusal (begin v w) d) 0 && eqb v u) w (window_named u xs) ≡ window_named u xs
    go (no n) y = rw (eqb-false v u n) (rw (and-false (eqb (refusal (begin v w) d) 0)))
    go (yes e) (no n) = rw (eqb-false (refusal (begin v w) d) 0 n)
    go (yes e) (yes h) = absurd (o e h)
named-same (end v) d u xs o = refl
named-same (flush a) d u xs o = refl

named-begun : (u w : ℕ) (d : Disk) (xs : Heard) → refusal (begin u w) d ≡ 0 → window_named u ((begin u w, refusal (begin u w) d) ∷ xs) ≡ w
unfolding window_named
named-begun u w d xs h = rw h (rw (eqb_same u))

decide : (c : Call) (d : Disk) (u : ℕ) → Other c d u ⊎ ((w : ℕ) × (c ≡ begin u w) × (refusal c d ≡ 0))
decide format d u = inl tt
decide mount d u = inl tt
decide (conflict_count w) d u = inl tt
decide (on_stream s e) d u = inl tt
decide (in_view v k) d u = inl tt
decide (begin v w) d u = go (ℕ_discrete v u) (ℕ_discrete (refusal (begin v w) d) 0)
  where
    go : Dec (v ≡ u) → Dec (refusal (begin v w) d ≡ 0) → Other (begin v w) d u ⊎ ((x : ℕ) × (begin v w ≡ begin u x) × (refusal (begin v w) d ≡ 0))
    go (no n) y = inl (λ e h. n e)
    go (yes e) (no n) = inl (λ f h. n h)
    go (yes e) (yes h) = inr (w, ap (λ (x : ℕ). begin x w) e, h)
decide (end v) d u = inl tt
decide (flush a) d u = inl tt

-- Any call, on a disk that was counted.
module _ (c : Call) (d : Disk) (xs : Heard) (k : Counted d xs) where
  -- an End refused 12 is of an open unit, whose window its Begin named
  blamed : (u : ℕ) → refusal (end u) d ≡ 12 → (unit_of d u).window ≡ window_named u xs
  unfolding refusal questions
  blamed u h =
      let (p, q, o) = unit-range d u (past 3 (questions (end u) d) 12 (omega arith) h 2 (omega arith)) in
      k.windows u p (open-window (unit_of d u).window o)

  ended : (u : ℕ) → ends c ≡ some u → refusal c d ≡ 12 → refusal (end u) d ≡ 12
  unfolding ends
  ended u e h =
      let (v, g) = twelve-end c d h in
      let m : v ≡ u = some-injective v u (sym (ap ends g) ∙ e) in
      rw (← m) (sym (ap (λ (x : Call). refusal x d) g) ∙ h)

  compare : (n m : ℕ) → is_window n ≡ true → refusal c d ≡ m → count_after c m d n ≡ min 65535 (refused_ends n ((c, m) ∷ xs))
  unfolding count_after refused_ends
  compare n m i h = go (resets c && eqb m 0) refl (ends c) refl (eqb m 12) refl
    where
      last : (b : Bool) → cond b (min 65535 (count_of d.rec n + 1)) (count_of d.rec n) ≡ min 65535 (cond b (refused_ends n xs + 1) (refused_ends n xs))
      last true = omega (arith, k.counts n i)
      last false = k.counts n i

      go : (r : Bool) → resets c && eqb m 0 ≡ r → (o : Option ℕ) → ends c ≡ o → (t : Bool) → eqb m 12 ≡ t → count_after c m d n ≡ min 65535 (refused_ends n ((c, m) ∷ xs))
      go true r o e t f = rw (r, count_after, refused_ends)
      go false r none e t f = rw (r, count_after, refused_ends) (rw (e, count_after, refused_ends) (k.counts n i))
      go false r (some u) e true f =
          rw (r, count_after, refused_ends) (rw (e, count_after, refused_ends) (rw f (rw (blamed u (ended u e (h ∙ eqb-true m 12 f))) (last (eqb (window_named u xs) n)))))
      go false r (some u) e false f = rw (r, count_after, refused_ends) (rw (e, count_after, refused_ends) (rw f (k.counts n i)))

  call-windows : (u : ℕ) → 1 ≤ u → 1 ≤ (unit_of (perform c d).disk u).window → (unit_of (perform c d).disk u).window ≡ window_named u ((c, refusal c d) ∷ xs)
  call-windows u p o = go (decide c d u)
    where
      go : Other c d u ⊎ ((w : ℕ) × (c ≡ begin u w) × (refusal c d ≡ 0)) → (unit_of (perform c d).disk u).window ≡ window_named u ((c, refusal c d) ∷ xs)
      go (inl x) =
          ⊎_elim (λ z. absurd (omega (arith, z, o))) (λ s. s ∙ k.windows u p (omega (arith, s, o)) ∙ sym (named-same c d u xs x)) (window-stays c d u p x)
      go (inr (w, e, h)) =
          let r : refusal (begin u w) d ≡ 0 = sym (ap (λ (x : Call). refusal x d) e) ∙ h in
          ap (λ (x : Call). (unit_of (perform x d).disk u).window) e ∙ window-begun u w d r ∙ sym (named-begun u w d xs r) ∙ sym (ap (λ (x : Call). window_named u ((x, refusal x d) ∷ xs)) e)

  call-counted : Counted (perform c d).disk ((c, (perform c d).answer.code) ∷ xs)
  call-counted =
      let q = code-refusal c d in
      record {
        counts = λ n i. counts_move c d n i ∙ rw q (compare n (refusal c d) i refl);
        windows = λ u p o. rw q (call-windows u p o);
      }

-- A disk with the same record.
counted_same : (d e : Disk) (xs : Heard) → e.rec ≡ d.rec → Counted d xs → Counted e xs
unfolding unit_of
counted_same d e xs r k = record {
  counts = λ n i. rw r (k.counts n i);
  windows = λ u p o. rw r (k.windows u p (rw r at o));
}

-- An event: a cut leaves a mounting due, and a call that happens then and is accepted is one, or a formatting.
abbrev Due : World → Heard → Type 0
Due w xs = w.down ≡ false → Counted w.disk xs

waking : (a l r : Bool) → true && not a ≡ false → not a || l && (not true || r) ≡ true → (a ≡ true) × (r ≡ true)
waking true l r e m = (refl, (and-true l r m).1)
waking false l r e m = absurd (true≢false e)

called-counted : (c : Call) (p : Parts) (w : World) (xs : Heard) → may_happen w (called c p) ≡ true → Due w xs → Due (step w (called c p)) (heard w (called c p) xs)
unfolding may_happen step heard lend give_back unit_of is_accepted
called-counted c p w xs m k e = counted_same (perform c x).disk (step w (called c p)).disk _ refl (go w.down refl)
  where
    x : Disk
    x = lend p w.disk

    go : (b : Bool) → w.down ≡ b → Counted (perform c x).disk ((c, (perform c x).answer.code) ∷ xs)
    go false f = call-counted c x xs (counted_same w.disk x xs refl (k f))
    go true f =
        let (a, r) = waking (is_accepted (perform c x).answer) (lent_whole p w.disk) (resets c) (rw f at e) (rw f at m) in
        reset-counted c x xs r (sym (code-refusal c x) ∙ eqb-true (perform c x).answer.code 0 a)

event-counted : (e : Event) (w : World) (xs : Heard) → may_happen w e ≡ true → Due w xs → Due (step w e) (heard w e xs)
unfolding step
event-counted (called c p) w xs m k = called-counted c p w xs m k
event-counted (cut_between x) w xs m k = λ e. absurd (true≢false e)
event-counted (cut_flush a n x) w xs m k = λ e. absurd (true≢false e)
event-counted (cut_format n x) w xs m k = λ e. absurd (true≢false e)

play-counted : (s : Scene) (es : List Event) (xs : Heard) → valid s es ≡ true → Due s.world xs → Due (play s es).world (heard_all s.world es xs)
unfolding play valid scene_step heard_all
play-counted s [] xs v k = k
play-counted s (e ∷ es) xs v k =
    let (m, n) = and-true (may_happen s.world e) (valid (scene_step s e) es) v in
    play-counted (scene_step s e) es (heard s.world e xs) n (event-counted e s.world xs m k)

start-counted : (d : Disk) → refusal format d ≡ 0 → Counted (perform format d).disk []
unfolding refused_ends resets
start-counted d h = record {
  counts = λ n i. reset-zero format d n i refl h;
  windows = λ u p o. absurd (omega (arith, reset-closed format d u refl h));
}

pub conflicts-by-history : ConflictsByHistory
unfolding begun
conflicts-by-history d h es v e n i = (play-counted (begun d) es [] v (λ z. start-counted d h) e).counts n i
