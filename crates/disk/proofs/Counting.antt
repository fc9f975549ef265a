-- The conflict counts: what each call makes of them.
use mathlib.Core.Path.{◌≡◌, refl, sym, ap, ◌∙◌}
use mathlib.Core.Bool.{Bool, true, false, ◌&&◌, cond}
use mathlib.Core.Option.{Option, none, some, some-injective}
use mathlib.Core.List.{List}
use Prim.Native.Nat.{ℕ, zero, suc, ◌+◌, ◌-◌, ◌≤◌, min}
use native.Mathlib.Omega.{arith}
use native.Mathlib.Decide.{ℕ_discrete}
use lib.Dec.{leb, eqb, eqb-suc-zero}
use lib.ListN.{length, get_or, set}
use lib.Seq.{get_or-set_same, get_or-set_other}
use Rattle.lists.specs.Change.{Change}
use Rattle.lists.specs.State.{Row}
use Rattle.lists.proofs.Basic.{and-true, leb-true, eqb_same, eqb-false, eqb-true, get_or-same}
use Rattle.card_log.specs.Card.{Written}
use Rattle.disk.specs.Record.{blank_record, fresh_record, count_of, with_listed}
use Rattle.disk.specs.Disk.{Disk, unit_of, journal_of, committed, listing}
use Rattle.disk.specs.Call.{Call, format, mount, conflict_count, on_stream, in_view, begin, end, flush, ends, resets}
use Rattle.disk.specs.Questions.{questions, refusal}
use Rattle.disk.specs.Perform.{enqueue, journal_add, change, hold, relisted, noted, made, number_given, change_for, opening, closing, conflicted, unit_entries, after_flush, accepted, refused, perform}
use Rattle.disk.specs.Statements.{count_after, CountsMove}
use Rattle.disk.proofs.Held.{noted-by}
use Rattle.disk.proofs.Clauses.{right, open-window}
use Rattle.disk.proofs.Performing.{perform-accepted, perform-refused, accepted-code, refusal-code}
use Rattle.disk.proofs.Questions.{past, twelve-end, unit-range}
use Rattle.disk.proofs.Queue.{beside-all}

abbrev counts : Disk → List ℕ
counts d = d.rec.tally.conflicts

-- A change on a stream.
change-counts : (s : ℕ) (c : Change Written) (d : Disk) → counts (change s c d) ≡ counts d
unfolding change enqueue journal_add
change-counts zero c d = refl
change-counts (suc u) c d = refl

hold-counts : (s b : ℕ) (d : Disk) → counts (hold s b d) ≡ counts d
unfolding hold
hold-counts zero b d = refl
hold-counts (suc u) b d = refl

noted-counts : (s : ℕ) (c : Change Written) (rs : List (Row Written)) (d : Disk) → counts (noted s c rs d) ≡ counts d
unfolding relisted with_listed
noted-counts s c rs d = noted-by (λ e. counts e ≡ counts d) s (λ n e p. hold-counts s n e ∙ p) (λ fs e p. p) c rs d refl

made-counts : (s : ℕ) (c : Change Written) (d : Disk) → counts (made s c d) ≡ counts d
unfolding made
made-counts s c d = noted-counts s c (committed d).lists (change s c d) ∙ change-counts s c d

-- An accepted call: the counts stay, but where it sets the record anew.
accepted-counts : (c : Call) (d : Disk) → counts (accepted c d).disk ≡ cond (resets c) blank_record.tally.conflicts (counts d)
unfolding accepted resets opening closing relisted with_listed fresh_record after_flush
accepted-counts format d = refl
accepted-counts mount d = refl
accepted-counts (conflict_count w) d = refl
accepted-counts (on_stream s e) d = made-counts s (change_for e (number_given e d)) d
accepted-counts (in_view v k) d = refl
accepted-counts (begin u w) d = refl
accepted-counts (end u) d = (beside-all (unit_entries (journal_of d u)) d).conflicts
accepted-counts (flush a) d = refl

at-window : (w : ℕ) {xs ys : List ℕ} → xs ≡ ys → get_or xs (w - 1) 0 ≡ get_or ys (w - 1) 0
at-window w e = ap (λ (xs : List ℕ). get_or xs (w - 1) 0) e

accepted-moves : (c : Call) (d : Disk) (w : ℕ) → count_of (accepted c d).disk.rec w ≡ count_after c 0 d w
unfolding count_after blank_record
accepted-moves c d w = at-window w (accepted-counts c d) ∙ go (resets c) (ends c)
  where
    go : (r : Bool) (o : Option ℕ)
        → get_or (cond r blank_record.tally.conflicts (counts d)) (w - 1) 0
        ≡ cond (r && true) 0 (elim o as (λ x. ℕ) [ none ↦ count_of d.rec w | some u ↦ cond (eqb 0 12 && eqb (unit_of d u).window w) (min 65535 (count_of d.rec w + 1)) (count_of d.rec w) ])
    go true o = get_or-same 16 (w - 1) 0
    go false none = refl
    go false (some u) = refl

-- An End refused 12 is of an open unit, whose window is one of the sixteen; the counts are sixteen.
module _ (u : ℕ) (d : Disk) (h : refusal (end u) d ≡ 12) where
  window-named : (1 ≤ (unit_of d u).window) × ((unit_of d u).window ≤ 16) × (length (counts d) ≡ 16)
  unfolding refusal questions
  window-named =
      let y = past 3 (questions (end u) d) 12 (omega arith) h in
      let (p, q, o) = unit-range d u (y 2 (omega arith)) in
      let k = right d (y 0 (omega arith)) (y 1 (omega arith)) in
      (open-window (unit_of d u).window o, (k.units.units u p q).window, k.conflicts)

  raised : (w : ℕ) → 1 ≤ w → count_of (conflicted (unit_of d u).window (closing u (listing d) d)).rec w
      ≡ cond (eqb (unit_of d u).window w) (min 65535 (count_of d.rec w + 1)) (count_of d.rec w)
  unfolding conflicted closing relisted with_listed
  raised w a = go (ℕ_discrete (unit_of d u).window w)
    where
      go : Dec ((unit_of d u).window ≡ w)
          → get_or (set (counts d) ((unit_of d u).window - 1) (min 65535 (get_or (counts d) ((unit_of d u).window - 1) 0 + 1))) (w - 1) 0
          ≡ cond (eqb (unit_of d u).window w) (min 65535 (count_of d.rec w + 1)) (count_of d.rec w)
      go (yes e) = rw (e, eqb_same w) (get_or-set_same (counts d) (w - 1) _ 0 (omega (arith, window-named, e)))
      go (no n) = rw (eqb-false (unit_of d u).window w n) (get_or-set_other (counts d) ((unit_of d u).window - 1) (w - 1) _ 0 (omega (arith, window-named)))

refused-moves : (c : Call) (d : Disk) (m w : ℕ) → 1 ≤ w → refusal c d ≡ suc m → count_of (refused c (suc m) d).rec w ≡ count_after c (suc m) d w
unfolding refused count_after ends
refused-moves c d m w a h = go (ends c) refl (eqb (suc m) 12) refl
  where
    -- only an End is refused 12
    conflict : (u : ℕ) → ends c ≡ some u → eqb (suc m) 12 ≡ true
        → count_of (conflicted (unit_of d u).window (closing u (listing d) d)).rec w ≡ cond (eqb (unit_of d u).window w) (min 65535 (count_of d.rec w + 1)) (count_of d.rec w)
    conflict u e f =
        let t : refusal c d ≡ 12 = h ∙ eqb-true (suc m) 12 f in
        let (v, g) = twelve-end c d t in
        let k : v ≡ u = some-injective v u (sym (ap ends g) ∙ e) in
        raised u d (rw (← k) (sym (ap (λ (x : Call). refusal x d) g) ∙ t)) w a

    at_once : (r : Bool) (x : ℕ) → cond (r && eqb (suc m) 0) 0 x ≡ x
    at_once true x = rw (eqb-suc-zero m)
    at_once false x = refl

    go : (o : Option ℕ) → ends c ≡ o → (t : Bool) → eqb (suc m) 12 ≡ t → count_of (refused c (suc m) d).rec w ≡ count_after c (suc m) d w
    go none e t f = rw (e, refused, count_after) (sym (at_once (resets c) _))
    go (some u) e true f = rw (e, refused, count_after) (rw (f, refused, count_after) (conflict u e f ∙ sym (at_once (resets c) _)))
    go (some u) e false f = rw (e, refused, count_after) (rw (f, refused, count_after) (sym (at_once (resets c) _)))

pub counts_move : CountsMove
counts_move c d w i = go (refusal c d) refl
  where
    first : 1 ≤ w
    first = leb-true 1 w (and-true (leb 1 w) (leb w 16) i).0

    go : (n : ℕ) → refusal c d ≡ n → count_of (perform c d).disk.rec w ≡ count_after c (perform c d).answer.code d w
    go zero h = rw (perform-accepted c d h) (rw (accepted-code c d) (accepted-moves c d w))
    go (suc m) h = rw (perform-refused c d m h) (rw (refusal-code (suc m) d) (refused-moves c d m w first h))
