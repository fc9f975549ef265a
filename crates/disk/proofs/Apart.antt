-- Numbers stay held until their unit ends (`held-until-end`), and what comes in a unit shows in no other view (`unit-apart`).
use mathlib.Core.Path.{◌≡◌, refl, sym, ap, ◌∙◌}
use mathlib.Core.Logic.{◌≢◌}
use mathlib.Core.Bool.{Bool, true, false, true≢false}
use mathlib.Core.Option.{Option, none, some}
use mathlib.Core.List.{List}
use Prim.Native.Nat.{ℕ, zero, suc, ◌-◌}
use native.Mathlib.Omega.{arith}
use lib.Dec.{leb, eqb}
use lib.ListN.{length, get_or}
use Rattle.lists.specs.Change.{Change, take_list, put_first, put_after, write, del_block, del_list}
use Rattle.lists.specs.State.{Row, frees, overlay}
use Rattle.lists.specs.InUse.{list_number}
use Rattle.lists.proofs.Basic.{and-true, eqb_same, leb-true}
use Rattle.lists.proofs.InUse.{brought}
use Rattle.card_log.specs.Card.{Written, mounted}
use Rattle.card_log.proofs.Places.{plain-sized}
use Rattle.disk.specs.Record.{holder_of, with_listed}
use Rattle.disk.specs.Disk.{Disk, unit_of, queued, journal_of, reader_of, state_of, persistent, committed, view, listing}
use Rattle.disk.specs.Sound.{is_open_unit}
use Rattle.disk.specs.Call.{Edit, new_list, Call, format, mount, conflict_count, on_stream, in_view, begin, end, flush, ends, resets}
use Rattle.disk.specs.Questions.{stream_open, view_open, edit_questions, questions, refusal}
use Rattle.disk.specs.Perform.{Result, enqueue, enqueue_all, journal_add, change, hold, relisted, given, freed, noted, made, number_given, change_for, opening, closing, conflicted, unit_entries, after_flush, accepted, refused, perform}
use Rattle.disk.specs.Statements.{ListGiven, HeldUntilEnd, UnitApart, ConflictApart}
use Rattle.disk.proofs.Queue.{beside-all, queued-journal, queued-hold, queued-relisted, queued-closing, queued-conflicted, reader-same}
use Rattle.disk.proofs.Journal.{journal-other, journal-hold, journal-relisted, journal-closing-other, journal-conflicted}
use Rattle.disk.proofs.Questions.{yes-all, past, unit-range, open-range, journal-room}
use Rattle.disk.proofs.Given.{list-number}
use Rattle.disk.proofs.Clauses.{Right, right}
use Rattle.disk.proofs.Held.{closing-holder, hold-holder, hold-other, hold-card, noted-by}
use Rattle.disk.proofs.Changes.{Makes, edit-makes}
use Rattle.disk.proofs.Performing.{perform-accepted, perform-refused}

-- Holders.
change-table : (s : ℕ) (c : Change Written) (d : Disk) → (change s c d).rec.held.holder ≡ d.rec.held.holder
unfolding change enqueue journal_add
change-table zero c d = refl
change-table (suc u) c d = refl

change-holder : (s : ℕ) (c : Change Written) (d : Disk) (n : ℕ) → holder_of (change s c d).rec n ≡ holder_of d.rec n
change-holder s c d n = ap (λ (hs : List ℕ). get_or hs (n - 1) 0) (change-table s c d)

-- a number that is held stays so where free ones are given
freed-holder : (s : ℕ) (ns : List ℕ) (d : Disk) (n : ℕ) → holder_of (freed s ns d).rec n ≡ holder_of d.rec n
unfolding freed relisted with_listed
freed-holder zero ns d n = refl
freed-holder (suc u) ns d n = refl

noted-holder : (s : ℕ) (c : Change Written) (rs : List (Row Written)) (d : Disk) (n : ℕ) → holder_of d.rec n ≢ 0 → ((x : ℕ) → brought c x ≡ true → holder_of d.rec x ≡ 0)
    → holder_of (noted s c rs d).rec n ≡ holder_of d.rec n
unfolding noted given relisted with_listed
noted-holder s (take_list l) rs d n h f = hold-other s (list_number l) n d (f (list_number l) (rw (eqb_same (list_number l)))) h
noted-holder s (put_first b l) rs d n h f = hold-other s b n d (f b (rw (eqb_same b))) h
noted-holder s (put_after b l p) rs d n h f = hold-other s b n d (f b (rw (eqb_same b))) h
noted-holder s (write b x) rs d n h f = refl
noted-holder s (del_block b) rs d n h f = freed-holder s (frees (del_block b) rs) d n
noted-holder s (del_list l) rs d n h f = freed-holder s (frees (del_list l) rs) d n

edit-holder : (s : ℕ) (e : Edit) (d : Disk) (n : ℕ) → refusal (on_stream s e) d ≡ 0 → holder_of d.rec n ≢ 0 → holder_of (accepted (on_stream s e) d).disk.rec n ≡ holder_of d.rec n
unfolding accepted made
edit-holder s e d n h z =
    let c = change_for e (number_given e d) in
    let m = edit-makes s e d h in
    let same = change-holder s c d in
    noted-holder s c (committed d).lists (change s c d) n (λ q. z (sym (same n) ∙ q)) (λ x q. same x ∙ (m.free x q).0) ∙ same n

end-holder : (v : ℕ) (d : Disk) (n : ℕ) → holder_of d.rec n ≢ v → holder_of (accepted (end v) d).disk.rec n ≡ holder_of d.rec n
unfolding accepted
end-holder v d n h =
    let x = enqueue_all (unit_entries (journal_of d v)) d in
    let e : holder_of x.rec n ≡ holder_of d.rec n = rw (beside-all (unit_entries (journal_of d v)) d).holder in
    closing-holder v (overlay (journal_of d v) (listing d)) x n (λ q. h (sym e ∙ q)) ∙ e

accepted-holder : (c : Call) (d : Disk) (n : ℕ) → refusal c d ≡ 0 → holder_of d.rec n ≢ 0 → resets c ≡ false → ends c ≢ some (holder_of d.rec n)
    → holder_of (accepted c d).disk.rec n ≡ holder_of d.rec n
unfolding resets ends accepted opening after_flush
accepted-holder format d n h z r o = absurd (true≢false r)
accepted-holder mount d n h z r o = absurd (true≢false r)
accepted-holder (conflict_count w) d n h z r o = refl
accepted-holder (on_stream s e) d n h z r o = edit-holder s e d n h z
accepted-holder (in_view v k) d n h z r o = refl
accepted-holder (begin u w) d n h z r o = refl
accepted-holder (end u) d n h z r o = end-holder u d n (λ q. o (ap some (sym q)))
accepted-holder (flush a) d n h z r o = refl

refused-holder : (c : Call) (m : ℕ) (d : Disk) (n : ℕ) → ends c ≢ some (holder_of d.rec n) → holder_of (refused c m d).rec n ≡ holder_of d.rec n
unfolding refused conflicted
refused-holder c m d n o = go (ends c) refl (eqb m 12) refl
  where
    go : (x : Option ℕ) → ends c ≡ x → (t : Bool) → eqb m 12 ≡ t → holder_of (refused c m d).rec n ≡ holder_of d.rec n
    go none e t q = rw (e, refused)
    go (some u) e true q = rw (e, refused) (rw (q, refused) (closing-holder u (listing d) d n (λ h. o (e ∙ ap some (sym h)))))
    go (some u) e false q = rw (e, refused) (rw (q, refused))

pub held-until-end : HeldUntilEnd
held-until-end c d n z r o = go (refusal c d) refl
  where
    go : (m : ℕ) → refusal c d ≡ m → holder_of (perform c d).disk.rec n ≡ holder_of d.rec n
    go zero q = ap (λ (x : Result). holder_of x.disk.rec n) (perform-accepted c d q) ∙ accepted-holder c d n q z r o
    go (suc m) q = ap (λ (x : Result). holder_of x.disk.rec n) (perform-refused c d m q) ∙ refused-holder c (suc m) d n o

-- NewList's number.
pub list-given : ListGiven
unfolding questions edit_questions accepted made noted given relisted with_listed change_for number_given
list-given s d h =
    let y = yes-all (on_stream s new_list) d h in
    let l = number_given new_list d in
    let (n, z, i) = list-number d (y 1) (y 3) in
    let (a, b) = (edit-makes s new_list d h).free (list_number l) (rw (eqb_same (list_number l))) in
    let t = (right d (y 0) (y 1)).units.table in
    let x = change s (take_list l) d in
    rw (perform-accepted (on_stream s new_list) d h)
    (a, b, hold-holder s (list_number l) x (omega arith) (omega (arith, ap length (change-table s (take_list l) d), leb-true l 16 (and-true (leb 1 l) (leb l 16) i).1)) (change-holder s (take_list l) d (list_number l) ∙ a))

-- Views: those of two disks that have the same card, queue and, where it is asked for, journal.
views_same : (d e : Disk) → e.card ≡ d.card → queued e ≡ queued d → (v : ℕ) → (is_open_unit d v ≡ true → journal_of e v ≡ journal_of d v) → view_open d v ≡ true → view e v ≡ view d v
unfolding view view_open stream_open persistent committed
views_same d e c q v j h = go (eqb v 5) refl (eqb v 0) refl
  where
    committed-same : committed e ≡ committed d
    committed-same = ap state_of (reader-same d e c q)

    go : (a : Bool) → eqb v 5 ≡ a → (b : Bool) → eqb v 0 ≡ b → view e v ≡ view d v
    go true x b y = rw x (ap (λ (k : List ℕ). state_of (reader_of (mounted k))) c)
    go false x true y = rw (x, y) committed-same
    go false x false y = rw (x, y) (λ i. overlay (j (rw (x, y) at h) i) (committed-same i))

-- The same entries: on the card, in the queue and in the journals. What is noted of a change leaves them.
record SameEntries (d e : Disk) : Type 0 where
  card : e.card ≡ d.card
  queue : queued e ≡ queued d
  journals : (v : ℕ) → journal_of e v ≡ journal_of d v

noted-entries : (s : ℕ) (c : Change Written) (rs : List (Row Written)) (d : Disk) → SameEntries d (noted s c rs d)
unfolding relisted
noted-entries s c rs d =
    noted-by (SameEntries d) s held listed c rs d (record { card = refl; queue = refl; journals = λ v. refl })
  where
    held : (n : ℕ) (e : Disk) → SameEntries d e → SameEntries d (hold s n e)
    held n e b = record { card = hold-card s n e ∙ b.card; queue = queued-hold s n e ∙ b.queue; journals = λ v. journal-hold s n e v ∙ b.journals v }

    listed : (fs : List ℕ) (e : Disk) → SameEntries d e → SameEntries d (relisted fs e)
    listed fs e b = record { card = b.card; queue = queued-relisted fs e ∙ b.queue; journals = λ v. journal-relisted fs e v ∙ b.journals v }

made-apart : (u : ℕ) (c : Change Written) (d : Disk) → stream_open d (suc u) ≡ true → Right d → Makes (suc u) c d → (v : ℕ) → suc u ≢ v → view_open d v ≡ true → view (made (suc u) c d) v ≡ view d v
unfolding made change journal_add
made-apart u c d o k m v n h =
    let x = journal_add (suc u) c d in
    let b = noted-entries (suc u) c (committed d).lists x in
    let (p, q, _) = open-range d u o in
    views_same d (noted (suc u) c (committed d).lists x) b.card (b.queue ∙ queued-journal (suc u) c d) v
    (λ w. let (y, z, _) = unit-range d v w in
    b.journals v ∙ journal-other (suc u) c d p q k.journal_data (journal-room d u m.journal) (plain-sized c m.good) v y z n (k.units.units v y z).room) h

pub unit-apart : UnitApart
unfolding questions accepted refused ends
unit-apart zero e d z v n o = absurd (z refl)
unit-apart (suc u) e d z v n o = go (refusal (on_stream (suc u) e) d) refl
  where
    go : (m : ℕ) → refusal (on_stream (suc u) e) d ≡ m → view (perform (on_stream (suc u) e) d).disk v ≡ view d v
    go zero q =
        let y = yes-all (on_stream (suc u) e) d q in
        ap (λ (x : Result). view x.disk v) (perform-accepted (on_stream (suc u) e) d q)
        ∙ made-apart u (change_for e (number_given e d)) d (y 2) (right d (y 0) (y 1)) (edit-makes (suc u) e d q) v n o
    go (suc m) q = ap (λ (x : Result). view x.disk v) (perform-refused (on_stream (suc u) e) d m q)

pub conflict-apart : ConflictApart
unfolding refusal questions refused ends conflicted closing relisted with_listed
conflict-apart u d h v n o =
    let y = past 3 (questions (end u) d) 12 (omega arith) h in
    let (p, q, _) = unit-range d u (y 2 (omega arith)) in
    let w = (unit_of d u).window in
    ap (λ (x : Result). view x.disk v) (perform-refused (end u) d 11 h)
    ∙ views_same d (conflicted w (closing u (listing d) d)) refl (queued-conflicted w (closing u (listing d) d) ∙ queued-closing u (listing d) d) v
    (λ t. journal-conflicted w (closing u (listing d) d) v ∙ journal-closing-other u v (listing d) d p (unit-range d v t).0 n) o
