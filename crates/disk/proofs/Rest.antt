-- "Longest free number first": how the order of the free numbers goes on (`order-grows`).
use mathlib.Core.Path.{◌≡◌, refl, sym, ap, ◌∙◌, subst}
use mathlib.Core.Bool.{Bool, true, false, ◌&&◌, ◌||◌, not, cond, true≢false}
use mathlib.Core.Option.{some}
use mathlib.Core.List.{List, [], ◌∷◌, ◌++◌, append_assoc, append-nil}
use Prim.Native.Nat.{ℕ, zero, suc, ◌+◌, ◌≤◌}
use native.Mathlib.Omega.{arith}
use native.Mathlib.Decide.{ℕ_discrete}
use lib.Dec.{eqb, eqb-suc-zero}
use Rattle.lists.specs.Basic.{any, guard, keep, times, or_else}
use Rattle.lists.specs.Change.{Change, take_list, put_first, put_after, write, del_block, del_list}
use Rattle.lists.specs.State.{Row, State, state, applies, changed, frees, free_after, apply, overlay}
use Rattle.lists.specs.InUse.{in_use}
use Rattle.lists.specs.Numbers.{is_number, all_numbers, brings, brought}
use Rattle.lists.proofs.Basic.{or-both, not-true, eqb-false, eq-true, keep_all, keep_append}
use Rattle.lists.proofs.Times.{times-append, times-keep, keep-alike, all-standing, once-most}
use Rattle.lists.proofs.Listed.{number-range}
use Rattle.card_log.specs.Card.{Written}
use Rattle.disk.specs.Record.{holder_of, listed_in, blank_record, fresh_record}
use Rattle.disk.specs.Disk.{Disk, journal_of, persistent, committed, listing}
use Rattle.disk.specs.Sound.{record_sound}
use Rattle.disk.specs.Call.{Edit, new_list, new_block, write_block, delete_block, delete_list, Call, format, mount, conflict_count, on_stream, in_view, begin, end, flush, ends, resets}
use Rattle.disk.specs.Questions.{questions, refusal}
use Rattle.disk.specs.Perform.{Result, enqueue_all, made, put_at, number_given, change_for, opening, given_up, closing, conflicted, unit_entries, after_flush, accepted, refused, perform, perform_all}
use Rattle.disk.specs.Rest.{MountOrder, FormatOrder, outside, edit_gives, call_gives, given_by, freed_by, OrderGrows}
use Rattle.disk.proofs.Listing.{listed-with}
use Rattle.disk.proofs.Questions.{yes-all, twelve-end, unit-range}
use Rattle.disk.proofs.Clauses.{right, order-right}
use Rattle.disk.proofs.Given.{listed_free}
use Rattle.disk.proofs.Held.{journals-apart}
use Rattle.disk.proofs.ListedOnce.{listed_of, few-times, order-lists}
use Rattle.disk.proofs.ChangeOrder.{listed_after, made-lists}
use Rattle.disk.proofs.ClosingOrder.{closing-lists}
use Rattle.disk.proofs.Performing.{perform-accepted, perform-refused}
use Rattle.disk.proofs.Soundness.{refused-same, stays-sound}

-- A record set anew.
pub mount-listed : MountOrder
unfolding accepted fresh_record
mount-listed d h = ap (λ (r : Result). listed_in r.disk.rec) (perform-accepted mount d h) ∙ listed-with (persistent d).free blank_record

pub format-listed : FormatOrder
unfolding accepted fresh_record
format-listed d h = ap (λ (r : Result). listed_in r.disk.rec) (perform-accepted format d h) ∙ listed-with all_numbers blank_record

-- Numbers in a list, and outside it.
keep-none : (xs : List ℕ) → keep (λ n. false) xs ≡ []
keep-none [] = refl
keep-none (x ∷ xs) = keep-none xs

pub outside-true : (n : ℕ) (xs : List ℕ) → times n xs ≡ 0 → outside xs n ≡ true
outside-true n xs h = eq-true (times n xs) 0 h

outside-false : (n : ℕ) (xs : List ℕ) → 1 ≤ times n xs → outside xs n ≡ false
outside-false n xs h = eqb-false (times n xs) 0 (λ e. omega arith)

-- How an order goes on: ns are given, os the order before, fs the order after.
record Grown (ns os fs : List ℕ) : Type 0 where
  joins : List ℕ
  was : fs ≡ keep (outside ns) os ++ joins
  apart : (n : ℕ) → 1 ≤ times n joins → times n ns ≡ 0

grown-behind : (os xs : List ℕ) → Grown [] os (os ++ xs)
unfolding times
grown-behind os xs = record { joins = xs; was = ap (λ (ys : List ℕ). ys ++ xs) (sym (keep_all (outside []) (λ n. refl) os)); apart = λ n h. refl }

grown-same : (os : List ℕ) → Grown [] os os
grown-same os = subst (Grown [] os) (append-nil os) (grown-behind os [])

-- where no number is listed twice after it, those that join are those listed after it and not before
grown-is : (ns os fs : List ℕ) → ((n : ℕ) → times n fs ≤ 1) → Grown ns os fs → fs ≡ keep (outside ns) os ++ keep (outside os) fs
grown-is ns os fs h g =
    g.was ∙ ap (λ (xs : List ℕ). keep (outside ns) os ++ xs)
    (sym (ap (keep (outside os)) g.was ∙ keep_append (outside os) (keep (outside ns) os) g.joins
    ∙ (λ i. old i ++ new i)))
  where
    old : keep (outside os) (keep (outside ns) os) ≡ []
    old = keep-alike (outside os) (λ n. false) (keep (outside ns) os) (λ n k. outside-false n os (stood n (outside ns n) (rw (times-keep (outside ns) n os) at k))) ∙ keep-none (keep (outside ns) os)
      where
        stood : (n : ℕ) (b : Bool) → 1 ≤ cond b (times n os) 0 → 1 ≤ times n os
        stood n true k = k
        stood n false k = absurd (omega arith)

    count : (n : ℕ) → 1 ≤ times n g.joins → times n os + times n g.joins ≤ 1
    count n k =
        omega (
          arith,
          h n,
          ap (times n) g.was ∙ times-append n (keep (outside ns) os) g.joins,
          times-keep (outside ns) n os ∙ ap (λ (b : Bool). cond b (times n os) 0) (outside-true n ns (g.apart n k)),
        )

    new : keep (outside os) g.joins ≡ g.joins
    new = keep-alike (outside os) (λ n. true) g.joins (λ n k. outside-true n os (omega (arith, count n k, k))) ∙ keep_all (λ n. true) (λ n. refl) g.joins

-- A change on a stream.
brought-outside : (ns : List ℕ) (n : ℕ) → not (any (λ m. eqb m n) ns) ≡ outside ns n
unfolding times
brought-outside [] n = refl
brought-outside (x ∷ ns) n = go (eqb x n) (brought-outside ns n)
  where
    go : (b : Bool) → not (any (λ m. eqb m n) ns) ≡ outside ns n → not (b || any (λ m. eqb m n) ns) ≡ eqb (cond b (suc (times n ns)) (times n ns)) 0
    go true ih = sym (eqb-false (suc (times n ns)) 0 (λ e. omega arith))
    go false ih = ih

brings-apart : (c : Change Written) (rs : List (Row Written)) (n : ℕ) → 1 ≤ times n (frees c rs) → times n (brings c) ≡ 0
unfolding frees times
brings-apart (take_list l) rs n h = absurd (omega arith)
brings-apart (put_first b l) rs n h = absurd (omega arith)
brings-apart (put_after b l p) rs n h = absurd (omega arith)
brings-apart (write b x) rs n h = refl
brings-apart (del_block b) rs n h = refl
brings-apart (del_list l) rs n h = refl

after-grown : (s : ℕ) (c : Change Written) (rs : List (Row Written)) (os : List ℕ) → Grown (brings c) os (listed_after s c rs os)
unfolding free_after times
after-grown zero c rs os = record {
  joins = frees c rs;
  was = ap (λ (xs : List ℕ). xs ++ frees c rs) (keep-alike (λ n. not (brought c n)) (outside (brings c)) os (λ n k. brought-outside (brings c) n));
  apart = brings-apart c rs;
}
after-grown (suc u) c rs os = record {
  joins = [];
  was = keep-alike (λ n. not (brought c n)) (outside (brings c)) os (λ n k. brought-outside (brings c) n) ∙ sym (append-nil (keep (outside (brings c)) os));
  apart = λ n h. absurd (omega arith);
}

put-gives : (b l p : ℕ) → brings (put_at b l p) ≡ b ∷ []
unfolding put_at
put-gives b l zero = refl
put-gives b l (suc p) = refl

edit-gives : (e : Edit) (n : ℕ) → brings (change_for e n) ≡ edit_gives e n
unfolding change_for edit_gives
edit-gives new_list n = refl
edit-gives (new_block l p) n = put-gives n l p
edit-gives (write_block b r x) n = refl
edit-gives (delete_block b) n = refl
edit-gives (delete_list l) n = refl

edit-grown : (s : ℕ) (e : Edit) (d : Disk) → record_sound d ≡ true → Grown (edit_gives e (number_given e d)) (listed_in d.rec) (listed_in (made s (change_for e (number_given e d)) d).rec)
edit-grown s e d h =
    let c = change_for e (number_given e d) in
    let os = listed_in d.rec in
    subst (λ (ns : List ℕ). Grown ns os (listed_in (made s c d).rec)) (edit-gives e (number_given e d))
    (rw (listed_of (made s c d) (listed_after s c (committed d).lists os) (made-lists s c d (order-lists d (committed d) (order-right d h)))) (after-grown s c (committed d).lists os))

-- A unit's end: what its journal brings into use it holds, so that none of it is listed.
record Behind (os fs : List ℕ) : Type 0 where
  rest : List ℕ
  was : fs ≡ os ++ rest

after-behind : (c : Change Written) (s : State Written) (os : List ℕ) → ((n : ℕ) → 1 ≤ times n os → brought c n ≡ false) → Behind os s.free → Behind os (or_else s (apply c s)).free
unfolding apply or_else free_after
after-behind c s os h b = go (applies c s.lists)
  where
    go : (t : Bool) → Behind os (or_else s (guard t (some (state (changed c s.lists) (free_after c s.lists s.free))))).free
    go false = b
    go true = record {
      rest = keep (λ n. not (brought c n)) b.rest ++ frees c s.lists;
      was = ap (λ (xs : List ℕ). keep (λ n. not (brought c n)) xs ++ frees c s.lists) b.was
          ∙ ap (λ (xs : List ℕ). xs ++ frees c s.lists) (keep_append (λ n. not (brought c n)) os b.rest
          ∙ ap (λ (xs : List ℕ). xs ++ keep (λ n. not (brought c n)) b.rest) (keep-alike (λ n. not (brought c n)) (λ n. true) os (λ n k. not-true (brought c n) (h n k)) ∙ keep_all (λ n. true) (λ n. refl) os))
          ∙ append_assoc os (keep (λ n. not (brought c n)) b.rest) (frees c s.lists);
    }

overlay-behind : (cs : List (Change Written)) (s : State Written) (os : List ℕ) → ((n : ℕ) → 1 ≤ times n os → any (λ c. brought c n) cs ≡ false) → Behind os s.free → Behind os (overlay cs s).free
unfolding overlay
overlay-behind [] s os h b = b
overlay-behind (c ∷ cs) s os h b =
    overlay-behind cs (or_else s (apply c s)) os (λ n k. (or-both (brought c n) (any (λ x. brought x n) cs) (h n k)).1)
    (after-behind c s os (λ n k. (or-both (brought c n) (any (λ x. brought x n) cs) (h n k)).0) b)

pub listed-once : (d : Disk) → record_sound d ≡ true → (n : ℕ) → times n (listed_in d.rec) ≤ 1
listed-once d h =
    let o = order-right d h in
    few-times (listed_in d.rec) o.range (λ n p q. rw (o.once n p q) (once-most (not (in_use n (committed d).lists) && eqb (holder_of d.rec n) 0)))

listed-unheld : (d : Disk) (n : ℕ) → record_sound d ≡ true → 1 ≤ times n (listed_in d.rec) → holder_of d.rec n ≡ 0
listed-unheld d n h k =
    let (p, q) = number-range n (all-standing is_number (listed_in d.rec) (order-right d h).range n k) in
    (listed_free d n h p q k).1

closing-grown : (u : ℕ) (x : State Written) (d : Disk) (os : List ℕ) → Behind os x.free → Grown [] os (listed_in (closing u x d).rec)
closing-grown u x d os b =
    rw (listed_of (closing u x d) (x.free ++ given_up u x d.rec) (closing-lists u x d))
    (subst (Grown [] os) (sym (ap (λ (xs : List ℕ). xs ++ given_up u x d.rec) b.was ∙ append_assoc os b.rest (given_up u x d.rec))) (grown-behind os (b.rest ++ given_up u x d.rec)))

end-grown : (u : ℕ) (d : Disk) → refusal (end u) d ≡ 0 → Grown [] (listed_in d.rec) (listed_in (accepted (end u) d).disk.rec)
unfolding questions accepted listing
end-grown u d h =
    let y = yes-all (end u) d h in
    let k = right d (y 0) (y 1) in
    let (p, q, _) = unit-range d u (y 2) in
    let os = listed_in d.rec in
    closing-grown u (overlay (journal_of d u) (listing d)) (enqueue_all (unit_entries (journal_of d u)) d) os
    (overlay-behind (journal_of d u) (listing d) os
    (λ n l. journals-apart d.rec u (journal_of d u) n (λ e. omega (arith, listed-unheld d n (y 1) l)) (k.units.units u p q).sound)
    (record { rest = []; was = sym (append-nil os) }))

conflict-grown : (u : ℕ) (d : Disk) → Grown [] (listed_in d.rec) (listed_in (refused (end u) 12 d).rec)
unfolding refused ends conflicted listing listed_in
conflict-grown u d = closing-grown u (listing d) d (listed_in d.rec) (record { rest = []; was = sym (append-nil (listed_in d.rec)) })

-- Every call.
accepted-grown : (c : Call) (d : Disk) → resets c ≡ false → refusal c d ≡ 0 → Grown (call_gives c (accepted c d).answer.value) (listed_in d.rec) (listed_in (accepted c d).disk.rec)
unfolding resets questions accepted call_gives opening after_flush listed_in
accepted-grown format d r h = absurd (true≢false r)
accepted-grown mount d r h = absurd (true≢false r)
accepted-grown (conflict_count w) d r h = grown-same (listed_in d.rec)
accepted-grown (on_stream s e) d r h = edit-grown s e d (yes-all (on_stream s e) d h 1)
accepted-grown (in_view v k) d r h = grown-same (listed_in d.rec)
accepted-grown (begin u w) d r h = grown-same (listed_in d.rec)
accepted-grown (end u) d r h = end-grown u d h
accepted-grown (flush a) d r h = grown-same (listed_in d.rec)

refused-grown : (c : Call) (n : ℕ) (d : Disk) → refusal c d ≡ suc n → Dec (suc n ≡ 12) → Grown [] (listed_in d.rec) (listed_in (refused c (suc n) d).rec)
refused-grown c n d h (no q) = rw (refused-same c (suc n) d q) (grown-same (listed_in d.rec))
refused-grown c n d h (yes q) =
    let (u, e) = twelve-end c d (h ∙ q) in
    rw (q, e) (conflict-grown u d)

perform-grown : (c : Call) (d : Disk) → resets c ≡ false → Grown (given_by c d) (listed_in d.rec) (listed_in (perform c d).disk.rec)
unfolding given_by
perform-grown c d r = go (refusal c d) refl
  where
    go : (n : ℕ) → refusal c d ≡ n → Grown (given_by c d) (listed_in d.rec) (listed_in (perform c d).disk.rec)
    go zero e = rw (e, perform-accepted c d e) (accepted-grown c d r e)
    go (suc n) e = rw (e, perform-refused c d n e) (rw (eqb-suc-zero n) (refused-grown c n d e (ℕ_discrete (suc n) 12)))

pub order-grows : OrderGrows
unfolding freed_by perform_all
order-grows c d r l h =
    grown-is (given_by c d) (listed_in d.rec) (listed_in (perform c d).disk.rec)
    (listed-once (perform c d).disk (stays-sound (c ∷ []) d l h).1) (perform-grown c d r)
