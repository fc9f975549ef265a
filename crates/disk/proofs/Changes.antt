-- The changes that accepted calls make: each may be placed on the card, one that is queued applies to the committed state, and what it puts or
-- takes is free (`edit-makes`). The entries of a unit's end may be placed too, and act as one.
use mathlib.Core.Path.{◌≡◌, refl, sym, ap, ◌∙◌, subst}
use mathlib.Core.Bool.{true, false, ◌&&◌, or-false, false≢true}
use mathlib.Core.Option.{some}
use mathlib.Core.List.{List, [], ◌∷◌, ◌++◌, map, append_assoc, append-nil}
use Prim.Native.Nat.{ℕ, zero, suc, ◌+◌, ◌-◌, ◌≤◌}
use native.Mathlib.Omega.{arith}
use lib.Dec.{leb, eqb, eqb-suc-zero}
use lib.ListN.{length, length-append}
use lib.Seq.{drop_at}
use borrow.Author.Tests.{lt-leb}
use Rattle.lists.specs.Basic.{all}
use Rattle.lists.specs.Change.{Change, take_list, write, del_block, del_list, map_change, carried_by}
use Rattle.lists.specs.State.{Row, State, state, taken, placed, applies, changed, free_after, apply, apply_all}
use Rattle.lists.specs.InUse.{list_number, in_use}
use Rattle.lists.proofs.Basic.{and-true, not-true, eqb-true, leb-true, le-true, guard-true, all_append}
use Rattle.lists.proofs.InUse.{brought}
use Rattle.card_log.specs.Raced.{raced}
use Rattle.card_log.specs.Entry.{Entry, plain, member, commit, map_entry, carried, raw, legal, legal_change, is_block, is_list, is_race}
use Rattle.card_log.specs.Reader.{Reader, reader, settled, last_of, read, replay}
use Rattle.card_log.specs.Card.{Content, Written}
use Rattle.card_log.proofs.Places.{Good}
use Rattle.card_log.proofs.Flows.{AllGood}
use Rattle.disk.specs.Record.{Record, holder_of}
use Rattle.disk.specs.Disk.{Disk, committed, view}
use Rattle.disk.specs.Sound.{journal_sound}
use Rattle.disk.specs.Call.{Edit, new_list, new_block, write_block, delete_block, delete_list, on_stream}
use Rattle.disk.specs.Questions.{predecessor_right, journal_room, stream_room, edit_questions, questions, refusal}
use Rattle.disk.specs.Perform.{put_at, number_given, change_for, unit_entries}
use Rattle.disk.proofs.Queue.{AllSized}
use Rattle.disk.proofs.Questions.{yes-all, in-range}
use Rattle.disk.proofs.Given.{list-number, block-number}

-- Changes that may be placed.
take-good : (l : ℕ) → is_list l ≡ true → Good (plain (take_list l))
unfolding legal raw map_entry map_change legal_change carried carried_by
take-good l h = record { lawful = h; sized = tt }

put-good : (b l p : ℕ) → is_block b ≡ true → is_list l ≡ true → p ≤ 64 → Good (plain (put_at b l p))
unfolding put_at legal raw map_entry map_change legal_change carried carried_by
put-good b l zero x y z = record { lawful = rw (x, y); sized = tt }
put-good b l (suc p) x y z = record { lawful = rw (x, y) (in-range 64 (suc p) (omega arith) z); sized = tt }

write-good : (b n : ℕ) (x : Content) → is_block b ≡ true → is_race n ≡ true → length x ≡ 256 → Good (plain (write b (raced x n)))
unfolding legal raw map_entry map_change legal_change carried carried_by
write-good b n x h r z = record { lawful = rw (h, r); sized = z }

del_block-good : (b : ℕ) → is_block b ≡ true → Good (plain (del_block b))
unfolding legal raw map_entry map_change legal_change carried carried_by
del_block-good b h = record { lawful = h; sized = tt }

del_list-good : (l : ℕ) → is_list l ≡ true → Good (plain (del_list l))
unfolding legal raw map_entry map_change legal_change carried carried_by
del_list-good l h = record { lawful = h; sized = tt }

-- Changes that apply.
pub apply-applies : {D : Type 0} (c : Change D) (s : State D) → applies c s.lists ≡ true → apply c s ≡ some (state (changed c s.lists) (free_after c s.lists s.free))
unfolding apply
apply-applies c s h = guard-true (applies c s.lists) _ h

take-applies : (l : ℕ) (rs : List (Row Written)) → taken l rs ≡ false → applies {D = Written} (take_list l) rs ≡ true
unfolding applies
take-applies l rs h = not-true (taken l rs) h

put-applies : (b l p : ℕ) (rs : List (Row Written)) → taken l rs ≡ true → placed b rs ≡ false → predecessor_right rs l p ≡ true → applies (put_at b l p) rs ≡ true
unfolding put_at applies predecessor_right
put-applies b l zero rs t n h = rw (t, n)
put-applies b l (suc p) rs t n h = rw (t, n) (rw (eqb-suc-zero p) at h)

-- a change on stream 0 is judged in the committed state
at_zero : (P : State Written → Type 0) (s : ℕ) (d : Disk) → s ≡ 0 → P (view d s) → P (committed d)
unfolding view
at_zero P s d e h = subst (λ (n : ℕ). P (view d n)) e h

-- What an accepted edit makes.
put-brings : (b l p n : ℕ) → brought (put_at b l p) n ≡ true → b ≡ n
unfolding put_at
put-brings b l zero n h = eqb-true b n (rw or-false at h)
put-brings b l (suc p) n h = eqb-true b n (rw or-false at h)

-- a block that is not in use is on no list, a list that is not is not taken
unused-block : (b : ℕ) (rs : List (Row Written)) → is_block b ≡ true → in_use b rs ≡ false → placed b rs ≡ false
unfolding in_use
unused-block b rs i h = rw (and-true (leb 1 b) (leb b 64) i).1 at h

unused-list : (l : ℕ) (rs : List (Row Written)) → is_list l ≡ true → in_use (list_number l) rs ≡ false → taken l rs ≡ false
unfolding in_use
unused-list l rs i h =
    let n : 64 + l - 64 ≡ l = omega arith in
    rw (lt-leb (64 + l) 64 (omega (arith, leb-true 1 l (and-true (leb 1 l) (leb l 16) i).0)), n) at h

-- a change made on stream s of disk d: it goes to a queue or a journal that has room
pub record Makes (s : ℕ) (c : Change Written) (d : Disk) : Type 0 where
  pub journal : journal_room d s ≡ true
  pub queue : stream_room d s ≡ true
  pub good : Good (plain c)
  pub applying : s ≡ 0 → applies c (committed d).lists ≡ true
  pub free : (n : ℕ) → brought c n ≡ true → (holder_of d.rec n ≡ 0) × (in_use n (committed d).lists ≡ false)

pub edit-makes : (s : ℕ) (e : Edit) (d : Disk) → refusal (on_stream s e) d ≡ 0 → Makes s (change_for e (number_given e d)) d
unfolding questions edit_questions number_given change_for applies
edit-makes s new_list d h =
    let y = yes-all (on_stream s new_list) d h in
    let l = number_given new_list d in
    let (n, z, i) = list-number d (y 1) (y 3) in
    record {
      journal = y 4;
      queue = y 5;
      good = take-good l i;
      applying = λ e. take-applies l (committed d).lists (unused-list l (committed d).lists i n);
      free = λ x e. rw (← (eqb-true (list_number l) x (rw or-false at e))) (z, n);
    }
edit-makes s (new_block l p) d h =
    let y = yes-all (on_stream s (new_block l p)) d h in
    let b = number_given (new_block l p) d in
    let (n, z, i) = block-number d (y 1) (y 6) in
    let (a, c) = and-true (is_list l) (leb p 64) (y 3) in
    record {
      journal = y 7;
      queue = y 8;
      good = put-good b l p i a (leb-true p 64 c);
      applying =
          λ e. put-applies b l p (committed d).lists
          (at_zero (λ x. taken l x.lists ≡ true) s d e (y 4)) (unused-block b (committed d).lists i n) (at_zero (λ x. predecessor_right x.lists l p ≡ true) s d e (y 5));
      free = λ x e. rw (← (put-brings b l p x e)) (z, n);
    }
edit-makes s (write_block b n x) d h =
    let y = yes-all (on_stream s (write_block b n x)) d h in
    let (a, c) = and-true (is_block b && is_race n) (eqb (length x) 256) (y 3) in
    let (i, r) = and-true (is_block b) (is_race n) a in
    record {
      journal = y 5;
      queue = y 6;
      good = write-good b n x i r (eqb-true (length x) 256 c);
      applying = λ e. at_zero (λ t. placed b t.lists ≡ true) s d e (y 4);
      free = λ m e. absurd (false≢true e);
    }
edit-makes s (delete_block b) d h =
    let y = yes-all (on_stream s (delete_block b)) d h in
    record { journal = y 5; queue = y 6; good = del_block-good b (y 3); applying = λ e. at_zero (λ t. placed b t.lists ≡ true) s d e (y 4); free = λ n e. absurd (false≢true e) }
edit-makes s (delete_list l) d h =
    let y = yes-all (on_stream s (delete_list l)) d h in
    record { journal = y 5; queue = y 6; good = del_list-good l (y 3); applying = λ e. at_zero (λ t. taken l t.lists ≡ true) s d e (y 4); free = λ n e. absurd (false≢true e) }

-- The entries of a unit's end.
pub good-all : (es : List (Entry Written)) → all (λ e. legal (raw 0 e)) es ≡ true → AllSized es → AllGood es
unfolding all
good-all [] h z = tt
good-all (e ∷ es) h z =
    let (a, b) = and-true (legal (raw 0 e)) (all (λ x. legal (raw 0 x)) es) h in
    (record { lawful = a; sized = z.0 }, good-all es b z.1)

journal-legal : (r : Record) (u : ℕ) (cs : List (Change Written)) → all (journal_sound r u) cs ≡ true → all (λ e. legal (raw 0 e)) (map member cs) ≡ true
unfolding all journal_sound
journal-legal r u [] h = refl
journal-legal r u (c ∷ cs) h =
    let (a, b) = and-true (journal_sound r u c) (all (journal_sound r u) cs) h in
    rw (and-true (legal (raw 0 (member c))) _ a).0 (journal-legal r u cs b)

pub unit-good : (r : Record) (u : ℕ) (cs : List (Change Written)) → all (journal_sound r u) cs ≡ true → length cs ≤ 15 → AllSized (unit_entries cs) → AllGood (unit_entries cs)
unfolding unit_entries all legal raw map_entry
unit-good r u cs h l z =
    good-all (unit_entries cs) (all_append (λ e. legal (raw 0 e)) (map member cs) (commit (length cs) ∷ []) (journal-legal r u cs h) (rw (le-true (length cs) 15 l))) z

replay-members : (r : Reader Written) (n : ℕ) (cs : List (Change Written))
    → replay r (map member cs ++ commit n ∷ []) ≡ replay (reader (r.run ++ cs) r.state) (commit n ∷ [])
unfolding replay read
replay-members r n [] = ap (λ (x : List (Change Written)). replay (reader x r.state) (commit n ∷ [])) (sym (append-nil r.run))
replay-members r n (c ∷ cs) =
    replay-members (reader (r.run ++ c ∷ []) r.state) n cs
    ∙ ap (λ (x : List (Change Written)). replay (reader x r.state) (commit n ∷ [])) (append_assoc r.run (c ∷ []) cs)

pub replay-unit : (r : Reader Written) (cs : List (Change Written)) (s : State Written) → apply_all cs r.state ≡ some s
    → replay r (unit_entries cs) ≡ some (settled s)
unfolding unit_entries replay read last_of
replay-unit r cs s a =
    replay-members r (length cs) cs
    ∙ rw (le-true (length cs) (length (r.run ++ cs)) (omega (arith, length-append r.run cs)))
    (rw (drop_at r.run cs (length (r.run ++ cs) - length cs) (omega (arith, length-append r.run cs))) (rw a))
