-- A change added on a stream: questions 11 and 13 by the record, and the disk that the definition leaves by the record with the entry more, and on stream
-- 0 with the numbers that a deletion frees.
use mathlib.Core.Path.{◌≡◌, refl, sym, ap, ◌∙◌, subst}
use mathlib.Core.Logic.{◌≢◌}
use mathlib.Core.Bool.{Bool, true, false, cond}
use mathlib.Core.Option.{none}
use mathlib.Core.List.{List, [], ◌∷◌, ◌++◌, map}
use Prim.Native.Nat.{ℕ, zero, suc, ◌+◌, ◌≤◌, ◌<◌}
use lib.Dec.{leb, ltb, eqb, eqb-suc-zero}
use lib.ListN.{length}
use Rattle.lists.specs.Change.{Change, del_block, del_list, map_change, carried_by}
use Rattle.lists.specs.State.{Row, taken, placed, frees, map_row}
use Rattle.lists.specs.InUse.{list_number, brings}
use Rattle.lists.specs.promises.Tables.{Tables, OfShown}
use native.Mathlib.Numerals.{add-one}
use Rattle.lists.proofs.Basic.{eqb-false}
use Rattle.lists.proofs.Naturality.{blocks_of-map}
use Rattle.lists.proofs.Lookup.{lists-shown}
use Rattle.card_log.specs.declared.entry.LogEntry.{LogEntry}
use Rattle.card_log.specs.declared.entry.LogEntry.TheVariants.{DeleteBlock, DeleteList}
use Rattle.card_log.specs.Card.{Written}
use Rattle.card_log.specs.Entry.{plain, map_entry, raw, carried, is_block, is_list, as_entry}
use Rattle.card_log.specs.Cell.{cell_of}
use Rattle.disk.specs.Record.{Record, unit_at, listed_in, with_listed, appended, journal_grown}
use Rattle.disk.specs.promises.Listing.{Padded, listed_last, pushed_all, relisted_by}
use Rattle.std.specs.Prelude.{Result, Ok, Err}
use Rattle.answers.specs.declared.Refusal.{Refusal}
use Rattle.disk.specs.Disk.{Disk, with_record, unit_of, committed, view}
use Rattle.disk.specs.Sound.{lengths_right, record_sound}
use Rattle.disk.specs.Questions.{journal_room, queue_room, stream_room, edit_questions, questions, ask, first_no, refusal}
use Rattle.disk.specs.Call.{delete_block, delete_list, Call, on_stream, destination}
use Rattle.disk.specs.Perform.{reply, accepted, change, relisted, freed, noted, made, number_given, change_for, enqueue, journal_add, splice_some}
use Rattle.answers.specs.Answers.{number, reply_answer}
use Rattle.disk.proofs.Changes.{Makes, edit-makes}
use Rattle.disk.proofs.Clauses.{Right, OrderRight, committed-is, right, order-right}
use Rattle.disk.proofs.ChangeOrder.{made-order}
use Rattle.disk.proofs.Listing.{padded-places, pushed-all}
use Rattle.calls.specs.Performs.{Performs}
use Rattle.inspect.specs.promises.Located.{contents}
use Rattle.inspect.specs.promises.Inspect.{Sees}
use Rattle.calls.specs.promises.Adds.{added, rooms, Leaves, LeavesAfter, relisted_on, DeletesAfter}
use Rattle.inspect.specs.promises.Inspect.{opens}
use Rattle.inspect.proofs.Asking.{ask-yes, ask-no}
use Rattle.calls.proofs.Refusing.{seen, seen-ranges, Usual, usual-performs-refused, performs-accepted}
use Rattle.inspect.proofs.Locating.{lists-here, taken_here, placed-here}

pub rooms-yes : (d : Disk) (s : ℕ) → (journal_room d s ≡ true) × (stream_room d s ≡ true) → first_no (rooms d s) ≡ 0
unfolding first_no ask
rooms-yes d s h = rw (h.0, h.1)

module _ (d : Disk) (r : Record) (s : ℕ) (e : d.rec ≡ r) where
  room-here : leb (d.rec.ring.len + 1) 32 ≡ ltb r.ring.len 32
  room-here = rw (e, add-one)

  pub queue-full : s ≡ 0 → ltb r.ring.len 32 ≡ false → first_no (rooms d s) ≡ 13
  unfolding journal_room stream_room queue_room
  queue-full z l = rw z (ask-yes 11 true _ refl ∙ ask-no 13 (leb (d.rec.ring.len + 1) 32) [] (room-here ∙ l))

  pub queue-takes : s ≡ 0 → ltb r.ring.len 32 ≡ true → (journal_room d s ≡ true) × (stream_room d s ≡ true)
  unfolding journal_room stream_room queue_room
  queue-takes z l = rw z (refl, room-here ∙ l)

  pub journal-full : s ≢ 0 → ltb (unit_at r s).len 15 ≡ false → first_no (rooms d s) ≡ 11
  unfolding journal_room unit_of
  journal-full z l = ask-no 11 _ _ (rw (eqb-false s 0 z, e) l)

  pub journal-takes : s ≢ 0 → ltb (unit_at r s).len 15 ≡ true → (journal_room d s ≡ true) × (stream_room d s ≡ true)
  unfolding journal_room stream_room unit_of
  journal-takes z l = rw (eqb-false s 0 z, e) (l, refl)

-- entry e says change c
abbrev pub Says : LogEntry → Change Written → Type 0
Says e c = cell_of (plain c) ≡ cell_of (as_entry false e)

-- the disk with a change that carries no data
pub change-added : (s : ℕ) (c : Change Written) (e : LogEntry) (d : Disk) → carried_by c ≡ none → Says e c → change s c d ≡ with_record d (added s e d.rec)
unfolding change enqueue journal_add carried added unit_of splice_some
change-added zero c e d h w = rw (h, w)
change-added (suc u) c e d h w = rw (h, w, eqb-suc-zero u)

-- behind two questions more, as most of the calls that add a change ask them; if one is answered no, the record is as it was
module _ (n m : ℕ) (p q : Bool) (s : ℕ) (r : Record) where
  abbrev two : List (ℕ × Bool)
  two = (n, p) ∷ (m, q) ∷ []

  pub first-no : (x : Refusal) → number x ≡ n → p ≡ false → LeavesAfter two s r r (Err x) r
  first-no x i a = (refl, λ d k. ask-no n p ((m, q) ∷ rooms d s) a ∙ sym i)

  pub second-no : (x : Refusal) → number x ≡ m → p ≡ true → q ≡ false → LeavesAfter two s r r (Err x) r
  second-no x i a b = (refl, λ d k. ask-yes n p ((m, q) ∷ rooms d s) a ∙ ask-no m q (rooms d s) b ∙ sym i)

  pub both_yes : (y : Record) (a : Result (Unit {0}) Refusal) (r' : Record) → p ≡ true → q ≡ true → Leaves s r y a r' → LeavesAfter two s r y a r'
  both_yes y (Err x) r' a b h = (h.0, λ d k. ask-yes n p ((m, q) ∷ rooms d s) a ∙ ask-yes m q (rooms d s) b ∙ h.1 d k)
  both_yes y (Ok done) r' a b h = (h.0, λ d k. ask-yes n p ((m, q) ∷ rooms d s) a ∙ ask-yes m q (rooms d s) b ∙ rooms-yes d s (h.1 d k))

-- Calls that ask question 5 and one over the stream's view behind the questions of `look`, and add a change.

-- what the last part of call k decides: the refusal, or that record y is left
abbrev pub Decides : Call → Disk → Record → Result (Unit {0}) Refusal → Record → Type 0
Decides k d y (Err x) r = (r ≡ d.rec) × (refusal k d ≡ number x)
Decides k d y (Ok done) r = (r ≡ y) × (refusal k d ≡ 0)

module _ (k : Call) (d : Disk) (s n : ℕ) (p q : Bool) (here : List (Row ℕ) → Bool) (y : List (Row ℕ) → Record) (t : Tables) where
  pub seen-decides : (a : Result (Unit {0}) Refusal) (r : Record) → refusal k d ≡ first_no (opens false d s ++ (5, p) ∷ (n, q) ∷ rooms d s)
      → (z : Sees false d s t) → q ≡ here z.located.here.lists → OfShown t (λ rs. LeavesAfter ((5, p) ∷ (n, here rs) ∷ []) s d.rec (y rs) a r)
      → Decides k d (y z.located.here.lists) a r
  seen-decides a r h z w f = go a (f rs (lists-shown t z.located.here z.located.shows))
    where
      rs : List (Row ℕ)
      rs = z.located.here.lists

      asked : refusal k d ≡ first_no ((5, p) ∷ (n, here rs) ∷ rooms d s)
      asked = h ∙ seen ((5, p) ∷ (n, q) ∷ rooms d s) z ∙ ap (λ (b : Bool). first_no ((5, p) ∷ (n, b) ∷ rooms d s)) w

      go : (a : Result (Unit {0}) Refusal) → LeavesAfter ((5, p) ∷ (n, here rs) ∷ []) s d.rec (y rs) a r → Decides k d (y rs) a r
      go (Err x) v = (v.0, asked ∙ v.1 d refl)
      go (Ok done) v = (v.0, asked ∙ v.1 d refl)

-- Deletions.

-- the order of a sound record, and of one with an entry more
pub sound-padded : (d : Disk) → record_sound d ≡ true → Padded d.rec
sound-padded d h = let o = order-right d h in record { many = o.many; behind = o.behind }

pub added-padded : (s : ℕ) (e : LogEntry) (r : Record) → Padded r → Padded (added s e r)
unfolding added listed_in
added-padded s e r p = go (eqb s 0)
  where
    go : (b : Bool) → Padded (cond b (appended (cell_of (as_entry false e)) r) (journal_grown s (cell_of (as_entry false e)) r))
    go true = record { many = p.many; behind = p.behind }
    go false = record { many = p.many; behind = p.behind }

-- what a function that deletes needs
pub seen-padded : {d : Disk} {s : ℕ} {t : Tables} → Sees false d s t → (s ≤ 4) × (d.rec.ring.head < 32) × Padded d.rec
seen-padded {d} z = ((seen-ranges z).0, (seen-ranges z).1, sound-padded d z.sound)

-- numbers freed where they find a place, on stream 0, or none in a unit
module _ (c : Change Written) (e : LogEntry) (d : Disk) (ns : List ℕ) (n : carried_by c ≡ none) (w : Says e c) (l : lengths_right d ≡ true) (h : record_sound d ≡ true) where
  queued-listed : made 0 c d ≡ freed 0 ns (change 0 c d) → Makes 0 c d → made 0 c d ≡ with_record d (pushed_all ns (added 0 e d.rec))
  unfolding freed relisted with_listed
  queued-listed q m = listed ∙ ap (with_record d) (sym (pushed-all ns x p (padded-places x p) fits))
    where
      x : Record
      x = added 0 e d.rec

      p : Padded x
      p = added-padded 0 e d.rec (sound-padded d h)

      listed : made 0 c d ≡ with_record d (listed_last ns x)
      listed = q ∙ ap (freed 0 ns) (change-added 0 c e d n w)

      k : Right d
      k = right d l h

      order : OrderRight (made 0 c d) (committed (made 0 c d))
      order = made-order 0 c d m k (subst (OrderRight d) (committed-is d k.reader k.log.replays) (order-right d h))

      fits : length (listed_in x ++ ns) ≤ 80
      fits = subst (λ (y : Disk). y.rec.tally.listed ≤ 80) listed order.many

  journaled-listed : (u : ℕ) → made (suc u) c d ≡ freed (suc u) ns (change (suc u) c d) → made (suc u) c d ≡ with_record d (added (suc u) e d.rec)
  unfolding freed
  journaled-listed u q = q ∙ change-added (suc u) c e d n w

-- a deletion that says the same of the lists at locations and of those with contents
module _ (c : Change ℕ) (c' : Change Written) (e : LogEntry) (d : Disk) (t : Tables) where
  pub deletion-made : (s : ℕ) (z : Sees false d s t) → brings c ≡ [] → carried_by c' ≡ none → Says e c' → ((rs : List (Row ℕ)) → frees c' (map (map_row (contents d)) rs) ≡ frees c rs)
      → made s c' d ≡ freed s (frees c' (committed d).lists) (change s c' d) → Makes s c' d
      → made s c' d ≡ with_record d (relisted_on s c z.located.here.lists (added s e d.rec))
  unfolding relisted_on relisted_by view
  deletion-made zero z b n w f q m =
      queued-listed c' e d (frees c' (committed d).lists) n w z.lengths z.sound q m
      ∙ ap (λ (ns : List ℕ). with_record d (pushed_all ns (added 0 e d.rec))) (ap (frees c') (lists-here d t (view d 0) z.located) ∙ f z.located.here.lists) ∙ rw b
  deletion-made (suc u) z b n w f q m = rw (eqb-suc-zero u) (journaled-listed c' e d (frees c' (committed d).lists) n w z.lengths z.sound u q)

-- an edit whose only answer is that it is done
pub decides-performs : (k : Call) (d : Disk) (y : Record) (a : Result (Unit {0}) Refusal) (r : Record) → Usual k → destination k ≡ [] → (refusal k d ≡ 0 → accepted k d ≡ reply (with_record d y) 0 0 [])
    → Decides k d y a r → Performs k d (with_record d r) (reply_answer a) []
unfolding reply_answer
decides-performs k d y (Err x) r u t w h = rw (h.0, ← t) (usual-performs-refused k d x u h.1)
decides-performs k d y (Ok done) r u t w h = performs-accepted k d _ h.1 (w h.1 ∙ rw h.0)

pub deletes-block : (d : Disk) (s b : ℕ) (t : Tables) (a : Result (Unit {0}) Refusal) (r : Record) → Sees false d s t
    → OfShown t (λ rs. DeletesAfter ((5, is_block b) ∷ (8, placed b rs) ∷ []) s (DeleteBlock b) (del_block b) rs d.rec a r)
    → Performs (on_stream s (delete_block b)) d (with_record d r) (reply_answer a) []
unfolding refusal questions edit_questions destination accepted made noted number_given change_for carried_by cell_of raw map_entry map_change as_entry frees
deletes-block d s b t a r z f =
    let k = on_stream s (delete_block b) in
    decides-performs k d _ a r tt refl
    (λ h. ap (λ (x : Disk). reply x 0 0 []) (deletion-made (del_block b) (del_block b) (DeleteBlock b) d t s z refl refl refl (λ rs. refl) refl (edit-makes s (delete_block b) d h)))
    (seen-decides k d s 8 (is_block b) (placed b (view d s).lists) (placed b) (λ rs. relisted_on s (del_block b) rs (added s (DeleteBlock b) d.rec)) t a r refl z (placed-here d t (view d s) z.located b) f)

pub deletes-list : (d : Disk) (s l : ℕ) (t : Tables) (a : Result (Unit {0}) Refusal) (r : Record) → Sees false d s t
    → OfShown t (λ rs. DeletesAfter ((5, is_list l) ∷ (7, taken l rs) ∷ []) s (DeleteList l) (del_list l) rs d.rec a r)
    → Performs (on_stream s (delete_list l)) d (with_record d r) (reply_answer a) []
unfolding refusal questions edit_questions destination accepted made noted number_given change_for carried_by cell_of raw map_entry map_change as_entry frees
deletes-list d s l t a r z f =
    let k = on_stream s (delete_list l) in
    decides-performs k d _ a r tt refl
    (λ h. ap (λ (x : Disk). reply x 0 0 []) (deletion-made (del_list l) (del_list l) (DeleteList l) d t s z refl refl refl (λ rs. ap (λ (bs : List ℕ). bs ++ list_number l ∷ []) (blocks_of-map (contents d) rs l)) refl (edit-makes s (delete_list l) d h)))
    (seen-decides k d s 7 (is_list l) (taken l (view d s).lists) (taken l) (λ rs. relisted_on s (del_list l) rs (added s (DeleteList l) d.rec)) t a r refl z (taken_here d t (view d s) z.located l) f)
