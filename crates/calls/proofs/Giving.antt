-- The numbers given: from what the tables say of free numbers, and of the questions of a take and a put, to what NewList and NewBlock perform.
use mathlib.Core.Path.{◌≡◌, refl, sym, ap, ◌∙◌, subst}
use mathlib.Core.Logic.{◌≢◌}
use mathlib.Core.Bool.{Bool, true, false, ◌&&◌, ◌||◌, not, cond}
use mathlib.Core.Option.{Option, none, some}
use mathlib.Core.List.{List, [], ◌∷◌}
use Prim.Native.Nat.{ℕ, zero, suc, ◌≤◌}
use native.Mathlib.Omega.{arith}
use lib.Dec.{leb, eqb, eqb-suc-zero}
use Rattle.lists.specs.Basic.{is_some, or_else}
use Rattle.lists.specs.Change.{take_list, map_change, carried_by}
use Rattle.lists.specs.State.{Row, taken, on_list}
use Rattle.lists.specs.InUse.{list_number}
use Rattle.lists.specs.promises.Tables.{Tables}
use borrow.Author.Tests.{not-true}
use Rattle.lists.proofs.Basic.{eqb-false, eqb-neq}
use Rattle.card_log.specs.declared.entry.LogEntry.{LogEntry}
use Rattle.card_log.specs.declared.entry.LogEntry.TheVariants.{Take}
use Rattle.card_log.specs.Entry.{map_entry, raw, is_list, as_entry}
use Rattle.card_log.specs.Cell.{cell_of}
use Rattle.disk.specs.Record.{Record, listed_in, holding}
use Rattle.std.specs.Prelude.{Result, Ok, Err}
use Rattle.std.specs.Prelude as P
use Rattle.std.specs.Option.{ok_or}
use Rattle.answers.specs.declared.Refusal.{Refusal}
use Rattle.answers.specs.declared.Refusal.TheVariants.{OutOfRange, ListNotTaken, PredecessorElsewhere, NoNumberFree}
use Rattle.disk.specs.Disk.{Disk, with_record}
use Rattle.disk.specs.Call.{new_list, on_stream, destination}
use Rattle.disk.specs.Questions.{first_free, free_list, edit_questions, questions, first_no, refusal}
use Rattle.disk.specs.Perform.{accepted, hold, relisted, given as given_out, noted, made, number_given, change_for}
use Rattle.answers.specs.Answers.{number, number_answer}
use Rattle.disk.specs.promises.Listing.{as_option, Padded, unlisted}
use Rattle.disk.proofs.Questions.{first-free}
use Rattle.disk.proofs.Listing.{padded-same}
use Rattle.calls.specs.Performs.{Performs}
use Rattle.calls.specs.promises.Entering.{Admitted}
use Rattle.calls.specs.promises.Adds.{added, rooms, Adds}
use Rattle.calls.specs.promises.Giving.{none0, GivenBlock, free_list_in, taken_list, Takes, put_entry, held_by, put_block, Gives, put_questions, ranged_put_questions}
use Rattle.inspect.proofs.Asking.{ask-yes, ask-no}
use Rattle.calls.proofs.Refusing.{usual-performs-refused, performs-accepted}
use Rattle.calls.proofs.Adding.{rooms-yes, change-added, added-padded}
use Rattle.calls.proofs.Entering.{entered}

-- The first free number, 0 for none.
module _ (m k : ℕ) (ns : List ℕ) where
  pub free-number : is_some (first_free m k ns) ≡ not (eqb (or_else 0 (first_free m k ns)) 0)
  unfolding is_some or_else
  free-number = go (first_free m k ns) refl
    where
      go : (o : Option ℕ) → first_free m k ns ≡ o → is_some o ≡ not (eqb (or_else 0 o) 0)
      go none e = refl
      go (some n) e = let f = first-free m k n ns e in rw (eqb-false n 0 (λ z. omega arith))

  free-some : (n : ℕ) → n ≡ or_else 0 (first_free m k ns) → n ≢ 0 → first_free m k ns ≡ some n
  unfolding or_else
  free-some n h z = go (first_free m k ns) h
    where
      go : (o : Option ℕ) → n ≡ or_else 0 o → o ≡ some n
      go none e = absurd (z e)
      go (some x) e = ap some (sym e)

  -- the same in code
  pub none0-is : (o : P.Option ℕ) → as_option o ≡ first_free m k ns → none0 o ≡ or_else 0 (first_free m k ns)
  unfolding or_else
  none0-is P.None h = rw (← h) refl
  none0-is (P.Some n) h = rw (← h) refl

  pub some_range : (n : ℕ) → as_option (P.Some n) ≡ first_free m k ns → (1 ≤ n) × (n ≤ k)
  some_range n h = let f = first-free m k n ns (sym h) in (f.0, f.1)

  pub some_nonzero : (n : ℕ) → as_option (P.Some n) ≡ first_free m k ns → not (eqb n 0) ≡ true
  some_nonzero n h = rw (eqb-false n 0 (λ z. let f = some_range n h in omega arith))

pub given-block : (ns : List ℕ) (o : P.Option ℕ) → as_option o ≡ first_free 0 64 ns → GivenBlock o
given-block ns P.None h = tt
given-block ns (P.Some n) h = some_range 0 64 ns n h

-- what `ok_or` answers where there is no free number
refusal_in : Result ℕ Refusal → Refusal
refusal_in (Ok n) = NoNumberFree
refusal_in (Err x) = x

pub none_free : (o : P.Option ℕ) (x : Refusal) → o ≡ P.None → Err x ≡ ok_or o NoNumberFree → x ≡ NoNumberFree
unfolding refusal_in
none_free o x n e = ap refusal_in (e ∙ ap (λ (p : P.Option ℕ). ok_or p NoNumberFree) n)

-- A take.
module _ (s : ℕ) (r : Record) (n : ℕ) (h : n ≡ or_else 0 (free_list_in r)) where
  pub takes_none : not (eqb n 0) ≡ false → Takes s r (Err NoNumberFree) r
  unfolding number
  takes_none z = (refl, λ d e. ask-no 10 _ _ (free-number 64 16 (listed_in r) ∙ rw (← h) z))

  module _ (z : not (eqb n 0) ≡ true) where
    given : free_list_in r ≡ some n
    given = free-some 64 16 (listed_in r) n h (eqb-neq n 0 (not-true _ z))

    pub takes-full : (x : Refusal) (r' : Record) → Adds s (Take n) r (Err x) r' → Takes s r (Err x) r'
    unfolding is_some
    takes-full x r' a = (a.0, λ d e. ask-yes 10 _ _ (rw given) ∙ a.1 d e)

    pub takes : (r' r'' : Record) → Adds s (Take n) r (Ok tt) r' → r'' ≡ unlisted (list_number n) (held_by s (list_number n) r') → Takes s r (Ok n) r''
    takes r' r'' a e = (e ∙ ap (λ (x : Record). unlisted (list_number n) (held_by s (list_number n) x)) a.0, given, λ d k. rooms-yes d s (a.1 d k))

-- What is held leaves the order alone, as what is added does.
padded-held : (s n : ℕ) (r : Record) → Padded r → Padded (held_by s n r)
padded-held s n r p = padded-same r (held_by s n r) (go (eqb s 0)) p
  where
    go : (b : Bool) → (cond b r (holding n s r)).tally ≡ r.tally
    go true = refl
    go false = refl

pub padded-given : (s n : ℕ) (e : LogEntry) (r r' r'' : Record) → Adds s e r (Ok tt) r' → r'' ≡ held_by s n r' → Padded r → Padded r''
padded-given s n e r r' r'' a h p = subst Padded (sym (h ∙ ap (held_by s n) a.0)) (padded-held s n (added s e r) (added-padded s e r p))

pub hold-record : (s n : ℕ) (d : Disk) (r : Record) → hold s n (with_record d r) ≡ with_record d (held_by s n r)
unfolding hold
hold-record zero n d r = refl
hold-record (suc u) n d r = rw (eqb-suc-zero u)

take-disk : (s l : ℕ) (d : Disk) → made s (take_list l) d ≡ with_record d (taken_list s l d.rec)
unfolding made noted given_out relisted carried_by cell_of raw map_entry map_change as_entry
take-disk s l d =
    ap (λ (x : Disk). given_out (list_number l) (hold s (list_number l) x)) (change-added s (take_list l) (Take l) d refl refl)
    ∙ ap (given_out (list_number l)) (hold-record s (list_number l) d (added s (Take l) d.rec))

pub takes-performs : (s : ℕ) (d : Disk) (t : Tables) (k : Admitted true d s t) (a : Result ℕ Refusal) (r' : Record)
    → Takes s d.rec a r' → Performs (on_stream s new_list) d (with_record d r') (number_answer a) []
unfolding number_answer refusal questions edit_questions free_list destination accepted number_given change_for or_else is_some
takes-performs s d t k a r' = go a
  where
    rest : refusal (on_stream s new_list) d ≡ first_no ((10, is_some (free_list_in d.rec)) ∷ rooms d s)
    rest = entered true d s t _ k

    go : (a : Result ℕ Refusal) → Takes s d.rec a r' → Performs (on_stream s new_list) d (with_record d r') (number_answer a) []
    go (Err x) h = rw h.0 (usual-performs-refused (on_stream s new_list) d x tt (rest ∙ h.1 d refl))
    go (Ok l) h = performs-accepted (on_stream s new_list) d _ (rest ∙ rw h.1 (ask-yes 10 _ _ refl ∙ h.2 d refl)) (rw (h.1, take-disk s l d, h.0))

-- A put: a question more before the others.
module _ (qs : List (ℕ × Bool)) (s l p b : ℕ) (r : Record) (n : ℕ) (q : Bool) where
  puts-no : (x : Refusal) → n ≡ number x → q ≡ false → Gives ((n, q) ∷ qs) s l p b r (Err x) r
  puts-no x e h = (refl, λ d k. ask-no n q _ h ∙ e)

  puts-yes : (a : Result ℕ Refusal) (r' : Record) → q ≡ true → Gives qs s l p b r a r' → Gives ((n, q) ∷ qs) s l p b r a r'
  puts-yes (Err x) r' h k = (k.0, λ d e. ask-yes n q _ h ∙ k.1 d e)
  puts-yes (Ok m) r' h k = (k.0, k.1, λ d e. ask-yes n q _ h ∙ k.2 d e)

module _ (s l p b : ℕ) (r : Record) (rs : List (Row ℕ)) where
  ten : List (ℕ × Bool)
  ten = (10, not (eqb b 0)) ∷ []

  nine : List (ℕ × Bool)
  nine = (9, eqb p 0 || on_list l p rs) ∷ ten

  pub put-outside : is_list l && leb p 64 ≡ false → Gives (ranged_put_questions l p b rs) s l p b r (Err OutOfRange) r
  unfolding number
  put-outside h = puts-no (put_questions l p b rs) s l p b r 5 _ OutOfRange refl h

  pub put-inside : (a : Result ℕ Refusal) (r' : Record) → is_list l && leb p 64 ≡ true → Gives (put_questions l p b rs) s l p b r a r' → Gives (ranged_put_questions l p b rs) s l p b r a r'
  put-inside a r' h k = puts-yes (put_questions l p b rs) s l p b r 5 _ a r' h k

  pub put-not-taken : taken l rs ≡ false → Gives (put_questions l p b rs) s l p b r (Err ListNotTaken) r
  unfolding number ten nine
  put-not-taken h = puts-no nine s l p b r 7 _ ListNotTaken refl h

  module _ (t : taken l rs ≡ true) where
    pub put-elsewhere : eqb p 0 || on_list l p rs ≡ false → Gives (put_questions l p b rs) s l p b r (Err PredecessorElsewhere) r
    unfolding number ten nine
    put-elsewhere h = puts-yes nine s l p b r 7 _ (Err PredecessorElsewhere) r t (puts-no ten s l p b r 9 _ PredecessorElsewhere refl h)

    module _ (o : eqb p 0 || on_list l p rs ≡ true) where
      pub put-none : not (eqb b 0) ≡ false → Gives (put_questions l p b rs) s l p b r (Err NoNumberFree) r
      unfolding number ten nine
      put-none h =
          puts-yes nine s l p b r 7 _ (Err NoNumberFree) r t
          (puts-yes ten s l p b r 9 _ (Err NoNumberFree) r o (puts-no [] s l p b r 10 _ NoNumberFree refl h))

      pub put_some : (a : Result ℕ Refusal) (r' : Record) → not (eqb b 0) ≡ true → Gives [] s l p b r a r' → Gives (put_questions l p b rs) s l p b r a r'
      unfolding ten nine
      put_some a r' h k = puts-yes nine s l p b r 7 _ a r' t (puts-yes ten s l p b r 9 _ a r' o (puts-yes [] s l p b r 10 _ a r' h k))

-- Where the put ends.
module _ (s l p b : ℕ) (r : Record) where
  pub puts-full : (x : Refusal) (r' : Record) → Adds s (put_entry b l p) r (Err x) r' → Gives [] s l p b r (Err x) r'
  puts-full x r' h = h

  pub puts-block : (r' r'' : Record) → Adds s (put_entry b l p) r (Ok tt) r' → r'' ≡ unlisted b (held_by s b r') → Gives [] s l p b r (Ok b) r''
  unfolding put_block
  puts-block r' r'' h e = (refl, e ∙ ap (λ (x : Record). unlisted b (held_by s b x)) h.0, λ d k. rooms-yes d s (h.1 d k))
