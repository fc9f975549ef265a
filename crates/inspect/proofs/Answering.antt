-- Question 3 by its parts: the clauses that the record decides, and those behind the log, asked at locations.
use mathlib.Core.Path.{◌≡◌, refl, ap, ◌∙◌}
use mathlib.Core.Bool.{Bool, true, false, ◌&&◌, and-false}
use mathlib.Core.Option
use mathlib.Core.Option.{Option, none, some}
use mathlib.Core.List.{List, [], ◌∷◌, ◌++◌, map}
use Prim.Native.Nat.{ℕ, zero, suc, ◌-◌}
use lib.Dec.{leb, ltb}
use Rattle.lists.specs.Basic.{is_some, all, each, from}
use Rattle.lists.specs.Change.{Change, take_list, put_first, put_after, write, del_block, del_list, map_change}
use Rattle.lists.specs.State.{Row, map_row}
use Rattle.lists.specs.InUse.{number_count, in_use, brings}
use Rattle.lists.specs.Numbers.{all_numbers}
use Rattle.lists.proofs.Naturality.{taken-map, placed-map}
use Rattle.card_log.specs.Raced.{Raced, with_body}
use Rattle.card_log.specs.Entry.{member, raw, legal, map_entry}
use Rattle.card_log.specs.Reader.{Reader, replay}
use Rattle.card_log.specs.Card.{Content, Written, slot, sound, fault, mounted, card_length, walk_card}
use Rattle.card_log.specs.promises.Location.{card_number}
use Rattle.card_log.proofs.Naturality.{map_reader, raw-map}
use Rattle.disk.specs.Record.{Record, shaped, unit_at, ring_place, unit_count}
use Rattle.disk.specs.Disk.{Disk, disk, unit_of, queued_at, queued, journal_place, journal_at, journal_of, reader_of, committed_reader, state_of, committed}
use Rattle.disk.specs.Sound.{journal_sound, unit_sound, holder_sound, order_sound, due_times, listed_sound, head_standing, record_sound}
use Rattle.inspect.specs.promises.Located.{contents, queued_said, queue_said, queue_here}
use Rattle.inspect.specs.promises.Clauses.{numbers_right, change_right, change_in, unit_right, units_right, lawful, rows_of, settled_right}
use Rattle.inspect.specs.promises.Inspect.{behind_log}
use Rattle.inspect.proofs.Locating.{committed-here, some-map}

-- two tests that agree
module _ {A B : Type 0} (p : A → Bool) (q : B → Bool) where
  all_same : (f : ℕ → A) (g : ℕ → B) (k n : ℕ) → ((i : ℕ) → p (f i) ≡ q (g i)) → all p (from f k n) ≡ all q (from g k n)
  unfolding all from
  all_same f g k zero e = refl
  all_same f g k (suc n) e = rw (e k, all_same f g (suc k) n e)

each_append : (xs ys : List Bool) → each (xs ++ ys) ≡ each xs && each ys
unfolding each
each_append [] ys = refl
each_append (true ∷ xs) ys = each_append xs ys
each_append (false ∷ xs) ys = refl

-- six tests in another order
turned : (l u s h o f : Bool) → each (l ∷ u ∷ s ∷ h ∷ o ∷ f ∷ []) ≡ u && each (l ∷ s ∷ o ∷ f ∷ h ∷ [])
unfolding each
turned false false s h o f = refl
turned false true s h o f = refl
turned true false s h o f = refl
turned true true false h o f = refl
turned true true true false false f = refl
turned true true true false true false = refl
turned true true true false true true = refl
turned true true true true o f = refl

-- The units.
brings-map : {D E : Type 0} (f : D → E) (c : Change D) → brings (map_change f c) ≡ brings c
unfolding map_change
brings-map f (take_list l) = refl
brings-map f (put_first b l) = refl
brings-map f (put_after b l p) = refl
brings-map f (write b d) = refl
brings-map f (del_block b) = refl
brings-map f (del_list l) = refl

change-is : (r : Record) (u : ℕ) (x : Content) (c : Change (Raced ℕ)) → journal_sound r u (map_change (with_body x) c) ≡ change_right r.held.holder u c
unfolding journal_sound change_right map_entry
change-is r u x c = rw (brings-map (with_body x) c, ← raw-map (with_body x) (λ s. refl) 0 (member c), map_entry)

module _ (d : Disk) where
  unit-is : (u : ℕ) → unit_sound d u ≡ unit_right d.rec.held.holder (unit_at d.rec u) u
  unfolding unit_sound unit_right unit_of journal_of journal_at each
  unit-is u = rw (all_same (journal_sound d.rec u) (change_right d.rec.held.holder u) (journal_at d u) (change_in (unit_at d.rec u)) 0 (unit_at d.rec u).len change-at)
    where
      change-at : (k : ℕ) → journal_sound d.rec u (journal_at d u k) ≡ change_right d.rec.held.holder u (change_in (unit_at d.rec u) k)
      change-at k = change-is d.rec u (slot d.journal_data (journal_place u k)) (change_in (unit_at d.rec u) k)

  units-is : all (unit_sound d) (from (λ u. u) 1 unit_count) ≡ units_right d.rec
  unfolding units_right
  units-is = all_same (unit_sound d) (λ u. unit_right d.rec.held.holder (unit_at d.rec u) u) (λ u. u) (λ u. u) 1 unit_count unit-is

  pub parts : shaped d.rec ≡ true → record_sound d ≡ numbers_right d.rec && (units_right d.rec && behind_log d)
  unfolding record_sound numbers_right behind_log each
  parts h =
      let r = d.rec in
      let l = all (λ e. legal (raw 0 e)) (queued d) in
      let u = all (unit_sound d) (from (λ u. u) 1 unit_count) in
      let s = is_some (committed_reader d) in
      let k = head_standing d.card r.ring.done (queued d) in
      let o = all (holder_sound r (committed d).lists) all_numbers in
      let f = all (listed_sound r (committed d).lists) all_numbers in
      let ns = leb r.ring.len 32 ∷ ltb r.ring.head 32 ∷ order_sound r ∷ [] in
      ap (λ (b : Bool). b && each (ns ++ l ∷ u ∷ s ∷ k ∷ o ∷ f ∷ [])) h
      ∙ each_append ns (l ∷ u ∷ s ∷ k ∷ o ∷ f ∷ [])
      ∙ ap (λ (b : Bool). each ns && b) (turned l u s k o f ∙ ap (λ (b : Bool). b && behind_log d) units-is)

  -- A card with a fault.
  pub fault-behind : (g i : ℕ) → mounted d.card ≡ fault g i → behind_log d ≡ false
  unfolding behind_log each committed_reader reader_of is_some
  fault-behind g i e = rw e (and-false (all (λ e. legal (raw 0 e)) (queued d)))

  -- A card whose log leads to reader x.
  module _ (x : Reader ℕ) (l : card_length d.card ≡ true) (w : walk_card card_number d.card ≡ sound x) where
    abbrev o : Option (Reader ℕ)
    o = replay x (queue_here d.rec)

    lawful-is : all (λ e. legal (raw 0 e)) (queued d) ≡ lawful (queue_said d.rec)
    unfolding queued queued_at queue_said
    lawful-is =
        all_same (λ e. legal (raw 0 e)) (λ e. legal (raw 0 e)) (queued_at d) (queued_said d.rec) 0 d.rec.ring.len
        (λ k. ap legal (raw-map (with_body (slot d.queue_data (ring_place d.rec k))) (λ s. refl) 0 (queued_said d.rec k)))

    some_is : is_some (committed_reader d) ≡ is_some o
    some_is = ap is_some (committed-here d x w l) ∙ some-map (map_reader (contents d)) o

    rows-of : (p : Option (Reader ℕ)) → (state_of (Option.map (map_reader (contents d)) p)).lists ≡ map (map_row (contents d)) (rows_of p)
    unfolding state_of
    rows-of none = refl
    rows-of (some y) = refl

    rows_is : (committed d).lists ≡ map (map_row (contents d)) (rows_of o)
    unfolding committed
    rows_is = ap (λ (p : Option (Reader Written)). (state_of p).lists) (committed-here d x w l) ∙ rows-of o

    used-map : (n : ℕ) (rs : List (Row ℕ)) → in_use n (map (map_row (contents d)) rs) ≡ in_use n rs
    unfolding in_use
    used-map n rs = rw (placed-map (contents d) n rs, taken-map (contents d) (n - 64) rs)

    holder-is : (b : ℕ) → holder_sound d.rec (committed d).lists b ≡ holder_sound d.rec (rows_of o) b
    unfolding holder_sound
    holder-is b = rw (rows_is, used-map b (rows_of o))

    holders-is : all (holder_sound d.rec (committed d).lists) all_numbers ≡ all (holder_sound d.rec (rows_of o)) all_numbers
    unfolding all_numbers
    holders-is = all_same (holder_sound d.rec (committed d).lists) (holder_sound d.rec (rows_of o)) (λ n. n) (λ n. n) 1 number_count holder-is

    listed-is : (n : ℕ) → listed_sound d.rec (committed d).lists n ≡ listed_sound d.rec (rows_of o) n
    unfolding listed_sound due_times
    listed-is n = rw (rows_is, used-map n (rows_of o))

    all-listed-is : all (listed_sound d.rec (committed d).lists) all_numbers ≡ all (listed_sound d.rec (rows_of o)) all_numbers
    unfolding all_numbers
    all-listed-is = all_same (listed_sound d.rec (committed d).lists) (listed_sound d.rec (rows_of o)) (λ n. n) (λ n. n) 1 number_count listed-is

    queued-is : queued d ≡ queued (disk d.card d.queue_data [] d.rec)
    unfolding queued queued_at
    queued-is = refl

    pub settled_is : behind_log d ≡ settled_right d.card d.queue_data d.rec x
    unfolding settled_right behind_log each
    settled_is = rw (lawful-is, some_is, holders-is, all-listed-is, queued-is)
