-- One parsed entry: how it is read, and what a step says of the items of its segment.
use mathlib.Core.Path.{◌≡◌, refl, sym, ap, ◌∙◌}
use mathlib.Core.Bool.{Bool, true, false}
use mathlib.Core.Option.{Option, none, some, none-ne-some, some-injective}
use mathlib.Core.List.{List, ◌∷◌, ◌++◌}
use Prim.Native.Nat.{ℕ, suc, ◌+◌, ◌*◌, ◌≤◌}
use native.Mathlib.Omega.{arith}
use native.Mathlib.Nat.{add-zero}
use lib.ListN.{length, length-append}
use borrow.Author.Tests.{leb-true}
use Rattle.lists.specs.Basic.{guard, bind}
use Rattle.lists.specs.Change.{Change, take_list, put_first, put_after, write, del_block, del_list, map_change, carried_by}
use Rattle.lists.specs.promises.Tables.{Tables, DidSome}
use Rattle.lists.proofs.Basic.{bind-some, guard-some, eqb-true}
use Rattle.card_log.specs.Raced.{Raced}
use Rattle.card_log.specs.Entry.{Entry, plain, member, commit, map_entry, carried, change_bytes, encode, decode, raw, entry_length, legal, as_entry}
use Rattle.card_log.specs.Reader.{Reader, read}
use Rattle.card_log.specs.Card.{used_by, is_next, entry_at, Item, good, items_of, walk, fault}
use Rattle.card_log.specs.promises.Feed.{Memory, member_set, fields_of, ReadTo, Commits}
use Rattle.card_log.specs.promises.Location.{card_location, number_at, card_number}
use Rattle.card_log.specs.promises.Found.{entered, bytes_from, Stands}
use Rattle.card_log.specs.promises.Walk.{run_after, Reads, step_if, Enters, Advances, Went}
use Rattle.card_log.specs.declared.walk.Cursor.{Cursor}
use Rattle.card_log.specs.declared.walk.Step.{Step}
use Rattle.card_log.specs.declared.walk.Step.TheVariants.{Next, Stuck}
use Rattle.card_log.specs.declared.entry.LogEntry.{LogEntry}
use Rattle.card_log.specs.declared.entry.LogEntry.TheVariants.{Take, PutFirst, PutAfter, Write, DeleteBlock, DeleteList, Commit}
use Rattle.card_log.proofs.Decode.{decode-complete}
use Rattle.card_log.proofs.Parsing.{part-size}
use Rattle.card_log.proofs.Feeding.{NoCommit, fields_change, number_of, ended, legal-ranged, read-now, read-later}
use Rattle.card_log.proofs.Places.{used-one}

-- A parsed entry, which is x, read.
module _ (m : Memory) (run : ℕ) (e x : LogEntry) (q : e ≡ x) (d : ℕ) (f : 1 ≤ d) where
  reads_now : (b : Bool) (u : Tables) → NoCommit x → DidSome (fields_change x (number_of x d)) m.tables b u → Reads m run false e d b (ended m u)
  reads_now b u n w r k l = rw q (read-now x n m run r k d (legal-ranged x n d f (rw q at l)) b u w)

  reads-later : (d' : ℕ) → NoCommit x → entered true x ≡ some (as_entry true x) → fields_change x d' ≡ fields_change x (number_of x d)
      → Reads m run true e d true
      (record {
        tables = m.tables;
        members = member_set m.members run (fields_of x).kind (fields_of x).block (fields_of x).list (fields_of x).predecessor d';
      })
  reads-later d' n p v r k l = rw (q, p) (read-later x n m run r k d (legal-ranged x n d f (rw q at l)) d' v)

reads-commit : (m : Memory) (run : ℕ) (e : LogEntry) (n d : ℕ) → e ≡ Commit n → (b : Bool) (m' : Memory) → Commits m run n b m' → Reads m run false e d b m'
unfolding as_entry map_entry legal
reads-commit m run e n d q b m' w r k l = rw q (w r k (leb-true n 15 (rw q at l)))

-- The step behind it, k slots being used before it, j behind it.
module _ (m : Memory) (run : ℕ) (e x : LogEntry) (q : e ≡ x) (d a k : ℕ) where
  enters-if : (t b : Bool) (m' : Memory) (s : Step) (j : ℕ) → s ≡ step_if b a j (run_after t run) → j ≡ k + used_by (carried (as_entry false x)) → Reads m run t e d b m' → Enters m run t e d a k s m'
  enters-if t true m' s j g u w = rw (g, u, q) (refl, rw q at w)
  enters-if t false m' s j g u w = rw g w

  -- a take or a commit with the mark
  pub enters-never : (m' : Memory) → entered true x ≡ none → Enters m run true e d a k Stuck m'
  enters-never m' p r h l = rw (q, p) refl

module _ (m : Memory) (run : ℕ) (e x : LogEntry) (q : e ≡ x) (d a k : ℕ) (f : 1 ≤ d) where
  pub enters-now : (b : Bool) (u : Tables) (s : Step) (j : ℕ) → s ≡ step_if b a j 0 → j ≡ k + used_by (carried (as_entry false x)) → NoCommit x → DidSome (fields_change x (number_of x d)) m.tables b u
      → Enters m run false e d a k s (ended m u)
  enters-now b u s j g l n w = enters-if m run e x q d a k false b (ended m u) s j g l (reads_now m run e x q d f b u n w)

  pub enters-later : (d' : ℕ) (s : Step) (j : ℕ) → s ≡ step_if true a j (run + 1) → j ≡ k + used_by (carried (as_entry false x)) → NoCommit x → entered true x ≡ some (as_entry true x)
      → fields_change x d' ≡ fields_change x (number_of x d)
      → Enters m run true e d a k s
      (record {
        tables = m.tables;
        members = member_set m.members run (fields_of x).kind (fields_of x).block (fields_of x).list (fields_of x).predecessor d';
      })
  enters-later d' s j g l n o v = enters-if m run e x q d a k true true _ s j g l (reads-later m run e x q d f d' n o v)

pub enters-commit : (m : Memory) (run : ℕ) (e : LogEntry) (n d a k : ℕ) (q : e ≡ Commit n) (b : Bool) (m' : Memory) (s : Step) → s ≡ step_if b a k 0 → Commits m run n b m'
    → Enters m run false e d a k s m'
unfolding as_entry carried used_by
enters-commit m run e n d a k q b m' s g w = enters-if m run e (Commit n) q d a k false b m' s k g (sym (add-zero k)) (reads-commit m run e n d q b m' w)

-- The mark of a member changes nothing of what an entry carries.
carried-mark : (e : LogEntry) (y : Entry (Raced ℕ)) (t : Bool) → entered t e ≡ some y → carried y ≡ carried (as_entry false e)
unfolding as_entry carried
carried-mark e y false h = ap carried (sym (some-injective _ _ h))
carried-mark (Take l) y true h = ap carried (sym (some-injective _ _ h))
carried-mark (PutFirst b l) y true h = ap carried (sym (some-injective _ _ h))
carried-mark (PutAfter b l p) y true h = ap carried (sym (some-injective _ _ h))
carried-mark (Write b s n) y true h = ap carried (sym (some-injective _ _ h))
carried-mark (DeleteBlock b) y true h = ap carried (sym (some-injective _ _ h))
carried-mark (DeleteList l) y true h = ap carried (sym (some-injective _ _ h))
carried-mark (Commit n) y true h = absurd (none-ne-some _ h)

-- at the next slot a write's number is the card's there
change-next : (g k : ℕ) (c : Change (Raced ℕ)) → is_next k (carried_by c) ≡ true → map_change (number_at (card_location g k)) c ≡ map_change (card_number g) c
unfolding is_next carried_by map_change
change-next g k (take_list l) h = refl
change-next g k (put_first b l) h = refl
change-next g k (put_after b l p) h = refl
change-next g k (write b s) h = ap (λ (n : ℕ). write b (card_location g n + 2048 * s.race)) (sym (eqb-true s.body k h))
change-next g k (del_block b) h = refl
change-next g k (del_list l) h = refl

place-next : (g k : ℕ) (y : Entry (Raced ℕ)) → is_next k (carried y) ≡ true → map_entry (number_at (card_location g k)) y ≡ map_entry (card_number g) y
unfolding carried map_entry
place-next g k (plain c) h = ap plain (change-next g k c h)
place-next g k (member c) h = ap member (change-next g k c h)
place-next g k (commit n) h = refl

length-encode : (e : Entry (Raced ℕ)) → length (encode e) ≡ entry_length e
unfolding entry_length encode raw map_entry map_change change_bytes
length-encode (plain (take_list l)) = refl
length-encode (plain (put_first b l)) = refl
length-encode (plain (put_after b l p)) = refl
length-encode (plain (write b s)) = refl
length-encode (plain (del_block b)) = refl
length-encode (plain (del_list l)) = refl
length-encode (member (take_list l)) = refl
length-encode (member (put_first b l)) = refl
length-encode (member (put_after b l p)) = refl
length-encode (member (write b s)) = refl
length-encode (member (del_block b)) = refl
length-encode (member (del_list l)) = refl
length-encode (commit n) = refl

-- The items from an entry on.
module _ (f : ℕ → Raced ℕ → ℕ) (g k n i : ℕ) (bs : List ℕ) (is : List (Item ℕ)) (r : Reader ℕ) where
  items-bad : entry_at k bs ≡ none → walk r (items_of f g (suc n) i k bs ++ is) ≡ fault g i
  unfolding items_of walk
  items-bad h = rw (h, items_of)

  items-stuck : (y : Entry (Raced ℕ)) (rest : List ℕ) → entry_at k bs ≡ some (y, rest) → read r (map_entry (f g) y) ≡ none → walk r (items_of f g (suc n) i k bs ++ is) ≡ fault g i
  unfolding items_of walk
  items-stuck y rest h w = rw (h, items_of) (rw (w, walk))

pub items-good : {D : Type 0} (f : ℕ → Raced ℕ → D) (g k n i : ℕ) (bs : List ℕ) (y : Entry (Raced ℕ)) (rest : List ℕ) → entry_at k bs ≡ some (y, rest)
    → items_of f g (suc n) i k bs ≡ good g i (map_entry (f g) y) ∷ items_of f g n (suc i) (k + used_by (carried y)) rest
unfolding items_of
items-good f g k n i bs y rest h = rw (h, items_of)

-- an entry that is read ends where the rest begins
size-read : (k : ℕ) (bs : List ℕ) (y : Entry (Raced ℕ)) (rest : List ℕ) → entry_at k bs ≡ some (y, rest) → length bs ≡ length (encode y) + length rest
unfolding entry_at
size-read k bs y rest h =
    let (z, p, q) = bind-some (decode bs) (λ x. guard (is_next k (carried x.0)) (some x)) (y, rest) h in
    let w : z ≡ (y, rest) = some-injective _ _ (guard-some (is_next k (carried z.0)) (some z) (y, rest) q).1 in
    ap length (decode-complete bs (y, rest) (p ∙ ap some w)).0 ∙ length-append (encode y) rest

-- One entry of segment g, found at the cursor.
abbrev pub cursor : ℕ → ℕ → ℕ → Cursor
cursor a k run = record { at = a; slots = k; run = run }

module _ (c : List ℕ) (g : ℕ) (cur : Cursor) (m m' : Memory) where
  pub steps-bad : entry_at cur.slots (bytes_from c g cur.at) ≡ none → Advances c g cur m Stuck m'
  steps-bad p r k n i is = items-bad card_number g cur.slots n i (bytes_from c g cur.at) is r p

  module _ (h : 4096 * g + 4096 ≤ length c) (t : Bool) (x : LogEntry) (n : ℕ) (f : Stands c g cur.at cur.slots t x n) where
    here-is : (o : Option (Entry (Raced ℕ))) → entered t x ≡ o → entry_at cur.slots (bytes_from c g cur.at) ≡ bind o (λ y. some (y, bytes_from c g n))
    here-is o u = f.entry ∙ rw u

    placed : (y : Entry (Raced ℕ)) → entered t x ≡ some y → map_entry (number_at (card_location g cur.slots)) y ≡ map_entry (card_number g) y
    placed y u = place-next g cur.slots y (rw (carried-mark x y t u) f.turn)

    steps-refused : Reads m cur.run t x (card_location g cur.slots) false m' → Advances c g cur m Stuck m'
    steps-refused w r k j i is = go (entered t x) refl (w r k f.ranged)
      where
        go : (o : Option (Entry (Raced ℕ))) → entered t x ≡ o → bind o (λ y. read r (map_entry (number_at (card_location g cur.slots)) y)) ≡ none
            → walk r (items_of card_number g (suc j) i cur.slots (bytes_from c g cur.at) ++ is) ≡ fault g i
        go none u z = items-bad card_number g cur.slots j i (bytes_from c g cur.at) is r (here-is none u)
        go (some y) u z = items-stuck card_number g cur.slots j i (bytes_from c g cur.at) is r y (bytes_from c g n) (here-is (some y) u) (rw (placed y u) at z)

    steps_next : Reads m cur.run t x (card_location g cur.slots) true m'
        → Advances c g cur m (Next (cursor n (cur.slots + used_by (carried (as_entry false x))) (run_after t cur.run))) m'
    steps_next w = record {
      onward = f.onward;
      until = f.until;
      few = omega (arith, used-one (carried (as_entry false x)));
      short = short t;
      went = λ r k. go r (entered t x) refl (w r k f.ranged);
    }
      where
        short : (b : Bool) → run_after b cur.run ≤ cur.run + 1
        short true = omega arith
        short false = omega arith

        size : (y : Entry (Raced ℕ)) → ◌≡◌ {A = Option (Entry (Raced ℕ) × List ℕ)} (entry_at cur.slots (bytes_from c g cur.at)) (some (y, bytes_from c g n)) → n ≡ cur.at + entry_length y
        size y s =
            let l = size-read cur.slots (bytes_from c g cur.at) y (bytes_from c g n) s in
            let l₁ = part-size c cur.at (4096 * g + 4096) h in
            let l₂ = part-size c n (4096 * g + 4096) h in
            let l₃ = length-encode y in
            omega (arith, f.onward, f.until)

        go : (r : Reader ℕ) (o : Option (Entry (Raced ℕ))) → entered t x ≡ o
            → ReadTo (bind o (λ y. read r (map_entry (number_at (card_location g cur.slots)) y))) true m' (run_after t cur.run)
            → Went c g cur r (cursor n (cur.slots + used_by (carried (as_entry false x))) (run_after t cur.run)) m'
        go r none u z = absurd (none-ne-some _ z.1)
        go r (some y) u z =
            let s = here-is (some y) u in
            record {
              entry = y;
              found = s;
              at = size y s;
              slots = ap (λ (j : ℕ). cur.slots + j) (ap used_by (sym (carried-mark x y t u)));
              reader = z.0;
              reads = rw (placed y u) at z.1;
              kept = z.2;
            }

    pub steps-entered : (s : Step) → Enters m cur.run t x (card_location g cur.slots) n cur.slots s m' → Advances c g cur m s m'
    steps-entered Stuck w = steps-refused w
    steps-entered (Next next) w = rw w.0 (steps_next w.1)
