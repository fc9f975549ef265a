-- What a map says, kind by kind: the entry of its fields if they are in range, and the place behind it; and what the mark of a member adds.
use mathlib.Core.Path.{◌≡◌, refl, sym, ap, ◌∙◌}
use mathlib.Core.Logic.{◌≢◌}
use mathlib.Core.Bool.{Bool, true, false, ◌&&◌, cond, and-true, and-false}
use mathlib.Core.Option.{Option, none, some, some-injective}
use mathlib.Core.List.{List}
use Prim.Native.Nat.{ℕ, ◌+◌, ◌-◌, ◌*◌, ◌%◌, ◌≤◌, ◌<◌}
use native.Mathlib.Omega.{arith}
use native.Mathlib.Nat.{add-zero}
use lib.Bits.{bit_and, and_mask}
use lib.Dec.{eqb, leb}
use lib.ListN.{length, get_or, take, length-drop, length-take}
use lib.Seq.{get_or-drop, drop-drop}
use borrow.Author.Tests.{ne_eqb, lt-leb, le-leb, leb-true, leb-false}
use Rattle.lists.specs.Basic.{guard, bind, all, from}
use Rattle.lists.specs.Change.{Change, write, carried_by}
use Rattle.lists.proofs.Basic.{and-true as both_true, bind-bind, bind-ext, bind-some, guard-some, eqb-true, all_from}
use Rattle.card_log.specs.Raced.{Raced, raced}
use Rattle.card_log.specs.Entry.{Entry, plain, member, commit, as_entry, change_of, entry_of, checked, legal, legal_change, is_block, is_list, is_slot, is_count, is_race, size_of, decode, carried}
use Rattle.card_log.specs.Card.{part, is_next, entry_at}
use Rattle.card_log.specs.promises.Parse.{byte_at, decoded_at}
use Rattle.card_log.specs.promises.Found.{entered, InSegment, bytes_from, Stands}
use Rattle.card_log.specs.declared.entry.LogEntry.{LogEntry}
use Rattle.card_log.specs.declared.entry.LogEntry.TheVariants.{Take, PutFirst, PutAfter, Write, DeleteBlock, DeleteList, Commit}

-- nothing asked of nothing; an entry of which nothing is asked
guard_none : {A : Type 0} (t : Bool) → ◌≡◌ {A = Option A} none (guard t none)
guard_none true = refl
guard_none false = refl

bind-alone : {A : Type 0} (o : Option A) → o ≡ bind o (λ x. some x)
bind-alone none = refl
bind-alone (some x) = refl

-- an entry in range and the place behind it
abbrev in_range : Bool → LogEntry → ℕ → Option (Entry (Raced ℕ) × ℕ)
in_range t x n = guard t (some (as_entry false x, n))

in-range : (k : ℕ) (x : Entry (Raced ℕ)) (t u : Bool) (n : ℕ) → is_next k (carried x) ≡ u
    → guard {A = Entry (Raced ℕ) × ℕ} (t && u) (some (x, n)) ≡ bind (guard t (some x)) (λ y. guard (is_next k (carried y)) (some (y, n)))
in-range k x true u n h = rw h
in-range k x false u n h = refl

-- without a slot
in-turn : (k : ℕ) (x : Entry (Raced ℕ)) (t : Bool) (n : ℕ) → is_next k (carried x) ≡ true
    → guard {A = Entry (Raced ℕ) × ℕ} t (some (x, n)) ≡ bind (guard t (some x)) (λ y. guard (is_next k (carried y)) (some (y, n)))
in-turn k x t n h = rw and-true at (in-range k x t true n h)

-- byte j of an entry that ends before e
pub field-before : (a e n j : ℕ) → leb n (e - a) ≡ true → j < n → a + j < e
field-before a e n j w h = omega (arith, leb-true n (e - a) w)

-- an entry that does not
pub parsed-cut : (c : List ℕ) (a e k m : ℕ) → leb (size_of m) (e - a) ≡ false → none ≡ decoded_at c a e k m
unfolding decoded_at
parsed-cut c a e k m h = rw h

-- one that does: its fields, whether they are in range, and its length
module _ (c : List ℕ) (a e k : ℕ) (t : Bool) (n : ℕ) where
  pub parsed-take : (l : ℕ) → leb (size_of 2) (e - a) ≡ true → l ≡ byte_at c e (a + 1) → t ≡ is_list l → n ≡ size_of 2
      → in_range t (Take l) (a + n) ≡ decoded_at c a e k 2
  unfolding decoded_at entry_of change_of checked legal legal_change as_entry is_next carried carried_by
  parsed-take l w h1 q z = rw (w, q, z, ← h1) (in-turn k (as_entry false (Take l)) (is_list l) (a + 2) refl)

  pub parsed-put-first : (b l : ℕ) → leb (size_of 3) (e - a) ≡ true → b ≡ byte_at c e (a + 1) → l ≡ byte_at c e (a + 2) → t ≡ (is_block b && is_list l) → n ≡ size_of 3
      → in_range t (PutFirst b l) (a + n) ≡ decoded_at c a e k 3
  unfolding decoded_at entry_of change_of checked legal legal_change as_entry is_next carried carried_by
  parsed-put-first b l w h1 h2 q z = rw (w, q, z, ← h1, ← h2) (in-turn k (as_entry false (PutFirst b l)) (is_block b && is_list l) (a + 3) refl)

  pub parsed-put-after : (b l p : ℕ) → leb (size_of 7) (e - a) ≡ true → b ≡ byte_at c e (a + 1) → l ≡ byte_at c e (a + 2) → p ≡ byte_at c e (a + 3) → t ≡ (is_block b && is_list l && is_block p) → n ≡ size_of 7
      → in_range t (PutAfter b l p) (a + n) ≡ decoded_at c a e k 7
  unfolding decoded_at entry_of change_of checked legal legal_change as_entry is_next carried carried_by
  parsed-put-after b l p w h1 h2 h3 q z = rw (w, q, z, ← h1, ← h2, ← h3) (in-turn k (as_entry false (PutAfter b l p)) (is_block b && is_list l && is_block p) (a + 4) refl)

  pub parsed-write : (b s : ℕ) → leb (size_of 9) (e - a) ≡ true → b ≡ byte_at c e (a + 1) → s ≡ byte_at c e (a + 2) → t ≡ (is_block b && is_slot s && eqb s k) → n ≡ size_of 9
      → in_range t (Write b s 0) (a + n) ≡ decoded_at c a e k 9
  unfolding decoded_at entry_of change_of checked legal legal_change as_entry is_next carried carried_by
  parsed-write b s w h1 h2 q z = rw (w, q, z, ← h1, ← h2, and-true (is_block b && is_slot s)) (in-range k (as_entry false (Write b s 0)) (is_block b && is_slot s) (eqb s k) (a + 3) refl)

  pub parsed-raced : (b s r : ℕ) → leb (size_of 73) (e - a) ≡ true → b ≡ byte_at c e (a + 1) → s ≡ byte_at c e (a + 2) → r ≡ byte_at c e (a + 3) → (leb 1 r && is_race r) ≡ true
      → t ≡ (is_block b && is_slot s && eqb s k) → n ≡ size_of 73 → in_range t (Write b s r) (a + n) ≡ decoded_at c a e k 73
  unfolding decoded_at entry_of change_of checked legal legal_change as_entry is_next carried carried_by
  parsed-raced b s r w h1 h2 h3 l q z =
      let (u, v) = both_true (leb 1 r) (is_race r) l in
      rw (w, q, z, ← h1, ← h2, ← h3, u, v, and-true (is_block b && is_slot s)) (in-range k (as_entry false (Write b s r)) (is_block b && is_slot s) (eqb s k) (a + 4) refl)

  pub parsed-delete-block : (b : ℕ) → leb (size_of 33) (e - a) ≡ true → b ≡ byte_at c e (a + 1) → t ≡ is_block b → n ≡ size_of 33
      → in_range t (DeleteBlock b) (a + n) ≡ decoded_at c a e k 33
  unfolding decoded_at entry_of change_of checked legal legal_change as_entry is_next carried carried_by
  parsed-delete-block b w h1 q z = rw (w, q, z, ← h1) (in-turn k (as_entry false (DeleteBlock b)) (is_block b) (a + 2) refl)

  pub parsed-delete-list : (l : ℕ) → leb (size_of 34) (e - a) ≡ true → l ≡ byte_at c e (a + 1) → t ≡ is_list l → n ≡ size_of 34
      → in_range t (DeleteList l) (a + n) ≡ decoded_at c a e k 34
  unfolding decoded_at entry_of change_of checked legal legal_change as_entry is_next carried carried_by
  parsed-delete-list l w h1 q z = rw (w, q, z, ← h1) (in-turn k (as_entry false (DeleteList l)) (is_list l) (a + 2) refl)

  pub parsed-commit : (m : ℕ) → leb (size_of 16) (e - a) ≡ true → m ≡ byte_at c e (a + 1) → t ≡ is_count m → n ≡ size_of 16
      → in_range t (Commit m) (a + n) ≡ decoded_at c a e k 16
  unfolding decoded_at entry_of change_of checked legal legal_change as_entry is_next carried carried_by
  parsed-commit m w h1 q z = rw (w, q, z, ← h1) (in-turn k (as_entry false (Commit m)) (is_count m) (a + 2) refl)

-- "a race byte of 0 or above 24 is a fault in mounting"
pub raced-none : (c : List ℕ) (a e k r : ℕ) → r ≡ byte_at c e (a + 3) → (leb 1 r && is_race r) ≡ false → none ≡ decoded_at c a e k 73
unfolding decoded_at entry_of change_of checked legal legal_change
raced-none c a e k r h f = rw (← h) (go (leb 1 r) refl)
  where
    x : ℕ
    x = byte_at c e (a + 1)

    y : ℕ
    y = byte_at c e (a + 2)

    turn : Entry (Raced ℕ) → Option (Entry (Raced ℕ) × ℕ)
    turn d = guard (is_next k (carried d)) (some (d, a + 4))

    large : (l : Bool) → leb 1 r ≡ l → l ≡ true → is_race r ≡ false
    large l e q = rw (e ∙ q) at f

    go : (l : Bool) → leb 1 r ≡ l
        → none ≡ guard (leb 4 (e - a)) (bind (bind (guard l (some (write x (raced y r)))) (λ d. guard (legal_change d) (some (plain d)))) turn)
    go true l = rw (large true l refl, and-false (is_block x && is_slot y)) (guard_none (leb 4 (e - a)))
    go false l = guard_none (leb 4 (e - a))

-- a map of no kind
pub parsed-none : (c : List ℕ) (a e k m : ℕ) → m < 128 → m ≢ 2 → m ≢ 3 → m ≢ 7 → m ≢ 9 → m ≢ 73 → m ≢ 33 → m ≢ 34 → m ≢ 16 → none ≡ decoded_at c a e k m
unfolding decoded_at entry_of change_of
parsed-none c a e k m h p2 p3 p7 p9 p73 p33 p34 p16 =
    simp (ne_eqb m 16 p16, lt-leb 128 m h, ne_eqb m 2 p2, ne_eqb m 3 p3, ne_eqb m 7 p7, ne_eqb m 9 p9, ne_eqb m 73 p73, ne_eqb m 33 p33, ne_eqb m 34 p34) (guard_none (leb (size_of m) (e - a)))

-- What the mark of a member adds to a map.
abbrev as_member : Entry (Raced ℕ) → Option (Entry (Raced ℕ))
as_member (plain c) = some (member c)
as_member (member c) = none
as_member (commit n) = none

abbrev mark : Bool → Entry (Raced ℕ) → Option (Entry (Raced ℕ))
mark true x = as_member x
mark false x = some x

checked-member : (c : Change (Raced ℕ)) → checked (member c) ≡ bind (checked (plain c)) as_member
unfolding checked legal
checked-member c = go (legal_change c)
  where
    go : (l : Bool) → guard l (some (member c)) ≡ bind (guard l (some (plain c))) as_member
    go true = refl
    go false = refl

no-commit : (x : ℕ) (l : Bool) → ◌≡◌ {A = Option (Entry (Raced ℕ))} none (bind (guard l (some (commit x))) as_member)
no-commit x true = refl
no-commit x false = refl

entry-marked : (m x y z : ℕ) → 128 ≤ m → m < 256 → entry_of m x y z ≡ bind (entry_of (m - 128) x y z) as_member
unfolding entry_of change_of checked
entry-marked m x y z h l =
    rw (ne_eqb m 16 (λ e. omega arith), le-leb 128 m h, lt-leb 128 (m - 128) (omega arith)) (go (eqb (m - 128) 16) refl)
  where
    go : (b : Bool) → eqb (m - 128) 16 ≡ b
        → bind (change_of (m - 128) x y z) (λ c. checked (member c)) ≡ bind (cond b (checked (commit x)) (bind (change_of (m - 128) x y z) (λ c. checked (plain c)))) as_member
    go true e = rw (eqb-true (m - 128) 16 e) (no-commit x (legal (commit x)))
    go false e = bind-ext (change_of (m - 128) x y z) (λ c. checked (member c)) (λ c. bind (checked (plain c)) as_member) checked-member ∙ sym (bind-bind (change_of (m - 128) x y z) (λ c. checked (plain c)) as_member)

-- the map m by its kind, m % 128
entry-by : (m x y z : ℕ) → m < 256 → entry_of m x y z ≡ bind (entry_of (m % 128) x y z) (mark (leb 128 m))
entry-by m x y z h = go (leb 128 m) refl
  where
    go : (b : Bool) → leb 128 m ≡ b → entry_of m x y z ≡ bind (entry_of (m % 128) x y z) (mark b)
    go true q = let k : m % 128 ≡ m - 128 = omega (arith, leb-true 128 m q) in rw k (entry-marked m x y z (leb-true 128 m q) h)
    go false q = let k : m % 128 ≡ m = omega (arith, leb-false 128 m q) in rw k (bind-alone (entry_of m x y z))

entered-mark : (t : Bool) (e : LogEntry) → entered t e ≡ mark t (as_entry false e)
unfolding as_entry
entered-mark false e = refl
entered-mark true (Take l) = refl
entered-mark true (PutFirst b l) = refl
entered-mark true (PutAfter b l p) = refl
entered-mark true (Write b s n) = refl
entered-mark true (DeleteBlock b) = refl
entered-mark true (DeleteList l) = refl
entered-mark true (Commit n) = refl

size-marked : (m : ℕ) → m < 256 → size_of (m % 128) ≡ size_of m
unfolding all from
size-marked m h = eqb-true (size_of (m % 128)) (size_of m) (all_from (λ k. eqb (size_of (k % 128)) (size_of k)) (λ k. k) 0 256 refl m (omega arith) (omega arith))

-- What a map says is legal.
entry-legal : (m x y z : ℕ) (e : Entry (Raced ℕ)) → entry_of m x y z ≡ some e → legal e ≡ true
unfolding entry_of checked
entry-legal m x y z e h = first (eqb m 16) h
  where
    tested : (d : Entry (Raced ℕ)) → guard (legal d) (some d) ≡ some e → legal e ≡ true
    tested d q = let (l, s) = guard-some (legal d) (some d) e q in ap legal (sym (some-injective _ _ s)) ∙ l

    change : (o : Option (Change (Raced ℕ))) (f : Change (Raced ℕ) → Entry (Raced ℕ)) → bind o (λ c. guard (legal (f c)) (some (f c))) ≡ some e → legal e ≡ true
    change o f q = let (c, u, v) = bind-some o (λ c. guard (legal (f c)) (some (f c))) e q in tested (f c) v

    second : (b : Bool) → cond b (bind (change_of (m - 128) x y z) (λ c. guard (legal (member c)) (some (member c)))) (bind (change_of m x y z) (λ c. guard (legal (plain c)) (some (plain c)))) ≡ some e
        → legal e ≡ true
    second true q = change (change_of (m - 128) x y z) member q
    second false q = change (change_of m x y z) plain q

    first : (b : Bool)
        → cond b (guard (legal (commit x)) (some (commit x)))
        (cond (leb 128 m) (bind (change_of (m - 128) x y z) (λ c. guard (legal (member c)) (some (member c)))) (bind (change_of m x y z) (λ c. guard (legal (plain c)) (some (plain c))))) ≡ some e
        → legal e ≡ true
    first true q = tested (commit x) q
    first false q = second (leb 128 m) q

-- The mark changes nothing of what an entry carries.
turn-mark : (k : ℕ) (t : Bool) (x : Entry (Raced ℕ)) (r : List ℕ)
    → bind (mark t x) (λ y. guard {A = Entry (Raced ℕ) × List ℕ} (is_next k (carried y)) (some (y, r))) ≡ guard (is_next k (carried x)) (bind (mark t x) (λ y. some (y, r)))
unfolding carried
turn-mark k false x r = refl
turn-mark k true (plain c) r = refl
turn-mark k true (member c) r = guard_none (is_next k (carried_by c))
turn-mark k true (commit n) r = guard_none (is_next k none)

-- The entry at the front of a part of the card.
abbrev said_by : List ℕ → ℕ → ℕ → ℕ → Option (Entry (Raced ℕ))
said_by c a e m = entry_of m (byte_at c e (a + 1)) (byte_at c e (a + 2)) (byte_at c e (a + 3))

record Said (c : List ℕ) (a e k m : ℕ) (x : Entry (Raced ℕ)) (n : ℕ) : Type 0 where
  fits : size_of m ≤ e - a
  behind : n ≡ a + size_of m
  said : said_by c a e m ≡ some x
  turn : is_next k (carried x) ≡ true

decoded-some : (c : List ℕ) (a e k m : ℕ) (x : Entry (Raced ℕ)) (n : ℕ) → ◌≡◌ {A = Option (Entry (Raced ℕ) × ℕ)} (some (x, n)) (decoded_at c a e k m) → Said c a e k m x n
unfolding decoded_at
decoded-some c a e k m x n h =
    let (s, w) = guard-some (leb (size_of m) (e - a)) (bind (said_by c a e m) (λ y. guard (is_next k (carried y)) (some (y, a + size_of m)))) (x, n) (sym h) in
    let (y, p, u) = bind-some (said_by c a e m) (λ y. guard (is_next k (carried y)) (some (y, a + size_of m))) (x, n) w in
    let (t, v) = guard-some (is_next k (carried y)) (some (y, a + size_of m)) (x, n) u in
    let z : ◌≡◌ {A = Entry (Raced ℕ) × ℕ} (y, a + size_of m) (x, n) = some-injective _ _ v in
    let f : y ≡ x = ap (λ (i : Entry (Raced ℕ) × ℕ). i.0) z in
    record { fits = leb-true _ _ s; behind = sym (ap (λ (i : Entry (Raced ℕ) × ℕ). i.1) z); said = p ∙ ap some f; turn = ap (λ (i : Entry (Raced ℕ)). is_next k (carried i)) (sym f) ∙ t }

module _ (c : List ℕ) (a e : ℕ) (l : e ≤ length c) where
  part_at : (j : ℕ) → get_or (part c a e) j 0 ≡ byte_at c e (a + j)
  part_at j = get_or-drop a (take e c) j 0

  part-first : get_or (part c a e) 0 0 ≡ byte_at c e a
  part-first = part_at 0 ∙ rw (add-zero a)

  pub part-size : length (part c a e) ≡ e - a
  part-size = simp (length-drop, length-take) (omega arith)

  module _ (m : ℕ) (q : m ≡ byte_at c e a) (h : m < 256) where
    decode-part : decode (part c a e) ≡ guard (leb (size_of m) (e - a)) (bind (said_by c a e m) (λ x. some (x, part c (a + size_of m) e)))
    unfolding decode
    decode-part = rw (part-first, part_at 1, part_at 2, part_at 3, part-size, ← q, drop-drop (size_of m) a (take e c))

    -- the entry there is the decoded one with its mark
    entry-at : (k : ℕ) → entry_at k (part c a e) ≡ bind (decoded_at c a e k (m % 128)) (λ z. bind (mark (leb 128 m) z.0) (λ y. some (y, part c z.1 e)))
    unfolding entry_at decoded_at
    entry-at k = rw (decode-part, entry-by m (byte_at c e (a + 1)) (byte_at c e (a + 2)) (byte_at c e (a + 3)) h, size-marked m h) (go (leb (size_of m) (e - a)) (said_by c a e (m % 128)))
      where
        asked : (x : Entry (Raced ℕ)) (b : Bool) → guard {A = Entry (Raced ℕ) × List ℕ} b (bind (mark (leb 128 m) x) (λ y. some (y, part c (a + size_of m) e)))
            ≡ bind (guard {A = Entry (Raced ℕ) × ℕ} b (some (x, a + size_of m))) (λ z. bind (mark (leb 128 m) z.0) (λ y. some (y, part c z.1 e)))
        asked x true = refl
        asked x false = refl

        go : (b : Bool) (o : Option (Entry (Raced ℕ)))
            → bind (guard {A = Entry (Raced ℕ) × List ℕ} b (bind (bind o (mark (leb 128 m))) (λ y. some (y, part c (a + size_of m) e)))) (λ z. guard {A = Entry (Raced ℕ) × List ℕ} (is_next k (carried z.0)) (some z))
            ≡ bind (guard {A = Entry (Raced ℕ) × ℕ} b (bind o (λ x. guard (is_next k (carried x)) (some (x, a + size_of m))))) (λ z. bind (mark (leb 128 m) z.0) (λ y. some (y, part c z.1 e)))
        go false o = refl
        go true none = refl
        go true (some x) =
            bind-bind (mark (leb 128 m) x) (λ y. some (y, part c (a + size_of m) e)) (λ z. guard (is_next k (carried z.0)) (some z))
            ∙ turn-mark k (leb 128 m) x (part c (a + size_of m) e)
            ∙ asked x (is_next k (carried x))

-- What is found at a place of segment g, where the map m stands.
module _ (c : List ℕ) (g a k : ℕ) (i : InSegment c g a) (m : ℕ) (q : m ≡ byte_at c (4096 * g + 4096) a) (h : m < 256) where
  pub finds-none : none ≡ decoded_at c a (4096 * g + 4096) k (bit_and m 127) → entry_at k (bytes_from c g a) ≡ none
  finds-none d = entry-at c a (4096 * g + 4096) i.holds m q h k ∙ rw (← rw (and_mask m 7) at d)

  pub finds-entry : (x : LogEntry) (n : ℕ) → ◌≡◌ {A = Option (Entry (Raced ℕ) × ℕ)} (some (as_entry false x, n)) (decoded_at c a (4096 * g + 4096) k (bit_and m 127)) → Stands c g a k (leb 128 m) x n
  finds-entry x n d =
      let e = rw (and_mask m 7) at d in
      let s = decoded-some c a (4096 * g + 4096) k (m % 128) (as_entry false x) n e in
      record {
        onward = omega (arith, s.behind);
        until = omega (arith, s.behind, s.fits, i.until);
        ranged = entry-legal (m % 128) _ _ _ (as_entry false x) s.said;
        turn = s.turn;
        entry = entry-at c a (4096 * g + 4096) i.holds m q h k ∙ rw (← e, entered-mark (leb 128 m) x);
      }
