-- Members that the tables recall, and how plain entries, members and commits lead from one reader kept to the next.
use mathlib.Core.Path.{◌≡◌, refl, sym, ◌∙◌, subst}
use mathlib.Core.Logic.{◌≢◌}
use mathlib.Core.Bool.{Bool, true, false, ◌&&◌, cond, true≢false, false≢true}
use mathlib.Core.Option.{Option, none, some}
use mathlib.Core.List.{List, [], ◌∷◌, ◌++◌}
use Prim.Native.Nat.{ℕ, suc, ◌+◌, ◌-◌, ◌*◌, ◌/◌, ◌%◌, ◌≤◌, ◌<◌}
use native.Mathlib.Omega.{arith}
use native.Mathlib.Numerals.{add-one}
use native.Mathlib.Decide.{dec_lt}
use lib.Dec.{leb}
use lib.ListN.{length, get_or, set, drop, length-set, length-append, get_or-append, drop_of_length-le}
use lib.Seq.{get_or-set_same, get_or-set_other, get_or_at, drop-cons}
use borrow.Author.Tests.{le-leb, lt-leb, leb-true}
use Rattle.lists.specs.Basic.{bind}
use Rattle.lists.specs.Change.{Change, take_list, put_first, put_after, write, del_block, del_list, map_change}
use Rattle.lists.specs.State.{State, apply, apply_all}
use Rattle.lists.specs.promises.Tables.{Tables, ShowsAll, Ranged, Represents, Did, DidSome, of_kind}
use Rattle.lists.proofs.Basic.{and-true}
use Rattle.lists.proofs.Naturality.{change-comp}
use Rattle.lists.proofs.Represents.{did-apply}
use Rattle.card_log.specs.Raced.{Raced, raced, with_body}
use Rattle.card_log.specs.Entry.{plain, member, commit, map_entry, is_block, is_list, is_slot, is_race, legal_change, legal, raw, as_change, as_entry}
use Rattle.card_log.specs.Reader.{Reader, reader, settled, read, last_of}
use Rattle.card_log.specs.promises.Location.{number_at}
use Rattle.card_log.specs.promises.Feed.{Memory, member_set, Recalled, Recalls, Keeps, ReadTo, fields_of, FedTo, fed_if, RunUpTo, Commits}
use Rattle.card_log.specs.declared.entry.LogEntry.{LogEntry}
use Rattle.card_log.specs.declared.entry.LogEntry.TheVariants.{Take, PutFirst, PutAfter, Write, DeleteBlock, DeleteList, Commit}
use Rattle.card_log.specs.declared.feed.Fed.TheVariants.{Run}

-- Six bytes stored in a row.
module _ (bs : List ℕ) (i k b l p v w : ℕ) (h : i + 5 < length bs) where
  six : List ℕ
  six = set (set (set (set (set (set bs i k) (i + 1) b) (i + 2) l) (i + 3) p) (i + 4) v) (i + 5) w

  six-other : (j : ℕ) → ((n : ℕ) → n < 6 → j ≡ i + n → ⊥) → get_or six j 0 ≡ get_or bs j 0
  unfolding six
  six-other j e =
      get_or-set_other (set (set (set (set (set bs i k) (i + 1) b) (i + 2) l) (i + 3) p) (i + 4) v) (i + 5) j w 0 (e 5 (omega arith))
      ∙ get_or-set_other (set (set (set (set bs i k) (i + 1) b) (i + 2) l) (i + 3) p) (i + 4) j v 0 (e 4 (omega arith))
      ∙ get_or-set_other (set (set (set bs i k) (i + 1) b) (i + 2) l) (i + 3) j p 0 (e 3 (omega arith))
      ∙ get_or-set_other (set (set bs i k) (i + 1) b) (i + 2) j l 0 (e 2 (omega arith))
      ∙ get_or-set_other (set bs i k) (i + 1) j b 0 (e 1 (omega arith))
      ∙ get_or-set_other bs i j k 0 (λ z. e 0 (omega arith) (omega arith))

  six-0 : get_or six i 0 ≡ k
  unfolding six
  six-0 =
      get_or-set_other (set (set (set (set (set bs i k) (i + 1) b) (i + 2) l) (i + 3) p) (i + 4) v) (i + 5) i w 0 (λ e. omega arith)
      ∙ get_or-set_other (set (set (set (set bs i k) (i + 1) b) (i + 2) l) (i + 3) p) (i + 4) i v 0 (λ e. omega arith)
      ∙ get_or-set_other (set (set (set bs i k) (i + 1) b) (i + 2) l) (i + 3) i p 0 (λ e. omega arith)
      ∙ get_or-set_other (set (set bs i k) (i + 1) b) (i + 2) i l 0 (λ e. omega arith)
      ∙ get_or-set_other (set bs i k) (i + 1) i b 0 (λ e. omega arith)
      ∙ get_or-set_same bs i k 0 (omega arith)

  six-1 : get_or six (i + 1) 0 ≡ b
  unfolding six
  six-1 =
      get_or-set_other (set (set (set (set (set bs i k) (i + 1) b) (i + 2) l) (i + 3) p) (i + 4) v) (i + 5) (i + 1) w 0 (λ e. omega arith)
      ∙ get_or-set_other (set (set (set (set bs i k) (i + 1) b) (i + 2) l) (i + 3) p) (i + 4) (i + 1) v 0 (λ e. omega arith)
      ∙ get_or-set_other (set (set (set bs i k) (i + 1) b) (i + 2) l) (i + 3) (i + 1) p 0 (λ e. omega arith)
      ∙ get_or-set_other (set (set bs i k) (i + 1) b) (i + 2) (i + 1) l 0 (λ e. omega arith)
      ∙ get_or-set_same (set bs i k) (i + 1) b 0 (simp length-set (omega arith))

  six-2 : get_or six (i + 2) 0 ≡ l
  unfolding six
  six-2 =
      get_or-set_other (set (set (set (set (set bs i k) (i + 1) b) (i + 2) l) (i + 3) p) (i + 4) v) (i + 5) (i + 2) w 0 (λ e. omega arith)
      ∙ get_or-set_other (set (set (set (set bs i k) (i + 1) b) (i + 2) l) (i + 3) p) (i + 4) (i + 2) v 0 (λ e. omega arith)
      ∙ get_or-set_other (set (set (set bs i k) (i + 1) b) (i + 2) l) (i + 3) (i + 2) p 0 (λ e. omega arith)
      ∙ get_or-set_same (set (set bs i k) (i + 1) b) (i + 2) l 0 (simp length-set (omega arith))

  six-3 : get_or six (i + 3) 0 ≡ p
  unfolding six
  six-3 =
      get_or-set_other (set (set (set (set (set bs i k) (i + 1) b) (i + 2) l) (i + 3) p) (i + 4) v) (i + 5) (i + 3) w 0 (λ e. omega arith)
      ∙ get_or-set_other (set (set (set (set bs i k) (i + 1) b) (i + 2) l) (i + 3) p) (i + 4) (i + 3) v 0 (λ e. omega arith)
      ∙ get_or-set_same (set (set (set bs i k) (i + 1) b) (i + 2) l) (i + 3) p 0 (simp length-set (omega arith))

  six-4 : get_or six (i + 4) 0 ≡ v
  unfolding six
  six-4 =
      get_or-set_other (set (set (set (set (set bs i k) (i + 1) b) (i + 2) l) (i + 3) p) (i + 4) v) (i + 5) (i + 4) w 0 (λ e. omega arith)
      ∙ get_or-set_same (set (set (set (set bs i k) (i + 1) b) (i + 2) l) (i + 3) p) (i + 4) v 0 (simp length-set (omega arith))

  six-5 : get_or six (i + 5) 0 ≡ w
  unfolding six
  six-5 =
      get_or-set_same (set (set (set (set (set bs i k) (i + 1) b) (i + 2) l) (i + 3) p) (i + 4) v) (i + 5) w 0 (simp length-set (omega arith))

-- One member more.
module _ (ms : List ℕ) (run : ℕ) (cs : List (Change ℕ)) (w : Recalls ms run cs) (k b l p d : ℕ) (c : Change ℕ) (q : of_kind k b l p d ≡ some c) (g : Ranged c) where
  room : 8 * (run % 16) + 5 < length ms
  room = omega (arith, w.bytes)

  -- the new member, and those before it
  last-recalled : Recalled (member_set ms run k b l p d) run c
  unfolding six
  last-recalled =
      let i = 8 * (run % 16) in
      let u = d % 256 in
      let v = d / 256 in
      let e : d % 256 + 256 * (d / 256) ≡ d = omega arith in
      record {
        found =
            rw (six-0 ms i k b l p u v room, six-1 ms i k b l p u v room, six-2 ms i k b l p u v room, six-3 ms i k b l p u v room, six-4 ms i k b l p u v room, six-5 ms i k b l p u v room, e) q;
        ranged = g;
      }

  old-recalled : (j : ℕ) → j < run → run < j + 16 → (m : Change ℕ) → Recalled ms j m → Recalled (member_set ms run k b l p d) j m
  unfolding six
  old-recalled j lo hi m r =
      let i = 8 * (run % 16) in
      let n : j % 16 ≡ run % 16 → ⊥ = λ e. omega arith in
      let o : (f : ℕ) → f < 6 → get_or (member_set ms run k b l p d) (8 * (j % 16) + f) 0 ≡ get_or ms (8 * (j % 16) + f) 0 =
      λ f h. six-other ms i k b l p (d % 256) (d / 256) room (8 * (j % 16) + f) (λ a z e. n (omega arith)) in
      let o₀ = six-other ms i k b l p (d % 256) (d / 256) room (8 * (j % 16)) (λ a z e. n (omega arith)) in
      record { found = rw (o₀, o 1 (omega arith), o 2 (omega arith), o 3 (omega arith), o 4 (omega arith), o 5 (omega arith)) r.found; ranged = r.ranged }

  recalls-more : Recalls (member_set ms run k b l p d) (run + 1) (cs ++ c ∷ [])
  recalls-more = record {
    bytes = simp length-set w.bytes;
    size = simp length-append (omega (arith, w.size));
    each = λ j lo hi. go j lo hi (dec_lt j run);
  }
    where
      go : (j : ℕ) → j < run + 1 → run + 1 ≤ j + 16 → Dec (j < run) → Recalled (member_set ms run k b l p d) j (get_or (cs ++ c ∷ []) j (take_list 0))
      go j lo hi (yes h) =
          rw (get_or-append cs (c ∷ []) (take_list 0) j (omega (arith, w.size))) (old-recalled j h (omega arith) (get_or cs j (take_list 0)) (w.each j h (omega arith)))
      go j lo hi (no h) =
          let e : j ≡ run = omega arith in
          rw (get_or_at cs c [] (take_list 0) j (w.size ∙ sym e), e) last-recalled

-- The tables of a state after the run has ended.
abbrev pub ended : Memory → Tables → Memory
ended m u = record { tables = u; members = m.members }

module _ (m : Memory) (run : ℕ) (r : Reader ℕ) (k : Keeps m run r) where
  kept-settled : (u : Tables) (s : State ℕ) → ShowsAll u s → Keeps (ended m u) 0 (settled s)
  kept-settled u s h = record {
    shows = h;
    recalls = record { bytes = k.recalls.bytes; size = refl; each = λ j lo hi. absurd (omega arith) };
  }

  read-settled : (o : Option (State ℕ)) (b : Bool) (u : Tables) → Represents o b u → ReadTo (bind o (λ s. some (settled s))) b (ended m u) 0
  read-settled none true u h = absurd (true≢false h)
  read-settled none false u h = refl
  read-settled (some s) true u h = (settled s, refl, kept-settled u s h.1)
  read-settled (some s) false u h = absurd (false≢true h.0)

  pub read_plain : (c : Change ℕ) (b : Bool) (u : Tables) → Ranged c → Did c m.tables b u → ReadTo (read r (plain c)) b (ended m u) 0
  unfolding read
  read_plain c b u g d = read-settled (apply c r.state) b u (did-apply c m.tables b u r.state g k.shows d)

  pub read-member : (t b l p d : ℕ) (c : Change ℕ) → of_kind t b l p d ≡ some c → Ranged c
      → ReadTo (read r (member c)) true (record { tables = m.tables; members = member_set m.members run t b l p d }) (run + 1)
  unfolding read
  read-member t b l p d c q g = (
    reader (r.run ++ c ∷ []) r.state,
    refl,
    record { shows = k.shows; recalls = recalls-more m.members run r.run k.recalls t b l p d c q g },
  )

  pub read-commit : (n : ℕ) (b : Bool) (u : Tables) → n ≤ run → Represents (apply_all (last_of n r.run) r.state) b u → ReadTo (read r (commit n)) b (ended m u) 0
  unfolding read
  read-commit n b u h w =
      rw (le-leb n (length r.run) (omega (arith, k.recalls.size))) (read-settled (apply_all (last_of n r.run) r.state) b u w)

  pub read_short : (n : ℕ) → run < n → read r (commit n) ≡ none
  unfolding read
  read_short n h = rw (lt-leb n (length r.run) (omega (arith, k.recalls.size)))

-- A commit's members act, one by one: those from number j on are to come.
module _ (cs : List (Change ℕ)) (j : ℕ) (s : State ℕ) (t : Tables) where
  pub turn-made : j < length cs → Represents (apply (get_or cs j (take_list 0)) s) true t
      → (q : State ℕ) × ShowsAll t q × (apply_all (drop (j + 1) cs) q ≡ apply_all (drop j cs) s)
  unfolding apply_all
  turn-made h = rw (add-one j, drop-cons cs j (take_list 0) h) (go (apply (get_or cs j (take_list 0)) s))
    where
      go : (o : Option (State ℕ)) → Represents o true t → (q : State ℕ) × ShowsAll t q × (apply_all (drop (suc j) cs) q ≡ bind o (λ u. apply_all (drop (suc j) cs) u))
      go none a = absurd (true≢false a)
      go (some q) a = (q, a.1, refl)

  pub turn-refused : j < length cs → Represents (apply (get_or cs j (take_list 0)) s) false t → apply_all (drop j cs) s ≡ none
  unfolding apply_all
  turn-refused h = rw (drop-cons cs j (take_list 0) h) (go (apply (get_or cs j (take_list 0)) s))
    where
      go : (o : Option (State ℕ)) → Represents o false t → bind o (λ u. apply_all (drop (suc j) cs) u) ≡ none
      go none a = refl
      go (some q) a = absurd (false≢true a.0)

  pub all_made : (o : Option (State ℕ)) → length cs ≤ j → ShowsAll t s → apply_all (drop j cs) s ≡ o → Represents o true t
  unfolding apply_all
  all_made o h w e = subst (λ (x : Option (State ℕ)). Represents x true t) (rw (drop_of_length-le cs h) at e) (refl, w)

pub none-refused : (o : Option (State ℕ)) (t : Tables) → o ≡ none → Represents o false t
none-refused o t h = rw h refl

pub last-from : (cs : List (Change ℕ)) (n run : ℕ) → length cs ≡ run → drop (run - n) cs ≡ last_of n cs
unfolding last_of
last-from cs n run h = rw h

-- An entry that is no commit is its change.
abbrev pub NoCommit : LogEntry → Type 0
NoCommit e = (fields_of e).kind ≢ 0

abbrev pub fields_change : LogEntry → ℕ → Option (Change ℕ)
fields_change e d = of_kind (fields_of e).kind (fields_of e).block (fields_of e).list (fields_of e).predecessor d

-- its write at location d: the number in a table, and the change
abbrev pub number_of : LogEntry → ℕ → ℕ
number_of e d = d + 2048 * (fields_of e).race

abbrev pub change_at : LogEntry → ℕ → Change ℕ
change_at e d = map_change (number_at d) (as_change e)

fields-change : (e : LogEntry) (d : ℕ) → NoCommit e → fields_change e (number_of e d) ≡ some (change_at e d)
unfolding of_kind as_change map_change
fields-change (Take l) d h = refl
fields-change (PutFirst b l) d h = refl
fields-change (PutAfter b l p) d h = refl
fields-change (Write b s n) d h = refl
fields-change (DeleteBlock b) d h = refl
fields-change (DeleteList l) d h = refl
fields-change (Commit n) d h = absurd (h refl)

entry-change : (t : Bool) (e : LogEntry) → NoCommit e → as_entry t e ≡ cond t (member (as_change e)) (plain (as_change e))
unfolding as_entry as_change
entry-change t (Take l) h = refl
entry-change t (PutFirst b l) h = refl
entry-change t (PutAfter b l p) h = refl
entry-change t (Write b s n) h = refl
entry-change t (DeleteBlock b) h = refl
entry-change t (DeleteList l) h = refl
entry-change t (Commit n) h = absurd (h refl)

range : (l h x : ℕ) → (leb l x && leb x h) ≡ true → (l ≤ x) × (x ≤ h)
range l h x e = let (p, q) = and-true (leb l x) (leb x h) e in (leb-true l x p, leb-true x h q)

-- a legal entry's race, and one that is legal whatever its slot
change-race : (b s n : ℕ) → legal_change (write b (raced s n)) ≡ true → n ≤ 24
unfolding legal_change
change-race b s n h = leb-true n 24 (and-true (is_block b && is_slot s) (is_race n) h).1

pub legal-race : (e : LogEntry) → legal (as_entry false e) ≡ true → (fields_of e).race ≤ 24
unfolding as_entry legal
legal-race (Take l) h = omega arith
legal-race (PutFirst b l) h = omega arith
legal-race (PutAfter b l p) h = omega arith
legal-race (Write b s n) h = change-race b s n h
legal-race (DeleteBlock b) h = omega arith
legal-race (DeleteList l) h = omega arith
legal-race (Commit n) h = omega arith

pub raw-race : (t : Bool) (e : LogEntry) → legal (raw 0 (as_entry t e)) ≡ true → (fields_of e).race ≤ 24
unfolding as_entry legal raw map_entry map_change
raw-race t (Take l) h = omega arith
raw-race t (PutFirst b l) h = omega arith
raw-race t (PutAfter b l p) h = omega arith
raw-race true (Write b s n) h = change-race b 0 n h
raw-race false (Write b s n) h = change-race b 0 n h
raw-race t (DeleteBlock b) h = omega arith
raw-race t (DeleteList l) h = omega arith
raw-race t (Commit n) h = omega arith

-- a legal change, its write at location d
change-ranged : (d : ℕ) → 1 ≤ d → (c : Change (Raced ℕ)) → legal_change c ≡ true → Ranged (map_change (number_at d) c)
unfolding legal_change map_change
change-ranged d g (take_list l) h = range 1 16 l h
change-ranged d g (put_first b l) h = let (p, q) = and-true (is_block b) (is_list l) h in (range 1 64 b p, range 1 16 l q)
change-ranged d g (put_after b l x) h =
    let (p, q) = and-true (is_block b && is_list l) (is_block x) h in
    let (u, v) = and-true (is_block b) (is_list l) p in
    (range 1 64 b u, range 1 16 l v, range 1 64 x q)
change-ranged d g (write b s) h =
    (range 1 64 b (and-true (is_block b) (is_slot s.body) (and-true (is_block b && is_slot s.body) (is_race s.race) h).0).0, omega arith)
change-ranged d g (del_block b) h = range 1 64 b h
change-ranged d g (del_list l) h = range 1 16 l h

module _ (e : LogEntry) (n : NoCommit e) (d : ℕ) (p : 1 ≤ d) where
  pub legal-ranged : legal (as_entry false e) ≡ true → Ranged (change_at e d)
  unfolding legal
  legal-ranged h = change-ranged d p (as_change e) (rw (entry-change false e n) at h)

  -- whatever its slot
  slotless-ranged : legal_change (map_change (with_body 0) (as_change e)) ≡ true → Ranged (change_at e d)
  slotless-ranged h = subst Ranged (change-comp (number_at d) (with_body 0) (as_change e)) (change-ranged d p (map_change (with_body 0) (as_change e)) h)

  raw-ranged : (t : Bool) → legal (raw 0 (as_entry t e)) ≡ true → Ranged (change_at e d)
  unfolding legal raw map_entry
  raw-ranged true h =
      let k : legal (map_entry (with_body 0) (member (as_change e))) ≡ true = rw (entry-change true e n) at h in
      slotless-ranged k
  raw-ranged false h =
      let k : legal (map_entry (with_body 0) (plain (as_change e))) ≡ true = rw (entry-change false e n) at h in
      slotless-ranged k

module _ (e : LogEntry) (n : NoCommit e) where
  module _ (m : Memory) (run : ℕ) (r : Reader ℕ) (k : Keeps m run r) (d : ℕ) (g : Ranged (change_at e d)) where
    -- made at once
    pub read-now : (b : Bool) (u : Tables) → DidSome (fields_change e (number_of e d)) m.tables b u → ReadTo (read r (map_entry (number_at d) (as_entry false e))) b (ended m u) 0
    unfolding map_entry
    read-now b u w =
        rw (entry-change false e n)
        (read_plain m run r k (change_at e d) b u g (rw (fields-change e d n) at w))

    -- kept for a commit; where it is no write, any location serves
    pub read-later : (d' : ℕ) → fields_change e d' ≡ fields_change e (number_of e d)
        → ReadTo (read r (map_entry (number_at d) (as_entry true e))) true
        (record {
          tables = m.tables;
          members = member_set m.members run (fields_of e).kind (fields_of e).block (fields_of e).list (fields_of e).predecessor d';
        }) (run + 1)
    unfolding map_entry
    read-later d' q =
        rw (entry-change true e n)
        (read-member m run r k (fields_of e).kind (fields_of e).block (fields_of e).list (fields_of e).predecessor d' (change_at e d) (q ∙ fields-change e d n)
        g)

-- What is fed.
pub run_settled : (n : ℕ) (b : Bool) → RunUpTo n (fed_if b)
run_settled n true = omega arith
run_settled n false = tt

fed-read : (o : Option (Reader ℕ)) (b : Bool) (m : Memory) → ReadTo o b m 0 → FedTo o (fed_if b) m
fed-read o true m h = h
fed-read o false m h = h

module _ (m : Memory) (run : ℕ) (r : Reader ℕ) (k : Keeps m run r) (d : ℕ) (f : 1 ≤ d) (t : Bool) (e : LogEntry) (l : legal (raw 0 (as_entry t e)) ≡ true) where
  pub fed-commit : (b : Bool) (m' : Memory) → (fields_of e).kind ≡ 0 → Commits m run (fields_of e).count b m' → FedTo (read r (map_entry (number_at d) (as_entry t e))) (fed_if b) m'
  unfolding as_entry map_entry legal raw
  fed-commit b m' z w = go e z l w
    where
      go : (x : LogEntry) → (fields_of x).kind ≡ 0 → legal (raw 0 (as_entry t x)) ≡ true → Commits m run (fields_of x).count b m'
          → FedTo (read r (map_entry (number_at d) (as_entry t x))) (fed_if b) m'
      go (Take a) h i w = absurd (omega arith)
      go (PutFirst a c) h i w = absurd (omega arith)
      go (PutAfter a c p) h i w = absurd (omega arith)
      go (Write a s n) h i w = absurd (omega arith)
      go (DeleteBlock a) h i w = absurd (omega arith)
      go (DeleteList a) h i w = absurd (omega arith)
      go (Commit n) h i w = fed-read (read r (commit n)) b m' (w r k (leb-true n 15 i))

  module _ (n : NoCommit e) where
    pub fed-member : t ≡ true
        → FedTo (read r (map_entry (number_at d) (as_entry t e))) (Run (run + 1))
        (record {
          tables = m.tables;
          members = member_set m.members run (fields_of e).kind (fields_of e).block (fields_of e).list (fields_of e).predecessor (number_of e d);
        })
    fed-member q = rw q (read-later e n m run r k d (raw-ranged e n d f t l) (number_of e d) refl)

    pub fed-plain : (b : Bool) (u : Tables) → t ≡ false → DidSome (fields_change e (number_of e d)) m.tables b u → FedTo (read r (map_entry (number_at d) (as_entry t e))) (fed_if b) (ended m u)
    fed-plain b u q w = rw q (fed-read (read r (map_entry (number_at d) (as_entry false e))) b (ended m u) (read-now e n m run r k d (raw-ranged e n d f t l) b u w))
