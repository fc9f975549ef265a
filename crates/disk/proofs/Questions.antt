-- What an answer says of the call's questions, and what the questions answered yes say of disk and arguments.
use mathlib.Core.Path.{◌≡◌, refl, sym, subst, ◌∙◌}
use mathlib.Core.Logic.{◌≢◌}
use mathlib.Core.Bool.{Bool, true, false, ◌&&◌, ◌||◌, or-true, false≢true}
use mathlib.Core.Option.{some, none-ne-some, some-injective}
use mathlib.Core.List.{List, [], ◌∷◌}
use Prim.Native.Nat.{ℕ, zero, suc, ◌+◌, ◌-◌, ◌≤◌, ◌<◌}
use native.Mathlib.Omega.{arith}
use lib.Dec.{leb, eqb, ltb, eqb-suc-zero}
use lib.ListN.{length, get_or}
use Rattle.lists.specs.Basic.{all, times}
use Rattle.lists.specs.State.{State, overlay}
use Rattle.lists.proofs.Basic.{and-true, eqb_same, eqb-true, leb-true, ltb-true, le-true}
use Rattle.lists.proofs.Times.{times-here, times-cons}
use Rattle.card_log.specs.Card.{Written, card_length}
use Rattle.disk.specs.Record.{Record, unit_at, is_open}
use Rattle.disk.specs.Disk.{Disk, unit_of, journal_of, persistent, committed, view}
use Rattle.disk.specs.Sound.{lengths_right, open_unit, is_open_unit}
use Rattle.disk.specs.Call.{Call, format, mount, conflict_count, on_stream, in_view, begin, end, flush}
use Rattle.disk.specs.Questions.{stream_open, view_open, journal_room, queue_room, stream_room, first_free, questions, ask, first_no, refusal}
use Rattle.disk.proofs.Order.{asks, edit-behind, look-behind, questions-rise, rising-above}

-- Questions in general: each has its number and its answer.
abbrev pub test : List (ℕ × Bool) → ℕ → Bool
test qs i = (get_or qs i (1, true)).1

-- the numbers of the first i questions are others than n
abbrev pub Apart : ℕ → List (ℕ × Bool) → ℕ → Type 0
Apart i [] n = Unit {0}
Apart zero (q ∷ qs) n = Unit {0}
Apart (suc i) (q ∷ qs) n = (q.0 ≢ n) × Apart i qs n

ask-past : (b : Bool) (m k n : ℕ) → m ≢ n → ask b m k ≡ n → (b ≡ true) × (k ≡ n)
unfolding ask
ask-past true m k n d h = (refl, h)
ask-past false m k n d h = absurd (d h)

-- a refusal's number n says yes to the questions before the first of that number
pub past : (i : ℕ) (qs : List (ℕ × Bool)) (n : ℕ) → Apart i qs n → first_no qs ≡ n → (j : ℕ) → j < i → test qs j ≡ true
unfolding first_no
past i [] n a h j l = refl
past zero (q ∷ qs) n a h j l = absurd (omega arith)
past (suc i) (q ∷ qs) n a h zero l = (ask-past q.1 q.0 (first_no qs) n a.0 h).0
past (suc i) (q ∷ qs) n a h (suc j) l = past i qs n a.1 (ask-past q.1 q.0 (first_no qs) n a.0 h).1 j (omega arith)

all_yes : (qs : List (ℕ × Bool)) → all (λ q. ltb 0 q.0) qs ≡ true → first_no qs ≡ 0 → (j : ℕ) → test qs j ≡ true
unfolding first_no all
all_yes [] a h j = refl
all_yes (q ∷ qs) a h j =
    let (p, r) = and-true (ltb 0 q.0) (all (λ x. ltb 0 x.0) qs) a in
    let k = ltb-true 0 q.0 p in
    let (y, z) = ask-past q.1 q.0 (first_no qs) 0 (λ e. omega arith) h in
    go j y (all_yes qs r z)
  where
    go : (j : ℕ) → q.1 ≡ true → ((i : ℕ) → test qs i ≡ true) → test (q ∷ qs) j ≡ true
    go zero y f = y
    go (suc i) y f = f i

-- an accepted call's questions are all answered yes
pub yes-all : (c : Call) (d : Disk) → refusal c d ≡ 0 → (i : ℕ) → test (questions c d) i ≡ true
unfolding refusal
yes-all c d h i = all_yes (questions c d) (rising-above 0 0 (questions c d) (omega arith) (questions-rise c d)) h i

-- a refusal's number is one of the call's questions
pub numbered : (qs : List (ℕ × Bool)) (n : ℕ) → n ≢ 0 → first_no qs ≡ n → asks n qs ≡ true
unfolding first_no ask
numbered [] n d h = absurd (d (sym h))
numbered (q ∷ qs) n d h = go (numbered qs n d) q.1 refl
  where
    go : (first_no qs ≡ n → asks n qs ≡ true) → (b : Bool) → q.1 ≡ b → eqb q.0 n || asks n qs ≡ true
    go ih true e = rw (ih (rw (e, ask) at h)) (or-true (eqb q.0 n))
    go ih false e = let m : q.0 ≡ n = rw (e, ask) at h in rw m (rw (eqb_same n))

-- only an End is refused 12
asks-twelve : (c : Call) (d : Disk) → asks 12 (questions c d) ≡ true → (u : ℕ) × (c ≡ end u)
unfolding questions
asks-twelve format d k = absurd (false≢true k)
asks-twelve mount d k = absurd (false≢true k)
asks-twelve (conflict_count w) d k = absurd (false≢true k)
asks-twelve (on_stream s e) d k = absurd (false≢true (sym (edit-behind s e d).ends-none ∙ k))
asks-twelve (in_view v l) d k = absurd (false≢true (sym (look-behind l (view d v).lists).ends-none ∙ k))
asks-twelve (begin u w) d k = absurd (false≢true k)
asks-twelve (end u) d k = (u, refl)
asks-twelve (flush a) d k = absurd (false≢true k)

pub twelve-end : (c : Call) (d : Disk) → refusal c d ≡ 12 → (u : ℕ) × (c ≡ end u)
unfolding refusal
twelve-end c d h = asks-twelve c d (numbered (questions c d) 12 (omega arith) h)

-- Questions 1, 4, 11 and 13.
module _ (d : Disk) (h : lengths_right d ≡ true) where
  pub card-length : card_length d.card ≡ true
  unfolding lengths_right
  card-length = (and-true (card_length d.card) _ (and-true (card_length d.card && eqb (length d.queue_data) 8192) _ h).0).0

  pub queue-data : length d.queue_data ≡ 8192
  unfolding lengths_right
  queue-data = eqb-true _ 8192 (and-true (card_length d.card) _ (and-true (card_length d.card && eqb (length d.queue_data) 8192) _ h).0).1

  pub journal-data : length d.journal_data ≡ 15360
  unfolding lengths_right
  journal-data = eqb-true _ 15360 (and-true (card_length d.card && eqb (length d.queue_data) 8192) _ h).1

pub open-in-range : (r : Record) (u : ℕ) → open_unit r u ≡ true → (1 ≤ u) × (u ≤ 4) × (is_open (unit_at r u) ≡ true)
unfolding open_unit
open-in-range r u h =
    let (a, o) = and-true (leb 1 u && leb u 4) (is_open (unit_at r u)) h in
    let (p, q) = and-true (leb 1 u) (leb u 4) a in
    (leb-true 1 u p, leb-true u 4 q, o)

pub unit-range : (d : Disk) (u : ℕ) → is_open_unit d u ≡ true → (1 ≤ u) × (u ≤ 4) × (is_open (unit_of d u) ≡ true)
unfolding unit_of
unit-range d u h = open-in-range d.rec u h

pub open-range : (d : Disk) (u : ℕ) → stream_open d (suc u) ≡ true → (1 ≤ suc u) × (suc u ≤ 4) × (is_open (unit_of d (suc u)) ≡ true)
unfolding stream_open
open-range d u h = unit-range d (suc u) (rw (eqb-suc-zero u) at h)

-- what holds of the persistent state, of the committed one and of each open unit's view holds of every open view
pub open-views : (d : Disk) (P : State Written → Type 0) → P (persistent d) → P (committed d)
    → ((u : ℕ) → is_open_unit d u ≡ true → P (overlay (journal_of d u) (committed d))) → (v : ℕ) → view_open d v ≡ true → P (view d v)
unfolding view view_open stream_open
open-views d P p c f v h = go (eqb v 5) refl (eqb v 0) refl
  where
    go : (a : Bool) → eqb v 5 ≡ a → (b : Bool) → eqb v 0 ≡ b → P (view d v)
    go true e b g = rw e p
    go false e true g = rw (e, g) c
    go false e false g = rw (e, g) (f v (rw (e, g) at h))

pub queue-room : (d : Disk) (n : ℕ) → queue_room d n ≡ true → d.rec.ring.len + n ≤ 32
unfolding queue_room
queue-room d n h = leb-true (d.rec.ring.len + n) 32 h

pub stream-room : (d : Disk) → stream_room d 0 ≡ true → d.rec.ring.len < 32
unfolding stream_room
stream-room d h = omega (arith, queue-room d 1 h)

pub journal-room : (d : Disk) (u : ℕ) → journal_room d (suc u) ≡ true → (unit_of d (suc u)).len < 15
unfolding journal_room
journal-room d u h = ltb-true (unit_of d (suc u)).len 15 (rw (eqb-suc-zero u) at h)

-- Numbers given.
pub in-range : (m n : ℕ) → 1 ≤ n → n ≤ m → leb 1 n && leb n m ≡ true
in-range m n a b = rw (le-true 1 n a) (le-true n m b)

-- the first of k numbers behind number m that stands in a list
pub first-free : (m k n : ℕ) (ns : List ℕ) → first_free m k ns ≡ some n → (1 ≤ n) × (n ≤ k) × (1 ≤ times (m + n) ns)
unfolding first_free times
first-free m k n [] h = absurd (none-ne-some _ h)
first-free m k n (x ∷ ns) h = go (λ q. first-free m k n ns q) (ltb m x && leb x (m + k)) refl
  where
    go : (first_free m k ns ≡ some n → (1 ≤ n) × (n ≤ k) × (1 ≤ times (m + n) ns)) → (b : Bool) → ltb m x && leb x (m + k) ≡ b → (1 ≤ n) × (n ≤ k) × (1 ≤ times (m + n) (x ∷ ns))
    go ih true e =
        let (p, q) = and-true (ltb m x) (leb x (m + k)) e in
        let v : x - m ≡ n = some-injective _ _ (rw (e, first_free) at h) in
        let o = ltb-true m x p in
        let w : m + n ≡ x = omega arith in
        (omega arith, omega (arith, leb-true x (m + k) q), subst (λ (z : ℕ). 1 ≤ times z (x ∷ ns)) (sym w) (omega (arith, times-here x ns)))
    go ih false e =
        let (a, b, c) = ih (rw (e, first_free) at h) in
        (a, b, omega (arith, c, times-cons (m + n) x ns))
