-- Questions 1 and 3 taken apart into facts, and put together again.
use mathlib.Core.Path.{◌≡◌, refl, sym, ap, ◌∙◌}
use mathlib.Core.Logic.{◌⊎◌, inl, inr}
use mathlib.Core.Bool.{Bool, true, false, ◌&&◌, ◌||◌, not, cond, or-true, true≢false, false≢true}
use mathlib.Core.Option.{some, some-injective, none-ne-some}
use mathlib.Core.List.{List, [], ◌∷◌, ◌++◌}
use Prim.Native.Nat.{ℕ, zero, suc, ◌-◌, ◌≤◌, ◌<◌}
use native.Mathlib.Omega.{arith}
use lib.Dec.{leb, eqb}
use lib.ListN.{length, take, drop, replicate, take-append-drop, length-take, length-drop}
use lib.Seq.{drop-append_seam}
use Rattle.lists.specs.Basic.{all, each, times, from}
use Rattle.lists.specs.State.{State}
use Rattle.lists.specs.InUse.{in_use, is_number}
use Rattle.lists.specs.Numbers.{all_numbers}
use Rattle.lists.proofs.Basic.{and-true, or_cases, not-false, eqb-true, leb-true, ltb-true, le-true, lt-true, eq-true, some_of, is-some, each_at, all_from, from_all}
use Rattle.card_log.specs.Entry.{legal, raw}
use Rattle.card_log.specs.Reader.{Reader}
use Rattle.card_log.specs.Card.{Written, card_length, Outcome, sound, fault}
use Rattle.disk.specs.Record.{Record, unit_at, holder_of, listed_in, padded, shaped, is_open}
use Rattle.disk.specs.Disk.{Disk, queued, unit_of, journal_of, reader_of, committed_reader, state_of, committed}
use Rattle.disk.specs.Sound.{lengths_right, is_open_unit, journal_sound, unit_sound, holder_sound, order_sound, due_times, listed_sound, head_standing, record_sound}
use Rattle.disk.proofs.Questions.{card-length, queue-data, journal-data}
use Rattle.disk.proofs.Listing.{listed-length}

-- the card, and the queue behind it, which replays to z
pub record LogRight (d : Disk) (z : Reader Written) : Type 0 where
  pub card : card_length d.card ≡ true
  pub queue_data : length d.queue_data ≡ 8192
  pub places : length d.rec.ring.queue ≡ 32
  pub room : d.rec.ring.len ≤ 32
  pub head : d.rec.ring.head < 32
  pub lawful : all (λ e. legal (raw 0 e)) (queued d) ≡ true
  pub replays : committed_reader d ≡ some z
  pub stands : head_standing d.card d.rec.ring.done (queued d) ≡ true

-- what is read of a log without a fault
pub sound-of : (o : Outcome Written) (z : Reader Written) → reader_of o ≡ some z → o ≡ sound z
unfolding reader_of
sound-of (sound r) z e = ap sound (some-injective r z e)
sound-of (fault g i) z e = absurd (none-ne-some z e)

-- unit u and its journal
pub record UnitRight (d : Disk) (u : ℕ) : Type 0 where
  pub places : length (unit_of d u).journal ≡ 15
  pub room : (unit_of d u).len ≤ 15
  pub window : (unit_of d u).window ≤ 16
  pub closed : is_open (unit_of d u) ≡ false → (unit_of d u).len ≡ 0
  pub sound : all (journal_sound d.rec u) (journal_of d u) ≡ true

-- number b is held by no unit, or by an open one and is not in use in s
abbrev pub HolderRight : Disk → State Written → ℕ → Type 0
HolderRight d s b = (holder_of d.rec b ≡ 0) ⊎ ((is_open_unit d (holder_of d.rec b) ≡ true) × (in_use b s.lists ≡ false))

-- the units, over the committed state s
pub record UnitsRight (d : Disk) (s : State Written) : Type 0 where
  pub four : length d.rec.held.units ≡ 4
  pub table : length d.rec.held.holder ≡ 80
  pub units : (u : ℕ) → 1 ≤ u → u ≤ 4 → UnitRight d u
  pub holders : (b : ℕ) → 1 ≤ b → b ≤ 80 → HolderRight d s b

pub record Right (d : Disk) : Type 0 where
  pub reader : Reader Written
  pub log : LogRight d reader
  pub units : UnitsRight d reader.state
  pub journal_data : length d.journal_data ≡ 15360
  pub conflicts : length d.rec.tally.conflicts ≡ 16

-- the order of the free numbers, over the committed state s
pub record OrderRight (d : Disk) (s : State Written) : Type 0 where
  pub places : length d.rec.tally.order ≡ 80
  pub many : d.rec.tally.listed ≤ 80
  pub behind : d.rec.tally.order ≡ padded (listed_in d.rec)
  pub range : all is_number (listed_in d.rec) ≡ true
  pub once : (n : ℕ) → 1 ≤ n → n ≤ 80 → times n (listed_in d.rec) ≡ cond (not (in_use n s.lists) && eqb (holder_of d.rec n) 0) 1 0

pub committed-is : (d : Disk) (z : Reader Written) → committed_reader d ≡ some z → committed d ≡ z.state
unfolding committed state_of
committed-is d z e = ap {B = State Written} (λ o. state_of o) e

-- Clauses of the shape.
record Shape (r : Record) : Type 0 where
  queue : length r.ring.queue ≡ 32
  units : length r.held.units ≡ 4
  holder : length r.held.holder ≡ 80
  order : length r.tally.order ≡ 80
  counts : length r.tally.conflicts ≡ 16
  journals : (u : ℕ) → 1 ≤ u → u ≤ 4 → length (unit_at r u).journal ≡ 15

for-four : (P : ℕ → Type 0) → P 1 → P 2 → P 3 → P 4 → (u : ℕ) → 1 ≤ u → u ≤ 4 → P u
for-four P a b c e zero p q = absurd (omega arith)
for-four P a b c e (suc zero) p q = a
for-four P a b c e (suc (suc zero)) p q = b
for-four P a b c e (suc (suc (suc zero))) p q = c
for-four P a b c e (suc (suc (suc (suc zero)))) p q = e
for-four P a b c e (suc (suc (suc (suc (suc u))))) p q = absurd (omega arith)

shape : (r : Record) → shaped r ≡ true → Shape r
unfolding shaped
shape r h =
    let (h4, j4) = and-true _ (eqb (length (unit_at r 4).journal) 15) h in
    let (h3, j3) = and-true _ (eqb (length (unit_at r 3).journal) 15) h4 in
    let (h2, j2) = and-true _ (eqb (length (unit_at r 2).journal) 15) h3 in
    let (h1, j1) = and-true _ (eqb (length (unit_at r 1).journal) 15) h2 in
    let (i1, n) = and-true _ (eqb (length r.tally.conflicts) 16) h1 in
    let (i0, o) = and-true _ (eqb (length r.tally.order) 80) i1 in
    let (h0, k) = and-true _ (eqb (length r.held.holder) 80) i0 in
    let (q, u) = and-true (eqb (length r.ring.queue) 32) (eqb (length r.held.units) 4) h0 in
    record {
      queue = eqb-true _ 32 q;
      units = eqb-true _ 4 u;
      holder = eqb-true _ 80 k;
      order = eqb-true _ 80 o;
      counts = eqb-true _ 16 n;
      journals = for-four (λ n. length (unit_at r n).journal ≡ 15) (eqb-true _ 15 j1) (eqb-true _ 15 j2) (eqb-true _ 15 j3) (eqb-true _ 15 j4);
    }

shape-shaped : (r : Record) → Shape r → shaped r ≡ true
unfolding shaped
shape-shaped r s =
    rw (s.queue, s.units, s.holder, s.order, s.counts, s.journals 1 (omega arith) (omega arith), s.journals 2 (omega arith) (omega arith), s.journals 3 (omega arith) (omega arith), s.journals 4 (omega arith) (omega arith))

-- Clauses of a unit.
pub open-window : (n : ℕ) → not (eqb n 0) ≡ true → 1 ≤ n
open-window zero h = absurd (false≢true h)
open-window (suc n) h = omega arith

unit-closed : (o : Bool) (n : ℕ) → o || eqb n 0 ≡ true → o ≡ false → n ≡ 0
unit-closed true n h e = absurd (true≢false e)
unit-closed false n h e = eqb-true n 0 h

closed-unit : (o : Bool) (n : ℕ) → (o ≡ false → n ≡ 0) → o || eqb n 0 ≡ true
closed-unit true n h = refl
closed-unit false n h = eq-true n 0 (h refl)

unit-right : (d : Disk) (u : ℕ) → length (unit_of d u).journal ≡ 15 → unit_sound d u ≡ true → UnitRight d u
unfolding unit_sound
unit-right d u l h =
    record {
      places = l;
      room = leb-true (unit_of d u).len 15 (each_at _ h 0);
      window = leb-true (unit_of d u).window 16 (each_at _ h 1);
      closed = unit-closed (is_open (unit_of d u)) (unit_of d u).len (each_at _ h 2);
      sound = each_at _ h 3;
    }

right-unit : (d : Disk) (u : ℕ) → UnitRight d u → unit_sound d u ≡ true
unfolding unit_sound each
right-unit d u r = rw (le-true (unit_of d u).len 15 r.room, le-true (unit_of d u).window 16 r.window, closed-unit (is_open (unit_of d u)) (unit_of d u).len r.closed, r.sound)

-- Clauses of a number's holder.
holder-right : (d : Disk) (s : State Written) (b : ℕ) → holder_sound d.rec s.lists b ≡ true → HolderRight d s b
unfolding holder_sound
holder-right d s b h = go (or_cases (eqb (holder_of d.rec b) 0) _ h)
  where
    go : (eqb (holder_of d.rec b) 0 ≡ true) ⊎ (is_open_unit d (holder_of d.rec b) && not (in_use b s.lists) ≡ true) → HolderRight d s b
    go (inl h) = inl (eqb-true _ 0 h)
    go (inr h) =
        let (o, n) = and-true (is_open_unit d (holder_of d.rec b)) _ h in
        inr (o, not-false (in_use b s.lists) n)

right-holder : (d : Disk) (s : State Written) (b : ℕ) → HolderRight d s b → holder_sound d.rec s.lists b ≡ true
unfolding holder_sound
right-holder d s b (inl h) = rw h
right-holder d s b (inr h) = rw (h.0, h.1) (or-true (eqb (holder_of d.rec b) 0))

-- Clauses of the units and the holders' table.
units-right : (d : Disk) (s : State Written) → shaped d.rec ≡ true
    → all (unit_sound d) (from (λ u. u) 1 4) ≡ true → all (holder_sound d.rec s.lists) (from (λ b. b) 1 80) ≡ true → UnitsRight d s
unfolding unit_of
units-right d s h us hs =
    let t = shape d.rec h in
    record {
      four = t.units;
      table = t.holder;
      units = λ u p q. unit-right d u (t.journals u p q) (all_from (unit_sound d) (λ u. u) 1 4 us u p (omega arith));
      holders = λ b p q. holder-right d s b (all_from (holder_sound d.rec s.lists) (λ b. b) 1 80 hs b p (omega arith));
    }

right-shaped : (d : Disk) (s : State Written) → length d.rec.ring.queue ≡ 32 → UnitsRight d s → OrderRight d s → length d.rec.tally.conflicts ≡ 16 → shaped d.rec ≡ true
unfolding unit_of
right-shaped d s q k o n = shape-shaped d.rec (record { queue = q; units = k.four; holder = k.table; order = o.places; counts = n; journals = λ u a b. (k.units u a b).places })

right-units : (d : Disk) (s : State Written) → UnitsRight d s → all (unit_sound d) (from (λ u. u) 1 4) ≡ true
right-units d s k = from_all (unit_sound d) (λ u. u) 1 4 (λ u p q. right-unit d u (k.units u p (omega arith)))

right-holders : (d : Disk) (s : State Written) → UnitsRight d s → all (holder_sound d.rec s.lists) (from (λ b. b) 1 80) ≡ true
right-holders d s k = from_all (holder_sound d.rec s.lists) (λ b. b) 1 80 (λ b p q. right-holder d s b (k.holders b p (omega arith)))

-- The questions.
pub right : (d : Disk) → lengths_right d ≡ true → record_sound d ≡ true → Right d
unfolding record_sound all_numbers
right d l h =
    let r = d.rec in
    let (z, e) = some_of (committed_reader d) (each_at _ h 6) in
    record {
      reader = z;
      log = record {
        card = card-length d l;
        queue_data = queue-data d l;
        places = (shape r (each_at _ h 0)).queue;
        room = leb-true r.ring.len 32 (each_at _ h 1);
        head = ltb-true r.ring.head 32 (each_at _ h 2);
        lawful = each_at _ h 4;
        replays = e;
        stands = each_at _ h 7;
      };
      units = units-right d z.state (each_at _ h 0) (each_at _ h 5) (rw (← committed-is d z e) (each_at _ h 8));
      journal_data = journal-data d l;
      conflicts = (shape r (each_at _ h 0)).counts;
    }

-- Clauses of the order of the free numbers.
order-numbers : (r : Record) → order_sound r ≡ true → (r.tally.listed ≤ 80) × (all is_number (listed_in r) ≡ true) × (all (λ n. eqb n 0) (drop r.tally.listed r.tally.order) ≡ true)
unfolding order_sound
order-numbers r h =
    let (a, z) = and-true (leb r.tally.listed 80 && all is_number (listed_in r)) _ h in
    let (m, n) = and-true (leb r.tally.listed 80) (all is_number (listed_in r)) a in
    (leb-true r.tally.listed 80 m, n, z)

all-zero : (xs : List ℕ) → all (λ n. eqb n 0) xs ≡ true → xs ≡ replicate (length xs) 0
unfolding all
all-zero [] h = refl
all-zero (x ∷ xs) h = let (a, b) = and-true (eqb x 0) _ h in λ i. eqb-true x 0 a i ∷ all-zero xs b i

zeros-padded : (r : Record) → length r.tally.order ≡ 80 → r.tally.listed ≤ 80 → all (λ n. eqb n 0) (drop r.tally.listed r.tally.order) ≡ true
    → r.tally.order ≡ padded (listed_in r)
unfolding listed_in
zeros-padded r l m z =
    let k = r.tally.listed in
    let os = r.tally.order in
    sym (take-append-drop k os)
    ∙ ap (λ (xs : List ℕ). take k os ++ xs) (all-zero (drop k os) z ∙ ap (λ (n : ℕ). replicate n 0) (let e : length (drop k os) ≡ 80 - length (take k os) = omega (arith, length-drop k os, length-take k os) in e))

padded-zeros : (r : Record) → r.tally.listed ≤ 80 → r.tally.order ≡ padded (listed_in r) → length (listed_in r) ≡ r.tally.listed → all (λ n. eqb n 0) (drop r.tally.listed r.tally.order) ≡ true
unfolding all
padded-zeros r m e l =
    ap (λ (xs : List ℕ). all (λ n. eqb n 0) (drop r.tally.listed xs)) e
    ∙ ap (λ (k : ℕ). all (λ n. eqb n 0) (drop k (padded (listed_in r)))) (sym l)
    ∙ ap (all (λ n. eqb n 0)) (drop-append_seam (listed_in r) (replicate (80 - length (listed_in r)) 0))
    ∙ zeros-all (80 - length (listed_in r))
  where
    zeros-all : (n : ℕ) → all (λ m. eqb m 0) (replicate n 0) ≡ true
    zeros-all zero = refl
    zeros-all (suc n) = zeros-all n

order-sound : (d : Disk) (s : State Written) → OrderRight d s → order_sound d.rec ≡ true
unfolding order_sound
order-sound d s k = rw (le-true d.rec.tally.listed 80 k.many, k.range) (padded-zeros d.rec k.many k.behind (listed-length d.rec k.places k.many))

pub order-right : (d : Disk) → record_sound d ≡ true → OrderRight d (committed d)
unfolding record_sound listed_sound due_times all_numbers
order-right d h = record {
  places = (shape d.rec (each_at _ h 0)).order;
  many = numbers.0;
  behind = zeros-padded d.rec (shape d.rec (each_at _ h 0)).order numbers.0 numbers.2;
  range = numbers.1;
  once = λ n p q. eqb-true _ _ (all_from (listed_sound d.rec (committed d).lists) (λ b. b) 1 80 (each_at _ h 9) n p (omega arith));
}
  where
    numbers : (d.rec.tally.listed ≤ 80) × (all is_number (listed_in d.rec) ≡ true) × (all (λ n. eqb n 0) (drop d.rec.tally.listed d.rec.tally.order) ≡ true)
    numbers = order-numbers d.rec (each_at _ h 3)

right-order : (d : Disk) (s : State Written) → OrderRight d s → all (listed_sound d.rec s.lists) all_numbers ≡ true
unfolding listed_sound due_times all_numbers
right-order d s k = from_all (listed_sound d.rec s.lists) (λ b. b) 1 80 (λ n p q. eq-true _ _ (k.once n p (omega arith)))

pub right-sound : (d : Disk) (k : Right d) → OrderRight d k.reader.state → record_sound d ≡ true
unfolding record_sound each all_numbers
right-sound d k o =
    let r = d.rec in
    let l = k.log in
    let z = k.reader in
    rw (right-shaped d z.state l.places k.units o k.conflicts, le-true r.ring.len 32 l.room, lt-true r.ring.head 32 l.head)
    (rw (order-sound d z.state o)
    (rw (l.lawful, right-units d z.state k.units, is-some (committed_reader d) z l.replays, l.stands)
    (rw (committed-is d z l.replays, right-holders d z.state k.units, right-order d z.state o))))

pub right-lengths : (d : Disk) → Right d → lengths_right d ≡ true
unfolding lengths_right
right-lengths d k = rw (k.log.card, k.log.queue_data, k.journal_data)
