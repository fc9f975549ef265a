-- A change on a stream leaves each free number listed once, and no other (`made-order`): what it brings into use leaves the order, and what it frees
-- joins it at its end, or is held in a unit.
use mathlib.Core.Path.{◌≡◌, refl, sym, ap, ◌∙◌, subst}
use mathlib.Core.Bool.{Bool, true, false, ◌&&◌, ◌||◌, not, cond, and-true as and_yes, and-false}
use mathlib.Core.Option.{some}
use mathlib.Core.List.{List, [], ◌∷◌, ◌++◌, append-nil}
use Prim.Native.Nat.{ℕ, zero, suc, ◌-◌, ◌≤◌}
use native.Mathlib.Omega.{arith}
use native.Mathlib.Decide.{ℕ_discrete}
use lib.Dec.{eqb, eqb-suc-zero}
use lib.ListN.{length, get_or, set, take}
use lib.Seq.{get_or-set_same, get_or-set_other}
use Rattle.lists.specs.Basic.{keep, times}
use Rattle.lists.specs.Change.{Change, take_list, put_first, put_after, write, del_block, del_list}
use Rattle.lists.specs.State.{Row, State, state, changed, frees, free_after, apply}
use Rattle.lists.specs.InUse.{list_number, is_number, in_use, Numbered, brings, brought}
use Rattle.lists.proofs.Basic.{eqb-false, eq-true, keep_all}
use Rattle.lists.proofs.Times.{times-keep}
use Rattle.lists.proofs.Listed.{all-kept, Listed, listed-step, listed-range, reached-step, reached-exact}
use Rattle.card_log.specs.Entry.{plain}
use Rattle.card_log.specs.Reader.{settled}
use Rattle.card_log.specs.Card.{Written}
use Rattle.disk.specs.Record.{Tally, holder_of, listed_in, with_listed}
use Rattle.disk.specs.Disk.{Disk, committed_reader, committed}
use Rattle.disk.specs.Perform.{change, enqueue, journal_add, hold, relisted, given, freed, noted, made}
use Rattle.disk.proofs.Queue.{queued-hold, queued-relisted, queued-journal, reader-same}
use Rattle.disk.proofs.Questions.{stream-room}
use Rattle.disk.proofs.Growth.{enqueue-log}
use Rattle.disk.proofs.KeepsSound.{plain-read}
use Rattle.disk.proofs.Clauses.{Right, OrderRight, committed-is}
use Rattle.disk.proofs.Held.{hold-card, noted-by}
use Rattle.disk.proofs.Changes.{Makes, apply-applies}
use Rattle.disk.proofs.ListedOnce.{Lists, order-made, order-lists, relisted-lists, reader-reached, good-numbered, held, to-listed, from-listed}

-- What is listed after a change on a stream.
pub keep_out : (n : ℕ) (xs : List ℕ) → keep (λ m. not (eqb m n)) xs ≡ keep (λ m. not (eqb n m || false)) xs
keep_out n [] = refl
keep_out n (x ∷ xs) = go (ℕ_discrete x n) (keep_out n xs)
  where
    go : Dec (x ≡ n) → keep (λ m. not (eqb m n)) xs ≡ keep (λ m. not (eqb n m || false)) xs
        → cond (not (eqb x n)) (x ∷ keep (λ m. not (eqb m n)) xs) (keep (λ m. not (eqb m n)) xs) ≡ cond (not (eqb n x || false)) (x ∷ keep (λ m. not (eqb n m || false)) xs) (keep (λ m. not (eqb n m || false)) xs)
    go (yes e) ih = rw (eq-true x n e, eq-true n x (sym e)) ih
    go (no e) ih = rw (eqb-false x n e, eqb-false n x (λ z. e (sym z))) (ap (λ (ys : List ℕ). x ∷ ys) ih)

abbrev pub listed_after : ℕ → Change Written → List (Row Written) → List ℕ → List ℕ
listed_after zero c rs fs = free_after c rs fs
listed_after (suc u) c rs fs = keep (λ n. not (brought c n)) fs

given-after : (s : ℕ) (c : Change Written) (n : ℕ) (rs : List (Row Written)) (fs : List ℕ) → brings c ≡ n ∷ [] → frees c rs ≡ [] → keep (λ m. not (eqb m n)) fs ≡ listed_after s c rs fs
unfolding free_after
given-after zero c n rs fs b f = keep_out n fs ∙ sym (rw (b, f) (append-nil (keep (λ m. not (eqb n m || false)) fs)))
given-after (suc u) c n rs fs b f = keep_out n fs ∙ sym (rw b)

none_after : (s : ℕ) (c : Change Written) (rs : List (Row Written)) (fs : List ℕ) → brings c ≡ [] → frees c rs ≡ [] → fs ≡ listed_after s c rs fs
unfolding free_after
none_after zero c rs fs b f = sym (rw (b, f) (append-nil (keep (λ m. true) fs) ∙ keep_all (λ m. true) (λ m. refl) fs))
none_after (suc u) c rs fs b f = sym (rw b (keep_all (λ m. true) (λ m. refl) fs))

hold-listed : (s n : ℕ) (d : Disk) → listed_in (hold s n d).rec ≡ listed_in d.rec
unfolding hold listed_in
hold-listed zero n d = refl
hold-listed (suc u) n d = refl

module _ (s : ℕ) (rs : List (Row Written)) (d : Disk) where
  given-lists : (c : Change Written) (n : ℕ) → brings c ≡ n ∷ [] → frees c rs ≡ [] → Lists (given n (hold s n d)) (listed_after s c rs (listed_in d.rec))
  unfolding given
  given-lists c n b f =
      relisted-lists (keep (λ m. not (eqb m n)) (listed_in (hold s n d).rec)) (listed_after s c rs (listed_in d.rec)) (hold s n d)
      (ap (keep (λ m. not (eqb m n))) (hold-listed s n d) ∙ given-after s c n rs (listed_in d.rec) b f)

freed-lists : (s : ℕ) (rs : List (Row Written)) (d : Disk) (c : Change Written) → brings c ≡ [] → Lists d (listed_in d.rec) → Lists (freed s (frees c rs) d) (listed_after s c rs (listed_in d.rec))
unfolding freed free_after
freed-lists zero rs d c b l =
    relisted-lists (listed_in d.rec ++ frees c rs) (free_after c rs (listed_in d.rec)) d (sym (rw b (ap (λ (xs : List ℕ). xs ++ frees c rs) (keep_all (λ m. true) (λ m. refl) (listed_in d.rec)))))
freed-lists (suc u) rs d c b l = subst (Lists d) (sym (rw b (keep_all (λ m. true) (λ m. refl) (listed_in d.rec)))) l

noted-lists : (s : ℕ) (c : Change Written) (rs : List (Row Written)) (d : Disk) → Lists d (listed_in d.rec) → Lists (noted s c rs d) (listed_after s c rs (listed_in d.rec))
unfolding noted frees
noted-lists s (take_list x) rs d l = given-lists s rs d (take_list x) (list_number x) refl refl
noted-lists s (put_first x y) rs d l = given-lists s rs d (put_first x y) x refl refl
noted-lists s (put_after x y z) rs d l = given-lists s rs d (put_after x y z) x refl refl
noted-lists s (write x y) rs d l = subst (Lists d) (none_after s (write x y) rs (listed_in d.rec) refl refl) l
noted-lists s (del_block x) rs d l = freed-lists s rs d (del_block x) refl l
noted-lists s (del_list x) rs d l = freed-lists s rs d (del_list x) refl l

change-tally : (s : ℕ) (c : Change Written) (d : Disk) → ((change s c d).rec.tally ≡ d.rec.tally) × ((change s c d).rec.held.holder ≡ d.rec.held.holder)
unfolding change enqueue journal_add
change-tally zero c d = (refl, refl)
change-tally (suc u) c d = (refl, refl)

change-listed : (s : ℕ) (c : Change Written) (d : Disk) → listed_in (change s c d).rec ≡ listed_in d.rec
unfolding listed_in
change-listed s c d = ap (λ (x : Tally). take x.listed x.order) (change-tally s c d).0

pub made-lists : (s : ℕ) (c : Change Written) (d : Disk) → Lists d (listed_in d.rec) → Lists (made s c d) (listed_after s c (committed d).lists (listed_in d.rec))
unfolding made
made-lists s c d l =
    let x = change s c d in
    let t = (change-tally s c d).0 in
    let e = change-listed s c d in
    subst (λ (fs : List ℕ). Lists (made s c d) (listed_after s c (committed d).lists fs)) e
    (noted-lists s c (committed d).lists x
    (rw e (record { order = ap (λ (y : Tally). y.order) t ∙ l.order; many = ap (λ (y : Tally). y.listed) t ∙ l.many })))

-- What is noted leaves the log and its queue.
noted-reader : (s : ℕ) (c : Change Written) (rs : List (Row Written)) (d : Disk) → committed_reader (noted s c rs d) ≡ committed_reader d
unfolding relisted
noted-reader s c rs d =
    noted-by (λ e. committed_reader e ≡ committed_reader d) s (λ n e p. reader-same e (hold s n e) (hold-card s n e) (queued-hold s n e) ∙ p)
    (λ fs e p. reader-same e (relisted fs e) refl (queued-relisted fs e) ∙ p) c rs d refl

-- A change on stream 0.
module _ (c : Change Written) (d : Disk) (m : Makes 0 c d) (k : Right d) (o : OrderRight d k.reader.state) where
  abbrev before : State Written
  before = k.reader.state

  abbrev after : State Written
  after = state (changed c before.lists) (free_after c before.lists before.free)

  is-before : committed d ≡ before
  is-before = committed-is d k.reader k.log.replays

  acts : apply c before ≡ some after
  acts = apply-applies c before (rw is-before at (m.applying refl))

  is-after : committed (made 0 c d) ≡ after
  unfolding made change
  is-after =
      committed-is (made 0 c d) (settled after)
      (noted-reader 0 c (committed d).lists (enqueue (plain c) d)
      ∙ (enqueue-log (plain c) d k.reader (settled after) k.log (stream-room d m.queue) m.good (plain-read k.reader c after acts)).replays)

  holder-stays : (n : ℕ) → holder_of (made 0 c d).rec n ≡ holder_of d.rec n
  unfolding made hold relisted with_listed
  holder-stays n =
      noted-by (λ e. holder_of e.rec n ≡ holder_of d.rec n) 0 (λ b e p. p) (λ fs e p. p) c (committed d).lists (change 0 c d)
      (ap (λ (hs : List ℕ). get_or hs (n - 1) 0) (change-tally 0 c d).1)

  missing-stays : (n : ℕ) → held d n && not (brought c n) ≡ not (eqb (holder_of (made 0 c d).rec n) 0)
  missing-stays n = rw (holder-stays n) (go (brought c n) refl)
    where
      go : (b : Bool) → brought c n ≡ b → held d n && not b ≡ held d n
      go true e = rw (m.free n e).0
      go false e = and_yes (held d n)

  zero-order : OrderRight (made 0 c d) after
  zero-order =
      let os = listed_in d.rec in
      let x = reached-exact before (reader-reached d k) in
      let y = reached-exact after (reached-step c before after acts (good-numbered c m.good) (reader-reached d k)) in
      order-made (made 0 c d) (free_after c before.lists os) after
      (subst (λ (z : State Written). Lists (made 0 c d) (free_after c z.lists os)) is-before (made-lists 0 c d (order-lists d before o)))
      (listed-range c before after os acts x y o.range)
      (λ n p q. from-listed n (holder_of (made 0 c d).rec n) after.lists (free_after c before.lists os) p q
      (subst (λ (b : Bool). Listed n b after.lists (free_after c before.lists os)) (missing-stays n)
      (listed-step c before after os acts x y n (held d n) (to-listed d before k.units o n p q))))

-- A change in a unit: what it brings into use is held, and missing.
hold_at : (u b n : ℕ) (d : Disk) → 1 ≤ b → b ≤ 80 → 1 ≤ n → length d.rec.held.holder ≡ 80 → holder_of (hold (suc u) b d).rec n ≡ cond (eqb b n || false) (suc u) (holder_of d.rec n)
unfolding hold
hold_at u b n d p q r l = go (ℕ_discrete b n)
  where
    go : Dec (b ≡ n) → get_or (set d.rec.held.holder (b - 1) (suc u)) (n - 1) 0 ≡ cond (eqb b n || false) (suc u) (holder_of d.rec n)
    go (yes e) = rw (eq-true b n e) (rw (← e) (get_or-set_same d.rec.held.holder (b - 1) (suc u) 0 (omega arith)))
    go (no e) = rw (eqb-false b n e) (get_or-set_other d.rec.held.holder (b - 1) (n - 1) (suc u) 0 (λ z. e (omega arith)))

noted-at : (u : ℕ) (c : Change Written) (rs : List (Row Written)) (d : Disk) (n : ℕ) → Numbered c → 1 ≤ n → length d.rec.held.holder ≡ 80
    → holder_of (noted (suc u) c rs d).rec n ≡ cond (brought c n) (suc u) (holder_of d.rec n)
unfolding noted given freed relisted with_listed
noted-at u (take_list l) rs d n g p h = hold_at u (list_number l) n d (omega arith) (omega (arith, g)) p h
noted-at u (put_first b l) rs d n g p h = hold_at u b n d g.0.0 (omega (arith, g.0)) p h
noted-at u (put_after b l x) rs d n g p h = hold_at u b n d g.0.0 (omega (arith, g.0)) p h
noted-at u (write b x) rs d n g p h = refl
noted-at u (del_block b) rs d n g p h = refl
noted-at u (del_list l) rs d n g p h = refl

module _ (u : ℕ) (c : Change Written) (d : Disk) (m : Makes (suc u) c d) (k : Right d) (o : OrderRight d k.reader.state) where
  unit-reader : committed_reader (made (suc u) c d) ≡ committed_reader d
  unfolding made change journal_add
  unit-reader = noted-reader (suc u) c (committed d).lists (journal_add (suc u) c d) ∙ reader-same d (journal_add (suc u) c d) refl (queued-journal (suc u) c d)

  unit-holder : (n : ℕ) → 1 ≤ n → holder_of (made (suc u) c d).rec n ≡ cond (brought c n) (suc u) (holder_of d.rec n)
  unfolding made
  unit-holder n p =
      let t = (change-tally (suc u) c d).1 in
      noted-at u c (committed d).lists (change (suc u) c d) n (good-numbered c m.good) p (ap length t ∙ k.units.table)
      ∙ ap (λ (hs : List ℕ). cond (brought c n) (suc u) (get_or hs (n - 1) 0)) t

  unit-order : OrderRight (made (suc u) c d) k.reader.state
  unit-order =
      let os = listed_in d.rec in
      let s = k.reader.state in
      order-made (made (suc u) c d) (keep (λ n. not (brought c n)) os) s (made-lists (suc u) c d (order-lists d s o)) (all-kept is_number (λ n. not (brought c n)) os o.range)
      (λ n p q. times-keep (λ x. not (brought c x)) n os ∙ go n (brought c n) (o.once n p q) ∙ sym (rw (unit-holder n p)))
    where
      go : (n : ℕ) (b : Bool) → times n (listed_in d.rec) ≡ cond (not (in_use n k.reader.state.lists) && eqb (holder_of d.rec n) 0) 1 0
          → cond (not b) (times n (listed_in d.rec)) 0 ≡ cond (not (in_use n k.reader.state.lists) && eqb (cond b (suc u) (holder_of d.rec n)) 0) 1 0
      go n true h = rw (eqb-suc-zero u, and-false (not (in_use n k.reader.state.lists)))
      go n false h = h

pub made-order : (s : ℕ) (c : Change Written) (d : Disk) → Makes s c d → (k : Right d) → OrderRight d k.reader.state → OrderRight (made s c d) (committed (made s c d))
made-order zero c d m k o = rw (is-after c d m k o) (zero-order c d m k o)
made-order (suc u) c d m k o = rw (committed-is (made (suc u) c d) k.reader (unit-reader u c d m k o ∙ k.log.replays)) (unit-order u c d m k o)
