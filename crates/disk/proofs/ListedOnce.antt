-- The order of the free numbers lists each of them once, and no other: said by the list that a record holds (`order-made`, `order-lists`), and by a
-- committed state, of whose free numbers those are missing that a unit holds (`to-listed`, `from-listed`).
use mathlib.Core.Path.{◌≡◌, refl, sym, ap, ◌∙◌}
use mathlib.Core.Logic.{inl, inr}
use mathlib.Core.Bool.{Bool, true, false, ◌&&◌, not, cond, and-true as and_yes, false≢true}
use mathlib.Core.List.{List}
use Prim.Native.Nat.{ℕ, zero, suc, ◌-◌, ◌≤◌}
use native.Mathlib.Omega.{arith}
use lib.Dec.{eqb}
use lib.ListN.{length, get_or, take, replicate, length-append, length-take, length-replicate}
use lib.Seq.{take-append_seam}
use Rattle.lists.specs.Basic.{all, times}
use Rattle.lists.specs.Change.{Change}
use Rattle.lists.specs.State.{Row, State}
use Rattle.lists.specs.InUse.{is_number, in_use, is_free, Numbered}
use Rattle.lists.proofs.Basic.{not-not, le-true, bind-some, get_or-same}
use Rattle.lists.proofs.Times.{all-standing, standing-all, once-most}
use Rattle.lists.proofs.Listed.{number-range, free-number, fits, Listed, Reached, reached-exact}
use Rattle.card_log.specs.Entry.{plain, raw, legal, map_entry}
use Rattle.card_log.specs.Reader.{replay}
use Rattle.card_log.specs.Card.{Written, mounted}
use Rattle.card_log.proofs.Reached.{numbered, legal-numbered, replay-reached, mounted-reached}
use Rattle.card_log.proofs.Places.{Good}
use Rattle.disk.specs.Record.{fresh_record, blank_record, holder_of, listed_in, padded, with_listed}
use Rattle.disk.specs.Disk.{Disk, queued, reader_of, committed_reader}
use Rattle.disk.specs.Perform.{relisted}
use Rattle.disk.proofs.Clauses.{HolderRight, UnitsRight, Right, OrderRight, sound-of}

-- The numbers that a record lists, by the list.
pub record Lists (d : Disk) (fs : List ℕ) : Type 0 where
  pub order : d.rec.tally.order ≡ padded fs
  pub many : d.rec.tally.listed ≡ length fs

pub listed_of : (d : Disk) (fs : List ℕ) → Lists d fs → listed_in d.rec ≡ fs
unfolding listed_in
listed_of d fs l = (λ i. take (l.many i) (l.order i)) ∙ take-append_seam fs (replicate (80 - length fs) 0)

-- each number is listed once exactly if it is not in use and no unit holds it
abbrev pub Once : Disk → List ℕ → State Written → Type 0
Once d fs s = (n : ℕ) → 1 ≤ n → n ≤ 80 → times n fs ≡ cond (not (in_use n s.lists) && eqb (holder_of d.rec n) 0) 1 0

pub few-times : (fs : List ℕ) → all is_number fs ≡ true → ((n : ℕ) → 1 ≤ n → n ≤ 80 → times n fs ≤ 1) → (n : ℕ) → times n fs ≤ 1
few-times fs a h n = go (times n fs) refl
  where
    go : (k : ℕ) → times n fs ≡ k → k ≤ 1
    go zero e = omega arith
    go (suc k) e = let (p, q) = number-range n (all-standing is_number fs a n (omega arith)) in omega (arith, h n p q)

pub order-made : (d : Disk) (fs : List ℕ) (s : State Written) → Lists d fs → all is_number fs ≡ true → Once d fs s → OrderRight d s
order-made d fs s l a o =
    let f = fits fs a (few-times fs a (λ n p q. rw (o n p q) (once-most (not (in_use n s.lists) && eqb (holder_of d.rec n) 0)))) in
    let e = listed_of d fs l in
    record {
      places = ap length l.order ∙ omega (arith, f, length-append fs (replicate (80 - length fs) 0), length-replicate {A = ℕ} (80 - length fs) 0);
      many = rw l.many f;
      behind = l.order ∙ ap padded (sym e);
      range = rw e a;
      once = λ n p q. rw e (o n p q);
    }

pub order-lists : (d : Disk) (s : State Written) → OrderRight d s → Lists d (listed_in d.rec)
unfolding listed_in
order-lists d s o = record { order = o.behind; many = omega (arith, o.many, o.places, length-take d.rec.tally.listed d.rec.tally.order) }

pub relisted-lists : (fs gs : List ℕ) (d : Disk) → fs ≡ gs → Lists (relisted fs d) gs
unfolding relisted with_listed
relisted-lists fs gs d e = record { order = ap padded e; many = ap length e }

-- Calls that leave order, holders and lists as they are.
pub order_same : (d e : Disk) (s t : State Written) → e.rec.tally.order ≡ d.rec.tally.order → e.rec.tally.listed ≡ d.rec.tally.listed
    → e.rec.held.holder ≡ d.rec.held.holder → t.lists ≡ s.lists → OrderRight d s → OrderRight e t
order_same d e s t a b h r o =
    let l = order-lists d s o in
    order-made e (listed_in d.rec) t (record { order = a ∙ l.order; many = b ∙ l.many }) o.range
    (λ n p q. o.once n p q ∙ (λ i. cond (not (in_use n (sym r i)) && eqb (get_or (sym h i) (n - 1) 0) 0) 1 0))

-- The committed state is one that numbered changes lead to.
pub reader-reached : (d : Disk) (k : Right d) → Reached k.reader.state
unfolding committed_reader
reader-reached d k =
    let (r, p, u) = bind-some (reader_of (mounted d.card)) (λ r. replay r (queued d)) k.reader k.log.replays in
    (replay-reached r k.reader (queued d) k.log.lawful u (mounted-reached d.card r (sound-of (mounted d.card) r p))).state

pub good-numbered : (c : Change Written) → Good (plain c) → Numbered c
unfolding legal raw map_entry
good-numbered c g = numbered c (legal-numbered 0 c g.lawful)

-- A number is missing while a unit holds it.
abbrev pub held : Disk → ℕ → Bool
held d n = not (eqb (holder_of d.rec n) 0)

pub free-is : {D : Type 0} (n : ℕ) (rs : List (Row D)) → 1 ≤ n → n ≤ 80 → is_free n rs ≡ not (in_use n rs)
unfolding is_free
free-is n rs p q = rw (le-true 1 n p, le-true n 80 q)

pub to-listed : (d : Disk) (s : State Written) → UnitsRight d s → OrderRight d s → (n : ℕ) → 1 ≤ n → n ≤ 80 → Listed n (held d n) s.lists (listed_in d.rec)
to-listed d s k o n p q = record {
  once = o.once n p q ∙ rw (free-is n s.lists p q, not-not (eqb (holder_of d.rec n) 0));
  missing = λ h. free-is n s.lists p q ∙ go h (k.holders n p q);
}
  where
    go : held d n ≡ true → HolderRight d s n → not (in_use n s.lists) ≡ true
    go h (inl z) = absurd (false≢true (rw z at h))
    go h (inr x) = rw x.1

pub from-listed : (n h : ℕ) (rs : List (Row Written)) (os : List ℕ) → 1 ≤ n → n ≤ 80 → Listed n (not (eqb h 0)) rs os → times n os ≡ cond (not (in_use n rs) && eqb h 0) 1 0
from-listed n h rs os p q l = l.once ∙ rw (free-is n rs p q, not-not (eqb h 0))

-- A record set anew.
pub fresh-order : (d : Disk) (fs : List ℕ) (s : State Written) → d.rec ≡ fresh_record fs → s.free ≡ fs → Reached s → OrderRight d s
unfolding fresh_record with_listed blank_record
fresh-order d fs s r e w =
    let x = reached-exact s w in
    order-made d fs s (record { order = rw r; many = rw r }) (rw (← e) (standing-all is_number s.free (λ n h. free-number n s.lists (go (is_free n s.lists) (rw (x n) at h)))))
    (λ n p q. ap (times n) (sym e) ∙ x n ∙ rw (free-is n s.lists p q, r, get_or-same {A = ℕ} 80 (n - 1) 0) (ap {B = ℕ} (λ b. cond b 1 0) (sym (and_yes (not (in_use n s.lists))))))
  where
    go : (b : Bool) → 1 ≤ cond b 1 0 → b ≡ true
    go true h = refl
    go false h = absurd (omega arith)
