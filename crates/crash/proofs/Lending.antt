-- Buffers lent in parts: what a call leaves alone comes back as it was, and whole buffers are the disk itself.
use mathlib.Core.Path.{◌≡◌, sym, ap, ◌∙◌}
use mathlib.Core.Bool.{Bool, true, ◌&&◌}
use mathlib.Core.List.{List, ◌++◌, append_assoc, append-nil}
use Prim.Native.Nat.{ℕ, ◌+◌}
use native.Mathlib.Omega.{arith}
use lib.Dec.{eqb}
use lib.ListN.{length, drop, take, take-append-drop}
use lib.Seq.{drop-drop, take_all, drop-length}
use Rattle.lists.proofs.Basic.{and-true, eqb-true}
use Rattle.disk.specs.Record.{Record}
use Rattle.disk.specs.Disk.{Disk, with_record}
use Rattle.crash.specs.Event.{Part, Parts, part_of, put_back, lend, give_back, is_whole, lent_whole}

back-part : (p : Part) (l : List ℕ) → put_back p l (part_of p l) ≡ l
unfolding put_back part_of
back-part p l =
    append_assoc (take p.from l) (take p.size (drop p.from l)) (drop (p.from + p.size) l)
    ∙ ap (λ (x : List ℕ). take p.from l ++ (take p.size (drop p.from l) ++ x)) (sym (drop-drop p.size p.from l))
    ∙ ap (λ (x : List ℕ). take p.from l ++ x) (take-append-drop p.size (drop p.from l))
    ∙ take-append-drop p.from l

module _ (p : Part) (l : List ℕ) (h : is_whole p l ≡ true) where
  whole_part : part_of p l ≡ l
  unfolding is_whole part_of
  whole_part =
      let (a, b) = and-true (eqb p.from 0) (eqb p.size (length l)) h in
      rw (eqb-true p.from 0 a) (take_all p.size l (omega (arith, eqb-true p.size (length l) b)))

  whole_back : (x : List ℕ) → put_back p l x ≡ x
  unfolding is_whole put_back
  whole_back x =
      let (a, b) = and-true (eqb p.from 0) (eqb p.size (length l)) h in
      let e : p.size ≡ length l = eqb-true p.size (length l) b in
      rw (eqb-true p.from 0 a)
      (ap (λ (n : ℕ). x ++ drop n l) (let q : 0 + p.size ≡ length l = omega arith in q) ∙ ap (λ (r : List ℕ). x ++ r) (drop-length l) ∙ append-nil x)

-- each of three tests
both_true : (a b c : Bool) → a && b && c ≡ true → (a ≡ true) × (b ≡ true) × (c ≡ true)
both_true a b c h = let (ab, z) = and-true (a && b) c h in let (x, y) = and-true a b ab in (x, y, z)

module _ (p : Parts) (d : Disk) (h : lent_whole p d ≡ true) where
  pub lend-whole : lend p d ≡ d
  unfolding lent_whole lend
  lend-whole =
      let (a, b, c) = both_true (is_whole p.card d.card) (is_whole p.queue_data d.queue_data) (is_whole p.journal_data d.journal_data) h in
      λ i. record {
        card = whole_part p.card d.card a i;
        queue_data = whole_part p.queue_data d.queue_data b i;
        journal_data = whole_part p.journal_data d.journal_data c i;
        rec = d.rec;
      }

  pub back_whole : (x : Disk) → give_back p d x ≡ x
  unfolding lent_whole give_back
  back_whole x =
      let (a, b, c) = both_true (is_whole p.card d.card) (is_whole p.queue_data d.queue_data) (is_whole p.journal_data d.journal_data) h in
      λ i. record {
        card = whole_back p.card d.card a x.card i;
        queue_data = whole_back p.queue_data d.queue_data b x.queue_data i;
        journal_data = whole_back p.journal_data d.journal_data c x.journal_data i;
        rec = x.rec;
      }

-- a call that sets nothing but the record
pub back-record : (p : Parts) (d : Disk) (r : Record) → give_back p d (with_record (lend p d) r) ≡ with_record d r
unfolding give_back lend
back-record p d r = λ i. record {
  card = back-part p.card d.card i;
  queue_data = back-part p.queue_data d.queue_data i;
  journal_data = back-part p.journal_data d.journal_data i;
  rec = r;
}
