-- The tables as the deletion leaves them show what it freed behind the number that was the last free one, and so `relist` lists it. Assumes nothing.
use mathlib.Core.Path.{◌≡◌, refl, sym, ap, ◌∙◌, subst}
use mathlib.Core.Bool.{Bool, true}
use mathlib.Core.Option.{none, some, some-injective}
use Prim.Native.Nat.{ℕ}
use native.Mathlib.Omega.{arith}
use Rattle.lists.specs.Change.{Change, del_block, del_list, map_change}
use Rattle.lists.specs.State.{State, free_after, apply}
use Rattle.lists.specs.promises.Tables.{Tables, tables_in, ShowsWith, ShowsAll, Ranged, Did, DidSome, of_kind, SaysLastFree}
use Rattle.lists.proofs.Basic.{eqb-false, eq-true}
use Rattle.lists.proofs.Apply.{apply_some}
use Rattle.lists.proofs.FreeRow.{last-free-shown}
use Rattle.lists.proofs.Represents.{did-apply}
use Rattle.card_log.specs.Raced.{Raced}
use Rattle.card_log.specs.Entry.{member, map_entry, raw, legal, legal_change, as_change}
use Rattle.card_log.specs.declared.entry.LogEntry.{LogEntry}
use Rattle.card_log.specs.declared.entry.LogEntry.TheVariants.{Take, PutFirst, PutAfter, Write, DeleteBlock, DeleteList, Commit}
use Rattle.card_log.proofs.Feeding.{fields_change}
use Rattle.disk.specs.Record.{Record, record_in}
use Rattle.disk.specs.promises.Listing.{relisted_by, Relists}
use Rattle.calls.specs.promises.Adds.{deletion, relisted_on}
use Rattle.calls.proofs.Refusing.{inside}
use Rattle.calls.proofs.delete.list_freed.Goals as goal

-- a deletion by its fields, which have no location, and as every map of contents leaves it
record Deletes (e : LogEntry) (c : Change ℕ) : Type 0 where
  fields : fields_change e 0 ≡ some c
  ranged : Ranged c
  says : (g : Raced ℕ → ℕ) → map_change g (as_change e) ≡ c

no_change : {c : Change ℕ} {A : Type 0} → none ≡ some c → A
no_change h = let n : ◌≡◌ {A = ℕ} 0 1 = cc in absurd (omega arith)

deletes : (e : LogEntry) (c : Change ℕ) → deletion e ≡ some c → legal (raw 0 (member (as_change e))) ≡ true → Deletes e c
unfolding of_kind as_change map_change map_entry raw legal legal_change
deletes (Take l) c h k = no_change h
deletes (PutFirst b l) c h k = no_change h
deletes (PutAfter b l p) c h k = no_change h
deletes (Write b x n) c h k = no_change h
deletes (DeleteBlock b) c h k = subst (Deletes (DeleteBlock b)) (some-injective (del_block b) c h) (record { fields = refl; ranged = inside 64 b k; says = λ g. refl })
deletes (DeleteList l) c h k = subst (Deletes (DeleteList l)) (some-injective (del_list l) c h) (record { fields = refl; ranged = inside 16 l k; says = λ g. refl })
deletes (Commit n) c h k = no_change h

freed-order : (e : LogEntry) (c : Change ℕ) (t : Tables) (a : Bool) (t' : Tables) (n : ℕ) (r r' : Record) → Deletes e c → SaysLastFree t n → DidSome (fields_change e 0) t a t' → Relists e n t' r r'
    → (x y : State ℕ) → ShowsAll t x → apply c x ≡ some y → r' ≡ relisted_by c x.lists r
freed-order e c t a t' n r r' d l w f x y h k =
    let g : Raced ℕ → ℕ = λ v. 0 in
    let made : Did c t a t' = rw d.fields at w in
    let left = rw k at (did-apply c t a t' x d.ranged h made) in
    let free : y.free ≡ free_after (map_change g (as_change e)) x.lists x.free =
    ap (λ (s : State ℕ). s.free) (apply_some c x y k).1 ∙ ap (λ (b : Change ℕ). free_after b x.lists x.free) (sym (d.says g)) in
    f g x.lists y.lists x.free (subst (ShowsWith t' y.lists) free left.1) (last-free-shown x.free h l)
    ∙ ap (λ (b : Change ℕ). relisted_by b x.lists r) (d.says g)

pub returns-else-s-eq0 : goal.returns-else-s-eq0
unfolding relisted_on
returns-else-s-eq0 c = λ b x y i h k. rw (eqb-false _ 0 c.if-s-eq0.false)

pub returns-then-s-eq0 : goal.returns-then-s-eq0
unfolding relisted_on
returns-then-s-eq0 c = λ b x y i h k.
    let a = c.act in
    let l = c.last_free-last in
    rw (eq-true c.args.s 0 c.if-s-eq0.true)
    (freed-order c.args.e b (tables_in c.args.nodes.now) a.result (tables_in a.new.nodes) l.result (record_in c.args.rec.now) _ (deletes c.args.e b i c.requires.1)
    l.ensures (rw c.fields_of-f.ensures at a.ensures) c.relist.ensures.0 x y h k)
