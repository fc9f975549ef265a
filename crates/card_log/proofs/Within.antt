-- A place holds no more than its segment does, from opening it on. The place of a `LogEntry` depends neither on its mark of a member nor on what it
-- carries, so the code's answers, which are about a plain entry, hold of every entry that has its kind and fields.
use mathlib.Core.Path.{◌≡◌, refl, ◌∙◌, subst}
use mathlib.Core.Bool.{Bool, true, false, cond}
use mathlib.Core.Option.{none, some, none-ne-some, some-injective}
use Prim.Native.Nat.{ℕ, suc, ◌≤◌, ◌<◌}
use native.Mathlib.Omega.{arith}
use lib.Dec.{ltb}
use lib.ListN.{length}
use Rattle.lists.specs.Change.{Change, take_list, put_first, put_after, write, del_block, del_list, map_change}
use Rattle.lists.proofs.Basic.{ltb-true}
use Rattle.card_log.specs.declared.entry.LogEntry.{LogEntry}
use Rattle.card_log.specs.declared.entry.LogEntry.TheVariants.{Take, PutFirst, PutAfter, Write, DeleteBlock, DeleteList, Commit}
use Rattle.card_log.specs.declared.place.Place.{Place}
use Rattle.card_log.specs.Raced.{Raced, with_body}
use Rattle.card_log.specs.Entry.{Entry, plain, member, commit, map_entry, carried, change_bytes, encode, raw, entry_length, as_entry}
use Rattle.card_log.specs.Card.{used_by}
use Rattle.card_log.specs.Store.{opened, after, fits, home}
use Rattle.card_log.specs.promises.Within.{Within}
use Rattle.card_log.proofs.Naturality.{entry_length-map}
use Rattle.card_log.proofs.Segment.{used-map}
use Rattle.card_log.proofs.Places.{fits_both, fits-opened}

-- an entry is its map and a field or more
change-long : {A : Type 0} (n : ℕ) (c : Change (Raced A)) → 2 ≤ length (change_bytes n (map_change (with_body 0) c))
unfolding change_bytes map_change
change-long n (take_list l) = omega arith
change-long n (put_first b l) = omega arith
change-long n (put_after b l p) = omega arith
change-long n (write b d) = omega arith
change-long n (del_block b) = omega arith
change-long n (del_list l) = omega arith

pub entry-long : {A : Type 0} (e : Entry (Raced A)) → 2 ≤ entry_length e
unfolding encode raw map_entry entry_length
entry-long (plain c) = change-long 0 c
entry-long (member c) = change-long 128 c
entry-long (commit n) = omega arith

pub within-opened : (g : ℕ) → Within (opened g)
unfolding opened
within-opened g = record { entries = omega arith; bytes = omega arith; slots = omega arith }

pub within-after : {A : Type 0} (p : Place) (e : Entry (Raced A)) → Within p → fits p e ≡ true → Within (after p e)
unfolding after
within-after p e w h =
    let (b, s) = fits_both p e h in
    record { entries = omega (arith, w.entries, entry-long e); bytes = b; slots = s }

pub within-home : {A : Type 0} (n : ℕ) (p q : Place) (e : Entry (Raced A)) → Within p → p.segment < n → home n p e ≡ some q → Within q × (q.segment < n) × (fits q e ≡ true)
unfolding home opened
within-home n p q e w l h = go (fits p e) refl (ltb (suc p.segment) n) refl h
  where
    A : Place → Type 0
    A r = Within r × (r.segment < n) × (fits r e ≡ true)

    go : (a : Bool) → fits p e ≡ a → (b : Bool) → ltb (suc p.segment) n ≡ b → cond a (some p) (cond b (some (opened (suc p.segment))) none) ≡ some q → A q
    go true f b t i = subst A (some-injective _ _ i) (w, l, f)
    go false f true t i = subst A (some-injective _ _ i) (within-opened (suc p.segment), ltb-true (suc p.segment) n t, fits-opened (suc p.segment) e)
    go false f false t i = absurd (none-ne-some _ i)

-- A `LogEntry`, as a member or not, with anything carried.
length-plain : (m : Bool) (e : LogEntry) → entry_length (as_entry m e) ≡ entry_length (as_entry false e)
unfolding as_entry entry_length encode raw map_entry map_change change_bytes
length-plain false e = refl
length-plain true (Take l) = refl
length-plain true (PutFirst b l) = refl
length-plain true (PutAfter b l p) = refl
length-plain true (Write b s n) = refl
length-plain true (DeleteBlock b) = refl
length-plain true (DeleteList l) = refl
length-plain true (Commit n) = refl

used-plain : (m : Bool) (e : LogEntry) → used_by (carried (as_entry m e)) ≡ used_by (carried (as_entry false e))
unfolding as_entry carried
used-plain false e = refl
used-plain true (Take l) = refl
used-plain true (PutFirst b l) = refl
used-plain true (PutAfter b l p) = refl
used-plain true (Write b s n) = refl
used-plain true (DeleteBlock b) = refl
used-plain true (DeleteList l) = refl
used-plain true (Commit n) = refl

module _ {A : Type 0} (x : A) (m : Bool) (e : LogEntry) where
  pub length-of-entry : entry_length (map_entry (with_body x) (as_entry m e)) ≡ entry_length (as_entry false e)
  length-of-entry = entry_length-map (with_body x) (λ s. refl) (as_entry m e) ∙ length-plain m e

  pub used-of-entry : used_by (carried (map_entry (with_body x) (as_entry m e))) ≡ used_by (carried (as_entry false e))
  used-of-entry = used-map (with_body x) (as_entry m e) ∙ used-plain m e

  pub after-of-entry : (p : Place) → after p (map_entry (with_body x) (as_entry m e)) ≡ after p (as_entry false e)
  unfolding after
  after-of-entry p = rw (length-of-entry, used-of-entry)

  pub fits-of-entry : (p : Place) → fits p (map_entry (with_body x) (as_entry m e)) ≡ fits p (as_entry false e)
  unfolding fits
  fits-of-entry p = rw (length-of-entry, used-of-entry)

  pub home-of-entry : (n : ℕ) (p : Place) → home n p (map_entry (with_body x) (as_entry m e)) ≡ home n p (as_entry false e)
  unfolding home
  home-of-entry n p = rw (fits-of-entry p)
