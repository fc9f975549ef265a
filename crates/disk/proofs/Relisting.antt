-- The order of the free numbers under changes, as the functions make it number by number: what it comes to (`relisted-by`, `relisted-all`), and what it
-- leaves alone.
use mathlib.Core.Path.{◌≡◌, refl, sym, ap, ◌∙◌, subst}
use mathlib.Core.Logic.{◌≢◌, ◌⊎◌, inl, inr, ⊎_elim}
use mathlib.Core.Bool.{Bool, true, ◌&&◌, not, false≢true}
use mathlib.Core.Option.{some}
use mathlib.Core.List.{List, [], ◌∷◌, ◌++◌}
use Prim.Native.Nat.{ℕ, ◌≤◌}
use native.Mathlib.Omega.{arith}
use lib.Dec.{leb}
use lib.ListN.{length}
use denote.Enum.Declared.{tag_of}
use types.Run.{OneOf}
use Rattle.lists.specs.Basic.{all, keep, or_else}
use Rattle.lists.specs.Change.{Change, take_list, put_first, put_after, write, del_block, del_list, map_change}
use Rattle.lists.specs.State.{Row, State, state, changed, frees, free_after, apply, apply_all, overlay}
use Rattle.lists.specs.InUse.{is_number, is_free, brings, brought, AllNumbered}
use Rattle.lists.proofs.Basic.{and-true, leb-true, bind-some, keep_all}
use Rattle.lists.proofs.Apply.{apply_some}
use Rattle.lists.proofs.Listed.{fits, Exact, Listed, listed-step, listed-range, Reached, reached-step, reached-exact}
use Rattle.lists.proofs.Times.{once-most}
use Rattle.lists.specs.promises.Tables.{Tables}
use Rattle.card_log.specs.Raced.{Raced}
use Rattle.card_log.specs.Entry.{as_change, member, raw, map_entry, legal, legal_change}
use Rattle.card_log.specs.declared.entry.LogEntry.{LogEntry}
use Rattle.card_log.specs.declared.entry.LogEntry.TheVariants.{Take, PutFirst, PutAfter, Write, DeleteBlock, DeleteList, Commit}
use Rattle.card_log.specs.contracts.entry.LogEntry.{the_type}
use Rattle.disk.specs.Record.{Record, listed_in, with_listed}
use Rattle.disk.specs.promises.Listing.{Padded, unlisted, pushed_all, relisted_by, relisted_all, ListsFree, Relists}
use Rattle.disk.proofs.Listing.{padded-places, listed-with, with-again, padded-with, with-same, with-ring, with-held, pushed_all-padded, pushed_all-ring, pushed_all-held, pushed-all, unlisted-padded}
use Rattle.disk.proofs.Changes.{apply-applies}
use Rattle.disk.proofs.ListedOnce.{few-times}
use Rattle.disk.proofs.ChangeOrder.{keep_out}

module _ {D : Type 0} where
  -- the number brought into use goes
  abbrev out : Change D → Record → Record
  out c r = elim (brings c) [ [] ↦ r | n ∷ ns ↦ unlisted n r ]

  out-padded : (c : Change D) (r : Record) → Padded r → Padded (out c r)
  out-padded (take_list l) r p = unlisted-padded _ r p (padded-places r p)
  out-padded (put_first b l) r p = unlisted-padded b r p (padded-places r p)
  out-padded (put_after b l x) r p = unlisted-padded b r p (padded-places r p)
  out-padded (write b x) r p = p
  out-padded (del_block b) r p = p
  out-padded (del_list l) r p = p

  out-ring : (c : Change D) (r : Record) → (out c r).ring ≡ r.ring
  out-ring (take_list l) r = with-ring _ r
  out-ring (put_first b l) r = with-ring _ r
  out-ring (put_after b l x) r = with-ring _ r
  out-ring (write b x) r = refl
  out-ring (del_block b) r = refl
  out-ring (del_list l) r = refl

  out-held : (c : Change D) (r : Record) → (out c r).held ≡ r.held
  out-held (take_list l) r = with-held _ r
  out-held (put_first b l) r = with-held _ r
  out-held (put_after b l x) r = with-held _ r
  out-held (write b x) r = refl
  out-held (del_block b) r = refl
  out-held (del_list l) r = refl

  pub relisted_by-padded : (c : Change D) (rs : List (Row D)) (r : Record) → Padded r → Padded (relisted_by c rs r)
  unfolding relisted_by
  relisted_by-padded c rs r p = let q = out-padded c r p in pushed_all-padded (frees c rs) (out c r) q (padded-places (out c r) q)

  pub relisted_by-ring : (c : Change D) (rs : List (Row D)) (r : Record) → (relisted_by c rs r).ring ≡ r.ring
  unfolding relisted_by
  relisted_by-ring c rs r = pushed_all-ring (frees c rs) (out c r) ∙ out-ring c r

  pub relisted_by-held : (c : Change D) (rs : List (Row D)) (r : Record) → (relisted_by c rs r).held ≡ r.held
  unfolding relisted_by
  relisted_by-held c rs r = pushed_all-held (frees c rs) (out c r) ∙ out-held c r

  -- what is left then
  out-keeps : (c : Change D) (r : Record) → Padded r → out c r ≡ with_listed (keep (λ n. not (brought c n)) (listed_in r)) r
  out-keeps (take_list l) r p = ap (λ (fs : List ℕ). with_listed fs r) (keep_out _ (listed_in r))
  out-keeps (put_first b l) r p = ap (λ (fs : List ℕ). with_listed fs r) (keep_out b (listed_in r))
  out-keeps (put_after b l x) r p = ap (λ (fs : List ℕ). with_listed fs r) (keep_out b (listed_in r))
  out-keeps (write b x) r p = sym (ap (λ (fs : List ℕ). with_listed fs r) (keep_all (λ m. true) (λ m. refl) (listed_in r)) ∙ with-same r p (padded-places r p))
  out-keeps (del_block b) r p = sym (ap (λ (fs : List ℕ). with_listed fs r) (keep_all (λ m. true) (λ m. refl) (listed_in r)) ∙ with-same r p (padded-places r p))
  out-keeps (del_list l) r p = sym (ap (λ (fs : List ℕ). with_listed fs r) (keep_all (λ m. true) (λ m. refl) (listed_in r)) ∙ with-same r p (padded-places r p))

  -- each number is listed once at most, as the lists have it
  abbrev pub EachListed : List (Row D) → List ℕ → Type 0
  EachListed rs os = (n : ℕ) → 1 ≤ n → n ≤ 80 → (a : Bool) × Listed n a rs os

  each_fits : (rs : List (Row D)) (os : List ℕ) → all is_number os ≡ true → EachListed rs os → length os ≤ 80
  each_fits rs os h e = fits os h (few-times os h (λ n p q. let (a, l) = e n p q in rw l.once (once-most (is_free n rs && not a))))

  module _ (c : Change D) (s t : State D) (f : apply c s ≡ some t) (x : Exact s) (y : Exact t) (r : Record) (p : Padded r) (h : all is_number (listed_in r) ≡ true) (e : EachListed s.lists (listed_in r)) where
    pub each_step : EachListed t.lists (free_after c s.lists (listed_in r))
    each_step n a b = let (m, l) = e n a b in (m && not (brought c n), listed-step c s t (listed_in r) f x y n m l)

    pub range-step : all is_number (free_after c s.lists (listed_in r)) ≡ true
    range-step = listed-range c s t (listed_in r) f x y h

    pub fits-step : length (free_after c s.lists (listed_in r)) ≤ 80
    fits-step = each_fits t.lists (free_after c s.lists (listed_in r)) range-step each_step

    pub relisted-by : relisted_by c s.lists r ≡ with_listed (free_after c s.lists (listed_in r)) r
    unfolding relisted_by free_after
    relisted-by =
        let ks = keep (λ n. not (brought c n)) (listed_in r) in
        let w = with_listed ks r in
        let q : out c r ≡ w = out-keeps c r p in
        let m : Padded w = subst Padded q (out-padded c r p) in
        ap (pushed_all (frees c s.lists)) q
        ∙ pushed-all (frees c s.lists) w m (padded-places w m) (rw (listed-with ks r) fits-step)
        ∙ ap (λ (fs : List ℕ). with_listed (fs ++ frees c s.lists) w) (listed-with ks r)
        ∙ with-again (ks ++ frees c s.lists) ks r

  -- changes one after the other, all of which apply
  pub relisted-all : (cs : List (Change D)) (s t : State D) (r : Record) → AllNumbered cs → Reached s → apply_all cs s ≡ some t → Padded r → all is_number (listed_in r) ≡ true → EachListed s.lists (listed_in r)
      → relisted_all cs s.lists r ≡ with_listed (overlay cs (state s.lists (listed_in r))).free r
  unfolding relisted_all overlay apply_all or_else
  relisted-all [] s t r g w f p h e = sym (with-same r p (padded-places r p))
  relisted-all (c ∷ cs) s t r g w f p h e =
      let (v, a, b) = bind-some (apply c s) (λ x. apply_all cs x) t f in
      let (i, j) = apply_some c s v a in
      let z = reached-step c s v a g.0 w in
      let x = reached-exact s w in
      let y = reached-exact v z in
      let fs = free_after c s.lists (listed_in r) in
      let q = with_listed fs r in
      let l : listed_in q ≡ fs = listed-with fs r in
      let k : or_else (state s.lists (listed_in r)) (apply c (state s.lists (listed_in r))) ≡ state v.lists fs =
      ap (or_else (state s.lists (listed_in r))) (apply-applies c (state s.lists (listed_in r)) i) ∙ ap (λ (u : State D). state u.lists fs) (sym j) in
      ap (relisted_all cs (changed c s.lists)) (relisted-by c s v a x y r p h e)
      ∙ ap (λ (u : State D). relisted_all cs u.lists q) (sym j)
      ∙ relisted-all cs v t q g.1 z b (padded-with fs r (fits-step c s v a x y r p h e)) (rw l (range-step c s v a x y r p h e)) (rw l (each_step c s v a x y r p h e))
      ∙ with-again _ fs r
      ∙ ap (λ (os : List ℕ). with_listed (overlay cs (state v.lists os)).free r) l
      ∙ sym (ap (λ (u : State D). with_listed (overlay cs u).free r) k)

-- An entry, by its kind.
no-tag : (t : ℕ) → t ≢ 3 → t ≢ 6 → OneOf (3 ∷ 6 ∷ []) t → ⊥
no-tag t a b (inl k) = a k
no-tag t a b (inr k) = b k

pub take_range : (e : LogEntry) (l : ℕ) → e ≡ Take l → legal (raw 0 (member (as_change e))) ≡ true → l ≤ 16
unfolding as_change legal raw map_entry map_change legal_change
take_range e l q h = let k = rw q at h in leb-true l 16 (and-true (leb 1 l) (leb l 16) k).1

-- a deletion brings nothing into use
pub none-brought : (e : LogEntry) → (tag_of the_type e ≡ 4) ⊎ (tag_of the_type e ≡ 5) → (g : Raced ℕ → ℕ) → brings (map_change g (as_change e)) ≡ []
unfolding as_change map_change
none-brought (Take l) k g = absurd (⊎_elim (λ z. omega arith) (λ z. omega arith) k)
none-brought (PutFirst b l) k g = absurd (⊎_elim (λ z. omega arith) (λ z. omega arith) k)
none-brought (PutAfter b l p) k g = absurd (⊎_elim (λ z. omega arith) (λ z. omega arith) k)
none-brought (Write b s m) k g = refl
none-brought (DeleteBlock b) k g = refl
none-brought (DeleteList l) k g = refl
none-brought (Commit m) k g = absurd (⊎_elim (λ z. omega arith) (λ z. omega arith) k)

module _ (n : ℕ) (t : Tables) (r r' : Record) where
  pub relists-brings : (e : LogEntry) (m : ℕ) → ((g : Raced ℕ → ℕ) → brings (map_change g (as_change e)) ≡ m ∷ []) → ((g : Raced ℕ → ℕ) (rs : List (Row ℕ)) → frees (map_change g (as_change e)) rs ≡ [])
      → r' ≡ unlisted m r → Relists e n t r r'
  unfolding relisted_by pushed_all
  relists-brings e m b f h g rs rs' fs w l = h ∙ sym (rw (b g, f g rs))

  pub relists-frees : (e : LogEntry) → ((g : Raced ℕ → ℕ) → brings (map_change g (as_change e)) ≡ []) → ListsFree t n r r' → Relists e n t r r'
  unfolding relisted_by free_after
  relists-frees e b h g rs rs' fs w l =
      let c = map_change g (as_change e) in
      h rs' (free_after c rs fs) w fs (frees c rs) (rw (b g) (ap (λ (xs : List ℕ). xs ++ frees c rs) (keep_all (λ m. true) (λ m. refl) fs))) l ∙ sym (rw (b g))

  pub relists-write : (e : LogEntry) → OneOf (3 ∷ 6 ∷ []) (tag_of the_type e) → legal (raw 0 (member (as_change e))) ≡ true → r' ≡ r → Relists e n t r r'
  unfolding relisted_by pushed_all as_change map_change frees legal raw map_entry legal_change
  relists-write (Take l) k h q = absurd (no-tag 0 (omega arith) (omega arith) k)
  relists-write (PutFirst b l) k h q = absurd (no-tag 1 (omega arith) (omega arith) k)
  relists-write (PutAfter b l p) k h q = absurd (no-tag 2 (omega arith) (omega arith) k)
  relists-write (Write b s m) k h q = λ g rs rs' fs w l. q
  relists-write (DeleteBlock b) k h q = absurd (no-tag 4 (omega arith) (omega arith) k)
  relists-write (DeleteList l) k h q = absurd (no-tag 5 (omega arith) (omega arith) k)
  relists-write (Commit m) k h q = absurd (false≢true h)
