-- The lists of a state that a log leads to are numbered 1 to 16: legal entries take no other.
use mathlib.Core.Path.{◌≡◌, refl, subst}
use mathlib.Core.Bool.{Bool, true}
use mathlib.Core.Option.{Option, some, some-injective}
use mathlib.Core.List.{List, [], ◌∷◌}
use Prim.Native.Nat.{ℕ, suc, ◌+◌, ◌-◌, ◌<◌}
use native.Mathlib.Omega.{arith}
use lib.Dec.{leb}
use lib.ListN.{length, get_or}
use Rattle.lists.specs.Basic.{bind, all, joined}
use Rattle.lists.specs.Change.{Change, take_list, put_first, put_after, write, del_block, del_list, map_change}
use Rattle.lists.specs.State.{State, apply, apply_all}
use Rattle.lists.proofs.Basic.{and-true, guard-some, bind-some, all_append, all_drop}
use Rattle.lists.proofs.Numbers.{may_take, numbered, apply-numbered, apply_all-numbered}
use Rattle.card_log.specs.Raced.{Raced, with_body}
use Rattle.card_log.specs.Entry.{Entry, plain, member, commit, map_entry, carried, raw, legal, legal_change, is_list}
use Rattle.card_log.specs.Reader.{Reader, settled, start, last_of, read, replay}
use Rattle.card_log.specs.Card.{Written, used_by}
use Rattle.card_log.proofs.Segment.{Fine, Carries}

-- does the entry take a list in range, or none?
unfoldable pub may_enter : {D : Type 0} → Entry D → Bool
may_enter (plain c) = may_take is_list c
may_enter (member c) = may_take is_list c
may_enter (commit n) = true

legal-takes : {A : Type 0} (k : ℕ) (c : Change (Raced A)) → legal_change (map_change (with_body k) c) ≡ true → may_take is_list c ≡ true
unfolding legal_change map_change
legal-takes k (take_list l) h = h
legal-takes k (put_first b l) h = refl
legal-takes k (put_after b l p) h = refl
legal-takes k (write b d) h = refl
legal-takes k (del_block b) h = refl
legal-takes k (del_list l) h = refl

pub legal-enters : {A : Type 0} (k : ℕ) (e : Entry (Raced A)) → legal (raw k e) ≡ true → may_enter e ≡ true
unfolding legal raw map_entry may_enter
legal-enters k (plain c) h = legal-takes k c h
legal-enters k (member c) h = legal-takes k c h
legal-enters k (commit n) h = refl

-- between two entries: the lists of the state, and those that the run takes
pub record InRange {D : Type 0} (r : Reader D) : Type 0 where
  pub lists : numbered is_list r.state.lists ≡ true
  pub run : all (may_take is_list) r.run ≡ true

pub start-range : {D : Type 0} → InRange {D = D} start
unfolding all
start-range = record { lists = refl; run = refl }

module _ {D : Type 0} where
  settled-range : (o : Option (State D)) (q : Reader D) → bind o (λ s. some (settled s)) ≡ some q → ((t : State D) → o ≡ some t → numbered is_list t.lists ≡ true) → InRange q
  unfolding all
  settled-range o q e f =
      let (t, a, b) = bind-some o (λ s. some (settled s)) q e in
      subst InRange (some-injective _ _ b) (record { lists = f t a; run = refl })

  read-range : (r q : Reader D) (e : Entry D) → may_enter e ≡ true → read r e ≡ some q → InRange r → InRange q
  unfolding read may_enter last_of all
  read-range r q (plain c) m h i = settled-range (apply c r.state) q h (λ t e. apply-numbered is_list c r.state t m e i.lists)
  read-range r q (member c) m h i =
      subst InRange (some-injective _ _ h) (record { lists = i.lists; run = all_append (may_take is_list) r.run (c ∷ []) i.run (rw m) })
  read-range r q (commit n) m h i =
      let (a, b) = guard-some (leb n (length r.run)) (bind (apply_all (last_of n r.run) r.state) (λ s. some (settled s))) q h in
      settled-range (apply_all (last_of n r.run) r.state) q b
      (λ t e. apply_all-numbered is_list (last_of n r.run) r.state t (all_drop (may_take is_list) (length r.run - n) r.run i.run) e i.lists)

  pub replay-range : (r q : Reader D) (es : List (Entry D)) → all may_enter es ≡ true → replay r es ≡ some q → InRange r → InRange q
  unfolding replay all
  replay-range r q [] m h i = subst InRange (some-injective _ _ h) i
  replay-range r q (e ∷ es) m h i =
      let (x, a, b) = bind-some (read r e) (λ y. replay y es) q h in
      let (u, v) = and-true (may_enter e) (all may_enter es) m in
      replay-range x q es v b (read-range r x e u a i)

pub all-joined : {A : Type 0} (p : A → Bool) (xss : List (List A)) → ((h : ℕ) → h < length xss → all p (get_or xss h []) ≡ true) → all p (joined xss) ≡ true
unfolding joined all
all-joined p [] f = refl
all-joined p (xs ∷ xss) f = all_append p xs (joined xss) (f 0 (omega arith)) (all-joined p xss (λ h l. f (suc h) (omega arith)))

-- The entries that a card carries are legal, and pass each test that legal entries pass.
module _ (p : Entry Written → Bool) (lawful : (k : ℕ) (e : Entry Written) → legal (raw k e) ≡ true → p e ≡ true) where
  fine-all : (k : ℕ) (es : List (Entry Written)) → Fine k es → all p es ≡ true
  unfolding all
  fine-all k [] f = refl
  fine-all k (e ∷ es) f = rw (lawful k e f.0) (fine-all (k + used_by (carried e)) es f.2)

  pub carries-all : (c : List ℕ) (ess : List (List (Entry Written))) → Carries c ess → all p (joined ess) ≡ true
  carries-all c ess k = all-joined p ess (λ h l. fine-all 0 (get_or ess h []) (k.holds h l).fine)

pub carries-enters : (c : List ℕ) (ess : List (List (Entry Written))) → Carries c ess → all may_enter (joined ess) ≡ true
carries-enters c ess k = carries-all may_enter legal-enters c ess k
