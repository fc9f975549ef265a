-- Every state that a log leads to is one that numbered changes lead to, by its entries (`replay-reached`) and by its card (`mounted-reached`): legal entries
-- have no other numbers.
use mathlib.Core.Path.{◌≡◌, refl, sym, subst, ◌∙◌}
use mathlib.Core.Bool.{Bool, true, ◌&&◌}
use mathlib.Core.Option.{Option, none, some, some-injective}
use mathlib.Core.List.{List, [], ◌∷◌, ◌++◌}
use Prim.Native.Nat.{ℕ, zero, suc, ◌+◌, ◌-◌, ◌≤◌}
use native.Mathlib.Omega.{arith}
use lib.Dec.{leb}
use lib.ListN.{length}
use Rattle.lists.specs.Basic.{bind, all, joined}
use Rattle.lists.specs.Change.{Change, take_list, put_first, put_after, write, del_block, del_list, map_change}
use Rattle.lists.specs.State.{State, apply, apply_all}
use Rattle.lists.specs.InUse.{Numbered, AllNumbered}
use Rattle.lists.proofs.Basic.{and-true, leb-true, guard-some, bind-some, all_append, all_drop, all-each}
use Rattle.lists.proofs.Listed.{Reached, reached-empty, reached-step, reached-all}
use Rattle.card_log.specs.Raced.{Raced, with_body}
use Rattle.card_log.specs.Entry.{Entry, plain, member, commit, map_entry, carried, raw, legal, legal_change, is_block, is_list, is_slot, is_race}
use Rattle.card_log.specs.Reader.{Reader, settled, start, last_of, read, replay}
use Rattle.card_log.specs.Card.{Written, used_by, Item, good, bad, entry_at, items_of, segment_items, segment_entries, count, after_empty, items, segments_in, Outcome, sound, fault, walk, walk_card, mounted}
use Rattle.card_log.proofs.Locations.{entry-legal}
use Rattle.card_log.proofs.Numbers.{carries-all}
use Rattle.card_log.proofs.Segment.{Carries}

-- are the blocks of the change 1 to 64 and its lists 1 to 16? of the change of an entry, if it has one?
abbrev pub is_numbered : {D : Type 0} → Change D → Bool
is_numbered (take_list l) = is_list l
is_numbered (put_first b l) = is_block b && is_list l
is_numbered (put_after b l p) = is_block b && is_list l && is_block p
is_numbered (write b d) = is_block b
is_numbered (del_block b) = is_block b
is_numbered (del_list l) = is_list l

abbrev pub enters_numbered : {D : Type 0} → Entry D → Bool
enters_numbered (plain c) = is_numbered c
enters_numbered (member c) = is_numbered c
enters_numbered (commit n) = true

range : (n k : ℕ) → leb 1 n && leb n k ≡ true → (1 ≤ n) × (n ≤ k)
range n k h = let (a, b) = and-true (leb 1 n) (leb n k) h in (leb-true 1 n a, leb-true n k b)

module _ {D : Type 0} where
  pub numbered : (c : Change D) → is_numbered c ≡ true → Numbered c
  numbered (take_list l) h = range l 16 h
  numbered (put_first b l) h = let (x, y) = and-true (is_block b) (is_list l) h in (range b 64 x, range l 16 y)
  numbered (put_after b l p) h =
      let (w, z) = and-true (is_block b && is_list l) (is_block p) h in
      let (x, y) = and-true (is_block b) (is_list l) w in
      (range b 64 x, range l 16 y, range p 64 z)
  numbered (write b d) h = range b 64 h
  numbered (del_block b) h = range b 64 h
  numbered (del_list l) h = range l 16 h

  all-numbered : (cs : List (Change D)) → all is_numbered cs ≡ true → AllNumbered cs
  unfolding all
  all-numbered [] h = tt
  all-numbered (c ∷ cs) h = let (a, b) = and-true (is_numbered c) (all is_numbered cs) h in (numbered c a, all-numbered cs b)

-- what a write carries does not matter
module _ {D E : Type 0} (f : D → E) where
  numbered-map : (c : Change D) → is_numbered (map_change f c) ≡ is_numbered c
  unfolding map_change
  numbered-map (take_list l) = refl
  numbered-map (put_first b l) = refl
  numbered-map (put_after b l p) = refl
  numbered-map (write b d) = refl
  numbered-map (del_block b) = refl
  numbered-map (del_list l) = refl

  enters-map : (e : Entry D) → enters_numbered (map_entry f e) ≡ enters_numbered e
  unfolding map_entry
  enters-map (plain c) = numbered-map c
  enters-map (member c) = numbered-map c
  enters-map (commit n) = refl

-- Legal changes and entries are numbered.
change-numbered : (c : Change (Raced ℕ)) → legal_change c ≡ true → is_numbered c ≡ true
unfolding legal_change
change-numbered (take_list l) h = h
change-numbered (put_first b l) h = h
change-numbered (put_after b l p) h = h
change-numbered (write b s) h = (and-true (is_block b) (is_slot s.body) (and-true (is_block b && is_slot s.body) (is_race s.race) h).0).0
change-numbered (del_block b) h = h
change-numbered (del_list l) h = h

entry-numbered : (e : Entry (Raced ℕ)) → legal e ≡ true → enters_numbered e ≡ true
unfolding legal
entry-numbered (plain c) h = change-numbered c h
entry-numbered (member c) h = change-numbered c h
entry-numbered (commit n) h = refl

module _ {A : Type 0} (k : ℕ) where
  pub legal-numbered : (c : Change (Raced A)) → legal_change (map_change (with_body k) c) ≡ true → is_numbered c ≡ true
  legal-numbered c h = sym (numbered-map (with_body k) c) ∙ change-numbered (map_change (with_body k) c) h

  pub legal-enters-numbered : (e : Entry (Raced A)) → legal (raw k e) ≡ true → enters_numbered e ≡ true
  unfolding raw
  legal-enters-numbered e h = sym (enters-map (with_body k) e) ∙ entry-numbered (map_entry (with_body k) e) h

-- between two entries: the state is reached, and the run's changes are numbered
pub record InReach {D : Type 0} (r : Reader D) : Type 0 where
  pub state : Reached r.state
  pub run : all is_numbered r.run ≡ true

pub start-reached : {D : Type 0} → InReach {D = D} start
unfolding all
start-reached = record { state = reached-empty; run = refl }

module _ {D : Type 0} where
  settled-reached : (o : Option (State D)) (q : Reader D) → bind o (λ s. some (settled s)) ≡ some q → ((t : State D) → o ≡ some t → Reached t) → InReach q
  unfolding all
  settled-reached o q e f =
      let (t, a, b) = bind-some o (λ s. some (settled s)) q e in
      subst InReach (some-injective _ _ b) (record { state = f t a; run = refl })

  read-reached : (r q : Reader D) (e : Entry D) → enters_numbered e ≡ true → read r e ≡ some q → InReach r → InReach q
  unfolding read last_of all
  read-reached r q (plain c) m h i = settled-reached (apply c r.state) q h (λ t e. reached-step c r.state t e (numbered c m) i.state)
  read-reached r q (member c) m h i = subst InReach (some-injective _ _ h) (record { state = i.state; run = all_append is_numbered r.run (c ∷ []) i.run (rw m) })
  read-reached r q (commit n) m h i =
      let (a, b) = guard-some (leb n (length r.run)) (bind (apply_all (last_of n r.run) r.state) (λ s. some (settled s))) q h in
      settled-reached (apply_all (last_of n r.run) r.state) q b (λ t e.
      reached-all (last_of n r.run) r.state t e (all-numbered (last_of n r.run) (all_drop is_numbered (length r.run - n) r.run i.run)) i.state)

  pub replay-numbered : (r q : Reader D) (es : List (Entry D)) → all enters_numbered es ≡ true → replay r es ≡ some q → InReach r → InReach q
  unfolding replay all
  replay-numbered r q [] m h i = subst InReach (some-injective _ _ h) i
  replay-numbered r q (e ∷ es) m h i =
      let (x, a, b) = bind-some (read r e) (λ y. replay y es) q h in
      let (u, v) = and-true (enters_numbered e) (all enters_numbered es) m in
      replay-numbered x q es v b (read-reached r x e u a i)

-- Legal entries.
pub replay-reached : {A : Type 0} (r q : Reader (Raced A)) (es : List (Entry (Raced A))) → all (λ e. legal (raw 0 e)) es ≡ true → replay r es ≡ some q → InReach r → InReach q
replay-reached r q es m h i = replay-numbered r q es (all-each (λ e. legal (raw 0 e)) enters_numbered es (legal-enters-numbered 0) m) h i

pub carries-numbered : (c : List ℕ) (ess : List (List (Entry Written))) → Carries c ess → all enters_numbered (joined ess) ≡ true
carries-numbered c ess k = carries-all enters_numbered legal-enters-numbered c ess k

-- The items of a card: each entry is legal where it stands.
module _ {D : Type 0} where
  abbrev item_numbered : Item D → Bool
  item_numbered (good g i e) = enters_numbered e
  item_numbered (bad g i) = true

  walk-reached : (r q : Reader D) (is : List (Item D)) → all item_numbered is ≡ true → walk r is ≡ sound q → InReach r → InReach q
  unfolding walk all
  walk-reached r q [] m h i = let e : r ≡ q = cc in subst InReach e i
  walk-reached r q (good g j e ∷ is) m h i =
      let (u, v) = and-true (enters_numbered e) (all item_numbered is) m in
      go u (λ x. walk-reached x q is v) (read r e) refl h
    where
      go : enters_numbered e ≡ true → ((x : Reader D) → walk x is ≡ sound q → InReach x → InReach q) → (o : Option (Reader D)) → read r e ≡ o
          → ◌≡◌ {A = Outcome D} (elim o [ none ↦ fault g j | some x ↦ walk x is ]) (sound q) → InReach q
      go u ih none a b = let n : ◌≡◌ {A = ℕ} 0 1 = cc in absurd (omega arith)
      go u ih (some x) a b = ih x b (read-reached r x e u a i)
  walk-reached r q (bad g j ∷ is) m h i = let n : ◌≡◌ {A = ℕ} 0 1 = cc in absurd (omega arith)

module _ {D : Type 0} (f : ℕ → Raced ℕ → D) where
  items_of-numbered : (g n i k : ℕ) (bs : List ℕ) → all item_numbered (items_of f g n i k bs) ≡ true
  unfolding items_of all
  items_of-numbered g zero i k bs = refl
  items_of-numbered g (suc n) i k bs = go (items_of-numbered g n (suc i)) (entry_at k bs) refl
    where
      go : ((k' : ℕ) (bs' : List ℕ) → all item_numbered (items_of f g n (suc i) k' bs') ≡ true) → (o : Option (Entry (Raced ℕ) × List ℕ)) → entry_at k bs ≡ o
          → all (item_numbered {D = D}) (elim o [ none ↦ bad g i ∷ [] | some x ↦ good g i (map_entry (f g) x.0) ∷ items_of f g n (suc i) (k + used_by (carried x.0)) x.1 ]) ≡ true
      go ih none e = refl
      go ih (some x) e = rw (enters-map (f g) x.0, entry-numbered x.0 (entry-legal k bs x e)) (ih (k + used_by (carried x.0)) x.1)

  empty-numbered : (c : List ℕ) (m g : ℕ) → all (item_numbered {D = D}) (after_empty c m g) ≡ true
  unfolding after_empty all
  empty-numbered c zero g = refl
  empty-numbered c (suc m) g = go (empty-numbered c m (suc g)) (count c g)
    where
      go : all (item_numbered {D = D}) (after_empty c m (suc g)) ≡ true → (x : ℕ)
          → all (item_numbered {D = D}) (elim x [ zero ↦ after_empty c m (suc g) | suc n ↦ bad g 0 ∷ [] ]) ≡ true
      go ih zero = ih
      go ih (suc n) = refl

  items-numbered : (c : List ℕ) (m g : ℕ) → all item_numbered (items f c m g) ≡ true
  unfolding items segment_items all
  items-numbered c zero g = refl
  items-numbered c (suc m) g = go (items-numbered c m (suc g)) (count c g)
    where
      go : all item_numbered (items f c m (suc g)) ≡ true → (x : ℕ)
          → all (item_numbered {D = D}) (elim x [ zero ↦ after_empty c m (suc g) | suc n ↦ items_of f g (count c g) 0 0 (segment_entries c g) ++ items f c m (suc g) ]) ≡ true
      go ih zero = empty-numbered c m (suc g)
      go ih (suc n) = all_append item_numbered (items_of f g (count c g) 0 0 (segment_entries c g)) (items f c m (suc g)) (items_of-numbered g (count c g) 0 0 (segment_entries c g)) ih

  pub walk_card-reached : (c : List ℕ) (q : Reader D) → walk_card f c ≡ sound q → InReach q
  unfolding walk_card
  walk_card-reached c q h = walk-reached start q (items f c (segments_in c) 0) (items-numbered c (segments_in c) 0) h start-reached

pub mounted-reached : (c : List ℕ) (r : Reader Written) → mounted c ≡ sound r → InReach r
unfolding mounted
mounted-reached c r h = walk_card-reached _ c r h
