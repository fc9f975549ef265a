-- Content is carried along: a map of contents commutes with the reader and with the walk, and no place on the card depends on contents.
use mathlib.Core.Path.{◌≡◌, refl, sym, ap, ◌∙◌}
use mathlib.Core.Bool.{cond}
use mathlib.Core.Option
use mathlib.Core.Option.{Option, none, some}
use mathlib.Core.List.{List, [], ◌∷◌, ◌++◌, map, map-append}
use Prim.Native.Nat.{ℕ, zero, suc, ◌+◌, ◌-◌}
use lib.Dec.{leb, eqb}
use lib.ListN.{length, drop, length-map}
use Rattle.lists.specs.Basic.{bind}
use Rattle.lists.specs.Change.{Change, take_list, put_first, put_after, write, del_block, del_list, map_change}
use Rattle.lists.specs.State.{State, apply, apply_all, map_state}
use Rattle.lists.proofs.Basic.{map-drop}
use Rattle.lists.proofs.Naturality.{guard-map, change-comp, carried_by-map, apply-map, apply_all-map}
use Rattle.card_log.specs.Raced.{Raced, raced, with_body}
use Rattle.card_log.specs.Entry.{Entry, plain, member, commit, map_entry, carried, raw, entry_length}
use Rattle.card_log.specs.Reader.{Reader, reader, settled, start, last_of, read, replay}
use Rattle.card_log.specs.Card.{Item, good, bad, items_of, entry_at, used_by, segment_items, segment_entries, segments_in, after_empty, items, count, Outcome, sound, fault, walk, walk_card}
use Rattle.card_log.specs.Store.{opened, after, behind, behind_all}
use Rattle.card_log.specs.declared.place.Place.{Place}

abbrev pub map_reader : {D E : Type 0} → (D → E) → Reader D → Reader E
map_reader h r = reader (map (map_change h) r.run) (map_state h r.state)

abbrev pub map_item : {D E : Type 0} → (D → E) → Item D → Item E
map_item h (good g i e) = good g i (map_entry h e)
map_item h (bad g i) = bad g i

abbrev pub map_outcome : {D E : Type 0} → (D → E) → Outcome D → Outcome E
map_outcome h (sound r) = sound (map_reader h r)
map_outcome h (fault g i) = fault g i

change-id : {D : Type 0} (c : Change D) → map_change (λ d. d) c ≡ c
unfolding map_change
change-id (take_list l) = refl
change-id (put_first b l) = refl
change-id (put_after b l p) = refl
change-id (write b d) = refl
change-id (del_block b) = refl
change-id (del_list l) = refl

pub entry-id : {D : Type 0} (e : Entry D) → map_entry (λ d. d) e ≡ e
unfolding map_entry
entry-id (plain c) = ap plain (change-id c)
entry-id (member c) = ap member (change-id c)
entry-id (commit n) = refl

pub entry-comp : {C D E : Type 0} (h : D → E) (f : C → D) (e : Entry C) → map_entry h (map_entry f e) ≡ map_entry (λ d. h (f d)) e
unfolding map_entry
entry-comp h f (plain c) = ap plain (change-comp h f c)
entry-comp h f (member c) = ap member (change-comp h f c)
entry-comp h f (commit n) = refl

module _ {D E : Type 0} (h : D → E) where
  settle-map : (o : Option (State D)) → bind (Option.map (map_state h) o) (λ s. some (settled s)) ≡ Option.map (map_reader h) (bind o (λ s. some (settled s)))
  settle-map none = refl
  settle-map (some s) = refl

  pub read-map : (r : Reader D) (e : Entry D) → read (map_reader h r) (map_entry h e) ≡ Option.map (map_reader h) (read r e)
  unfolding read map_entry last_of
  read-map r (plain c) = rw (apply-map h c r.state) (settle-map (apply c r.state))
  read-map r (member c) = ap (λ (x : List (Change E)). some (reader x (map_state h r.state))) (sym (map-append (map_change h) r.run (c ∷ [])))
  read-map r (commit n) =
      rw (
        length-map r.run (map_change h),
        ← map-drop (map_change h) (length r.run - n) r.run,
        apply_all-map h (drop (length r.run - n) r.run) r.state,
        settle-map (apply_all (drop (length r.run - n) r.run) r.state),
      )
      (guard-map (map_reader h) (leb n (length r.run)) (bind (apply_all (drop (length r.run - n) r.run) r.state) (λ s. some (settled s))))

  pub replay-map : (r : Reader D) (es : List (Entry D)) → replay (map_reader h r) (map (map_entry h) es) ≡ Option.map (map_reader h) (replay r es)
  unfolding replay
  replay-map r [] = refl
  replay-map r (e ∷ es) = rw (read-map r e) (go (λ q. replay-map q es) (read r e))
    where
      go : ((q : Reader D) → replay (map_reader h q) (map (map_entry h) es) ≡ Option.map (map_reader h) (replay q es)) → (o : Option (Reader D))
          → bind (Option.map (map_reader h) o) (λ q. replay q (map (map_entry h) es)) ≡ Option.map (map_reader h) (bind o (λ q. replay q es))
      go ih none = refl
      go ih (some q) = ih q

  pub walk-map : (r : Reader D) (is : List (Item D)) → walk (map_reader h r) (map (map_item h) is) ≡ map_outcome h (walk r is)
  unfolding walk
  walk-map r [] = refl
  walk-map r (good g i e ∷ is) = rw (read-map r e, walk) (go (λ q. walk-map q is) (read r e))
    where
      go : ((q : Reader D) → walk (map_reader h q) (map (map_item h) is) ≡ map_outcome h (walk q is)) → (o : Option (Reader D))
          → ◌≡◌ {A = Outcome E} (elim (Option.map (map_reader h) o) [ none ↦ fault g i | some q ↦ walk q (map (map_item h) is) ]) (map_outcome h (elim o [ none ↦ fault g i | some q ↦ walk q is ]))
      go ih none = refl
      go ih (some q) = ih q
  walk-map r (bad g i ∷ is) = refl

  pub carried-map : (e : Entry D) → carried (map_entry h e) ≡ Option.map h (carried e)
  unfolding map_entry carried
  carried-map (plain c) = carried_by-map h c
  carried-map (member c) = carried_by-map h c
  carried-map (commit n) = refl

  pub after_empty-map : (c : List ℕ) (m g : ℕ) → map (map_item h) (after_empty c m g) ≡ after_empty c m g
  unfolding after_empty
  after_empty-map c zero g = refl
  after_empty-map c (suc m) g = go (after_empty-map c m (suc g)) (count c g)
    where
      go : map (map_item h) (after_empty c m (suc g)) ≡ after_empty c m (suc g) → (x : ℕ)
          → map (map_item h) (elim x [ zero ↦ after_empty c m (suc g) | suc n ↦ bad g 0 ∷ [] ]) ≡ elim x [ zero ↦ after_empty c m (suc g) | suc n ↦ bad g 0 ∷ [] ]
      go ih zero = ih
      go ih (suc n) = refl

  module _ (f : ℕ → Raced ℕ → D) where
    items_of-map : (g n i k : ℕ) (bs : List ℕ) → map (map_item h) (items_of f g n i k bs) ≡ items_of (λ a b. h (f a b)) g n i k bs
    unfolding items_of
    items_of-map g zero i k bs = refl
    items_of-map g (suc n) i k bs = go (λ k' bs'. items_of-map g n (suc i) k' bs') (entry_at k bs)
      where
        go : ((k' : ℕ) (bs' : List ℕ) → map (map_item h) (items_of f g n (suc i) k' bs') ≡ items_of (λ a b. h (f a b)) g n (suc i) k' bs') → (o : Option (Entry (Raced ℕ) × List ℕ))
            → map (map_item h) (elim o [ none ↦ bad g i ∷ [] | some x ↦ good g i (map_entry (f g) x.0) ∷ items_of f g n (suc i) (k + used_by (carried x.0)) x.1 ])
            ≡ elim o [ none ↦ bad g i ∷ [] | some x ↦ good g i (map_entry (λ b. h (f g b)) x.0) ∷ items_of (λ a b. h (f a b)) g n (suc i) (k + used_by (carried x.0)) x.1 ]
        go ih none = refl
        go ih (some x) = rw (ih (k + used_by (carried x.0)) x.1, entry-comp h (f g) x.0)

    pub items_map : (c : List ℕ) (m g : ℕ) → map (map_item h) (items f c m g) ≡ items (λ a b. h (f a b)) c m g
    unfolding items segment_items
    items_map c zero g = refl
    items_map c (suc m) g = go (items_map c m (suc g)) (count c g)
      where
        go : map (map_item h) (items f c m (suc g)) ≡ items (λ a b. h (f a b)) c m (suc g) → (x : ℕ)
            → map (map_item h) (elim x [ zero ↦ after_empty c m (suc g) | suc n ↦ items_of f g (count c g) 0 0 (segment_entries c g) ++ items f c m (suc g) ])
            ≡ elim x [ zero ↦ after_empty c m (suc g) | suc n ↦ items_of (λ a b. h (f a b)) g (count c g) 0 0 (segment_entries c g) ++ items (λ a b. h (f a b)) c m (suc g) ]
        go ih zero = after_empty-map c m (suc g)
        go ih (suc n) = map-append (map_item h) (items_of f g (count c g) 0 0 (segment_entries c g)) (items f c m (suc g)) ∙ rw (items_of-map g (count c g) 0 0 (segment_entries c g), ih)

    pub walk_card-map : (c : List ℕ) → walk_card (λ a b. h (f a b)) c ≡ map_outcome h (walk_card f c)
    unfolding walk_card
    walk_card-map c = rw (← items_map c (segments_in c) 0) (walk-map start (items f c (segments_in c) 0))

pub used_by-map : {D E : Type 0} (h : D → E) (o : Option D) → used_by (Option.map h o) ≡ used_by o
unfolding used_by
used_by-map h none = refl
used_by-map h (some d) = refl

-- The place behind an item depends on races, and on nothing else of what writes carry.
abbrev pub KeepsRace : {A B : Type 0} → (Raced A → Raced B) → Type 0
KeepsRace {A} h = (s : Raced A) → (h s).race ≡ s.race

module _ {A B : Type 0} (h : Raced A → Raced B) (keeps : KeepsRace h) where
  change-raw : (k : ℕ) (c : Change (Raced A)) → map_change (with_body k) (map_change h c) ≡ map_change (with_body k) c
  unfolding map_change
  change-raw k (take_list l) = refl
  change-raw k (put_first b l) = refl
  change-raw k (put_after b l p) = refl
  change-raw k (write b d) = ap (λ (n : ℕ). write b (raced k n)) (keeps d)
  change-raw k (del_block b) = refl
  change-raw k (del_list l) = refl

  pub raw-map : (k : ℕ) (e : Entry (Raced A)) → raw k (map_entry h e) ≡ raw k e
  unfolding raw map_entry
  raw-map k (plain c) = ap plain (change-raw k c)
  raw-map k (member c) = ap member (change-raw k c)
  raw-map k (commit n) = refl

  pub entry_length-map : (e : Entry (Raced A)) → entry_length (map_entry h e) ≡ entry_length e
  unfolding entry_length
  entry_length-map e = rw (raw-map 0 e)

  pub after_map : (p : Place) (e : Entry (Raced A)) → after p (map_entry h e) ≡ after p e
  unfolding after
  after_map p e = rw (entry_length-map e, carried-map h e, used_by-map h (carried e))

  behind-map : (p : Place) (i : Item (Raced A)) → behind p (map_item h i) ≡ behind p i
  unfolding behind
  behind-map p (good g i e) = after_map (cond (eqb p.segment g) p (opened g)) e
  behind-map p (bad g i) = refl

  pub behind_all-map : (p : Place) (is : List (Item (Raced A))) → behind_all p (map (map_item h) is) ≡ behind_all p is
  unfolding behind_all
  behind_all-map p [] = refl
  behind_all-map p (i ∷ is) = rw (behind_all, behind-map p i) (behind_all-map (behind p i) is)

-- the place behind the walk's items, whatever stands for the slots' contents
pub tail-map : {A B : Type 0} (f : ℕ → Raced ℕ → A) (g : ℕ → Raced ℕ → B) (c : List ℕ) (n : ℕ)
    → behind_all (opened 0) (items (λ a s. with_body (f a s) s) c n 0) ≡ behind_all (opened 0) (items (λ a s. with_body (g a s) s) c n 0)
tail-map f g c n = sym (bare f) ∙ bare g
  where
    bare : {C : Type 0} (f : ℕ → Raced ℕ → C)
        → behind_all (opened 0) (items (λ a s. with_body (tt {0}) s) c n 0) ≡ behind_all (opened 0) (items (λ a s. with_body (f a s) s) c n 0)
    bare f =
        ap (behind_all (opened 0)) (sym (items_map (with_body (tt {0})) (λ a s. with_body (f a s) s) c n 0))
        ∙ behind_all-map (with_body (tt {0})) (λ s. refl) (opened 0) (items (λ a s. with_body (f a s) s) c n 0)
