-- A log without bit 6 is read as it was before writes had races: entry by entry the same, with race 0 (`entry-as-before`), so the same items and the
-- same walk; and the entries of a card that was accepted before have no bit 6.
use mathlib.Core.Path.{◌≡◌, refl, sym, ap, ◌∙◌, subst}
use mathlib.Core.Logic.{◌⊎◌, inl, inr, ◌≢◌}
use mathlib.Core.Bool.{Bool, true, false, cond}
use mathlib.Core.Option
use mathlib.Core.Option.{Option, none, some, none-ne-some, some-injective}
use mathlib.Core.List.{List, [], ◌∷◌, ◌++◌, map, map-append}
use Prim.Native.Nat.{ℕ, zero, suc, ◌+◌, ◌-◌, ◌/◌, ◌%◌, ◌≤◌, ◌<◌}
use native.Mathlib.Omega.{arith}
use native.Mathlib.Decide.{ℕ_discrete}
use lib.Dec.{leb, eqb}
use lib.ListN.{length, drop, get_or}
use borrow.Author.Tests.{ne_eqb}
use Rattle.lists.specs.Basic.{guard, bind, all}
use Rattle.lists.specs.Change.{Change, take_list, put_first, put_after, write, del_block, del_list, map_change}
use Rattle.lists.proofs.Basic.{and-true, eqb-true, leb-true, bind-some, guard-some}
use Rattle.card_log.specs.Raced.{Raced, raced}
use Rattle.card_log.specs.Entry.{Entry, plain, member, commit, map_entry, carried, legal, size_of, change_of, checked, entry_of, decode}
use Rattle.card_log.specs.Reader.{Reader, start}
use Rattle.card_log.specs.Card.{Content, Written, card_slot, card_written, segments_in, count, segment_entries, used_by, is_next, entry_at, Item, good, bad, items_of, segment_items, after_empty, items, Outcome, sound, fault, walk, walk_card, mounted}
use Rattle.card_log.specs.Before.{size_before, change_before, entry_before, raceless, entry_at_before, items_of_before, items_before, mounted_before, all_raceless, maps_of, lacks_race, CardsAsBefore, BytesAsBefore, takes_as_member, met_before, mounted_without_takes, TakesAsBefore}
use Rattle.card_log.proofs.Decode.{cond-some}
use Rattle.card_log.proofs.Naturality.{map_item, map_outcome, entry-comp, carried-map, walk-map, after_empty-map}
use Rattle.card_log.proofs.Segment.{used-map}
use Rattle.card_log.proofs.Regain.{walk-bad, walk-good, empty-rest}

-- The table of maps, but for 73.
change-as-before : (m x y z : ℕ) → m ≢ 73 → change_of m x y z ≡ Option.map (map_change raceless) (change_before m x y z)
unfolding change_of change_before map_change
change-as-before m x y z h = rw (ne_eqb m 73 h) (go (eqb m 2) (eqb m 3) (eqb m 7) (eqb m 9) (eqb m 33) (eqb m 34))
  where
    go : (a b c d e f : Bool)
        → cond a (some (take_list x)) (cond b (some (put_first x y)) (cond c (some (put_after x y z)) (cond d (some (write x (raced y 0))) (cond e (some (del_block x)) (cond f (some (del_list x)) none)))))
        ≡ Option.map (map_change raceless) (cond a (some (take_list x)) (cond b (some (put_first x y)) (cond c (some (put_after x y z)) (cond d (some (write x y)) (cond e (some (del_block x)) (cond f (some (del_list x)) none))))))
    go true b c d e f = refl
    go false true c d e f = refl
    go false false true d e f = refl
    go false false false true e f = refl
    go false false false false true f = refl
    go false false false false false true = refl
    go false false false false false false = refl

lacks : (m : ℕ) → lacks_race m ≡ true → m / 64 % 2 ≡ 0
lacks m h = eqb-true (m / 64 % 2) 0 h

said-as-before : (m x y z : ℕ) → lacks_race m ≡ true → entry_of m x y z ≡ bind (entry_before m x y z) (λ e. checked (map_entry raceless e))
unfolding entry_of entry_before map_entry
said-as-before m x y z h =
    rw (change-as-before m x y z (λ e. let q = lacks m h in omega arith)) (go (eqb m 16) (leb 128 m) refl)
  where
    marked : (f : Change (Raced ℕ) → Entry (Raced ℕ)) (g : Change ℕ → Entry ℕ) → ((c : Change ℕ) → f (map_change raceless c) ≡ map_entry raceless (g c)) → (o : Option (Change ℕ))
        → bind (Option.map (map_change raceless) o) (λ c. checked (f c)) ≡ bind (Option.map g o) (λ e. checked (map_entry raceless e))
    marked f g q none = refl
    marked f g q (some c) = ap checked (q c)

    go : (a b : Bool) → leb 128 m ≡ b
        → cond a (checked (commit x)) (cond b (bind (change_of (m - 128) x y z) (λ c. checked (member c))) (bind (Option.map (map_change raceless) (change_before m x y z)) (λ c. checked (plain c))))
        ≡ bind (cond a (some (commit x)) (cond b (Option.map member (change_before (m - 128) x y z)) (Option.map plain (change_before m x y z)))) (λ e. checked (map_entry raceless e))
    go true b l = refl
    go false true l =
        rw (change-as-before (m - 128) x y z (λ e. let q = lacks m h in let k = leb-true 128 m l in omega arith)) (marked member member (λ c. refl) (change_before (m - 128) x y z))
    go false false l = marked plain plain (λ c. refl) (change_before m x y z)

abbrev with0 : Entry ℕ × List ℕ → Entry (Raced ℕ) × List ℕ
with0 x = (map_entry raceless x.0, x.1)

pub entry-as-before : (k : ℕ) (bs : List ℕ) → lacks_race (get_or bs 0 0) ≡ true → entry_at k bs ≡ Option.map with0 (entry_at_before k bs)
unfolding entry_at decode entry_at_before checked
entry-as-before k bs h =
    rw (same, said-as-before (get_or bs 0 0) (get_or bs 1 0) (get_or bs 2 0) (get_or bs 3 0) h)
    (go (leb (size_before (get_or bs 0 0)) (length bs)) (entry_before (get_or bs 0 0) (get_or bs 1 0) (get_or bs 2 0) (get_or bs 3 0)))
  where
    same : size_of (get_or bs 0 0) ≡ size_before (get_or bs 0 0)
    same = let q = lacks (get_or bs 0 0) h in omega arith

    d : List ℕ
    d = drop (size_before (get_or bs 0 0)) bs

    next : (e : Entry ℕ) (b : Bool) → guard {A = Entry (Raced ℕ) × List ℕ} b (some (map_entry raceless e, d)) ≡ Option.map with0 (guard b (some (e, d)))
    next e true = refl
    next e false = refl

    said : (e : Entry ℕ) (a : Bool)
        → bind (bind (guard a (some (map_entry raceless e))) (λ y. some (y, d))) (λ x. guard {A = Entry (Raced ℕ) × List ℕ} (is_next k (carried x.0)) (some x))
        ≡ Option.map with0 (guard a (guard (is_next k (Option.map raceless (carried e))) (some (e, d))))
    said e false = refl
    said e true = rw (carried-map raceless e) (next e (is_next k (Option.map raceless (carried e))))

    go : (b : Bool) (o : Option (Entry ℕ))
        → bind (guard b (bind (bind o (λ e. guard (legal (map_entry raceless e)) (some (map_entry raceless e)))) (λ e. some (e, d)))) (λ x. guard {A = Entry (Raced ℕ) × List ℕ} (is_next k (carried x.0)) (some x))
        ≡ Option.map with0 (guard b (bind o (λ e. guard (legal (map_entry raceless e)) (guard (is_next k (Option.map raceless (carried e))) (some (e, d))))))
    go false o = refl
    go true none = refl
    go true (some e) = said e (legal (map_entry raceless e))

-- What an entry read before says of its bytes: its map lacks bit 6, and the rest begins where the map tells.
table-lacks : (m x y z : ℕ) (c : Change ℕ) → change_before m x y z ≡ some c → (lacks_race m ≡ true) × (lacks_race (128 + m) ≡ true)
unfolding change_before
table-lacks m x y z c = row 2 _ _ (refl, refl) (row 3 _ _ (refl, refl) (row 7 _ _ (refl, refl) (row 9 _ _ (refl, refl) (row 33 _ _ (refl, refl) (row 34 _ none (refl, refl) (λ q. absurd (none-ne-some _ q)))))))
  where
    G : ℕ → Type 0
    G n = (lacks_race n ≡ true) × (lacks_race (128 + n) ≡ true)

    row : (k : ℕ) (o rest : Option (Change ℕ)) → G k → (rest ≡ some c → G m) → cond (eqb m k) o rest ≡ some c → G m
    row k o rest g f h = go (cond-some m k o rest c h)
      where
        go : ((m ≡ k) × (o ≡ some c)) ⊎ (rest ≡ some c) → G m
        go (inl q) = subst G (sym q.0) g
        go (inr q) = f q

marked-some : {A B : Type 0} (f : A → B) (o : Option A) (y : B) → Option.map f o ≡ some y → (x : A) × (o ≡ some x)
marked-some f none y h = absurd (none-ne-some _ h)
marked-some f (some x) y h = (x, refl)

said-lacks : (m x y z : ℕ) (e : Entry ℕ) → entry_before m x y z ≡ some e → lacks_race m ≡ true
unfolding entry_before
said-lacks m x y z e h = first (cond-some m 16 (some (commit x)) _ e h)
  where
    side : (b : Bool) → leb 128 m ≡ b → cond b (Option.map member (change_before (m - 128) x y z)) (Option.map plain (change_before m x y z)) ≡ some e → lacks_race m ≡ true
    side true l q =
        let (c, u) = marked-some member (change_before (m - 128) x y z) e q in
        let o : 128 + (m - 128) ≡ m = omega (arith, leb-true 128 m l) in
        subst (λ (n : ℕ). lacks_race n ≡ true) o (table-lacks (m - 128) x y z c u).1
    side false l q = let (c, u) = marked-some plain (change_before m x y z) e q in (table-lacks m x y z c u).0

    first : ((m ≡ 16) × (some (commit x) ≡ some e)) ⊎ (cond (leb 128 m) (Option.map member (change_before (m - 128) x y z)) (Option.map plain (change_before m x y z)) ≡ some e) → lacks_race m ≡ true
    first (inl (p, q)) = subst (λ (n : ℕ). lacks_race n ≡ true) (sym p) refl
    first (inr q) = side (leb 128 m) refl q

entry-lacks : (k : ℕ) (bs : List ℕ) (x : Entry ℕ × List ℕ) → entry_at_before k bs ≡ some x → (lacks_race (get_or bs 0 0) ≡ true) × (x.1 ≡ drop (size_before (get_or bs 0 0)) bs)
unfolding entry_at_before
entry-lacks k bs x h =
    let m = get_or bs 0 0 in
    let d = drop (size_before m) bs in
    let (l, q) = guard-some (leb (size_before m) (length bs)) _ x h in
    let (e, u, v) = bind-some (entry_before m (get_or bs 1 0) (get_or bs 2 0) (get_or bs 3 0)) (λ e. guard (legal (map_entry raceless e)) (guard (is_next k (Option.map raceless (carried e))) (some (e, d)))) x q in
    let w = (guard-some (is_next k (Option.map raceless (carried e))) (some (e, d)) x (guard-some (legal (map_entry raceless e)) _ x v).1).1 in
    (said-lacks m (get_or bs 1 0) (get_or bs 2 0) (get_or bs 3 0) e u, ap (λ (y : Entry ℕ × List ℕ). y.1) (sym (some-injective _ _ w)))

-- The items of a log without the bit.
carried-before : (c : List ℕ) (g : ℕ) (e : Entry ℕ) → map_entry (card_written c g) (map_entry raceless e) ≡ map_entry raceless (map_entry (card_slot c g) e)
unfolding card_written
carried-before c g e = entry-comp (card_written c g) raceless e ∙ sym (entry-comp raceless (card_slot c g) e)

segment-as-before : (c : List ℕ) (g n i k : ℕ) (bs : List ℕ) → all lacks_race (maps_of n bs) ≡ true → items_of (card_written c) g n i k bs ≡ map (map_item raceless) (items_of_before c g n i k bs)
unfolding items_of items_of_before maps_of all
segment-as-before c g zero i k bs h = refl
segment-as-before c g (suc n) i k bs h =
    rw (entry-as-before k bs (and-true (lacks_race (get_or bs 0 0)) (all lacks_race (maps_of n (drop (size_before (get_or bs 0 0)) bs))) h).0, items_of) (go (λ k'. segment-as-before c g n (suc i) k' _ rest) (entry_at_before k bs) refl)
  where
    d : List ℕ
    d = drop (size_before (get_or bs 0 0)) bs

    rest : all lacks_race (maps_of n d) ≡ true
    rest = (and-true (lacks_race (get_or bs 0 0)) (all lacks_race (maps_of n d)) h).1

    go : ((k' : ℕ) → items_of (card_written c) g n (suc i) k' d ≡ map (map_item raceless) (items_of_before c g n (suc i) k' d)) → (o : Option (Entry ℕ × List ℕ)) → entry_at_before k bs ≡ o
        → ◌≡◌ {A = List (Item Written)} (elim (Option.map with0 o) [ none ↦ bad g i ∷ [] | some x ↦ good g i (map_entry (card_written c g) x.0) ∷ items_of (card_written c) g n (suc i) (k + used_by (carried x.0)) x.1 ])
        (map (map_item raceless) (elim o [ none ↦ bad g i ∷ [] | some x ↦ good g i (map_entry (card_slot c g) x.0) ∷ items_of_before c g n (suc i) (k + used_by (carried x.0)) x.1 ]))
    go ih none e = refl
    go ih (some x) e = rw ((entry-lacks k bs x e).1, carried-before c g x.0, used-map raceless x.0, ih (k + used_by (carried x.0)))

abbrev LackFrom : List ℕ → ℕ → ℕ → Type 0
LackFrom c m g = (h : ℕ) → g ≤ h → h < g + m → all lacks_race (maps_of (count c h) (segment_entries c h)) ≡ true

items-as-before : (c : List ℕ) (m g : ℕ) → LackFrom c m g → items (card_written c) c m g ≡ map (map_item raceless) (items_before c m g)
unfolding items items_before segment_items
items-as-before c zero g f = refl
items-as-before c (suc m) g f = go (items-as-before c m (suc g) (λ h a b. f h (omega arith) (omega arith))) (count c g)
  where
    go : items (card_written c) c m (suc g) ≡ map (map_item raceless) (items_before c m (suc g)) → (x : ℕ)
        → ◌≡◌ {A = List (Item Written)} (elim x [ zero ↦ after_empty c m (suc g) | suc n ↦ items_of (card_written c) g (count c g) 0 0 (segment_entries c g) ++ items (card_written c) c m (suc g) ])
        (map (map_item raceless) (elim x [ zero ↦ after_empty c m (suc g) | suc n ↦ items_of_before c g (count c g) 0 0 (segment_entries c g) ++ items_before c m (suc g) ]))
    go ih zero = sym (after_empty-map raceless c m (suc g))
    go ih (suc n) =
        rw (segment-as-before c g (count c g) 0 0 (segment_entries c g) (f g (omega arith) (omega arith)), ih)
        (sym (map-append (map_item raceless) (items_of_before c g (count c g) 0 0 (segment_entries c g)) (items_before c m (suc g))))

outcome-raceless : (o : Outcome Content) → map_outcome raceless o ≡ all_raceless o
outcome-raceless (sound r) = refl
outcome-raceless (fault g i) = refl

pub bytes-as-before : BytesAsBefore
unfolding mounted mounted_before walk_card
bytes-as-before c f =
    rw (items-as-before c (segments_in c) 0 (λ h a b. f h (omega arith)))
    (walk-map raceless start (items_before c (segments_in c) 0) ∙ outcome-raceless (walk start (items_before c (segments_in c) 0)))

-- A walk that goes through meets no map with the bit.
segment-lacks : (c : List ℕ) (g n i k : ℕ) (bs : List ℕ) (more : List (Item Content)) (r z : Reader Content) → walk r (items_of_before c g n i k bs ++ more) ≡ sound z
    → (all lacks_race (maps_of n bs) ≡ true) × ((q : Reader Content) × (walk q more ≡ sound z))
unfolding items_of_before maps_of all
segment-lacks c g zero i k bs more r z h = (refl, (r, h))
segment-lacks c g (suc n) i k bs more r z h = go (λ k' r'. segment-lacks c g n (suc i) k' _ more r' z) (entry_at_before k bs) refl
  where
    d : List ℕ
    d = drop (size_before (get_or bs 0 0)) bs

    G : Type 0
    G = (all lacks_race (maps_of (suc n) bs) ≡ true) × ((q : Reader Content) × (walk q more ≡ sound z))

    go : ((k' : ℕ) (r' : Reader Content) → walk r' (items_of_before c g n (suc i) k' d ++ more) ≡ sound z → (all lacks_race (maps_of n d) ≡ true) × ((q : Reader Content) × (walk q more ≡ sound z)))
        → (o : Option (Entry ℕ × List ℕ)) → entry_at_before k bs ≡ o → G
    go ih none e = absurd (walk-bad g i more r z (rw (e, items_of_before) at h))
    go ih (some x) e =
        let (a, b) = entry-lacks k bs x e in
        let w : walk r (good g i (map_entry (card_slot c g) x.0) ∷ (items_of_before c g n (suc i) (k + used_by (carried x.0)) x.1 ++ more)) ≡ sound z = rw (e, items_of_before) at h in
        let (q, u, v) = walk-good g i (map_entry (card_slot c g) x.0) (items_of_before c g n (suc i) (k + used_by (carried x.0)) x.1 ++ more) r z w in
        let j = k + used_by (carried x.0) in
        let (s, t) = ih j q (subst (λ (y : List ℕ). walk q (items_of_before c g n (suc i) j y ++ more) ≡ sound z) b v) in
        (rw (a, s), t)

items-lack : (c : List ℕ) (m g : ℕ) (r z : Reader Content) → walk r (items_before c m g) ≡ sound z → LackFrom c m g
unfolding items_before maps_of all
items-lack c zero g r z w h a b = absurd (omega arith)
items-lack c (suc m) g r z w h a b = go (λ q v. items-lack c m (suc g) q z v h) (count c g) refl (ℕ_discrete h g)
  where
    none_here : count c h ≡ 0 → all lacks_race (maps_of (count c h) (segment_entries c h)) ≡ true
    none_here e = rw e

    go : ((q : Reader Content) → walk q (items_before c m (suc g)) ≡ sound z → suc g ≤ h → h < suc g + m → all lacks_race (maps_of (count c h) (segment_entries c h)) ≡ true)
        → (n : ℕ) → count c g ≡ n → Dec (h ≡ g) → all lacks_race (maps_of (count c h) (segment_entries c h)) ≡ true
    go ih zero e (yes q) = none_here (ap (count c) q ∙ e)
    go ih zero e (no d) =
        let o : suc g + (h - suc g) ≡ h = omega arith in
        none_here (ap (count c) (sym o) ∙ (empty-rest c m (suc g) r z (rw (e, items_before) at w)).0 (h - suc g) (omega arith))
    go ih (suc n) e (yes q) =
        let v : walk r (items_of_before c g (count c g) 0 0 (segment_entries c g) ++ items_before c m (suc g)) ≡ sound z = rw (e, items_before) at w in
        subst (λ (j : ℕ). all lacks_race (maps_of (count c j) (segment_entries c j)) ≡ true) (sym q) (segment-lacks c g (count c g) 0 0 (segment_entries c g) (items_before c m (suc g)) r z v).0
    go ih (suc n) e (no d) =
        let v : walk r (items_of_before c g (count c g) 0 0 (segment_entries c g) ++ items_before c m (suc g)) ≡ sound z = rw (e, items_before) at w in
        let (q, y) = (segment-lacks c g (count c g) 0 0 (segment_entries c g) (items_before c m (suc g)) r z v).1 in
        ih q y (omega arith) (omega arith)

pub cards-as-before : CardsAsBefore
unfolding mounted_before
cards-as-before c r h =
    bytes-as-before c (λ g l. items-lack c (segments_in c) 0 start r h g (omega arith) (omega arith)) ∙ rw h

-- Before lists went with their units: item by item the walk meets the same, or there was a fault.
walk-as-before : (r q : Reader Written) (is : List (Item Written)) → walk r (map met_before is) ≡ sound q → walk r is ≡ sound q
unfolding walk
walk-as-before r q [] h = h
walk-as-before r q (bad g i ∷ is) h = h
walk-as-before r q (good g i e ∷ is) h = go (λ z. walk-as-before z q is) (takes_as_member e) refl
  where
    go : ((z : Reader Written) → walk z (map met_before is) ≡ sound q → walk z is ≡ sound q) → (t : Bool) → takes_as_member e ≡ t → walk r (good g i e ∷ is) ≡ sound q
    go ih true k = absurd (walk-bad g i (map met_before is) r q (rw k at h))
    go ih false k =
        let (z, w, m) = walk-good g i e (map met_before is) r q (rw k at h) in
        rw (w, walk) (ih z m)

pub takes-as-before : TakesAsBefore
unfolding mounted_without_takes mounted walk_card
takes-as-before c r h = walk-as-before start r (items (card_written c) c (segments_in c) 0) h
