-- Where an entry goes on the card, and what its stores, up to the closing one, make of what the card holds.
use mathlib.Core.Path.{◌≡◌, refl, sym, ap, ◌∙◌, subst}
use mathlib.Core.Logic.{◌⊎◌, inl, inr, ◌≢◌}
use mathlib.Core.Bool.{Bool, true, false, ◌&&◌, cond, true≢false}
use mathlib.Core.Option.{Option, none, some, none-ne-some, some-injective}
use mathlib.Core.List.{List, [], ◌∷◌, ◌++◌}
use Prim.Native.Nat.{ℕ, zero, suc, ◌+◌, ◌*◌, ◌≤◌, ◌<◌}
use native.Mathlib.Omega.{arith}
use native.Mathlib.Nat.{add-zero, add-suc, suc-add, zero-add}
use native.Mathlib.Decide.{dec_lt, ℕ_discrete}
use lib.Dec.{leb, ltb}
use lib.ListN.{length, get_or, set, length-append, length-set}
use lib.Seq.{get_or-set_same, get_or-set_other}
use Rattle.lists.specs.Change.{Change, take_list, put_first, put_after, write, del_block, del_list, map_change, carried_by}
use Rattle.lists.proofs.Basic.{and-true, le-true, leb-true, ltb-true}
use Rattle.card_log.specs.declared.place.Place.{Place}
use Rattle.card_log.specs.Raced.{Raced, with_body}
use Rattle.card_log.specs.Entry.{Entry, plain, member, commit, map_entry, carried, change_bytes, race_byte, encode, raw, entry_length, legal, legal_change, is_block, is_slot, is_race}
use Rattle.card_log.specs.Card.{Content, Written, used_by}
use Rattle.card_log.specs.Store.{opened, after, after_all, fits, home, behind_all, tail, data_of, entry_stores}
use Rattle.card_log.proofs.Slot.{Stands, same-get_or}
use Rattle.card_log.proofs.Replay.{goods, goods_all}
use Rattle.card_log.proofs.Segment.{codes, slots_after, Sized, Holds, data-length, Empties, Packed, Carries, goods-empties, carries-tail, behind-append, behind-goods, behind-opens}
use Rattle.card_log.proofs.EntryStores.{holds-free, holds-close, Free, data_at, code_at, code, Which, in_data, in_code, closing, which, store_of, entry-stores-length}

-- An entry's bytes are as many in every slot, at most four, and legal in every slot that there is.
change-length : {A : Type 0} (k m n : ℕ) (c : Change (Raced A)) → length (change_bytes n (map_change (with_body k) c)) ≡ length (change_bytes n (map_change (with_body m) c))
unfolding change_bytes map_change
change-length k m n (take_list l) = refl
change-length k m n (put_first b l) = refl
change-length k m n (put_after b l p) = refl
change-length k m n (write b d) = refl
change-length k m n (del_block b) = refl
change-length k m n (del_list l) = refl

pub raw-length : {A : Type 0} (k : ℕ) (e : Entry (Raced A)) → length (encode (raw k e)) ≡ entry_length e
unfolding encode raw map_entry entry_length
raw-length k (plain c) = change-length k 0 0 c
raw-length k (member c) = change-length k 0 128 c
raw-length k (commit n) = refl

race-short : (n : ℕ) → length (race_byte n) ≤ 1
unfolding race_byte
race-short zero = omega arith
race-short (suc n) = omega arith

change-short : {A : Type 0} (n : ℕ) (c : Change (Raced A)) → length (change_bytes n (map_change (with_body 0) c)) ≤ 4
unfolding change_bytes map_change
change-short n (take_list l) = omega arith
change-short n (put_first b l) = omega arith
change-short n (put_after b l p) = omega arith
change-short n (write b d) = omega (arith, race-short d.race)
change-short n (del_block b) = omega arith
change-short n (del_list l) = omega arith

pub entry-short : {A : Type 0} (e : Entry (Raced A)) → entry_length e ≤ 4
unfolding encode raw map_entry entry_length
entry-short (plain c) = change-short 0 c
entry-short (member c) = change-short 128 c
entry-short (commit n) = omega arith

legal-change : {A : Type 0} (k : ℕ) (c : Change (Raced A)) → legal_change (map_change (with_body 0) c) ≡ true → k + used_by (carried_by c) ≤ 14 → legal_change (map_change (with_body k) c) ≡ true
unfolding legal_change map_change carried_by used_by
legal-change k (take_list l) h b = h
legal-change k (put_first x l) h b = h
legal-change k (put_after x l p) h b = h
legal-change k (write x d) h b =
    let (u, v) = and-true (is_block x && is_slot 0) (is_race d.race) h in
    rw ((and-true (is_block x) (is_slot 0) u).0, le-true k 13 (omega arith)) v
legal-change k (del_block x) h b = h
legal-change k (del_list l) h b = h

pub legal-raw : {A : Type 0} (k : ℕ) (e : Entry (Raced A)) → legal (raw 0 e) ≡ true → k + used_by (carried e) ≤ 14 → legal (raw k e) ≡ true
unfolding legal raw map_entry carried
legal-raw k (plain c) h b = legal-change k c h b
legal-raw k (member c) h b = legal-change k c h b
legal-raw k (commit n) h b = h

-- The place behind entries.
pub after-segment : {A : Type 0} (p : Place) (es : List (Entry (Raced A))) → (after_all p es).segment ≡ p.segment
unfolding after_all after
after-segment p [] = refl
after-segment p (e ∷ es) = after-segment (after p e) es

pub after-entries : {A : Type 0} (p : Place) (es : List (Entry (Raced A))) → (after_all p es).entries ≡ p.entries + length es
unfolding after_all after
after-entries p [] = omega arith
after-entries p (e ∷ es) = after-entries (after p e) es ∙ omega arith

pub after-slots : (p : Place) (es : List (Entry Written)) → (after_all p es).slots ≡ slots_after p.slots es
unfolding after_all after slots_after
after-slots p [] = refl
after-slots p (e ∷ es) = after-slots (after p e) es

pub after-bytes : (p : Place) (k : ℕ) (es : List (Entry Written)) → (after_all p es).bytes ≡ p.bytes + length (codes k es)
unfolding after_all after codes
after-bytes p k [] = omega arith
after-bytes p k (e ∷ es) =
    after-bytes (after p e) (k + used_by (carried e)) es
    ∙ omega (arith, raw-length k e, length-append (encode (raw k e)) (codes (k + used_by (carried e)) es))

pub after-snoc : {A : Type 0} (p : Place) (es : List (Entry (Raced A))) (e : Entry (Raced A)) → after_all p (es ++ e ∷ []) ≡ after (after_all p es) e
unfolding after_all
after-snoc p [] e = refl
after-snoc p (x ∷ es) e = after-snoc (after p x) es e

pub opened-segment : {A : Type 0} (g : ℕ) (es : List (Entry (Raced A))) → (after_all (opened g) es).segment ≡ g
unfolding opened
opened-segment g es = after-segment (opened g) es

-- Segments in use.
unfoldable pub used : {A : Type 0} → List (List A) → ℕ
used [] = 0
used ([] ∷ ss) = 0
used ((e ∷ es) ∷ ss) = suc (used ss)

unfoldable pub add_to : {A : Type 0} → ℕ → A → List (List A) → List (List A)
add_to g e ess = set ess g (get_or ess g [] ++ e ∷ [])

empties-packed : (ss : List (List (Entry Written))) → Empties ss → Packed ss
empties-packed [] h = tt
empties-packed ([] ∷ ss) h = h
empties-packed ((e ∷ es) ∷ ss) h = absurd h

pub used_le : (ss : List (List (Entry Written))) → used ss ≤ length ss
unfolding used
used_le [] = omega arith
used_le ([] ∷ ss) = omega arith
used_le ((e ∷ es) ∷ ss) = omega (arith, used_le ss)

pub get_or-used : (ss : List (List (Entry Written))) → Packed ss → get_or ss (used ss) [] ≡ []
unfolding used
get_or-used [] h = refl
get_or-used ([] ∷ ss) h = refl
get_or-used ((e ∷ es) ∷ ss) h = get_or-used ss h

pub packed-add : (g : ℕ) (e : Entry Written) (ss : List (List (Entry Written))) → g ≤ used ss → Packed ss → Packed (add_to g e ss)
unfolding used add_to
packed-add g e [] u h = tt
packed-add zero e ([] ∷ ss) u h = empties-packed ss h
packed-add (suc g) e ([] ∷ ss) u h = absurd (omega arith)
packed-add zero e ((x ∷ xs) ∷ ss) u h = h
packed-add (suc g) e ((x ∷ xs) ∷ ss) u h = packed-add g e ss (omega arith) h

pub used-add : (g : ℕ) (e : Entry Written) (ss : List (List (Entry Written))) → g < length ss → (g ≡ used ss) ⊎ (suc g ≡ used ss) → Packed ss → used (add_to g e ss) ≡ suc g
unfolding used add_to
used-add g e [] l u h = absurd (omega arith)
used-add zero e ([] ∷ ss) l u h = ap suc (used-empties ss h)
  where
    used-empties : (ss : List (List (Entry Written))) → Empties ss → used ss ≡ 0
    used-empties [] h = refl
    used-empties ([] ∷ ss) h = refl
    used-empties ((x ∷ xs) ∷ ss) h = absurd h
used-add (suc g) e ([] ∷ ss) l (inl u) h = absurd (omega arith)
used-add (suc g) e ([] ∷ ss) l (inr u) h = absurd (omega arith)
used-add zero e ((x ∷ xs) ∷ ss) l (inl u) h = absurd (omega arith)
used-add zero e ((x ∷ xs) ∷ ss) l (inr u) h = omega arith
used-add (suc g) e ((x ∷ xs) ∷ ss) l (inl u) h = ap suc (used-add g e ss (omega arith) (inl (omega arith)) h)
used-add (suc g) e ((x ∷ xs) ∷ ss) l (inr u) h = ap suc (used-add g e ss (omega arith) (inr (omega arith)) h)

-- An entry that may be placed, and its place behind the entries of segments.
pub record Good (e : Entry Written) : Type 0 where
  pub lawful : legal (raw 0 e) ≡ true
  pub sized : Sized (carried e)

pub plain-sized : (c : Change Written) → Good (plain c) → Sized (carried_by c)
unfolding carried
plain-sized c g = g.sized

pub record At (ess : List (List (Entry Written))) (p : Place) (e : Entry Written) : Type 0 where
  pub inside : p.segment < length ess
  pub behind : p ≡ after_all (opened p.segment) (get_or ess p.segment [])
  pub edge : (p.segment ≡ used ess) ⊎ (suc p.segment ≡ used ess)
  pub bytes_fit : p.bytes + entry_length e ≤ 511
  pub slots_fit : p.slots + used_by (carried e) ≤ 14

pub used-one : {D : Type 0} (o : Option D) → used_by o ≤ 1
unfolding used_by
used-one none = omega arith
used-one (some d) = omega arith

pub fits-opened : {A : Type 0} (g : ℕ) (e : Entry (Raced A)) → fits (opened g) e ≡ true
unfolding fits opened
fits-opened g e =
    rw (le-true (0 + entry_length e) 511 (omega (arith, entry-short e)))
    (le-true (0 + used_by (carried e)) 14 (omega (arith, used-one (carried e))))

pub fits_both : {A : Type 0} (p : Place) (e : Entry (Raced A)) → fits p e ≡ true → (p.bytes + entry_length e ≤ 511) × (p.slots + used_by (carried e) ≤ 14)
unfolding fits
fits_both p e h =
    let (a, b) = and-true (leb (p.bytes + entry_length e) 511) (leb (p.slots + used_by (carried e)) 14) h in
    (leb-true (p.bytes + entry_length e) 511 a, leb-true (p.slots + used_by (carried e)) 14 b)

place_at : (ess : List (List (Entry Written))) (g : ℕ) (e : Entry Written) → g < length ess → (g ≡ used ess) ⊎ (suc g ≡ used ess)
    → fits (after_all (opened g) (get_or ess g [])) e ≡ true → At ess (after_all (opened g) (get_or ess g [])) e
unfolding opened
place_at ess g e l u f =
    let s : (after_all (opened g) (get_or ess g [])).segment ≡ g = after-segment (opened g) (get_or ess g []) in
    let b = fits_both (after_all (opened g) (get_or ess g [])) e f in
    record { inside = rw s l; behind = ap (λ (n : ℕ). after_all (opened n) (get_or ess n [])) (sym s); edge = rw s u; bytes_fit = b.0; slots_fit = b.1 }

place-next : (ess : List (List (Entry Written))) (g : ℕ) (e : Entry Written) → Packed ess → suc g ≡ used ess → suc g < length ess → At ess (opened (suc g)) e
unfolding after_all
place-next ess g e h u l =
    let n : get_or ess (suc g) [] ≡ [] = rw u (get_or-used ess h) in
    let q : opened (suc g) ≡ after_all (opened (suc g)) (get_or ess (suc g) []) = ap (after_all (opened (suc g))) (sym n) in
    rw (← q) at (place_at ess (suc g) e l (inl u) (rw n (fits-opened (suc g) e)))

fits-behind : (m : ℕ) (e : Entry Written) → fits (after_all {A = Content} (opened m) []) e ≡ true
unfolding after_all
fits-behind m e = fits-opened m e

-- An entry's home, behind the entries of the last segment in use or of segment 0, is such a place.
pub home-behind : (ess : List (List (Entry Written))) (g : ℕ) (e : Entry Written) (p : Place) → Packed ess → g < length ess → (g ≡ used ess) ⊎ (suc g ≡ used ess)
    → home (length ess) (after_all (opened g) (get_or ess g [])) e ≡ some p → At ess p e
unfolding home
home-behind ess g e p h l u q = go (fits p₀ e) refl (ltb (suc p₀.segment) (length ess)) refl q
  where
    p₀ : Place
    p₀ = after_all (opened g) (get_or ess g [])

    seg : p₀.segment ≡ g
    seg = opened-segment g (get_or ess g [])

    next : (g ≡ used ess) ⊎ (suc g ≡ used ess) → fits p₀ e ≡ false → ltb (suc p₀.segment) (length ess) ≡ true → At ess (opened (suc p₀.segment)) e
    next (inl v) f k =
        let n : get_or ess g [] ≡ [] = ap (λ (m : ℕ). get_or ess m []) v ∙ get_or-used ess h in
        let o : fits p₀ e ≡ true = ap (λ (es : List (Entry Written)). fits (after_all (opened g) es) e) n ∙ fits-behind g e in
        absurd (true≢false (sym o ∙ f))
    next (inr v) f k = rw seg (place-next ess g e h v (rw seg at (ltb-true (suc p₀.segment) (length ess) k)))

    go : (b : Bool) → fits p₀ e ≡ b → (c : Bool) → ltb (suc p₀.segment) (length ess) ≡ c
        → cond b (some p₀) (cond c (some (opened (suc p₀.segment))) none) ≡ some p → At ess p e
    go true f c k q = subst (λ (x : Place). At ess x e) (some-injective _ _ q) (place_at ess g e l u f)
    go false f true k q = subst (λ (x : Place). At ess x e) (some-injective _ _ q) (next u f k)
    go false f false k q = absurd (none-ne-some _ q)

module _ {ess : List (List (Entry Written))} {p : Place} {e : Entry Written} (at : At ess p e) where
  pub place-entries : p.entries ≡ length (get_or ess p.segment [])
  unfolding opened
  place-entries = ap (λ (x : Place). x.entries) at.behind ∙ after-entries (opened p.segment) (get_or ess p.segment []) ∙ omega arith

  pub place-bytes : p.bytes ≡ length (codes 0 (get_or ess p.segment []))
  unfolding opened
  place-bytes = ap (λ (x : Place). x.bytes) at.behind ∙ after-bytes (opened p.segment) 0 (get_or ess p.segment []) ∙ omega arith

  pub place-slots : p.slots ≡ slots_after 0 (get_or ess p.segment [])
  unfolding opened
  place-slots = ap (λ (x : Place). x.slots) at.behind ∙ after-slots (opened p.segment) (get_or ess p.segment [])

  pub edge-le : p.segment ≤ used ess
  edge-le = go at.edge
    where
      go : (p.segment ≡ used ess) ⊎ (suc p.segment ≡ used ess) → p.segment ≤ used ess
      go (inl u) = omega arith
      go (inr u) = omega arith

  -- the place behind the entry added
  pub behind-add : after_all (opened p.segment) (get_or (add_to p.segment e ess) p.segment []) ≡ after p e
  unfolding add_to
  behind-add =
      ap (after_all (opened p.segment)) (get_or-set_same ess p.segment (get_or ess p.segment [] ++ e ∷ []) [] at.inside)
      ∙ after-snoc (opened p.segment) (get_or ess p.segment []) e
      ∙ ap (λ (x : Place). after x e) (sym at.behind)

  -- a store before the closing one lies where no segment's entries stand
  pub store-free : (c : List ℕ) (j a b h : ℕ) → Which p e j a b → suc j < length (entry_stores p e) → Sized (carried e) → Holds c h (get_or ess h []) → Free h (get_or ess h []) a
  store-free c j a b h w l z k = go (ℕ_discrete h p.segment) w
    where
      n : length (data_of (carried e)) ≡ 256 * used_by (carried e)
      n = data-length (carried e) z

      s : length (entry_stores p e) ≡ suc (length (data_of (carried e)) + length (code p e))
      s = entry-stores-length p e

      x : length (code p e) ≡ entry_length e
      x = raw-length p.slots e

      other : (4096 * p.segment ≤ a) → (a < 4096 * p.segment + 4096) → (h ≡ p.segment → ⊥) → Free h (get_or ess h []) a
      other lo hi d = side (dec_lt h p.segment)
        where
          side : Dec (h < p.segment) → Free h (get_or ess h []) a
          side (yes v) = inr (inr (omega (arith, k.short)))
          side (no v) = inl (omega arith)

      go : Dec (h ≡ p.segment) → Which p e j a b → Free h (get_or ess h []) a
      go (yes q) (in_data u v y) = subst (λ (m : ℕ). Free m (get_or ess m []) a) (sym q) (inr (inl (omega (arith, n, place-slots, at.slots_fit))))
      go (yes q) (in_code i u m v y) = subst (λ (m : ℕ). Free m (get_or ess m []) a) (sym q) (inr (inr (omega (arith, place-bytes))))
      go (yes q) (closing u v y) = absurd (omega (arith, s))
      go (no d) (in_data u v y) = other (omega arith) (omega (arith, n, at.slots_fit)) d
      go (no d) (in_code i u m v y) = other (omega arith) (omega (arith, x, at.bytes_fit)) d
      go (no d) (closing u v y) = absurd (omega (arith, s))

  pub carries-store : (c : List ℕ) (j : ℕ) → suc j < length (entry_stores p e) → Sized (carried e) → Carries c ess
      → Carries (set c (store_of p e j).0 (store_of p e j).1) ess
  carries-store c j l z k = record {
    size = length-set c (store_of p e j).0 (store_of p e j).1 ∙ k.size;
    some-segment = k.some-segment;
    packed = k.packed;
    holds = λ h m. holds-free c h (get_or ess h []) (store_of p e j).0 (store_of p e j).1
        (store-free c j (store_of p e j).0 (store_of p e j).1 h (which p e j (omega arith)) l z (k.holds h m)) (k.holds h m);
  }

-- The first k stores of an entry stand on the card.
abbrev pub Begun : List ℕ → Place → Entry Written → ℕ → Type 0
Begun c p e k = (j : ℕ) → j < k → get_or c (store_of p e j).0 0 ≡ (store_of p e j).1

apart : (p : Place) (e : Entry Written) (j k a b a' b' : ℕ) → p.slots + used_by (carried e) ≤ 14 → length (data_of (carried e)) ≡ 256 * used_by (carried e)
    → j < k → Which p e j a b → Which p e k a' b' → a ≢ a'
apart p e j k a b a' b' s n l (in_data u v y) (in_data u' v' y') = omega arith
apart p e j k a b a' b' s n l (in_data u v y) (in_code i u' m v' y') = omega arith
apart p e j k a b a' b' s n l (in_data u v y) (closing u' v' y') = omega arith
apart p e j k a b a' b' s n l (in_code i u m v y) (in_data u' v' y') = omega arith
apart p e j k a b a' b' s n l (in_code i u m v y) (in_code i' u' m' v' y') = omega arith
apart p e j k a b a' b' s n l (in_code i u m v y) (closing u' v' y') = omega arith
apart p e j k a b a' b' s n l (closing u v y) (in_data u' v' y') = omega arith
apart p e j k a b a' b' s n l (closing u v y) (in_code i u' m v' y') = omega arith
apart p e j k a b a' b' s n l (closing u v y) (closing u' v' y') = omega arith

module _ {ess : List (List (Entry Written))} {p : Place} {e : Entry Written} (at : At ess p e) (z : Sized (carried e)) where
  pub store-inside : (c : List ℕ) (j a b : ℕ) → length c ≡ 4096 * length ess → Which p e j a b → a < length c
  store-inside c j a b s (in_data u v y) = omega (arith, at.inside, at.slots_fit, data-length (carried e) z)
  store-inside c j a b s (in_code i u m v y) = omega (arith, at.inside, at.bytes_fit, raw-length p.slots e)
  store-inside c j a b s (closing u v y) = omega (arith, at.inside)

  pub begun-store : (c : List ℕ) (k : ℕ) → length c ≡ 4096 * length ess → k < length (entry_stores p e) → Begun c p e k
      → Begun (set c (store_of p e k).0 (store_of p e k).1) p e (suc k)
  begun-store c k s l h j m = go (ℕ_discrete j k)
    where
      go : Dec (j ≡ k) → get_or (set c (store_of p e k).0 (store_of p e k).1) (store_of p e j).0 0 ≡ (store_of p e j).1
      go (yes q) = subst (λ (i : ℕ). get_or (set c (store_of p e k).0 (store_of p e k).1) (store_of p e i).0 0 ≡ (store_of p e i).1) (sym q)
          (get_or-set_same c (store_of p e k).0 (store_of p e k).1 0 (store-inside c k (store_of p e k).0 (store_of p e k).1 s (which p e k l)))
      go (no d) =
          get_or-set_other c (store_of p e k).0 (store_of p e j).0 (store_of p e k).1 0
          (apart p e j k (store_of p e j).0 (store_of p e j).1 (store_of p e k).0 (store_of p e k).1 at.slots_fit (data-length (carried e) z) (omega arith)
          (which p e j (omega arith)) (which p e k l))
          ∙ h j (omega arith)

  begun-data : (c : List ℕ) → Begun c p e (length (data_of (carried e)) + length (code p e)) → Stands c (data_at p) (data_of (carried e))
  begun-data c h j l = go (which p e j (omega (arith, entry-stores-length p e))) (h j (omega arith))
    where
      go : {a b : ℕ} → Which p e j a b → get_or c a 0 ≡ b → get_or c (data_at p + j) 0 ≡ get_or (data_of (carried e)) j 0
      go {a} (in_data u v y) q = same-get_or c (data_at p + j) a (sym v) ∙ q ∙ y
      go (in_code i u m v y) q = absurd (omega arith)
      go (closing u v y) q = absurd (omega arith)

  begun-code : (c : List ℕ) → Begun c p e (length (data_of (carried e)) + length (code p e)) → Stands c (code_at p) (code p e)
  begun-code c h i l = go (which p e (length (data_of (carried e)) + i) (omega (arith, entry-stores-length p e))) (h (length (data_of (carried e)) + i) (omega arith))
    where
      go : {a b : ℕ} → Which p e (length (data_of (carried e)) + i) a b → get_or c a 0 ≡ b → get_or c (code_at p + i) 0 ≡ get_or (code p e) i 0
      go (in_data u v y) q = absurd (omega arith)
      go {a} (in_code j u m v y) q =
          let o : i ≡ j = omega arith in
          same-get_or c (code_at p + i) a (omega arith) ∙ q ∙ y ∙ ap (λ (k : ℕ). get_or (code p e) k 0) (sym o)
      go (closing u v y) q = absurd (omega arith)

  pub carries-close : (c : List ℕ) → legal (raw 0 e) ≡ true → Carries c ess → Begun c p e (length (data_of (carried e)) + length (code p e))
      → Carries (set c (4096 * p.segment + 3584) (suc p.entries)) (add_to p.segment e ess)
  unfolding add_to
  carries-close c w k h = record {
    size = length-set c _ _ ∙ k.size ∙ ap (λ (n : ℕ). 4096 * n) (sym (length-set ess p.segment es'));
    some-segment = rw (length-set ess p.segment es') k.some-segment;
    packed = packed-add p.segment e ess (edge-le at) k.packed;
    holds = λ h m. held h (rw (length-set ess p.segment es') at m) (ℕ_discrete h p.segment);
  }
    where
      es : List (Entry Written)
      es = get_or ess p.segment []

      es' : List (Entry Written)
      es' = es ++ e ∷ []

      c' : List ℕ
      c' = set c (4096 * p.segment + 3584) (suc p.entries)

      here : Holds c' p.segment es'
      here =
          subst (λ (n : ℕ). Holds (set c (4096 * p.segment + 3584) (suc n)) p.segment es') (sym (place-entries at))
          (holds-close c p.segment es e (omega (arith, at.inside, k.size)) (k.holds p.segment at.inside)
          (legal-raw (slots_after 0 es) e w (omega (arith, at.slots_fit, place-slots at))) z
          (omega (arith, raw-length (slots_after 0 es) e, at.bytes_fit, place-bytes at)) (omega (arith, at.slots_fit, place-slots at))
          (subst (λ (n : ℕ). Stands c (4096 * p.segment + 256 * n) (data_of (carried e))) (place-slots at) (begun-data c h))
          (subst (λ (n : ℕ). Stands c (4096 * p.segment + 3585 + n) (encode (raw (slots_after 0 es) e))) (place-bytes at)
          (subst (λ (n : ℕ). Stands c (code_at p) (encode (raw n e))) (place-slots at) (begun-code c h))))

      held : (h : ℕ) → h < length ess → Dec (h ≡ p.segment) → Holds c' h (get_or (set ess p.segment es') h [])
      held h m (yes q) = subst (λ (n : ℕ). Holds c' n (get_or (set ess p.segment es') n [])) (sym q) (rw (get_or-set_same ess p.segment es' [] at.inside) here)
      held h m (no d) = rw (get_or-set_other ess p.segment h es' [] d) (side (dec_lt h p.segment))
        where
          k' : Holds c h (get_or ess h [])
          k' = k.holds h m

          side : Dec (h < p.segment) → Holds c' h (get_or ess h [])
          side (yes v) = holds-free c h (get_or ess h []) (4096 * p.segment + 3584) (suc p.entries) (inr (inr (omega (arith, k'.short)))) k'
          side (no v) = holds-free c h (get_or ess h []) (4096 * p.segment + 3584) (suc p.entries) (inl (omega arith)) k'

-- The place behind a card's log is the one behind the entries of the last segment in use.
none-behind : (p : Place) (g : ℕ) (ess : List (List (Entry Written))) → Packed ess → used ess ≡ 0 → behind_all p (goods_all g ess) ≡ p
unfolding goods_all goods used behind_all
none-behind p g [] h u = refl
none-behind p g ([] ∷ ess) h u = ap (behind_all p) (goods-empties (suc g) ess h)
none-behind p g ((e ∷ es) ∷ ess) h u = absurd (omega arith)

opens : (p : Place) (g : ℕ) (e : Entry Written) (es : List (Entry Written)) → (p.segment < g) ⊎ (p ≡ opened g) → behind_all p (goods g 0 (e ∷ es)) ≡ after_all (opened g) (e ∷ es)
unfolding opened
opens p g e es (inl h) = behind-opens p g 0 e es (omega arith)
opens p g e es (inr h) = rw h (behind-goods (opened g) g 0 (e ∷ es) refl)

behind-used : (ess : List (List (Entry Written))) (p : Place) (g u : ℕ) → Packed ess → used ess ≡ suc u → (p.segment < g) ⊎ (p ≡ opened g)
    → behind_all p (goods_all g ess) ≡ after_all (opened (g + u)) (get_or ess u [])
unfolding goods_all used
behind-used [] p g u h n b = absurd (omega arith)
behind-used ([] ∷ ess) p g u h n b = absurd (omega arith)
behind-used ((e ∷ es) ∷ ess) p g u h n b =
    behind-append p (goods g 0 (e ∷ es)) (goods_all (suc g) ess)
    ∙ ap (λ (q : Place). behind_all q (goods_all (suc g) ess)) (opens p g e es b)
    ∙ rest (λ v m. behind-used ess q (suc g) v h m (inl (omega (arith, opened-segment g (e ∷ es))))) u n
  where
    q : Place
    q = after_all (opened g) (e ∷ es)

    rest : ((v : ℕ) → used ess ≡ suc v → behind_all q (goods_all (suc g) ess) ≡ after_all (opened (suc g + v)) (get_or ess v []))
        → (u : ℕ) → suc (used ess) ≡ suc u → behind_all q (goods_all (suc g) ess) ≡ after_all (opened (g + u)) (get_or ((e ∷ es) ∷ ess) u [])
    rest ih zero n = none-behind q (suc g) ess h (omega arith) ∙ ap (λ (k : ℕ). after_all (opened k) (e ∷ es)) (sym (add-zero g))
    rest ih (suc u) n = ih u (omega arith) ∙ ap (λ (k : ℕ). after_all (opened k) (get_or ess u [])) (suc-add g u ∙ sym (add-suc g u))

pub tail_none : (c : List ℕ) (ess : List (List (Entry Written))) → Carries c ess → used ess ≡ 0 → tail c ≡ opened 0
tail_none c ess h u = carries-tail c ess h ∙ none-behind (opened 0) 0 ess h.packed u

pub tail-used : (c : List ℕ) (ess : List (List (Entry Written))) (u : ℕ) → Carries c ess → used ess ≡ suc u → tail c ≡ after_all (opened u) (get_or ess u [])
tail-used c ess u h n = carries-tail c ess h ∙ behind-used ess (opened 0) 0 u h.packed n (inr refl) ∙ ap (λ (k : ℕ). after_all (opened k) (get_or ess u [])) (zero-add u)
