-- Every store of a flush's sequence lies on the card and stores a byte (`ahead_in`): what the storing function asks.
use mathlib.Core.Path.{◌≡◌, refl, subst}
use mathlib.Core.Bool.{Bool, true, false, ◌&&◌, cond}
use mathlib.Core.Option.{Option, none, some, none-ne-some, some-injective}
use mathlib.Core.List.{List, [], ◌∷◌, ◌++◌}
use Prim.Native.Nat.{ℕ, zero, suc, ◌+◌, ◌-◌, ◌*◌, ◌≤◌, ◌<◌}
use native.Mathlib.Omega.{arith}
use lib.Dec.{leb, ltb}
use lib.ListN.{length, drop, take, get_or, length-append}
use Rattle.lists.specs.Change.{Change, take_list, put_first, put_after, write, del_block, del_list}
use Rattle.lists.proofs.Basic.{and-true, leb-true, ltb-true}
use Rattle.card_log.specs.declared.place.Place.{Place}
use Rattle.card_log.specs.Raced.{Raced}
use Rattle.card_log.specs.Entry.{Entry, plain, member, commit, carried, race_byte, change_bytes, encode, raw, entry_length, legal, legal_change, is_block, is_list, is_slot, is_race}
use Rattle.card_log.specs.Card.{Written, slot, segments_in, used_by}
use Rattle.card_log.specs.Store.{Store, opened, after, after_all, fits, home, tail, stores_from, data_of, entry_stores}
use Rattle.card_log.specs.Flush.{ahead}
use Rattle.card_log.proofs.Bits.{race-bit}
use Rattle.card_log.proofs.Segment.{codes, data-length, Carries, carries-segments}
use Rattle.card_log.proofs.Places.{Good, raw-length, legal-raw, after-segment, after-entries, after-bytes, used, used_le, fits-opened, fits_both}
use Rattle.card_log.proofs.Within.{entry-long}
use Rattle.card_log.proofs.Flows.{end_of, tail-end, AllGood}

abbrev pub AllBytes : List ℕ → Type 0
AllBytes [] = Unit {0}
AllBytes (x ∷ xs) = (x < 256) × AllBytes xs

-- stores on a card of n segments
abbrev pub AllIn : ℕ → List Store → Type 0
AllIn n [] = Unit {0}
AllIn n (x ∷ xs) = (x.0 < 4096 * n) × (x.1 < 256) × AllIn n xs

in-append : (n : ℕ) (xs ys : List Store) → AllIn n xs → AllIn n ys → AllIn n (xs ++ ys)
in-append n [] ys h k = k
in-append n (x ∷ xs) ys h k = (h.0, h.1, in-append n xs ys h.2 k)

pub in-drop : (n m : ℕ) (xs : List Store) → AllIn n xs → AllIn n (drop m xs)
in-drop n zero xs h = h
in-drop n (suc m) [] h = tt
in-drop n (suc m) (x ∷ xs) h = in-drop n m xs h.2

in-from : (n a : ℕ) (v : List ℕ) → a + length v ≤ 4096 * n → AllBytes v → AllIn n (stores_from a v)
unfolding stores_from
in-from n a [] l h = tt
in-from n a (b ∷ v) l h = (omega arith, h.0, in-from n (suc a) v (omega arith) h.1)

bytes_drop : (m : ℕ) (l : List ℕ) → AllBytes l → AllBytes (drop m l)
bytes_drop zero l h = h
bytes_drop (suc m) [] h = tt
bytes_drop (suc m) (x ∷ l) h = bytes_drop m l h.1

bytes_take : (m : ℕ) (l : List ℕ) → AllBytes l → AllBytes (take m l)
bytes_take zero l h = tt
bytes_take (suc m) [] h = tt
bytes_take (suc m) (x ∷ l) h = (h.0, bytes_take m l h.1)

pub bytes-slot : (l : List ℕ) (k : ℕ) → AllBytes l → AllBytes (slot l k)
unfolding slot
bytes-slot l k h = bytes_take 256 (drop (256 * k) l) (bytes_drop (256 * k) l h)

-- an entry's bytes
block-small : (b : ℕ) → is_block b ≡ true → b < 256
block-small b h = let k : b ≤ 64 = leb-true b 64 (and-true (leb 1 b) (leb b 64) h).1 in omega arith

list-small : (l : ℕ) → is_list l ≡ true → l < 256
list-small l h = let k : l ≤ 16 = leb-true l 16 (and-true (leb 1 l) (leb l 16) h).1 in omega arith

race-bytes : (n : ℕ) → is_race n ≡ true → AllBytes (race_byte n)
unfolding race_byte
race-bytes zero h = tt
race-bytes (suc n) h = let k : suc n ≤ 24 = leb-true (suc n) 24 h in (omega arith, tt)

change-bytes : (k : ℕ) (c : Change (Raced ℕ)) → k ≤ 128 → legal_change c ≡ true → AllBytes (change_bytes k c)
unfolding change_bytes legal_change
change-bytes k (take_list l) m h = (omega arith, (list-small l h, tt))
change-bytes k (put_first b l) m h = let (x, y) = and-true (is_block b) (is_list l) h in (omega arith, (block-small b x, (list-small l y, tt)))
change-bytes k (put_after b l p) m h =
    let (z, y) = and-true (is_block b && is_list l) (is_block p) h in
    let (x, w) = and-true (is_block b) (is_list l) z in
    (omega arith, (block-small b x, (list-small l w, (block-small p y, tt))))
change-bytes k (write b s) m h =
    let (u, r) = and-true (is_block b && is_slot s.body) (is_race s.race) h in
    let (x, y) = and-true (is_block b) (is_slot s.body) u in
    let z : s.body ≤ 13 = leb-true s.body 13 y in
    (omega (arith, race-bit s.race), (block-small b x, (omega arith, race-bytes s.race r)))
change-bytes k (del_block b) m h = (omega arith, (block-small b h, tt))
change-bytes k (del_list l) m h = (omega arith, (list-small l h, tt))

entry-bytes : (e : Entry (Raced ℕ)) → legal e ≡ true → AllBytes (encode e)
unfolding encode legal
entry-bytes (plain c) h = change-bytes 0 c (omega arith) h
entry-bytes (member c) h = change-bytes 128 c (omega arith) h
entry-bytes (commit n) h = let k : n ≤ 15 = leb-true n 15 h in (omega arith, (omega arith, tt))

-- a place on a card of n segments: its entries have two bytes at least, so that the count is a byte
pub record Sane (n : ℕ) (p : Place) : Type 0 where
  pub inside : p.segment < n
  pub two : 2 * p.entries ≤ p.bytes

sane-opened : (n g : ℕ) → g < n → Sane n (opened g)
unfolding opened
sane-opened n g l = record { inside = l; two = omega arith }

sane-after : (n : ℕ) (p : Place) (e : Entry Written) → Sane n p → Sane n (after p e)
unfolding after
sane-after n p e s = record { inside = s.inside; two = omega (arith, s.two, entry-long e) }

record Fit (n : ℕ) (p : Place) (e : Entry Written) : Type 0 where
  sane : Sane n p
  bytes_fit : p.bytes + entry_length e ≤ 511
  slots_fit : p.slots + used_by (carried e) ≤ 14

fit_of : (n : ℕ) (p : Place) (e : Entry Written) → Sane n p → fits p e ≡ true → Fit n p e
fit_of n p e s f = let (a, b) = fits_both p e f in record { sane = s; bytes_fit = a; slots_fit = b }

home-fit : (n : ℕ) (p h : Place) (e : Entry Written) → Sane n p → home n p e ≡ some h → Fit n h e
unfolding home
home-fit n p h e s q = go (fits p e) refl (ltb (suc p.segment) n) refl q
  where
    go : (b : Bool) → fits p e ≡ b → (c : Bool) → ltb (suc p.segment) n ≡ c → cond b (some p) (cond c (some (opened (suc p.segment))) none) ≡ some h → Fit n h e
    go true f c k q = subst (λ (x : Place). Fit n x e) (some-injective _ _ q) (fit_of n p e s f)
    go false f true k q = subst (λ (x : Place). Fit n x e) (some-injective _ _ q)
        (fit_of n (opened (suc p.segment)) e (sane-opened n (suc p.segment) (ltb-true (suc p.segment) n k)) (fits-opened (suc p.segment) e))
    go false f false k q = absurd (none-ne-some _ q)

-- an entry whose data are bytes
abbrev pub DataBytes : Option Written → Type 0
DataBytes none = Unit {0}
DataBytes (some d) = AllBytes d.body

data-bytes : (o : Option Written) → DataBytes o → AllBytes (data_of o)
unfolding data_of
data-bytes none h = tt
data-bytes (some d) h = h

entry_in_lem : (n : ℕ) (p : Place) (e : Entry Written) → Fit n p e → Good e → DataBytes (carried e) → AllIn n (entry_stores p e)
unfolding entry_stores
entry_in_lem n p e f g b =
    in-append n (stores_from (4096 * p.segment + 256 * p.slots) (data_of (carried e)) ++ stores_from (4096 * p.segment + 3585 + p.bytes) (encode (raw p.slots e))) _
    (in-append n (stores_from (4096 * p.segment + 256 * p.slots) (data_of (carried e))) (stores_from (4096 * p.segment + 3585 + p.bytes) (encode (raw p.slots e)))
    (in-from n (4096 * p.segment + 256 * p.slots) (data_of (carried e)) (omega (arith, f.sane.inside, f.slots_fit, data-length (carried e) g.sized)) (data-bytes (carried e) b))
    (in-from n (4096 * p.segment + 3585 + p.bytes) (encode (raw p.slots e)) (omega (arith, f.sane.inside, f.bytes_fit, raw-length p.slots e))
    (entry-bytes (raw p.slots e) (legal-raw p.slots e g.lawful f.slots_fit))))
    (omega (arith, f.sane.inside), omega (arith, f.sane.two, f.bytes_fit, entry-long e), tt)

abbrev pub AllDataBytes : List (Entry Written) → Type 0
AllDataBytes [] = Unit {0}
AllDataBytes (e ∷ q) = DataBytes (carried e) × AllDataBytes q

pub ahead_in : (n : ℕ) (p : Place) (q : List (Entry Written)) → Sane n p → AllGood q → AllDataBytes q → AllIn n (ahead n p q)
unfolding ahead
ahead_in n p [] s g b = tt
ahead_in n p (e ∷ q) s g b = go (λ x r. ahead_in n x q r g.1 b.1) (home n p e) refl
  where
    go : ((x : Place) → Sane n x → AllIn n (ahead n x q)) → (o : Option Place) → home n p e ≡ o → AllIn n (ahead n p (e ∷ q))
    go ih none v = rw (v, ahead) tt
    go ih (some h) v =
        let f : Fit n h e = home-fit n p h e s v in
        rw (v, ahead) (in-append n (entry_stores h e) (ahead n (after h e) q) (entry_in_lem n h e f g.0 b.0) (ih (after h e) (sane-after n h e f.sane)))

-- the place behind the log
codes-long : (k : ℕ) (es : List (Entry Written)) → 2 * length es ≤ length (codes k es)
unfolding codes
codes-long k [] = omega arith
codes-long k (e ∷ es) =
    omega (arith, codes-long (k + used_by (carried e)) es, length-append (encode (raw k e)) (codes (k + used_by (carried e)) es), raw-length k e, entry-long e)

sane-behind : (n g : ℕ) (es : List (Entry Written)) → g < n → Sane n (after_all (opened g) es)
unfolding opened
sane-behind n g es l = record {
  inside = omega (arith, after-segment (opened g) es);
  two = omega (arith, after-entries (opened g) es, after-bytes (opened g) 0 es, codes-long 0 es);
}

pub sane-tail : (c : List ℕ) (ess : List (List (Entry Written))) → Carries c ess → Sane (segments_in c) (tail c)
unfolding end_of
sane-tail c ess h =
    rw (tail-end c ess h, carries-segments c ess h) (sane-behind (length ess) (used ess - 1) (get_or ess (used ess - 1) []) (omega (arith, used_le ess, h.some-segment)))
