-- What stands on a card, segment by segment, and that the walk reads it back, whatever stands behind it.
use mathlib.Core.Path.{◌≡◌, refl, sym, ap, ◌∙◌, subst}
use mathlib.Core.Logic.{◌≢◌}
use mathlib.Core.Bool.{true}
use mathlib.Core.Option.{Option, none, some, map}
use mathlib.Core.List.{List, [], ◌∷◌, ◌++◌, append_assoc}
use Prim.Native.Nat.{ℕ, suc, ◌+◌, ◌*◌, ◌/◌, ◌≤◌, ◌<◌}
use native.Mathlib.Omega.{arith}
use native.Mathlib.Nat.{add-zero, add-suc, suc-add, zero-add}
use lib.ListN.{length, drop, take, get_or}
use lib.Seq.{get_or-take, length-take-le}
use Rattle.lists.specs.Basic.{joined}
use Rattle.lists.specs.Change.{Change, take_list, put_first, put_after, write, del_block, del_list, map_change, carried_by}
use Rattle.lists.proofs.Basic.{eqb_same, eqb-false, eq-true}
use Rattle.card_log.specs.Raced.{Raced, raced, with_body}
use Rattle.card_log.specs.Entry.{Entry, plain, member, commit, map_entry, carried, encode, raw, legal}
use Rattle.card_log.specs.Reader.{Reader, replay, start}
use Rattle.card_log.specs.Card.{Content, Written, card_slot, card_written, count, segment_entries, segments_in, used_by, is_next, entry_at, Item, good, items_of, segment_items, after_empty, items, sound, walk_card, mounted}
use Rattle.card_log.specs.declared.place.Place.{Place}
use Rattle.card_log.specs.Store.{opened, after, after_all, behind, behind_all, tail, data_of}
use Rattle.card_log.proofs.Slot.{Stands, same-get_or, stands-drop, slot-stands}
use Rattle.card_log.proofs.Decode.{decode-encode}
use Rattle.card_log.proofs.Naturality.{carried-map, used_by-map}
use Rattle.card_log.proofs.Replay.{goods, goods_all, walk-all}

-- the bytes of entries, from slot k on
unfoldable pub codes : ℕ → List (Entry Written) → List ℕ
codes k [] = []
codes k (e ∷ es) = encode (raw k e) ++ codes (k + used_by (carried e)) es

unfoldable pub slots_after : ℕ → List (Entry Written) → ℕ
slots_after k [] = k
slots_after k (e ∷ es) = slots_after (k + used_by (carried e)) es

abbrev pub Sized : Option Written → Type 0
Sized none = Unit {0}
Sized (some d) = length d.body ≡ 256

-- entries that may be placed one after the other from slot k on
abbrev pub Fine : ℕ → List (Entry Written) → Type 0
Fine k [] = Unit {0}
Fine k (e ∷ es) = (legal (raw k e) ≡ true) × Sized (carried e) × Fine (k + used_by (carried e)) es

-- their data stands in the slots of the segment that begins at a
abbrev pub FilledAt : List ℕ → ℕ → ℕ → List (Entry Written) → Type 0
FilledAt c a k [] = Unit {0}
FilledAt c a k (e ∷ es) = Stands c (a + 256 * k) (data_of (carried e)) × FilledAt c a (k + used_by (carried e)) es

-- segment g of the card holds these entries
pub record Holds (c : List ℕ) (g : ℕ) (es : List (Entry Written)) : Type 0 where
  pub counted : get_or c (4096 * g + 3584) 0 ≡ length es
  pub coded : Stands c (4096 * g + 3585) (codes 0 es)
  pub filled : FilledAt c (4096 * g) 0 es
  pub fine : Fine 0 es
  pub short : length (codes 0 es) ≤ 511
  pub few : slots_after 0 es ≤ 14

-- no segment in use; none in use behind one that is not
abbrev pub Empties : {A : Type 0} → List (List A) → Type 0
Empties [] = Unit {0}
Empties ([] ∷ ss) = Empties ss
Empties ((x ∷ xs) ∷ ss) = ⊥

abbrev pub Packed : {A : Type 0} → List (List A) → Type 0
Packed [] = Unit {0}
Packed ([] ∷ ss) = Empties ss
Packed ((x ∷ xs) ∷ ss) = Packed ss

-- every segment of the card holds its entries
pub record Carries (c : List ℕ) (ess : List (List (Entry Written))) : Type 0 where
  pub size : length c ≡ 4096 * length ess
  pub some-segment : 0 < length ess
  pub packed : Packed ess
  pub holds : (h : ℕ) → h < length ess → Holds c h (get_or ess h [])

-- Slots used, and data.
pub used-map : {D E : Type 0} (f : D → E) (e : Entry D) → used_by (carried (map_entry f e)) ≡ used_by (carried e)
used-map f e = ap used_by (carried-map f e) ∙ used_by-map f (carried e)

pub raw-used : (k : ℕ) (e : Entry Written) → used_by (carried (raw k e)) ≡ used_by (carried e)
unfolding raw
raw-used k e = used-map (with_body k) e

pub slots_after-le : (k : ℕ) (es : List (Entry Written)) → k ≤ slots_after k es
unfolding slots_after
slots_after-le k [] = omega arith
slots_after-le k (e ∷ es) = omega (arith, slots_after-le (k + used_by (carried e)) es)

pub data-length : (o : Option Written) → Sized o → length (data_of o) ≡ 256 * used_by o
unfolding data_of used_by
data-length none z = refl
data-length (some d) z = z

-- An entry is read back from its bytes, and its data from its slot.
next_map : (k : ℕ) (o : Option Written) → is_next k (map (with_body k) o) ≡ true
unfolding is_next
next_map k none = refl
next_map k (some d) = eqb_same k

entry-at : (k : ℕ) (e : Entry Written) (r : List ℕ) → legal (raw k e) ≡ true → entry_at k (encode (raw k e) ++ r) ≡ some (raw k e, r)
unfolding entry_at raw
entry-at k e r h = rw (decode-encode (raw k e) r h) (rw (carried-map (with_body k) e, next_map k (carried e)))

-- the content that o says stands in slot k of segment g
abbrev InSlot : List ℕ → ℕ → ℕ → Option Written → Type 0
InSlot c g k none = Unit {0}
InSlot c g k (some d) = card_slot c g k ≡ d.body

change-back : (c : List ℕ) (g k : ℕ) (x : Change Written) → InSlot c g k (carried_by x) → map_change (card_written c g) (map_change (with_body k) x) ≡ x
unfolding map_change carried_by card_written
change-back c g k (take_list l) h = refl
change-back c g k (put_first b l) h = refl
change-back c g k (put_after b l p) h = refl
change-back c g k (write b d) h = ap (λ (x : Content). write b (raced x d.race)) h
change-back c g k (del_block b) h = refl
change-back c g k (del_list l) h = refl

entry-back : (c : List ℕ) (g k : ℕ) (e : Entry Written) → InSlot c g k (carried e) → map_entry (card_written c g) (raw k e) ≡ e
unfolding raw map_entry carried
entry-back c g k (plain x) h = ap plain (change-back c g k x h)
entry-back c g k (member x) h = ap member (change-back c g k x h)
entry-back c g k (commit n) h = refl

in-slot : (c : List ℕ) (g k : ℕ) (o : Option Written) → 4096 * g + 3584 ≤ length c → k + used_by o ≤ 14 → Sized o → Stands c (4096 * g + 256 * k) (data_of o) → InSlot c g k o
unfolding data_of card_slot used_by
in-slot c g k none l b z h = tt
in-slot c g k (some d) l b z h =
    slot-stands c (16 * g + k) d.body z (omega arith) (λ j i. same-get_or c (256 * (16 * g + k) + j) (4096 * g + 256 * k + j) (omega arith) ∙ h j i)

-- the walk of a segment reads back what was stored
items_back : (c : List ℕ) (g i k : ℕ) (es : List (Entry Written)) (r : List ℕ) → 4096 * g + 3584 ≤ length c → slots_after k es ≤ 14
    → Fine k es → FilledAt c (4096 * g) k es → items_of (card_written c) g (length es) i k (codes k es ++ r) ≡ goods g i es
unfolding items_of codes goods slots_after
items_back c g i k [] r l b f d = refl
items_back c g i k (e ∷ es) r l b f d =
    rw (append_assoc (encode (raw k e)) (codes (k + used_by (carried e)) es) r)
    (rw (entry-at k e (codes (k + used_by (carried e)) es ++ r) f.0, items_of) (rw (raw-used k e)
    (rw (entry-back c g k e (in-slot c g k (carried e) l (omega (arith, slots_after-le (k + used_by (carried e)) es)) f.1 d.0))
    (ap (λ (x : List (Item Written)). good g i e ∷ x) (items_back c g (suc i) (k + used_by (carried e)) es r l b f.2 d.1)))))

-- The card.
segment-count : (c : List ℕ) (g : ℕ) (es : List (Entry Written)) → Holds c g es → count c g ≡ length es
unfolding count
segment-count c g es h = h.counted

segment-back : (c : List ℕ) (g : ℕ) (es : List (Entry Written)) → 4096 * g + 4096 ≤ length c → Holds c g es → segment_items (card_written c) c g ≡ goods g 0 es
unfolding segment_items segment_entries
segment-back c g es l h =
    let s = take (4096 * g + 4096) c in
    let n : length s ≡ 4096 * g + 4096 = length-take-le (4096 * g + 4096) c l in
    let e : drop (4096 * g + 3585) s ≡ codes 0 es ++ drop (4096 * g + 3585 + length (codes 0 es)) s =
    stands-drop (codes 0 es) s (4096 * g + 3585) (omega (arith, n, h.short))
    (λ j i. get_or-take (4096 * g + 4096) c (4096 * g + 3585 + j) 0 (omega (arith, h.short)) ∙ h.coded j i) in
    rw (segment-count c g es h) (rw e
    (items_back c g 0 0 es (drop (4096 * g + 3585 + length (codes 0 es)) s) (omega arith) h.few h.fine h.filled))

abbrev AllHold : List ℕ → ℕ → List (List (Entry Written)) → Type 0
AllHold c g [] = Unit {0}
AllHold c g (es ∷ ess) = Holds c g es × AllHold c (suc g) ess

pub goods-empties : (g : ℕ) (ess : List (List (Entry Written))) → Empties ess → goods_all g ess ≡ []
unfolding goods_all goods
goods-empties g [] h = refl
goods-empties g ([] ∷ ess) h = goods-empties (suc g) ess h
goods-empties g ((e ∷ es) ∷ ess) h = absurd h

after-empties : (c : List ℕ) (g : ℕ) (ess : List (List (Entry Written))) → Empties ess → AllHold c g ess → after_empty {D = Written} c (length ess) g ≡ []
unfolding after_empty
after-empties c g [] h a = refl
after-empties c g ([] ∷ ess) h a = rw (segment-count c g [] a.0, after_empty) (after-empties c (suc g) ess h a.1)
after-empties c g ((e ∷ es) ∷ ess) h a = absurd h

items-card : (c : List ℕ) (g : ℕ) (ess : List (List (Entry Written))) → 4096 * (g + length ess) ≤ length c → Packed ess → AllHold c g ess
    → items (card_written c) c (length ess) g ≡ goods_all g ess
unfolding items goods_all goods
items-card c g [] l p a = refl
items-card c g ([] ∷ ess) l p a =
    rw (segment-count c g [] a.0, items) (after-empties c (suc g) ess p a.1 ∙ sym (goods-empties (suc g) ess p))
items-card c g ((e ∷ es) ∷ ess) l p a =
    rw (segment-count c g (e ∷ es) a.0, items)
    (rw (segment-back c g (e ∷ es) (omega arith) a.0)
    (ap (λ (x : List (Item Written)). goods g 0 (e ∷ es) ++ x) (items-card c (suc g) ess (omega arith) p a.1)))

all_hold : (c : List ℕ) (g : ℕ) (ess : List (List (Entry Written))) → ((h : ℕ) → h < length ess → Holds c (g + h) (get_or ess h [])) → AllHold c g ess
all_hold c g [] h = tt
all_hold c g (es ∷ ess) h = (
  rw (add-zero g) at (h 0 (omega arith)),
  all_hold c (suc g) ess (λ k l. subst (λ (n : ℕ). Holds c n (get_or ess k [])) (add-suc g k ∙ sym (suc-add g k)) (h (suc k) (omega arith))),
)

pub carries-segments : (c : List ℕ) (ess : List (List (Entry Written))) → Carries c ess → segments_in c ≡ length ess
carries-segments c ess h = ap (λ (n : ℕ). n / 4096) h.size ∙ omega arith

pub carries-items : (c : List ℕ) (ess : List (List (Entry Written))) → Carries c ess → items (card_written c) c (segments_in c) 0 ≡ goods_all 0 ess
carries-items c ess h =
    rw (carries-segments c ess h)
    (items-card c 0 ess (omega (arith, h.size)) h.packed (all_hold c 0 ess (λ k l. subst (λ (n : ℕ). Holds c n (get_or ess k [])) (sym (zero-add k)) (h.holds k l))))

-- a card whose segments hold entries that replay is accepted, and gives the replay's state
pub carries-walk : (c : List ℕ) (ess : List (List (Entry Written))) (z : Reader Written) → Carries c ess → replay start (joined ess) ≡ some z → mounted c ≡ sound z
unfolding mounted walk_card
carries-walk c ess z h r = rw (carries-items c ess h) (walk-all 0 ess start z r)

-- the place behind its log is the one behind those entries
pub carries-tail : (c : List ℕ) (ess : List (List (Entry Written))) → Carries c ess → tail c ≡ behind_all (opened 0) (goods_all 0 ess)
unfolding tail
carries-tail c ess h = ap (behind_all (opened 0)) (carries-items c ess h)

-- The place behind entries of a segment, from a place in it and from a place in another.
module _ {A : Type 0} where
  pub behind-append : (p : Place) (xs ys : List (Item (Raced A))) → behind_all p (xs ++ ys) ≡ behind_all (behind_all p xs) ys
  unfolding behind_all
  behind-append p [] ys = refl
  behind-append p (x ∷ xs) ys = behind-append (behind p x) xs ys

  -- an entry in the segment of p, and one in another
  behind-here : (p : Place) (g i : ℕ) (e : Entry (Raced A)) → p.segment ≡ g → behind p (good g i e) ≡ after p e
  unfolding behind
  behind-here p g i e h = rw (eq-true p.segment g h)

  behind-other : (p : Place) (g i : ℕ) (e : Entry (Raced A)) → p.segment ≢ g → behind p (good g i e) ≡ after (opened g) e
  unfolding behind
  behind-other p g i e h = rw (eqb-false p.segment g h)

  pub behind-goods : (p : Place) (g i : ℕ) (es : List (Entry (Raced A))) → p.segment ≡ g → behind_all p (goods g i es) ≡ after_all p es
  unfolding behind_all goods after_all after
  behind-goods p g i [] h = refl
  behind-goods p g i (e ∷ es) h = ap (λ (q : Place). behind_all q (goods g (suc i) es)) (behind-here p g i e h) ∙ behind-goods (after p e) g (suc i) es h

  pub behind-opens : (p : Place) (g i : ℕ) (e : Entry (Raced A)) (es : List (Entry (Raced A))) → p.segment ≢ g → behind_all p (goods g i (e ∷ es)) ≡ after_all (opened g) (e ∷ es)
  unfolding behind_all goods after_all after opened
  behind-opens p g i e es h = ap (λ (q : Place). behind_all q (goods g (suc i) es)) (behind-other p g i e h) ∙ behind-goods (after (opened g) e) g (suc i) es refl
