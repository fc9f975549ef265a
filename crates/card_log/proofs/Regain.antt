-- An acceptable card holds entries, and its state is their replay (`carries-read`): the converse of `carries-walk`.
use mathlib.Core.Path.{◌≡◌, refl, sym, ap, ◌∙◌, subst}
use mathlib.Core.Bool.{true, ◌&&◌}
use mathlib.Core.Option.{Option, none, some, some-injective, map}
use mathlib.Core.List.{List, [], ◌∷◌, ◌++◌, append_assoc}
use Prim.Native.Nat.{ℕ, zero, suc, ◌+◌, ◌*◌, ◌/◌, ◌≤◌, ◌<◌}
use native.Mathlib.Omega.{arith}
use native.Mathlib.Nat.{add-zero, add-suc, suc-add, zero-add}
use lib.ListN.{length, take, get_or, length-append, length-drop, length-replicate, get_or-append}
use lib.Seq.{get_or-take, get_or-drop, length-take-le}
use Rattle.lists.specs.Basic.{guard, joined}
use Rattle.lists.specs.Change.{Change, take_list, put_first, put_after, write, del_block, del_list, map_change, carried_by}
use Rattle.lists.proofs.Basic.{eqb-true, leb-true, and-true, bind-some, guard-some, get_or-same}
use Rattle.card_log.specs.Raced.{Raced, raced, with_body}
use Rattle.card_log.specs.Entry.{Entry, plain, member, commit, map_entry, carried, encode, raw, legal, legal_change, is_block, is_slot, is_race, decode}
use Rattle.card_log.specs.Reader.{Reader, read, replay, start}
use Rattle.card_log.specs.Card.{Written, card_slot, card_written, count, segment_entries, used_by, is_next, entry_at, Item, good, bad, items_of, segment_items, after_empty, items, sound, fault, walk, walk_card, mounted}
use Rattle.card_log.specs.Store.{data_of}
use Rattle.card_log.proofs.Slot.{Stands, same-get_or, length-slot, get_or-slot}
use Rattle.card_log.proofs.Decode.{decode-complete}
use Rattle.card_log.proofs.Naturality.{KeepsRace, carried-map}
use Rattle.card_log.proofs.Replay.{replay-append}
use Rattle.card_log.proofs.Segment.{codes, slots_after, Sized, Fine, FilledAt, Holds, Packed, Carries, used-map}
use Rattle.card_log.proofs.Formatting.{nils, packed-nils, holds-none}

-- An entry whose slot is the next, with its data put in and taken out again.
change-raw : (f : Raced ℕ → Written) → KeepsRace f → (k : ℕ) (c : Change (Raced ℕ)) → is_next k (carried_by c) ≡ true → map_change (with_body k) (map_change f c) ≡ c
unfolding map_change carried_by is_next
change-raw f r k (take_list l) h = refl
change-raw f r k (put_first b l) h = refl
change-raw f r k (put_after b l p) h = refl
change-raw f r k (write b t) h = ap (λ (n : ℕ). write b (raced k n)) (r t) ∙ ap (λ (x : ℕ). write b (raced x t.race)) (sym (eqb-true t.body k h))
change-raw f r k (del_block b) h = refl
change-raw f r k (del_list l) h = refl

raw-again : (f : Raced ℕ → Written) → KeepsRace f → (k : ℕ) (y : Entry (Raced ℕ)) → is_next k (carried y) ≡ true → raw k (map_entry f y) ≡ y
unfolding raw map_entry carried
raw-again f r k (plain c) h = ap plain (change-raw f r k c h)
raw-again f r k (member c) h = ap member (change-raw f r k c h)
raw-again f r k (commit n) h = refl

change-slot : (k : ℕ) (c : Change (Raced ℕ)) → legal_change c ≡ true → is_next k (carried_by c) ≡ true → k ≤ 14 → k + used_by (carried_by c) ≤ 14
unfolding legal_change carried_by is_next used_by
change-slot k (take_list l) h n m = omega arith
change-slot k (put_first b l) h n m = omega arith
change-slot k (put_after b l p) h n m = omega arith
change-slot k (write b t) h n m =
    omega (arith, leb-true t.body 13 (and-true (is_block b) (is_slot t.body) (and-true (is_block b && is_slot t.body) (is_race t.race) h).0).1, eqb-true t.body k n)
change-slot k (del_block b) h n m = omega arith
change-slot k (del_list l) h n m = omega arith

entry-slot : (k : ℕ) (y : Entry (Raced ℕ)) → legal y ≡ true → is_next k (carried y) ≡ true → k ≤ 14 → k + used_by (carried y) ≤ 14
unfolding legal carried used_by
entry-slot k (plain c) h n m = change-slot k c h n m
entry-slot k (member c) h n m = change-slot k c h n m
entry-slot k (commit j) h n m = omega arith

-- what stands in the next slot
slot-sized : (c : List ℕ) (g k : ℕ) (o : Option (Raced ℕ)) → 4096 * g + 3584 ≤ length c → k + used_by o ≤ 14 → is_next k o ≡ true
    → Sized (map (card_written c g) o) × Stands c (4096 * g + 256 * k) (data_of (map (card_written c g) o))
unfolding used_by is_next data_of card_written card_slot
slot-sized c g k none l m n = (tt, λ j h. absurd (omega arith))
slot-sized c g k (some t) l m n =
    let e : t.body ≡ k = eqb-true t.body k n in
    let z : length (card_slot c g t.body) ≡ 256 = length-slot c (16 * g + t.body) (omega arith) in
    (z, λ j h. same-get_or c (4096 * g + 256 * k + j) (256 * (16 * g + t.body) + j) (omega arith) ∙ sym (get_or-slot c (16 * g + t.body) j (omega arith)))

keeps-race : (c : List ℕ) (g : ℕ) → KeepsRace (card_written c g)
unfolding card_written
keeps-race c g s = refl

-- A walk that goes through meets no fault, and reads each entry.
module _ {D : Type 0} where
  never : (g i : ℕ) (z : Reader D) → fault g i ≡ sound z → ⊥
  never g i z h = let q : ◌≡◌ {A = ℕ} 0 1 = cc in omega arith

  pub walk-bad : (g i : ℕ) (is : List (Item D)) (r z : Reader D) → walk r (bad g i ∷ is) ≡ sound z → ⊥
  unfolding walk
  walk-bad g i is r z h = never g i z h

  pub walk-good : (g i : ℕ) (e : Entry D) (is : List (Item D)) (r z : Reader D) → walk r (good g i e ∷ is) ≡ sound z
      → (q : Reader D) × (read r e ≡ some q) × (walk q is ≡ sound z)
  unfolding walk
  walk-good g i e is r z h = go (read r e) refl
    where
      go : (o : Option (Reader D)) → read r e ≡ o → (q : Reader D) × (read r e ≡ some q) × (walk q is ≡ sound z)
      go none p = absurd (never g i z (rw (p, walk) at h))
      go (some q) p = (q, p, rw (p, walk) at h)

  walk_end : (r z : Reader D) → walk r [] ≡ sound z → r ≡ z
  unfolding walk
  walk_end r z w = same r z w
    where
      same : (r z : Reader D) → sound r ≡ sound z → r ≡ z
      same r z h = cc

entry-some : (k : ℕ) (bs : List ℕ) (x : Entry (Raced ℕ) × List ℕ) → entry_at k bs ≡ some x → (decode bs ≡ some x) × (is_next k (carried x.0) ≡ true)
unfolding entry_at
entry-some k bs x h =
    let (y, p, q) = bind-some (decode bs) (λ y. guard (is_next k (carried y.0)) (some y)) x h in
    let (a, b) = guard-some (is_next k (carried y.0)) (some y) x q in
    let e : y ≡ x = some-injective _ _ b in
    (p ∙ ap some e, ap (λ (w : Entry (Raced ℕ) × List ℕ). is_next k (carried w.0)) (sym e) ∙ a)

-- What a walk that goes through tells of n entries of segment g, the first of them at slot k and at the front of the bytes bs.
record Heard (c : List ℕ) (g n k : ℕ) (bs : List ℕ) (r z : Reader Written) (more : List (Item Written)) : Type 0 where
  entries : List (Entry Written)
  size : length entries ≡ n
  behind : List ℕ
  bytes : bs ≡ codes k entries ++ behind
  fine : Fine k entries
  filled : FilledAt c (4096 * g) k entries
  few : slots_after k entries ≤ 14
  reader : Reader Written
  replays : replay r entries ≡ some reader
  onward : walk reader more ≡ sound z

heard-none : (c : List ℕ) (g k : ℕ) (bs : List ℕ) (r z : Reader Written) (more : List (Item Written)) → k ≤ 14 → walk r more ≡ sound z → Heard c g zero k bs r z more
unfolding codes slots_after replay
heard-none c g k bs r z more m h = record { entries = []; size = refl; behind = bs; bytes = refl; fine = tt; filled = tt; few = m; reader = r; replays = refl; onward = h }

more_bytes : (bs x ys cs d all : List ℕ) → bs ≡ x ++ ys → ys ≡ cs ++ d → x ++ cs ≡ all → bs ≡ all ++ d
more_bytes bs x ys cs d all p q r = p ∙ ap (λ (l : List ℕ). x ++ l) q ∙ sym (append_assoc x cs d) ∙ ap (λ (l : List ℕ). l ++ d) r

heard-one : (c : List ℕ) (g n i k : ℕ) (bs : List ℕ) (r z : Reader Written) (more : List (Item Written)) → 4096 * g + 3584 ≤ length c → k ≤ 14
    → (x : Entry (Raced ℕ) × List ℕ) → entry_at k bs ≡ some x
    → ((k' : ℕ) (bs' : List ℕ) (r' : Reader Written) → k' ≤ 14 → walk r' (items_of (card_written c) g n (suc i) k' bs' ++ more) ≡ sound z → Heard c g n k' bs' r' z more)
    → walk r (good g i (map_entry (card_written c g) x.0) ∷ (items_of (card_written c) g n (suc i) (k + used_by (carried x.0)) x.1 ++ more)) ≡ sound z
    → Heard c g (suc n) k bs r z more
unfolding codes slots_after replay
heard-one c g n i k bs r z more l m x q ih h =
    let (d, nx) = entry-some k bs x q in
    let (b, lg) = decode-complete bs x d in
    let s = card_written c g in
    let e = map_entry s x.0 in
    let back : raw k e ≡ x.0 = raw-again s (keeps-race c g) k x.0 nx in
    let v : carried e ≡ map s (carried x.0) = carried-map s x.0 in
    let u : used_by (carried e) ≡ used_by (carried x.0) = used-map s x.0 in
    let f : k + used_by (carried x.0) ≤ 14 = entry-slot k x.0 lg nx m in
    let (r', p, w) = walk-good g i e (items_of (card_written c) g n (suc i) (k + used_by (carried x.0)) x.1 ++ more) r z h in
    let t : Heard c g n (k + used_by (carried x.0)) x.1 r' z more = ih (k + used_by (carried x.0)) x.1 r' f w in
    let cd : encode x.0 ++ codes (k + used_by (carried x.0)) t.entries ≡ encode (raw k e) ++ codes (k + used_by (carried e)) t.entries = rw (back, u) in
    let sl = slot-sized c g k (carried x.0) l f nx in
    record {
      entries = e ∷ t.entries;
      size = ap suc t.size;
      behind = t.behind;
      bytes = more_bytes bs (encode x.0) x.1 (codes (k + used_by (carried x.0)) t.entries) t.behind (encode (raw k e) ++ codes (k + used_by (carried e)) t.entries) b t.bytes cd;
      fine = (ap legal back ∙ lg, rw v sl.0, rw u t.fine);
      filled = (rw v sl.1, rw u t.filled);
      few = rw u t.few;
      reader = t.reader;
      replays = rw p t.replays;
      onward = t.onward;
    }

heard : (c : List ℕ) (g n i k : ℕ) (bs : List ℕ) (r z : Reader Written) (more : List (Item Written)) → 4096 * g + 3584 ≤ length c → k ≤ 14
    → walk r (items_of (card_written c) g n i k bs ++ more) ≡ sound z → Heard c g n k bs r z more
unfolding items_of
heard c g zero i k bs r z more l m h = heard-none c g k bs r z more m h
heard c g (suc n) i k bs r z more l m h = go (λ k' bs' r' m' h'. heard c g n (suc i) k' bs' r' z more l m' h') (entry_at k bs) refl
  where
    go : ((k' : ℕ) (bs' : List ℕ) (r' : Reader Written) → k' ≤ 14 → walk r' (items_of (card_written c) g n (suc i) k' bs' ++ more) ≡ sound z → Heard c g n k' bs' r' z more)
        → (o : Option (Entry (Raced ℕ) × List ℕ)) → entry_at k bs ≡ o → Heard c g (suc n) k bs r z more
    go ih none q = absurd (walk-bad g i more r z (rw (q, items_of) at h))
    go ih (some x) q = heard-one c g n i k bs r z more l m x q ih (rw (q, items_of) at h)

-- So a segment holds the entries that were read.
segment-holds : (c : List ℕ) (g n : ℕ) (r z : Reader Written) (more : List (Item Written)) → 4096 * g + 4096 ≤ length c
    → (t : Heard c g n 0 (segment_entries c g) r z more) → count c g ≡ n → Holds c g t.entries
unfolding count segment_entries
segment-holds c g n r z more l t e = record {
  counted = e ∙ sym t.size;
  coded = λ j k.
      sym (get_or-take (4096 * g + 4096) c (4096 * g + 3585 + j) 0 (omega (arith, short)))
      ∙ sym (get_or-drop (4096 * g + 3585) (take (4096 * g + 4096) c) j 0)
      ∙ ap (λ (v : List ℕ). get_or v j 0) t.bytes
      ∙ get_or-append (codes 0 t.entries) t.behind 0 j k;
  filled = t.filled;
  fine = t.fine;
  short = short;
  few = t.few;
}
  where
    short : length (codes 0 t.entries) ≤ 511
    short = omega (arith, length-take-le (4096 * g + 4096) c l, length-drop (4096 * g + 3585) (take (4096 * g + 4096) c), ap length t.bytes ∙ length-append (codes 0 t.entries) t.behind)

-- The m segments from g on.
record Regained (c : List ℕ) (g m : ℕ) (r z : Reader Written) : Type 0 where
  segs : List (List (Entry Written))
  size : length segs ≡ m
  packed : Packed segs
  holds : (h : ℕ) → h < m → Holds c (g + h) (get_or segs h [])
  replays : replay r (joined segs) ≡ some z

first-or : (c : List ℕ) (g m : ℕ) → ((h : ℕ) → h < m → count c (suc g + h) ≡ 0) → count c g ≡ 0 → (h : ℕ) → h < suc m → count c (g + h) ≡ 0
first-or c g m f e zero l = ap (count c) (add-zero g) ∙ e
first-or c g m f e (suc h) l = ap (count c) (add-suc g h ∙ sym (suc-add g h)) ∙ f h (omega arith)

pub empty-rest : {D : Type 0} (c : List ℕ) (m g : ℕ) (r z : Reader D) → walk r (after_empty c m g) ≡ sound z → ((h : ℕ) → h < m → count c (g + h) ≡ 0) × (r ≡ z)
unfolding after_empty
empty-rest c zero g r z w = (λ h l. absurd (omega arith), walk_end r z w)
empty-rest c (suc m) g r z w = go (λ v. empty-rest c m (suc g) r z v) (count c g) refl
  where
    go : (walk r (after_empty c m (suc g)) ≡ sound z → ((h : ℕ) → h < m → count c (suc g + h) ≡ 0) × (r ≡ z))
        → (n : ℕ) → count c g ≡ n → ((h : ℕ) → h < suc m → count c (g + h) ≡ 0) × (r ≡ z)
    go ih zero e = let k = ih (rw (e, after_empty) at w) in (λ h l. first-or c g m k.0 e h l, k.1)
    go ih (suc n) e = absurd (walk-bad g 0 [] r z (rw (e, after_empty) at w))

joined-none : (n : ℕ) → joined (nils n) ≡ []
unfolding joined
joined-none zero = refl
joined-none (suc n) = joined-none n

count-zero : (c : List ℕ) (g : ℕ) → count c g ≡ 0 → Holds c g []
unfolding count
count-zero c g e = holds-none c g e

regain-empty : (c : List ℕ) (g m : ℕ) (r z : Reader Written) → ((h : ℕ) → h < m → count c (g + h) ≡ 0) → r ≡ z → Regained c g m r z
unfolding replay
regain-empty c g m r z f e = record {
  segs = nils m;
  size = length-replicate m [];
  packed = packed-nils m;
  holds = λ h l. rw (get_or-same {A = List (Entry Written)} m h []) (count-zero c (g + h) (f h l));
  replays = ap (replay r) (joined-none m) ∙ ap {B = Option (Reader Written)} some e;
}

regain-more : (c : List ℕ) (g n m : ℕ) (r z : Reader Written) (more : List (Item Written)) → 4096 * g + 4096 ≤ length c
    → (t : Heard c g (suc n) 0 (segment_entries c g) r z more) → count c g ≡ suc n → Regained c (suc g) m t.reader z → Regained c g (suc m) r z
unfolding joined
regain-more c g n m r z more l t e k = record {
  segs = t.entries ∷ k.segs;
  size = ap suc k.size;
  packed = packed_more t.entries t.size;
  holds = λ h i. held h i;
  replays = replay-append r t.entries (joined k.segs) ∙ rw t.replays k.replays;
}
  where
    packed_more : (es : List (Entry Written)) → length es ≡ suc n → Packed (es ∷ k.segs)
    packed_more [] q = absurd (omega arith)
    packed_more (x ∷ es) q = k.packed

    held : (h : ℕ) → h < suc m → Holds c (g + h) (get_or (t.entries ∷ k.segs) h [])
    held zero i = rw (add-zero g) (segment-holds c g (suc n) r z more l t e)
    held (suc h) i = subst (λ (j : ℕ). Holds c j (get_or k.segs h [])) (suc-add g h ∙ sym (add-suc g h)) (k.holds h (omega arith))

sized-items : (c : List ℕ) (g n : ℕ) (more : List (Item Written)) (r z : Reader Written) → count c g ≡ n → walk r (segment_items (card_written c) c g ++ more) ≡ sound z
    → walk r (items_of (card_written c) g n 0 0 (segment_entries c g) ++ more) ≡ sound z
unfolding segment_items
sized-items c g n more r z e w = rw e at w

regained : (m g : ℕ) (c : List ℕ) (r z : Reader Written) → 4096 * (g + m) ≤ length c → walk r (items (card_written c) c m g) ≡ sound z → Regained c g m r z
unfolding items
regained zero g c r z l w = regain-empty c g 0 r z (λ h i. absurd (omega arith)) (walk_end r z w)
regained (suc m) g c r z l w = go (λ r' w'. regained m (suc g) c r' z (omega arith) w') (count c g) refl
  where
    more : List (Item Written)
    more = items (card_written c) c m (suc g)

    go : ((r' : Reader Written) → walk r' (items (card_written c) c m (suc g)) ≡ sound z → Regained c (suc g) m r' z)
        → (n : ℕ) → count c g ≡ n → Regained c g (suc m) r z
    go ih zero e =
        let k = empty-rest c m (suc g) r z (rw (e, items) at w) in
        regain-empty c g (suc m) r z (first-or c g m k.0 e) k.1
    go ih (suc n) e =
        let w' : walk r (segment_items (card_written c) c g ++ more) ≡ sound z = rw (e, items) at w in
        let t : Heard c g (suc n) 0 (segment_entries c g) r z more =
        heard c g (suc n) 0 0 (segment_entries c g) r z more (omega arith) (omega arith) (sized-items c g (suc n) more r z e w') in
        regain-more c g n m r z more (omega arith) t e (ih t.reader t.onward)

pub carries-read : (n : ℕ) (c : List ℕ) (z : Reader Written) → 0 < n → length c ≡ 4096 * n → mounted c ≡ sound z
    → (ess : List (List (Entry Written))) × Carries c ess × (replay start (joined ess) ≡ some z)
unfolding mounted walk_card
carries-read n c z p l w =
    let q : length c / 4096 ≡ n = omega arith in
    let k : Regained c 0 n start z = regained n 0 c start z (omega arith) (ap (λ (m : ℕ). walk start (items (card_written c) c m 0)) (sym q) ∙ w) in (
      k.segs,
      record {
        size = l ∙ ap (λ (m : ℕ). 4096 * m) (sym k.size);
        some-segment = rw k.size p;
        packed = k.packed;
        holds = λ h i. rw (zero-add h) at (k.holds h (rw k.size at i));
      },
      k.replays,
    )
