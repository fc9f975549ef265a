-- How the walk goes on, segment by segment, and the place behind what it passed.
use mathlib.Core.Path.{◌≡◌, refl, sym, ap, ◌∙◌}
use mathlib.Core.Logic.{◌≢◌}
use mathlib.Core.List.{List, [], ◌∷◌, ◌++◌}
use Prim.Native.Nat.{ℕ, zero, suc, ◌+◌, ◌-◌, ◌*◌, ◌≤◌, ◌<◌}
use native.Mathlib.Omega.{arith}
use native.Mathlib.Numerals.{add-one}
use lib.ListN.{length, get_or}
use borrow.Author.Tests.{lt-ltb, le-ltb, ne_eqb}
use Rattle.lists.specs.State.{empty}
use Rattle.lists.specs.promises.Tables.{ShowsAll}
use Rattle.lists.proofs.Basic.{eqb_same}
use Rattle.card_log.specs.Raced.{Raced, raced}
use Rattle.card_log.specs.Entry.{map_entry, entry_length}
use Rattle.card_log.specs.Reader.{Reader, start}
use Rattle.card_log.specs.Card.{segments_in, card_slot, card_written, count, segment_entries, segment_items, Item, good, bad, items_of, after_empty, items, walk, walk_card, fault}
use Rattle.card_log.specs.promises.Feed.{Memory, Keeps}
use Rattle.card_log.specs.promises.Location.{card_number}
use Rattle.card_log.specs.Store.{opened, after, behind, behind_all, tail}
use Rattle.card_log.specs.promises.Found.{bytes_from}
use Rattle.card_log.specs.promises.Walk.{as_there, items_from, Went, seat, Through, FirstUsed, Sounds}
use Rattle.card_log.specs.declared.place.Place.{Place}
use Rattle.card_log.specs.declared.walk.Cursor.{Cursor}
use Rattle.card_log.proofs.Naturality.{entry-id, after_empty-map, tail-map}
use Rattle.card_log.proofs.Entering.{cursor, items-good}

-- Segment g, which has n entries, passed by reader r up to entry i.
abbrev pub place_in : ℕ → Cursor → ℕ → Place
place_in g cur i = record { segment = g; entries = i; bytes = cur.at - (4096 * g + 3585); slots = cur.slots }

pub record Past (c : List ℕ) (g n i : ℕ) (cur : Cursor) (r : Reader ℕ) (m : Memory) : Type 0 where
  pub place : (p₀ : Place) → seat g p₀ ≡ opened g
      → (p : Place) × (seat g p ≡ place_in g cur i) × (0 < i → p ≡ place_in g cur i)
      × ((is : List (Item (Raced ℕ))) → behind_all p₀ (segment_items as_there c g ++ is) ≡ behind_all p (items_from as_there c g cur (n - i) i ++ is))
  pub reader : Reader ℕ
  pub kept : Keeps m cur.run reader
  pub walked : (is : List (Item ℕ)) → walk r (segment_items card_number c g ++ is) ≡ walk reader (items_from card_number c g cur (n - i) i ++ is)

segment-start : {D : Type 0} (f : ℕ → Raced ℕ → D) (c : List ℕ) (g n run : ℕ) → n ≡ count c g → segment_items f c g ≡ items_from f c g (cursor (4096 * g + 3585) 0 run) (n - 0) 0
unfolding segment_items segment_entries
segment-start f c g n run h = let e : n - 0 ≡ count c g = omega arith in rw e

pub past-start : (c : List ℕ) (g n run : ℕ) (r : Reader ℕ) (m : Memory) → n ≡ count c g → Keeps m run r → Past c g n 0 (cursor (4096 * g + 3585) 0 run) r m
unfolding opened
past-start c g n run r m h k = record {
  place = λ p₀ s. (p₀, s ∙ ap (λ (b : ℕ). record { segment = g; entries = 0; bytes = b; slots = 0 }) none, (λ z. absurd (omega arith)), λ is. rw (segment-start as_there c g n run h));
  reader = r;
  kept = k;
  walked = λ is. rw (segment-start card_number c g n run h);
}
  where
    none : 0 ≡ 4096 * g + 3585 - (4096 * g + 3585)
    none = omega arith

module _ (c : List ℕ) (g n i : ℕ) (cur : Cursor) (r : Reader ℕ) (m : Memory) (past : Past c g n i cur r m) where
  pub past-stuck : i < n → ((j k : ℕ) (is : List (Item ℕ)) → walk past.reader (items_from card_number c g cur (suc j) k ++ is) ≡ fault g k)
      → (is : List (Item ℕ)) → walk r (segment_items card_number c g ++ is) ≡ fault g i
  past-stuck h f is = let e : n - i ≡ suc (n - (i + 1)) = omega arith in past.walked is ∙ rw e (f (n - (i + 1)) i is)

  pub past_more : (next : Cursor) (m' : Memory) → i < n → 4096 * g + 3585 ≤ cur.at → Went c g cur past.reader next m' → Past c g n (i + 1) next r m'
  unfolding behind_all behind after walk
  past_more next m' h l w = record {
    place = λ p₀ s.
        let (p, u, x, f) = past.place p₀ s in
        (place_in g next (i + 1), rw (eqb_same g) refl, (λ z. refl), λ is. f is ∙ rw (items as_there, entry-id w.entry) (ap (λ (s : Place). behind_all (after s w.entry) (items_from as_there c g next (n - (i + 1)) (i + 1) ++ is)) u ∙ rw moved));
    reader = w.reader;
    kept = w.kept;
    walked = λ is. past.walked is ∙ rw (items card_number) (rw (w.reads, walk));
  }
    where
      items : {D : Type 0} (f : ℕ → Raced ℕ → D) → items_from f c g cur (n - i) i ≡ good g i (map_entry (f g) w.entry) ∷ items_from f c g next (n - (i + 1)) (i + 1)
      items f =
          rw (add-one i) (let e : n - i ≡ suc (n - suc i) = omega arith in
          rw (e, w.slots) (items-good f g cur.slots (n - suc i) i (bytes_from c g cur.at) w.entry (bytes_from c g next.at) w.found))

      moved : after (place_in g cur i) w.entry ≡ place_in g next (i + 1)
      moved = let b : cur.at - (4096 * g + 3585) + entry_length w.entry ≡ next.at - (4096 * g + 3585) = omega (arith, w.at) in rw (b, w.slots, add-one i)

  pub past_end : n ≤ i → 0 < i → i ≡ n → Through c g r (place_in g cur n) cur.run m
  unfolding items_of
  past_end h z q = record {
    place = λ p₀ s. let (p, u, x, f) = past.place p₀ s in λ is. f is ∙ rw (none, x z, q);
    reader = past.reader;
    kept = past.kept;
    walked = λ is. past.walked is ∙ rw none;
  }
    where
      none : n - i ≡ 0
      none = omega arith

-- Behind an empty segment.
module _ (c : List ℕ) (h n : ℕ) where
  pub empty-none : n ≤ h → after_empty {D = ℕ} c (n - h) h ≡ []
  unfolding after_empty
  empty-none g = let e : n - h ≡ 0 = omega arith in rw e

  pub empty-used : h < n → get_or c (4096 * h + 3584) 0 ≢ 0 → after_empty {D = ℕ} c (n - h) h ≡ bad h 0 ∷ []
  unfolding after_empty count
  empty-used g k = let e : n - h ≡ suc (n - (h + 1)) = omega arith in rw e (go (count c h) refl)
    where
      go : (m : ℕ) → get_or c (4096 * h + 3584) 0 ≡ m → ◌≡◌ {A = List (Item ℕ)} (elim m [ zero ↦ after_empty c (n - (h + 1)) (suc h) | suc y ↦ bad h 0 ∷ [] ]) (bad h 0 ∷ [])
      go zero q = absurd (k q)
      go (suc m) q = refl

  pub empty-more : h < n → get_or c (4096 * h + 3584) 0 ≡ 0 → after_empty {D = ℕ} c (n - h) h ≡ after_empty c (n - (h + 1)) (h + 1)
  unfolding after_empty count
  empty-more g k = let e : n - h ≡ suc (n - (h + 1)) = omega arith in rw (e, add-one h) (rw (k, after_empty))

-- The card, which has n segments, passed up to segment g.
pub record Upto (c : List ℕ) (n g run : ℕ) (p : Place) (m : Memory) : Type 0 where
  pub seated : seat g p ≡ opened g
  pub place : tail c ≡ behind_all p (items as_there c (n - g) g)
  pub reader : Reader ℕ
  pub kept : Keeps m run reader
  pub walked : walk_card card_number c ≡ walk reader (items card_number c (n - g) g)

pub upto-start : (c : List ℕ) (m : Memory) → ShowsAll m.tables empty → length m.members ≡ 128 → Upto c (segments_in c) 0 0 (opened 0) m
unfolding walk_card tail opened card_written
upto-start c m h a = record {
  seated = refl;
  place = tail-map (λ a s. card_slot c a s.body) (λ a s. s.body) c (segments_in c) ∙ rw whole;
  reader = start;
  kept = record { shows = h; recalls = record { bytes = a; size = refl; each = λ j lo hi. absurd (omega arith) } };
  walked = rw whole;
}
  where
    whole : segments_in c - 0 ≡ segments_in c
    whole = omega arith

module _ (c : List ℕ) (n g run : ℕ) (p : Place) (m : Memory) (upto : Upto c n g run p m) where
  empty-items : {D : Type 0} (f : ℕ → Raced ℕ → D) → g < n → get_or c (4096 * g + 3584) 0 ≡ 0 → items f c (n - g) g ≡ after_empty c (n - (g + 1)) (g + 1)
  unfolding items count
  empty-items f h k = let e : n - g ≡ suc (n - (g + 1)) = omega arith in rw (e, add-one g) (rw (k, items))

  used-items : {D : Type 0} (f : ℕ → Raced ℕ → D) → g < n → get_or c (4096 * g + 3584) 0 ≢ 0 → items f c (n - g) g ≡ segment_items f c g ++ items f c (n - (g + 1)) (g + 1)
  unfolding items count
  used-items {D = D} f h k = let e : n - g ≡ suc (n - (g + 1)) = omega arith in rw (e, add-one g) (go (get_or c (4096 * g + 3584) 0) refl)
    where
      go : (y : ℕ) → get_or c (4096 * g + 3584) 0 ≡ y
          → ◌≡◌ {A = List (Item D)} (elim y [ zero ↦ after_empty c (n - suc g) (suc g) | suc z ↦ segment_items f c g ++ items f c (n - suc g) (suc g) ])
          (segment_items f c g ++ items f c (n - suc g) (suc g))
      go zero q = absurd (k q)
      go (suc y) q = refl

  sounds : run ≤ 64 * 255 → items as_there c (n - g) g ≡ [] → items card_number c (n - g) g ≡ [] → Sounds c p run m
  unfolding walk behind_all
  sounds h a b = record {
    place = sym (upto.place ∙ rw a);
    short = h;
    reader = upto.reader;
    kept = upto.kept;
    walked = upto.walked ∙ rw b;
  }

  pub upto-end : n ≤ g → run ≤ 64 * 255 → Sounds c p run m
  unfolding items
  upto-end h r = let e : n - g ≡ 0 = omega arith in sounds r (rw e) (rw e)

  pub upto-empty : g < n → get_or c (4096 * g + 3584) 0 ≡ 0 → run ≤ 64 * 255 → (u : ℕ) → FirstUsed c (g + 1) n u → n ≤ u → Sounds c p run m
  upto-empty h k r u f l =
      let e : after_empty {D = ℕ} c (n - (g + 1)) (g + 1) ≡ [] = f ∙ rw (le-ltb u n l) in
      sounds r (empty-items as_there h k ∙ sym (after_empty-map (raced 0) c (n - (g + 1)) (g + 1)) ∙ rw e) (empty-items card_number h k ∙ e)

  pub upto-used : g < n → get_or c (4096 * g + 3584) 0 ≡ 0 → (u : ℕ) → FirstUsed c (g + 1) n u → u < n → walk_card card_number c ≡ fault u 0
  unfolding walk
  upto-used h k u f l = let e : items card_number c (n - g) g ≡ bad u 0 ∷ [] = empty-items card_number h k ∙ f ∙ rw (lt-ltb u n l) in upto.walked ∙ rw e

  pub upto-broken : g < n → get_or c (4096 * g + 3584) 0 ≢ 0 → (i : ℕ) → ((is : List (Item ℕ)) → walk upto.reader (segment_items card_number c g ++ is) ≡ fault g i) → walk_card card_number c ≡ fault g i
  upto-broken h k i f = upto.walked ∙ rw (used-items card_number h k) (f (items card_number c (n - (g + 1)) (g + 1)))

  pub upto-more : g < n → get_or c (4096 * g + 3584) 0 ≢ 0 → (p' : Place) (run' : ℕ) (m' : Memory) → p'.segment ≡ g → Through c g upto.reader p' run' m' → Upto c n (g + 1) run' p' m'
  upto-more h k p' run' m' s t = record {
    seated = rw (ne_eqb p'.segment (g + 1) (λ z. omega arith));
    place = upto.place ∙ rw (used-items as_there h k) (t.place p upto.seated (items as_there c (n - (g + 1)) (g + 1)));
    reader = t.reader;
    kept = t.kept;
    walked = upto.walked ∙ rw (used-items card_number h k) (t.walked (items card_number c (n - (g + 1)) (g + 1)));
  }
