-- What locations and numbers name, and that the walk with numbers is the walk with what they say was written.
use mathlib.Core.Path.{◌≡◌, refl, sym, ap, ◌∙◌}
use mathlib.Core.Bool.{true, ◌&&◌}
use mathlib.Core.Option.{Option, none, some, some-injective}
use mathlib.Core.List.{List, [], ◌∷◌, ◌++◌}
use Prim.Native.Nat.{ℕ, zero, suc, ◌+◌, ◌-◌, ◌*◌, ◌/◌, ◌%◌, ◌≤◌, ◌<◌}
use native.Mathlib.Omega.{arith}
use borrow.Author.Tests.{lt-ltb, le-ltb, leb-true}
use Rattle.lists.specs.Basic.{guard}
use Rattle.lists.specs.Change.{Change, take_list, put_first, put_after, write, del_block, del_list, map_change}
use Rattle.lists.proofs.Basic.{and-true, bind-some, guard-some}
use Rattle.card_log.specs.Raced.{Raced, with_body}
use Rattle.card_log.specs.Entry.{Entry, plain, member, commit, map_entry, carried, is_block, is_slot, is_race, legal_change, legal, decode}
use Rattle.card_log.specs.Card.{Content, slot, card_slot, card_written, card_length, segments_in, count, segment_entries, segment_items, is_next, used_by, entry_at, Item, good, bad, items_of, after_empty, items, sound, fault, walk_card, mounted}
use Rattle.card_log.specs.Reader.{Reader}
use Rattle.card_log.specs.promises.Location.{card_location, queue_location, journal_location, number_at, card_number, bytes_at, content_at}
use Rattle.card_log.proofs.Decode.{decode-complete}
use Rattle.card_log.proofs.Naturality.{map_reader, map_outcome, walk_card-map}
use Rattle.card_log.proofs.CardLength.{card-small}

-- the bytes of a location
module _ (c q j : List ℕ) where
  pub bytes-card : (g k : ℕ) → g < 64 → k < 16 → bytes_at c q j (card_location g k - 1) ≡ card_slot c g k
  unfolding bytes_at card_slot
  bytes-card g k h l = let e : 16 * g + 1 + k - 1 ≡ 16 * g + k = omega arith in rw (e, lt-ltb (16 * g + k) 1024 (omega arith))

  pub bytes-queue : (p : ℕ) → p < 32 → bytes_at c q j (queue_location p - 1) ≡ slot q p
  unfolding bytes_at
  bytes-queue p h =
      let e : 1025 + p - 1 - 1024 ≡ p = omega arith in
      rw (le-ltb (1025 + p - 1) 1024 (omega arith), lt-ltb (1025 + p - 1) 1056 (omega arith), e)

  pub bytes-journal : (p : ℕ) → bytes_at c q j (journal_location p - 1) ≡ slot j p
  unfolding bytes_at
  bytes-journal p =
      let e : 1057 + p - 1 - 1056 ≡ p = omega arith in
      rw (le-ltb (1057 + p - 1) 1024 (omega arith), le-ltb (1057 + p - 1) 1056 (omega arith), e)

  -- a number says its location's bytes and its race
  pub content-number : {A : Type 0} (n : ℕ) (s : Raced A) → 1 ≤ n → n ≤ 2048 → content_at c q j (number_at n s) ≡ with_body (bytes_at c q j (n - 1)) s
  unfolding content_at
  content-number n s h l =
      let a : (n + 2048 * s.race - 1) % 2048 ≡ n - 1 = omega arith in
      let b : (n + 2048 * s.race - 1) / 2048 ≡ s.race = omega arith in
      rw (a, b)

  pub content-card : (g : ℕ) (s : Raced ℕ) → g < 64 → s.body < 16 → content_at c q j (card_number g s) ≡ card_written c g s
  unfolding card_written
  content-card g s h l =
      content-number (card_location g s.body) s (omega arith) (omega arith) ∙ ap (λ (x : Content). with_body x s) (bytes-card g s.body h l)

  pub content-queue : {A : Type 0} (p : ℕ) (s : Raced A) → p < 32 → content_at c q j (number_at (queue_location p) s) ≡ with_body (slot q p) s
  content-queue p s h = content-number (queue_location p) s (omega arith) (omega arith) ∙ ap (λ (x : Content). with_body x s) (bytes-queue p h)

  pub content-journal : {A : Type 0} (p : ℕ) (s : Raced A) → p < 60 → content_at c q j (number_at (journal_location p) s) ≡ with_body (slot j p) s
  content-journal p s h = content-number (journal_location p) s (omega arith) (omega arith) ∙ ap (λ (x : Content). with_body x s) (bytes-journal p)

-- Two ways to say what stands in the slots, that agree on a card's slots, give the same items.
module _ {D : Type 0} (f h : Raced ℕ → D) (same : (s : Raced ℕ) → s.body ≤ 13 → f s ≡ h s) where
  change-same : (x : Change (Raced ℕ)) → legal_change x ≡ true → map_change f x ≡ map_change h x
  unfolding map_change legal_change
  change-same (take_list l) p = refl
  change-same (put_first b l) p = refl
  change-same (put_after b l x) p = refl
  change-same (write b s) p =
      ap (write b) (same s (leb-true s.body 13 (and-true (is_block b) (is_slot s.body) (and-true (is_block b && is_slot s.body) (is_race s.race) p).0).1))
  change-same (del_block b) p = refl
  change-same (del_list l) p = refl

  entry-same : (e : Entry (Raced ℕ)) → legal e ≡ true → map_entry f e ≡ map_entry h e
  unfolding map_entry legal
  entry-same (plain x) p = ap plain (change-same x p)
  entry-same (member x) p = ap member (change-same x p)
  entry-same (commit n) p = refl

pub entry-legal : (k : ℕ) (bs : List ℕ) (z : Entry (Raced ℕ) × List ℕ) → entry_at k bs ≡ some z → legal z.0 ≡ true
unfolding entry_at
entry-legal k bs z h =
    let (y, p, q) = bind-some (decode bs) (λ x. guard (is_next k (carried x.0)) (some x)) z h in
    let w : y ≡ z = some-injective _ _ (guard-some (is_next k (carried y.0)) (some y) z q).1 in
    (decode-complete bs z (p ∙ ap some w)).1

module _ {D : Type 0} (f h : ℕ → Raced ℕ → D) (same : (g : ℕ) (s : Raced ℕ) → g < 64 → s.body ≤ 13 → f g s ≡ h g s) where
  items_of-same : (g n i k : ℕ) (bs : List ℕ) → g < 64 → items_of f g n i k bs ≡ items_of h g n i k bs
  unfolding items_of
  items_of-same g zero i k bs l = refl
  items_of-same g (suc n) i k bs l = go (λ k' bs'. items_of-same g n (suc i) k' bs' l) (entry_at k bs) refl
    where
      go : ((k' : ℕ) (bs' : List ℕ) → items_of f g n (suc i) k' bs' ≡ items_of h g n (suc i) k' bs') → (o : Option (Entry (Raced ℕ) × List ℕ)) → entry_at k bs ≡ o
          → ◌≡◌ {A = List (Item D)} (elim o [ none ↦ bad g i ∷ [] | some x ↦ good g i (map_entry (f g) x.0) ∷ items_of f g n (suc i) (k + used_by (carried x.0)) x.1 ])
          (elim o [ none ↦ bad g i ∷ [] | some x ↦ good g i (map_entry (h g) x.0) ∷ items_of h g n (suc i) (k + used_by (carried x.0)) x.1 ])
      go ih none e = refl
      go ih (some x) e = rw (entry-same (f g) (h g) (λ j m. same g j l m) x.0 (entry-legal k bs x e), ih (k + used_by (carried x.0)) x.1)

  items-same : (c : List ℕ) (m g : ℕ) → g + m ≤ 64 → items f c m g ≡ items h c m g
  unfolding items segment_items
  items-same c zero g l = refl
  items-same c (suc m) g l = go (items-same c m (suc g) (omega arith)) (count c g)
    where
      go : items f c m (suc g) ≡ items h c m (suc g) → (x : ℕ)
          → ◌≡◌ {A = List (Item D)} (elim x [ zero ↦ after_empty c m (suc g) | suc n ↦ items_of f g (count c g) 0 0 (segment_entries c g) ++ items f c m (suc g) ])
          (elim x [ zero ↦ after_empty c m (suc g) | suc n ↦ items_of h g (count c g) 0 0 (segment_entries c g) ++ items h c m (suc g) ])
      go ih zero = refl
      go ih (suc n) = rw (items_of-same g (count c g) 0 0 (segment_entries c g) (omega arith), ih)

-- the card's log, walked with numbers, and what those say was written
pub mounted-at : (c q j : List ℕ) → card_length c ≡ true → mounted c ≡ map_outcome (content_at c q j) (walk_card card_number c)
unfolding mounted walk_card
mounted-at c q j l =
    rw (items-same (card_written c) (λ g s. content_at c q j (card_number g s)) (λ g s a b. sym (content-card c q j g s a (omega arith))) c (segments_in c) 0 (omega (arith, (card-small c l).1)))
    (walk_card-map (content_at c q j) card_number c)

pub sound-at : (c q j : List ℕ) (r : Reader ℕ) → card_length c ≡ true → walk_card card_number c ≡ sound r → mounted c ≡ sound (map_reader (content_at c q j) r)
sound-at c q j r l h = mounted-at c q j l ∙ rw h

pub fault-at : (c : List ℕ) (g i : ℕ) → card_length c ≡ true → walk_card card_number c ≡ fault g i → mounted c ≡ fault g i
fault-at c g i l h = mounted-at c [] [] l ∙ rw h
