-- From locations to contents: what the queue, a journal, the replays and the look-ups say at locations, they say of the contents that stand there.
use mathlib.Core.Path.{◌≡◌, refl, sym, ap, fun_ext, ◌∙◌}
use mathlib.Core.Bool.{Bool, true, ◌||◌}
use mathlib.Core.Option
use mathlib.Core.Option.{Option, none, some}
use mathlib.Core.List.{List, ◌∷◌, map}
use Prim.Native.Nat.{ℕ, zero, suc, ◌+◌, ◌≤◌, ◌<◌}
use native.Mathlib.Omega.{arith}
use native.Mathlib.Nat.{mod-lt}
use lib.Dec.{eqb}
use lib.ListN.{get_or}
use Rattle.lists.specs.Basic.{is_some, from}
use Rattle.lists.specs.Change.{map_change}
use Rattle.lists.specs.State.{Row, State, taken, placed, on_list, apply_all, overlay, map_row, map_state}
use Rattle.lists.specs.Lookup.{content_of, next_after, list_nums, taken_after}
use Rattle.lists.specs.promises.Tables.{Tables, IsBlock, IsList, OfShown, located_at}
use Rattle.lists.proofs.Lookup.{lists-shown}
use Rattle.lists.proofs.Naturality.{taken-map, placed-map, on_list-map, change-comp, apply_all-map, overlay-map, next_after-map, list_nums-map, content_of-map}
use Rattle.card_log.specs.Raced.{Raced}
use Rattle.card_log.specs.Entry.{map_entry, as_change}
use Rattle.card_log.specs.Cell.{entry_in}
use Rattle.card_log.specs.Reader.{Reader, replay}
use Rattle.card_log.specs.Card.{Written, sound, card_length, walk_card}
use Rattle.card_log.specs.promises.Location.{card_number, number_at, queue_location, journal_location}
use Rattle.card_log.proofs.Naturality.{map_reader, entry-comp, replay-map}
use Rattle.card_log.proofs.Locations.{content-queue, content-journal, sound-at}
use Rattle.disk.specs.Record.{no_cell, ring_place}
use Rattle.disk.specs.Disk.{Disk, queued_at, queued, unit_of, journal_place, journal_at, journal_of, reader_of, committed_reader}
use Rattle.inspect.specs.promises.Located.{contents, Located, queued_said, queued_here, queue_here, change_here, journal_here}

map-from : {A B : Type 0} (f : A → B) (g : ℕ → A) (h : ℕ → B) (k n : ℕ) → ((i : ℕ) → i < k + n → f (g i) ≡ h i) → map f (from g k n) ≡ from h k n
unfolding from
map-from f g h k zero e = refl
map-from {B} f g h k (suc n) e = rw (e k (omega arith)) (ap {B = List B} (λ r. h k ∷ r) (map-from f g h (suc k) n (λ i l. e i (omega arith))))

pub some-map : {A B : Type 0} (f : A → B) (o : Option A) → is_some (Option.map f o) ≡ is_some o
unfolding is_some
some-map f none = refl
some-map f (some a) = refl

module _ (d : Disk) where
  -- The queue and the journals.
  entry_here : (k : ℕ) → map_entry (contents d) (queued_here d.rec k) ≡ queued_at d k
  unfolding queued_here queued_at
  entry_here k =
      let p = ring_place d.rec k in
      let e = queued_said d.rec k in
      entry-comp (contents d) (number_at (queue_location p)) e
      ∙ ap (λ (f : Raced ℕ → Written). map_entry f e) (fun_ext (λ s. content-queue d.card d.queue_data d.journal_data p s (mod-lt (d.rec.ring.head + k) (omega arith))))

  pub queue-here : map (map_entry (contents d)) (queue_here d.rec) ≡ queued d
  unfolding queue_here queued
  queue-here = map-from (map_entry (contents d)) (queued_here d.rec) (queued_at d) 0 d.rec.ring.len (λ k l. entry_here k)

  change-here : (u k : ℕ) → u ≤ 4 → k < 15 → map_change (contents d) (change_here (unit_of d u) u k) ≡ journal_at d u k
  unfolding change_here journal_at
  change-here u k m l =
      let c = as_change (entry_in (get_or (unit_of d u).journal k no_cell)) in
      let p = journal_place u k in
      change-comp (contents d) (number_at (journal_location p)) c
      ∙ ap (λ (f : Raced ℕ → Written). map_change f c) (fun_ext (λ s. content-journal d.card d.queue_data d.journal_data p s (omega arith)))

  pub journal-here : (u : ℕ) → u ≤ 4 → (unit_of d u).len ≤ 15 → map (map_change (contents d)) (journal_here (unit_of d u) u) ≡ journal_of d u
  unfolding journal_here journal_of
  journal-here u m n = map-from (map_change (contents d)) (change_here (unit_of d u) u) (journal_at d u) 0 (unit_of d u).len (λ k l. change-here u k m (omega arith))

  -- The replays.
  pub replay-here : (x : Reader ℕ) → replay (map_reader (contents d) x) (queued d) ≡ Option.map (map_reader (contents d)) (replay x (queue_here d.rec))
  replay-here x = rw (← queue-here) (replay-map (contents d) x (queue_here d.rec))

  pub committed-here : (x : Reader ℕ) → walk_card card_number d.card ≡ sound x → card_length d.card ≡ true
      → committed_reader d ≡ Option.map (map_reader (contents d)) (replay x (queue_here d.rec))
  unfolding committed_reader reader_of
  committed-here x w l = rw (sound-at d.card d.queue_data d.journal_data x l w) (replay-here x)

  pub overlay-here : (u : ℕ) (s : State ℕ) → u ≤ 4 → (unit_of d u).len ≤ 15
      → overlay (journal_of d u) (map_state (contents d) s) ≡ map_state (contents d) (overlay (journal_here (unit_of d u) u) s)
  overlay-here u s m n = rw (← journal-here u m n) (overlay-map (contents d) (journal_here (unit_of d u) u) s)

  pub applies-here : (u : ℕ) (s : State ℕ) → u ≤ 4 → (unit_of d u).len ≤ 15
      → is_some (apply_all (journal_of d u) (map_state (contents d) s)) ≡ is_some (apply_all (journal_here (unit_of d u) u) s)
  applies-here u s m n =
      rw (← journal-here u m n, apply_all-map (contents d) (journal_here (unit_of d u) u) s)
      (some-map (map_state (contents d)) (apply_all (journal_here (unit_of d u) u) s))

-- A state that tables show.
module _ (d : Disk) (t : Tables) (s : State Written) (k : Located d t s) where
  pub lists-here : s.lists ≡ map (map_row (contents d)) k.here.lists
  lists-here = ap (λ (x : State Written). x.lists) k.means

  pub taken_here : (l : ℕ) → taken l s.lists ≡ taken l k.here.lists
  taken_here l = ap (taken l) lists-here ∙ taken-map (contents d) l k.here.lists

  pub placed-here : (b : ℕ) → placed b s.lists ≡ placed b k.here.lists
  placed-here b = ap (placed b) lists-here ∙ placed-map (contents d) b k.here.lists

  pub on_list-here : (l b : ℕ) → on_list l b s.lists ≡ on_list l b k.here.lists
  on_list-here l b = ap (on_list l b) lists-here ∙ on_list-map (contents d) l b k.here.lists

  pub next_after-here : (l p : ℕ) → next_after s.lists l p ≡ next_after k.here.lists l p
  next_after-here l p = ap (λ (rs : List (Row Written)). next_after rs l p) lists-here ∙ next_after-map (contents d) k.here.lists l p

  pub list_nums-here : list_nums s.lists ≡ list_nums k.here.lists
  list_nums-here = ap list_nums lists-here ∙ list_nums-map (contents d) k.here.lists

  pub taken_after-here : (l : ℕ) → taken_after s.lists l ≡ taken_after k.here.lists l
  unfolding taken_after
  taken_after-here l = rw (list_nums-here)

  pub content-here : (b : ℕ) → content_of s.lists b ≡ Option.map (contents d) (content_of k.here.lists b)
  content-here b = ap (λ (rs : List (Row Written)). content_of rs b) lists-here ∙ content_of-map (contents d) k.here.lists b

  -- what holds of all lists that the tables show
  pub of-shown : (P : List (Row ℕ) → Type 0) → OfShown t P → P k.here.lists
  of-shown P f = f k.here.lists (lists-shown t k.here k.shows)

  pub taken-told : (l : ℕ) (b : Bool) → OfShown t (λ rs. IsList l → b ≡ taken l rs) → IsList l → b ≡ taken l s.lists
  taken-told l b f r = of-shown (λ rs. IsList l → b ≡ taken l rs) f r ∙ sym (taken_here l)

  pub placed-told : (x : ℕ) (b : Bool) → OfShown t (λ rs. IsBlock x → b ≡ placed x rs) → IsBlock x → b ≡ placed x s.lists
  placed-told x b f r = of-shown (λ rs. IsBlock x → b ≡ placed x rs) f r ∙ sym (placed-here x)

  pub on_list-told : (l x : ℕ) (b : Bool) → OfShown t (λ rs. IsList l → IsBlock x → b ≡ on_list l x rs) → IsList l → IsBlock x → b ≡ on_list l x s.lists
  on_list-told l x b f p q = of-shown (λ rs. IsList l → IsBlock x → b ≡ on_list l x rs) f p q ∙ sym (on_list-here l x)

  pub content-told : (x n : ℕ) → OfShown t (λ rs. placed x rs ≡ true → content_of rs x ≡ located_at n) → placed x s.lists ≡ true
      → content_of s.lists x ≡ Option.map (contents d) (located_at n)
  content-told x n f p = content-here x ∙ ap (Option.map (contents d)) (of-shown (λ rs. placed x rs ≡ true → content_of rs x ≡ located_at n) f (sym (placed-here x) ∙ p))

  pub next_after-told : (l p n : ℕ) → OfShown t (λ rs. taken l rs ≡ true → eqb p 0 || on_list l p rs ≡ true → n ≡ next_after rs l p)
      → taken l s.lists ≡ true → eqb p 0 || on_list l p s.lists ≡ true → n ≡ next_after s.lists l p
  next_after-told l p n f a b =
      of-shown (λ rs. taken l rs ≡ true → eqb p 0 || on_list l p rs ≡ true → n ≡ next_after rs l p) f (sym (taken_here l) ∙ a) (rw (on_list-here l p) at b)
      ∙ sym (next_after-here l p)

  pub taken_after-told : (l n : ℕ) → OfShown t (λ rs. eqb l 0 || taken l rs ≡ true → n ≡ taken_after rs l)
      → eqb l 0 || taken l s.lists ≡ true → n ≡ taken_after s.lists l
  taken_after-told l n f a = of-shown (λ rs. eqb l 0 || taken l rs ≡ true → n ≡ taken_after rs l) f (rw (taken_here l) at a) ∙ sym (taken_after-here l)
