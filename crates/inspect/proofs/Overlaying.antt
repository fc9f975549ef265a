-- A journal's changes laid over a state, one by one: what is left of it leads from the state that the tables show to where the whole led.
use mathlib.Core.Path.{◌≡◌, refl, sym, ap, ◌∙◌}
use mathlib.Core.Bool.{Bool, true, false, ◌&&◌, false≢true}
use mathlib.Core.Bool as bool
use mathlib.Core.Option.{Option, none, some}
use mathlib.Core.List.{List, [], ◌∷◌}
use Prim.Native.Nat.{ℕ, ◌+◌, ◌-◌, ◌*◌, ◌≤◌, ◌<◌}
use native.Mathlib.Omega.{arith}
use lib.ListN.{get_or}
use Rattle.lists.specs.Basic.{is_some, or_else, bind, all, from}
use Rattle.lists.specs.Change.{Change, map_change}
use Rattle.lists.specs.State.{State, apply, apply_all, overlay}
use Rattle.lists.specs.promises.Tables.{Tables, ShowsAll, Ranged, Represents, Did, of_kind}
use Rattle.lists.proofs.Basic.{and-true, leb-true, from_step, from-none, all_from}
use Rattle.lists.proofs.Represents.{did-apply, did-overlay}
use Rattle.card_log.specs.Entry.{member, map_entry, raw, legal, legal_change, is_block, is_list, is_race, as_change}
use Rattle.card_log.specs.Cell.{entry_in}
use Rattle.card_log.specs.declared.entry.LogEntry.{LogEntry}
use Rattle.card_log.specs.declared.entry.LogEntry.TheVariants.{Take, PutFirst, PutAfter, Write, DeleteBlock, DeleteList, Commit}
use Rattle.card_log.proofs.Feeding.{fields_change}
use Rattle.card_log.specs.promises.Location.{number_at, journal_location}
use Rattle.card_log.specs.promises.Feed.{fields_of}
use Rattle.disk.specs.Record.{Unit, no_cell}
use Rattle.disk.specs.Disk.{journal_place}
use Rattle.inspect.specs.promises.Located.{change_here, journal_here}
use Rattle.inspect.specs.promises.Clauses.{Overlays, change_in}
use Rattle.inspect.proofs.Judging.{and-behind}

block-range : (b : ℕ) → is_block b ≡ true → (1 ≤ b) × (b ≤ 64)
block-range b h = let (p, q) = and-true _ _ h in (leb-true 1 b p, leb-true b 64 q)

list-range : (l : ℕ) → is_list l ≡ true → (1 ≤ l) × (l ≤ 16)
list-range l h = let (p, q) = and-true _ _ h in (leb-true 1 l p, leb-true l 16 q)

-- a change that may stand in a journal, by its fields, its write's bytes at location d, which is not 0
pub member-change : (e : LogEntry) (d : ℕ) → 1 ≤ d → legal (raw 0 (member (as_change e))) ≡ true
    → (fields_change e (d + 2048 * (fields_of e).race) ≡ some (map_change (number_at d) (as_change e))) × Ranged (map_change (number_at d) (as_change e))
unfolding of_kind as_change map_change map_entry raw legal legal_change
member-change (Take l) d n h = (refl, list-range l h)
member-change (PutFirst b l) d n h = let (p, q) = and-true (is_block b) (is_list l) h in (refl, (block-range b p, list-range l q))
member-change (PutAfter b l x) d n h =
    let (r, q) = and-true (is_block b && is_list l) (is_block x) h in
    let (p, s) = and-true (is_block b) (is_list l) r in
    (refl, (block-range b p, list-range l s, block-range x q))
member-change (Write b s r) d n h = (refl, (block-range b (and-true (is_block b) true (and-true (is_block b && true) (is_race r) h).0).0, omega arith))
member-change (DeleteBlock b) d n h = (refl, block-range b h)
member-change (DeleteList l) d n h = (refl, list-range l h)
member-change (Commit k) d n h = absurd (false≢true h)

-- its race, as a table's number may have it
pub member-race : (e : LogEntry) → legal (raw 0 (member (as_change e))) ≡ true → (fields_of e).race ≤ 24
unfolding as_change map_change map_entry raw legal legal_change
member-race (Take l) h = omega arith
member-race (PutFirst b l) h = omega arith
member-race (PutAfter b l x) h = omega arith
member-race (Write b s r) h = leb-true r 24 (and-true (is_block b && true) (is_race r) h).1
member-race (DeleteBlock b) h = omega arith
member-race (DeleteList l) h = omega arith
member-race (Commit k) h = omega arith

-- entry k of unit u's journal
pub change-here : (x : Unit) (u k : ℕ) (e : LogEntry) (d : ℕ) → e ≡ entry_in (get_or x.journal k no_cell) → d ≡ journal_location (journal_place u k)
    → map_change (number_at d) (as_change e) ≡ change_here x u k
unfolding change_here
change-here x u k e d p q = rw (p, q)

-- a change made or skipped, and the changes behind it
turn : (c : Change ℕ) (cs : List (Change ℕ)) (v : State ℕ) (r : Bool) (u : Tables) → Represents (apply c v) r u
    → r && is_some (apply_all cs (or_else v (apply c v))) ≡ is_some (apply_all (c ∷ cs) v)
unfolding apply_all is_some or_else
turn c cs v r u h = go (apply c v) h
  where
    go : (o : Option (State ℕ)) → Represents o r u → r && is_some (apply_all cs (or_else v o)) ≡ is_some (bind o (λ t. apply_all cs t))
    go none h = rw h
    go (some w) h = rw h.0

-- the changes of unit u's journal from number k on
abbrev pub rest_of : Unit → ℕ → ℕ → List (Change ℕ)
rest_of x u k = from (change_here x u) k (x.len - k)

-- the tables show v, from which the changes from number k on lead where all of them led from s
pub record Laid (x : Unit) (u : ℕ) (s : State ℕ) (every : Bool) (k : ℕ) (t : Tables) : Type 0 where
  pub now : State ℕ
  pub shows : ShowsAll t now
  pub leads : overlay (rest_of x u k) now ≡ overlay (journal_here x u) s
  pub applies : every && is_some (apply_all (rest_of x u k) now) ≡ is_some (apply_all (journal_here x u) s)

pub laid_none : (x : Unit) (u : ℕ) (s : State ℕ) (t : Tables) → ShowsAll t s → Laid x u s true 0 t
unfolding journal_here
laid_none x u s t h = let e : x.len - 0 ≡ x.len = omega arith in record { now = s; shows = h; leads = rw e; applies = rw e }

module _ (x : Unit) (u : ℕ) (s : State ℕ) (lawful : all (λ c. legal (raw 0 (member c))) (from (change_in x) 0 x.len) ≡ true) where
  lawful-at : (k : ℕ) → k < x.len → legal (raw 0 (member (change_in x k))) ≡ true
  lawful-at k l = all_from _ (change_in x) 0 x.len lawful k (omega arith) (omega arith)

  pub laid-turn : (every r : Bool) (k : ℕ) (t t' : Tables) → k < x.len → Did (change_here x u k) t r t' → Laid x u s every k t → Laid x u s (every && r) (k + 1) t'
  unfolding overlay change_here
  laid-turn every r k t t' l d h =
      let c = change_here x u k in
      let g = (member-change (entry_in (get_or x.journal k no_cell)) (journal_location (journal_place u k)) (omega arith) (lawful-at k l)).1 in
      let q : rest_of x u k ≡ c ∷ rest_of x u (k + 1) = from_step (change_here x u) k x.len l in
      record {
        now = or_else h.now (apply c h.now);
        shows = did-overlay c t r t' h.now g h.shows d;
        leads = ap (λ (cs : List (Change ℕ)). overlay cs h.now) (sym q) ∙ h.leads;
        applies = and-behind every r (is_some (apply_all (rest_of x u (k + 1)) (or_else h.now (apply c h.now))))
            ∙ ap (λ (b : Bool). every && b) (turn c (rest_of x u (k + 1)) h.now r t' (did-apply c t r t' h.now g h.shows d))
            ∙ ap (λ (cs : List (Change ℕ)). every && is_some (apply_all cs h.now)) (sym q)
            ∙ h.applies;
      }

pub laid-all : (x : Unit) (u : ℕ) (t : Tables) (every : Bool) (k : ℕ) (t' : Tables) → x.len ≤ k
    → ((s : State ℕ) → ShowsAll t s → Laid x u s every k t') → Overlays t x u every t'
unfolding overlay apply_all is_some
laid-all x u t every k t' l h =
    let q : rest_of x u k ≡ [] = from-none (change_here x u) k x.len l in
    record {
      answer = λ s w. let y = h s w in sym (bool.and-true every) ∙ ap (λ (cs : List (Change ℕ)). every && is_some (apply_all cs y.now)) (sym q) ∙ y.applies;
      shows = λ s w. let y = h s w in rw (← y.leads, q) y.shows;
    }
