-- End: the journal queued as members and a commit, the unit closed, and what the call performs.
use mathlib.Core.Path.{◌≡◌, refl, sym, ap, ◌∙◌, subst}
use mathlib.Core.Logic.{◌≢◌}
use mathlib.Core.Bool.{Bool, true, false, cond, false≢true}
use mathlib.Core.Option.{some}
use mathlib.Core.List.{List, [], ◌∷◌, ◌++◌, map}
use Prim.Native.Nat.{ℕ, ◌+◌, ◌-◌, ◌*◌, ◌≤◌, ◌<◌}
use native.Mathlib.Omega.{arith}
use lib.Dec.{leb, ltb, eqb}
use borrow.Author.Tests.{ltb-true, ltb-false}
use lib.ListN.{length, take, drop, get_or}
use Rattle.lists.specs.Basic.{is_some, all, from}
use Rattle.lists.specs.Change.{Change, map_change, carried_by}
use Rattle.lists.specs.State.{State, apply_all, overlay}
use Rattle.lists.specs.promises.Tables.{Tables, ShowsAll, OfShown}
use Rattle.lists.proofs.Basic.{some_of, from_step, from-none, all_from, le-true, gt-false}
use Rattle.lists.proofs.Lookup.{lists-shown}
use Rattle.card_log.specs.declared.entry.LogEntry.{LogEntry}
use Rattle.card_log.specs.declared.entry.LogEntry.TheVariants.{Take, PutFirst, PutAfter, Write, DeleteBlock, DeleteList, Commit}
use Rattle.card_log.specs.Card.{Written, slot, slot_bytes, splice}
use Rattle.card_log.specs.Entry.{member, commit, map_entry, carried, raw, legal, legal_change, as_change, as_entry}
use Rattle.card_log.specs.Cell.{cell_of, entry_in}
use Rattle.disk.specs.Record.{Unit as UnitOf, Record, no_cell, no_unit, ring_place, unit_at, appended, conflict_counted}
use Rattle.std.specs.Prelude.{Result, Ok, Err}
use Rattle.std.specs.Result.{IsErrAnd}
use Rattle.answers.specs.declared.Refusal.{Refusal}
use Rattle.answers.specs.declared.Refusal.TheVariants.{Conflict, QueueFull}
use Rattle.disk.specs.Disk.{Disk, disk, unit_of, journal_place, journal_at, journal_of, listing}
use Rattle.disk.specs.Call.{end, ends}
use Rattle.disk.specs.Sound.{lengths_right, record_sound, is_open_unit}
use Rattle.disk.specs.Questions.{end_applies, queue_room, questions, ask, first_no, refusal}
use Rattle.disk.specs.Perform.{splice_some, enqueue, enqueue_all, unit_entries, relisted, closing, conflicted, reply, accepted, refused}
use Rattle.answers.specs.Answers.{number, reply_answer}
use Rattle.disk.specs.promises.Listing.{Padded, relisted_all}
use Rattle.disk.proofs.Queue.{Beside, beside-all}
use Rattle.disk.proofs.Journal.{journal-size}
use Rattle.disk.proofs.Listing.{padded-same}
use Rattle.disk.proofs.Questions.{unit-range}
use Rattle.disk.proofs.Clauses.{OrderRight, right, open-window}
use Rattle.disk.proofs.AcceptedOrder.{reader-order}
use Rattle.disk.proofs.Soundness.{refused-same}
use Rattle.calls.specs.Performs.{Performs}
use Rattle.inspect.specs.promises.Located.{contents, journal_here}
use Rattle.inspect.specs.promises.Relisting.{RelistsJournal}
use Rattle.calls.specs.promises.Entering.{Admitted, entering}
use Rattle.inspect.specs.promises.Clauses.{change_in}
use Rattle.calls.specs.promises.Ending.{closed_over, QueuesMember, Ready, QueuesUnit, end_questions, EndsAs, Ends}
use Rattle.inspect.proofs.Asking.{exit_is, ask-yes, ask-no, last-yes, refused-more}
use Rattle.calls.proofs.Refusing.{reply-refused, end-performs-refused, performs-accepted}
use Rattle.inspect.proofs.Locating.{journal-here, applies-here}
use Rattle.inspect.proofs.Looking.{unit_lawful}
use Rattle.calls.proofs.Entering.{entered}
use Rattle.calls.proofs.Adding.{sound-padded}
use Rattle.calls.proofs.Closing.{dropped-closed, ended-closed}

-- A member joins the queue.
module _ (q j : List ℕ) (r : Record) (k : ℕ) where
  abbrev queued_as : LogEntry → Record
  queued_as e = appended (cell_of (as_entry true e)) r

  pub member-write : (b s n : ℕ) (q' : List ℕ) (r' : Record) → q' ≡ splice q (slot_bytes * ring_place r r.ring.len) (slot j k) → r' ≡ queued_as (Write b 0 n)
      → QueuesMember q j r (Write b s n) k q' r'
  unfolding enqueue map_change as_change carried carried_by splice_some cell_of raw map_entry as_entry
  member-write b s n q' r' h g c = rw (h, g)

  -- an entry that is no write carries nothing
  pub member-other : (e : LogEntry) (r' : Record) → ((b s n : ℕ) → e ≢ Write b s n) → legal (raw 0 (member (as_change e))) ≡ true → r' ≡ queued_as e
      → QueuesMember q j r e k q r'
  unfolding enqueue map_change as_change carried carried_by splice_some cell_of as_entry legal legal_change raw map_entry
  member-other (Take l) r' t h g c = rw g
  member-other (PutFirst b l) r' t h g c = rw g
  member-other (PutAfter b l p) r' t h g c = rw g
  member-other (Write b s n) r' t h g c = absurd (t b s n refl)
  member-other (DeleteBlock b) r' t h g c = rw g
  member-other (DeleteList l) r' t h g c = rw g
  member-other (Commit n) r' t h g c = absurd (false≢true h)

-- the content of place k, as a part of the journal data
pub part-slot : (q j : List ℕ) (i k : ℕ) → splice q i (take (256 * k + 256 - 256 * k) (drop (256 * k) j)) ≡ splice q i (slot j k)
unfolding slot
part-slot q j i k = let e : 256 * k + 256 - 256 * k ≡ 256 = omega arith in rw e

-- Along a journal: k of its entries are queued.
pub record Along (q₀ j : List ℕ) (u : ℕ) (r₀ : Record) (q : List ℕ) (r : Record) (k : ℕ) : Type 0 where
  pub within : k ≤ (unit_at r₀ u).len
  pub size : length q ≡ 8192
  pub len : r.ring.len ≡ r₀.ring.len + k
  pub head : r.ring.head ≡ r₀.ring.head
  pub units : r.held.units ≡ r₀.held.units
  pub rest : (c : List ℕ)
      → (let d = disk c q₀ j r₀ in
      let n = (unit_at r₀ u).len in
      enqueue_all (map member (from (journal_at d u) k (n - k)) ++ commit n ∷ []) (disk c q j r) ≡ enqueue_all (unit_entries (journal_of d u)) d)

pub along-start : (q j : List ℕ) (u : ℕ) (r : Record) → Ready q j r u → Along q j u r q r 0
unfolding unit_entries journal_of unit_of
along-start q j u r h =
    record {
      within = omega arith;
      size = h.queue_data;
      len = omega arith;
      head = refl;
      units = refl;
      rest = λ c.
          let d = disk c q j r in
          let n = (unit_at r u).len in
          let z : n - 0 ≡ n = omega arith in
          rw (z, journal-size d u);
    }

module _ (q₀ j : List ℕ) (u : ℕ) (r₀ : Record) (q : List ℕ) (r : Record) (k : ℕ) (a : Along q₀ j u r₀ q r k) where
  -- the entry that is queued next: the journal is as it was, and the entry may be queued
  abbrev next : Record → LogEntry
  next x = entry_in (get_or (unit_at x u).journal k no_cell)

  along-same : next r ≡ next r₀
  along-same = ap (λ (us : List UnitOf). entry_in (get_or (get_or us (u - 1) no_unit).journal k no_cell)) a.units

  pub along-lawful : (e : LogEntry) → e ≡ next r → Ready q₀ j r₀ u → k < (unit_at r₀ u).len → legal (raw 0 (member (as_change e))) ≡ true
  along-lawful e i h l =
      rw (i ∙ along-same) (all_from (λ c. legal (raw 0 (member c))) (change_in (unit_at r₀ u)) 0 (unit_at r₀ u).len h.lawful k (omega arith) (omega arith))

  pub along-step : (e : LogEntry) (q' : List ℕ) (r' : Record) → e ≡ next r → k < (unit_at r₀ u).len → length q' ≡ 8192
      → QueuesMember q j r e (journal_place u k) q' r' → Along q₀ j u r₀ q' r' (k + 1)
  unfolding enqueue enqueue_all journal_at unit_of
  along-step e q' r' i l z g =
      let h = subst (λ (x : LogEntry). QueuesMember q j r x (journal_place u k) q' r') (i ∙ along-same) g in
      record {
        within = omega arith;
        size = z;
        len = let e : r.ring.len + 1 ≡ r'.ring.len = ap (λ (d : Disk). d.rec.ring.len) (h []) in let f = a.len in omega arith;
        head = sym (ap (λ (d : Disk). d.rec.ring.head) (h [])) ∙ a.head;
        units = sym (ap (λ (d : Disk). d.rec.held.units) (h [])) ∙ a.units;
        rest = λ c.
            let d = disk c q₀ j r₀ in
            let n = (unit_at r₀ u).len in
            let es = map member (from (journal_at d u) (k + 1) (n - (k + 1))) ++ commit n ∷ [] in
            ap (enqueue_all es) (sym (h c))
            ∙ ap (λ (cs : List (Change Written)). enqueue_all (map member cs ++ commit n ∷ []) (disk c q j r)) (sym (from_step (journal_at d u) k n l))
            ∙ a.rest c;
      }

  pub along-end : (r' : Record) → (unit_at r₀ u).len ≤ k
      → r' ≡ appended (cell_of (as_entry false (Commit (unit_at r₀ u).len))) r → QueuesUnit q₀ j r₀ u q r'
  unfolding enqueue enqueue_all carried splice_some cell_of raw map_entry as_entry
  along-end r' l e c =
      let d = disk c q₀ j r₀ in
      let n = (unit_at r₀ u).len in
      sym (a.rest c)
      ∙ ap (λ (cs : List (Change Written)). enqueue_all (map member cs ++ commit n ∷ []) (disk c q j r)) (from-none (journal_at d u) k n l)
      ∙ ap (disk c q j) (sym e)

-- What queueing leaves alone.
module _ (q j : List ℕ) (r : Record) (u : ℕ) (q' : List ℕ) (r₁ : Record) (g : QueuesUnit q j r u q' r₁) where
  abbrev before : Disk
  before = disk [] q j r

  beside-unit : Beside before (disk [] q' j r₁)
  beside-unit = subst (Beside before) (g []) (beside-all (unit_entries (journal_of before u)) before)

  pub queued-units : r₁.held.units ≡ r.held.units
  queued-units = beside-unit.units

  pub queued-holder : r₁.held.holder ≡ r.held.holder
  queued-holder = beside-unit.holder

  pub queued-tally : r₁.tally ≡ r.tally
  queued-tally i = record { order = beside-unit.order i; listed = beside-unit.listed i; conflicts = beside-unit.conflicts i }

  pub queued-ready : Ready q j r u → Padded r₁ × ((unit_at r₁ u).len ≤ 15) × (1 ≤ u) × (u ≤ 4)
      × (all (λ c. legal (raw 0 (member c))) (from (change_in (unit_at r₁ u)) 0 (unit_at r₁ u).len) ≡ true)
  queued-ready w =
      let e : unit_at r₁ u ≡ unit_at r u = ap (λ (us : List UnitOf). get_or us (u - 1) no_unit) queued-units in
      (padded-same r r₁ queued-tally w.order, rw e w.room, w.first, w.last, rw e w.lawful)

-- The answers of End.
module _ (st : State ℕ) (q j : List ℕ) (r : Record) (u : ℕ) where
  abbrev all-apply : Bool
  all-apply = is_some (apply_all (journal_here (unit_at r u) u) st)

  pub ends-conflict : (r' : Record) → all-apply ≡ false → r' ≡ conflict_counted (unit_at r u).window (closed_over u st.lists r) → EndsAs st q j r u (Err Conflict) q r'
  unfolding number
  ends-conflict r' h e = (ask-no 12 all-apply _ h, refl, e)

  module _ (h : all-apply ≡ true) where
    pub ends-full : ltb (r.ring.len + (unit_at r u).len) 32 ≡ false → EndsAs st q j r u (Err QueueFull) q r
    unfolding number
    ends-full l = (ask-yes 12 all-apply _ h ∙ ask-no 13 _ [] (gt-false (r.ring.len + ((unit_at r u).len + 1)) 32 (omega (arith, ltb-false _ _ l))), refl, refl)

    pub ends-accepted : (t t' : Tables) (q' : List ℕ) (r₁ r₂ r' : Record) → ShowsAll t st → ltb (r.ring.len + (unit_at r u).len) 32 ≡ true → QueuesUnit q j r u q' r₁
        → RelistsJournal t (unit_at r₁ u) u r₁ r₂ t' → OfShown t' (λ rs. r' ≡ closed_over u rs r₂) → EndsAs st q j r u (Ok tt) q' r'
    ends-accepted t t' q' r₁ r₂ r' sh l g f c =
        let e : unit_at r₁ u ≡ unit_at r u = ap (λ (us : List UnitOf). get_or us (u - 1) no_unit) (queued-units q j r u q' r₁ g) in (
          ask-yes 12 all-apply _ h ∙ last-yes 13 _ (le-true (r.ring.len + ((unit_at r u).len + 1)) 32 (omega (arith, ltb-true _ _ l))),
          r₁,
          g,
          λ v a.
              let b : apply_all (journal_here (unit_at r₁ u) u) st ≡ some v = rw e a in
              c v.lists (lists-shown t' v (f.shows st v sh b))
              ∙ ap (closed_over u v.lists) (f.order st v sh b ∙ ap (λ (y : UnitOf). relisted_all (journal_here y u) st.lists r₁) e),
        )

asks-twelve : (a : Bool) (u : ℕ) (r : Record) → first_no (end_questions a r u) ≡ 0 → a ≡ true
unfolding first_no ask
asks-twelve true u r h = refl
asks-twelve false u r h = absurd (omega arith)

-- What the code needs of a disk whose unit u is open.
module _ (u : ℕ) (d : Disk) (t : Tables) (k : Admitted false d u t) where
  pub stands-ready : Ready d.queue_data d.journal_data d.rec u
  unfolding unit_of
  stands-ready =
      let g = right d k.lengths k.sound in
      let (p, q, o) = unit-range d u k.opened in
      let w = unit_lawful d u k.lengths k.sound p q in
      record {
        queue_data = g.log.queue_data;
        journal_data = g.journal_data;
        queue = g.log.room;
        head = g.log.head;
        first = p;
        last = q;
        room = w.room;
        opened = open-window (unit_of d u).window o;
        window = (g.units.units u p q).window;
        order = sound-padded d k.sound;
        lawful = w.lawful;
      }

  here : State ℕ
  here = k.located.here

  applied : Bool
  applied = is_some (apply_all (journal_here (unit_at d.rec u) u) here)

  asked : refusal (end u) d ≡ first_no (end_questions applied d.rec u)
  unfolding refusal questions end_applies queue_room unit_of applied here
  asked =
      entered false d u t ((12, end_applies d u) ∷ (13, leb (d.rec.ring.len + ((unit_at d.rec u).len + 1)) 32) ∷ []) k
      ∙ rw (k.located.means, applies-here d u k.located.here stands-ready.last stands-ready.room)

  state-order : OrderRight d (right d k.lengths k.sound).reader.state
  state-order = reader-order d (right d k.lengths k.sound) k.sound

  -- refused: 12 closes the unit as the definition does, 13 changes nothing
  refused_as : (n : ℕ) (r' : Record) → r' ≡ cond (eqb n 12) (conflict_counted (unit_at d.rec u).window (closed_over u here.lists d.rec)) d.rec
      → refused (end u) n d ≡ disk d.card d.queue_data d.journal_data r'
  unfolding refused ends conflicted unit_of here closing relisted
  refused_as n r' e = go (eqb n 12) refl e
    where
      go : (b : Bool) → eqb n 12 ≡ b → r' ≡ cond b (conflict_counted (unit_at d.rec u).window (closed_over u here.lists d.rec)) d.rec
          → refused (end u) n d ≡ disk d.card d.queue_data d.journal_data r'
      go true f e =
          rw (f, refused)
          (ap (λ (x : Record). disk d.card d.queue_data d.journal_data x)
          (sym (e ∙ ap (conflict_counted (unit_at d.rec u).window) (dropped-closed u d (right d k.lengths k.sound) state-order (contents d) here k.located.means))))
      go false f e = rw (f, refused) (ap (disk d.card d.queue_data d.journal_data) (sym e))

  -- accepted
  accepted-as : (q' : List ℕ) (r₁ r' : Record) → QueuesUnit d.queue_data d.journal_data d.rec u q' r₁ → applied ≡ true
      → ((v : State ℕ) → apply_all (journal_here (unit_at d.rec u) u) here ≡ some v → r' ≡ closed_over u v.lists (relisted_all (journal_here (unit_at d.rec u) u) here.lists r₁))
      → closing u (overlay (journal_of d u) (listing d)) (enqueue_all (unit_entries (journal_of d u)) d) ≡ disk d.card q' d.journal_data r'
  unfolding applied here unit_of closing relisted
  accepted-as q' r₁ r' g a f =
      let w = stands-ready in
      let (v, b) = some_of (apply_all (journal_here (unit_at d.rec u) u) here) a in
      let x = disk d.card q' d.journal_data r₁ in
      let s = overlay (journal_of d u) (listing d) in
      ap (closing u s) (g d.card)
      ∙ ap (disk d.card q' d.journal_data)
      (sym (f v b
      ∙ ended-closed u d (right d k.lengths k.sound) state-order (contents d) here k.located.means w.first w.last (journal_here (unit_at d.rec u) u) (journal-here d u w.last w.room) v b x
      (queued-holder d.queue_data d.journal_data d.rec u q' r₁ g) (queued-tally d.queue_data d.journal_data d.rec u q' r₁ g)))

  pub ends-performs : (x : Result (Unit {0}) Refusal) (q' : List ℕ) (r' : Record) → Ends t d.queue_data d.journal_data d.rec u x q' r'
      → Performs (end u) d (disk d.card q' d.journal_data r') (reply_answer x) []
  unfolding reply_answer accepted here applied
  ends-performs x q' r' f = go x (f here k.located.shows)
    where
      go : (x : Result (Unit {0}) Refusal) → EndsAs here d.queue_data d.journal_data d.rec u x q' r' → Performs (end u) d (disk d.card q' d.journal_data r') (reply_answer x) []
      go (Err x) (n, e, h) = end-performs-refused u d (disk d.card q' d.journal_data r') x (refused_as (number x) r' h ∙ ap (λ (y : List ℕ). disk d.card y d.journal_data r') (sym e)) (asked ∙ n)
      go (Ok done) (n, r₁, g, h) =
          performs-accepted (end u) d _ (asked ∙ n) (ap (λ (y : Disk). reply y 0 0 []) (accepted-as q' r₁ r' g (asks-twelve applied u d.rec n) h))

-- refused by question 1, 3 or 4
no-twelve : (a b c : Bool) → first_no ((1, a) ∷ (3, b) ∷ (4, c) ∷ []) ≢ 12
unfolding first_no ask
no-twelve false b c e = omega arith
no-twelve true false c e = omega arith
no-twelve true true false e = omega arith
no-twelve true true true e = omega arith

pub end-not-entered : (u : ℕ) (d : Disk) (r : Result (Unit {0}) Refusal) (x : Refusal) → IsErrAnd r (λ y. y ≡ x) → first_no (entering false d u) ≡ number x → Performs (end u) d d (reply_answer r) []
unfolding refusal questions
end-not-entered u d r x e h =
    rw (exit_is r x e, reply-refused x)
    (end-performs-refused u d d x (refused-same (end u) (number x) d (λ e. no-twelve (lengths_right d) (record_sound d) (is_open_unit d u) (h ∙ e)))
    (refused-more x (entering false d u) ((12, end_applies d u) ∷ (13, queue_room d ((unit_of d u).len + 1)) ∷ []) h))
