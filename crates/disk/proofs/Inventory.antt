-- The lists of every open view are numbered 1 to 16 and stand once each; so an accepted inventory has room for them (`inventory-fills`).
use mathlib.Core.Path.{◌≡◌, refl, sym, ap, ◌∙◌}
use mathlib.Core.Logic.{⊎_elim}
use mathlib.Core.Bool.{true, false, false≢true}
use mathlib.Core.List.{List, [], ◌∷◌, ◌++◌, map}
use Prim.Native.Nat.{ℕ, ◌+◌, ◌-◌, ◌≤◌}
use native.Mathlib.Omega.{arith}
use lib.Dec.{leb}
use lib.ListN.{length, drop, length-append, length-drop, length-map}
use lib.Seq.{take_at, drop_at}
use borrow.Author.Tests.{lt-leb}
use Rattle.lists.specs.Basic.{any, all, joined}
use Rattle.lists.specs.Change.{Change, take_list, put_first, put_after, write, del_block, del_list, map_change}
use Rattle.lists.specs.State.{Row, State, taken, overlay}
use Rattle.lists.specs.InUse.{list_number, in_use}
use Rattle.lists.proofs.Basic.{and-true, or_cases, eqb_same, eqb-true, leb-true, all-each}
use Rattle.lists.proofs.Count.{takes}
use Rattle.lists.proofs.Distinct.{Distinct, empty-distinct, overlay-distinct}
use Rattle.lists.proofs.Numbers.{may_take, numbered, overlay-numbered, lists-few}
use Rattle.lists.proofs.Takings.{TakesNew}
use Rattle.card_log.specs.Entry.{Entry, member, map_entry, raw, legal, legal_change, is_list}
use Rattle.card_log.specs.Reader.{start}
use Rattle.card_log.specs.Card.{Written}
use Rattle.card_log.proofs.Distinct.{replay-distinct}
use Rattle.card_log.proofs.Numbers.{may_enter, legal-enters, InRange, start-range, replay-range, carries-enters}
use Rattle.disk.specs.Record.{Record, holder_of}
use Rattle.disk.specs.Disk.{Disk, queued, journal_of, state_of, persistent, committed, view}
use Rattle.disk.specs.Sound.{is_open_unit, journal_sound}
use Rattle.disk.specs.Call.{inventory, in_view}
use Rattle.disk.specs.Questions.{view_open, look_questions, questions}
use Rattle.lists.specs.Lookup.{list_nums}
use Rattle.disk.specs.Perform.{found, accepted}
use Rattle.disk.specs.Statements.{Fills, InventoryFills}
use Rattle.disk.proofs.Questions.{yes-all, unit-range, open-views}
use Rattle.disk.proofs.Held.{journal-held}
use Rattle.disk.proofs.Clauses.{Right, right, committed-is}
use Rattle.disk.proofs.Performing.{perform-accepted}
use Rattle.disk.proofs.Draining.{Open, open-log}

-- each list once, and numbered in range
pub record Listed (s : State Written) : Type 0 where
  pub distinct : Distinct s.lists
  pub range : numbered is_list s.lists ≡ true

-- A unit's journal takes lists in range.
journal-takes : (r : Record) (u : ℕ) (cs : List (Change Written)) → all (journal_sound r u) cs ≡ true → all (may_take is_list) cs ≡ true
unfolding journal_sound may_enter
journal-takes r u cs h = all-each (journal_sound r u) (may_take is_list) cs (λ c k. legal-enters 0 (member c) (and-true (legal (raw 0 (member c))) _ k).0) h

queue-enters : (es : List (Entry Written)) → all (λ e. legal (raw 0 e)) es ≡ true → all may_enter es ≡ true
queue-enters es h = all-each (λ e. legal (raw 0 e)) may_enter es (λ e. legal-enters 0 e) h

module _ (d : Disk) (k : Right d) where
  opened : Open d k.reader
  opened = open-log d k.reader k.log

  card-distinct : Distinct opened.reader.state.lists
  card-distinct = replay-distinct start opened.reader (joined opened.segs) opened.first empty-distinct

  card-range : InRange opened.reader
  card-range = replay-range start opened.reader (joined opened.segs) (carries-enters d.card opened.segs opened.flows.carries) opened.first start-range

  persistent-listed : Listed (persistent d)
  unfolding persistent state_of
  persistent-listed = rw opened.walks (record { distinct = card-distinct; range = card-range.lists })

  committed-listed : Listed (committed d)
  committed-listed =
      let o = opened in
      rw (committed-is d k.reader k.log.replays) (record {
        distinct = replay-distinct o.reader k.reader (queued d) o.onward card-distinct;
        range = (replay-range o.reader k.reader (queued d) (queue-enters (queued d) k.log.lawful) o.onward card-range).lists;
      })

  unit-listed : (u : ℕ) → is_open_unit d u ≡ true → Listed (overlay (journal_of d u) (committed d))
  unit-listed u h =
      let (p, q, o) = unit-range d u h in
      let c = committed-listed in
      record {
        distinct = overlay-distinct (journal_of d u) (committed d) c.distinct;
        range = overlay-numbered is_list (journal_of d u) (committed d) (journal-takes d.rec u (journal_of d u) (k.units.units u p q).sound) c.range;
      }

  pub view-listed : (v : ℕ) → view_open d v ≡ true → Listed (view d v)
  view-listed v h = open-views d Listed persistent-listed committed-listed unit-listed v h

-- A list that a sound journal takes is held by its unit, and in range.
pub journal-takes-held : (r : Record) (u : ℕ) (cs : List (Change Written)) (l : ℕ) → all (journal_sound r u) cs ≡ true → any (λ c. takes c l) cs ≡ true
    → (holder_of r (list_number l) ≡ u) × (is_list l ≡ true)
unfolding all journal_sound legal raw map_entry map_change legal_change
journal-takes-held r u [] l h e = absurd (false≢true e)
journal-takes-held r u (c ∷ cs) l h e =
    let (x, y) = and-true (journal_sound r u c) (all (journal_sound r u) cs) h in
    ⊎_elim (λ t. here c x t) (journal-takes-held r u cs l y) (or_cases (takes c l) _ e)
  where
    taking : (c : Change Written) → takes c l ≡ true → c ≡ take_list l
    taking (take_list n) t = ap take_list (eqb-true n l t)
    taking (put_first b n) t = absurd (false≢true t)
    taking (put_after b n p) t = absurd (false≢true t)
    taking (write b d) t = absurd (false≢true t)
    taking (del_block b) t = absurd (false≢true t)
    taking (del_list n) t = absurd (false≢true t)

    here : (c : Change Written) → journal_sound r u c ≡ true → takes c l ≡ true → (holder_of r (list_number l) ≡ u) × (is_list l ≡ true)
    here c x t =
        let k : journal_sound r u (take_list l) ≡ true = ap (journal_sound r u) (sym (taking c t)) ∙ x in
        (journal-held r u (take_list l) (list_number l) k (rw (eqb_same (list_number l))), (and-true (is_list l) _ k).0)

-- So it is not taken in the committed state.
pub unit-takes-new : (d : Disk) → Right d → (u : ℕ) → is_open_unit d u ≡ true → TakesNew (journal_of d u) (committed d).lists
unfolding in_use
unit-takes-new d k u h l e =
    let (p, q, o) = unit-range d u h in
    let (held, range) = journal-takes-held d.rec u (journal_of d u) l (k.units.units u p q).sound e in
    let (lo, hi) = and-true (leb 1 l) (leb l 16) range in
    rw (committed-is d k.reader k.log.replays)
    (not-used l (leb-true 1 l lo) (⊎_elim (λ z. absurd (omega arith)) (λ z. z.1) (k.units.holders (list_number l) (omega arith) (omega (arith, leb-true l 16 hi)))))
  where
    not-used : (l : ℕ) → 1 ≤ l → in_use (list_number l) k.reader.state.lists ≡ false → taken l k.reader.state.lists ≡ false
    not-used l lo z = let n : 64 + l - 64 ≡ l = omega arith in rw (lt-leb (64 + l) 64 (omega arith), n) at z

-- The lists of a state in the destination: they are at most 16.
listed-fills : (s : State Written) (x : List ℕ) → Listed s → length x ≡ 16 → Fills (list_nums s.lists) (length (list_nums s.lists)) x (list_nums s.lists ++ drop (length (list_nums s.lists)) x)
unfolding list_nums
listed-fills s x k e = record {
  many = refl;
  first = take_at ls (drop (length ls) x) (length ls) refl;
  others = drop_at ls (drop (length ls) x) (length ls) refl;
  size = omega (arith, length-map s.lists (λ (r : Row Written). r.num), lists-few 16 s.lists k.distinct k.range, length-append ls (drop (length ls) x), length-drop (length ls) x);
}
  where
    ls : List ℕ
    ls = map (λ (r : Row Written). r.num) s.lists

pub inventory-fills : InventoryFills
unfolding questions look_questions accepted found
inventory-fills v x d h =
    let y = yes-all (in_view v (inventory x)) d h in
    rw (perform-accepted (in_view v (inventory x)) d h) (listed-fills (view d v) x (view-listed d (right d (y 0) (y 1)) v (y 2)) (eqb-true (length x) 16 (y 3)))
