-- What the empty state has and every legal change keeps, every open view of a sound disk has (`view-kept`).
use mathlib.Core.Path.{◌≡◌, refl, subst}
use mathlib.Core.Bool.{Bool, true}
use mathlib.Core.Option.{Option, none, some, some-injective}
use mathlib.Core.List.{List, [], ◌∷◌}
use Prim.Native.Nat.{ℕ, ◌+◌, ◌-◌}
use lib.Dec.{leb}
use lib.ListN.{length, get_or}
use Rattle.lists.specs.Basic.{bind, all, joined, or_else}
use Rattle.lists.specs.Change.{Change, map_change}
use Rattle.lists.specs.State.{State, empty, apply, apply_all, overlay}
use Rattle.lists.proofs.Basic.{and-true, guard-some, bind-some, all_append, all_drop, all-each}
use Rattle.card_log.specs.Raced.{with_body}
use Rattle.card_log.specs.Entry.{Entry, plain, member, commit, map_entry, carried, raw, legal, legal_change}
use Rattle.card_log.specs.Reader.{Reader, settled, start, last_of, read, replay}
use Rattle.card_log.specs.Card.{Written, used_by}
use Rattle.card_log.proofs.Segment.{Fine}
use Rattle.card_log.proofs.Numbers.{all-joined}
use Rattle.disk.specs.Disk.{Disk, queued, journal_of, state_of, persistent, committed, view}
use Rattle.disk.specs.Sound.{is_open_unit, journal_sound}
use Rattle.disk.specs.Questions.{view_open}
use Rattle.disk.proofs.Questions.{unit-range, open-views}
use Rattle.disk.proofs.Clauses.{Right, committed-is}
use Rattle.disk.proofs.Draining.{Open, open-log}

-- Q is what is kept, by the changes that pass the test.
module _ (Q : State Written → Type 0) (ok : Change Written → Bool) (begins : Q empty)
    (lawful : (k : ℕ) (c : Change Written) → legal_change (map_change (with_body k) c) ≡ true → ok c ≡ true)
    (keeps : (c : Change Written) (s t : State Written) → ok c ≡ true → apply c s ≡ some t → Q s → Q t) where
  all-keeps : (cs : List (Change Written)) (s t : State Written) → all ok cs ≡ true → apply_all cs s ≡ some t → Q s → Q t
  unfolding apply_all all
  all-keeps [] s t m e h = subst Q (some-injective _ _ e) h
  all-keeps (c ∷ cs) s t m e h =
      let (u, f, g) = bind-some (apply c s) (λ x. apply_all cs x) t e in
      let (a, b) = and-true (ok c) (all ok cs) m in
      all-keeps cs u t b g (keeps c s u a f h)

  overlay-keeps : (cs : List (Change Written)) (s : State Written) → all ok cs ≡ true → Q s → Q (overlay cs s)
  unfolding overlay or_else all
  overlay-keeps [] s m h = h
  overlay-keeps (c ∷ cs) s m h =
      let (a, b) = and-true (ok c) (all ok cs) m in
      overlay-keeps cs (or_else s (apply c s)) b (go a (apply c s) refl)
    where
      go : ok c ≡ true → (o : Option (State Written)) → apply c s ≡ o → Q (or_else s o)
      go a none e = h
      go a (some t) e = keeps c s t a e h

  -- does the entry's change pass?
  passes : Entry Written → Bool
  passes (plain c) = ok c
  passes (member c) = ok c
  passes (commit n) = true

  legal-passes : (k : ℕ) (e : Entry Written) → legal (raw k e) ≡ true → passes e ≡ true
  unfolding legal raw map_entry passes
  legal-passes k (plain c) h = lawful k c h
  legal-passes k (member c) h = lawful k c h
  legal-passes k (commit n) h = refl

  -- between two entries: the state, and the run's changes
  record Kept (r : Reader Written) : Type 0 where
    state : Q r.state
    run : all ok r.run ≡ true

  start-kept : Kept start
  unfolding all
  start-kept = record { state = begins; run = refl }

  settled-kept : (o : Option (State Written)) (q : Reader Written) → bind o (λ s. some (settled s)) ≡ some q → ((t : State Written) → o ≡ some t → Q t) → Kept q
  unfolding all
  settled-kept o q e f =
      let (t, a, b) = bind-some o (λ s. some (settled s)) q e in
      subst Kept (some-injective _ _ b) (record { state = f t a; run = refl })

  read_kept : (r q : Reader Written) (e : Entry Written) → passes e ≡ true → read r e ≡ some q → Kept r → Kept q
  unfolding read passes last_of all
  read_kept r q (plain c) m h i = settled-kept (apply c r.state) q h (λ t e. keeps c r.state t m e i.state)
  read_kept r q (member c) m h i = subst Kept (some-injective _ _ h) (record { state = i.state; run = all_append ok r.run (c ∷ []) i.run (rw m) })
  read_kept r q (commit n) m h i =
      let (a, b) = guard-some (leb n (length r.run)) (bind (apply_all (last_of n r.run) r.state) (λ s. some (settled s))) q h in
      settled-kept (apply_all (last_of n r.run) r.state) q b
      (λ t e. all-keeps (last_of n r.run) r.state t (all_drop ok (length r.run - n) r.run i.run) e i.state)

  replay-kept : (r q : Reader Written) (es : List (Entry Written)) → all passes es ≡ true → replay r es ≡ some q → Kept r → Kept q
  unfolding replay all
  replay-kept r q [] m h i = subst Kept (some-injective _ _ h) i
  replay-kept r q (e ∷ es) m h i =
      let (x, a, b) = bind-some (read r e) (λ y. replay y es) q h in
      let (u, v) = and-true (passes e) (all passes es) m in
      replay-kept x q es v b (read_kept r x e u a i)

  -- The entries of a card, of a queue and of a journal are legal.
  fine-passes : (k : ℕ) (es : List (Entry Written)) → Fine k es → all passes es ≡ true
  unfolding all
  fine-passes k [] f = refl
  fine-passes k (e ∷ es) f = rw (legal-passes k e f.0) (fine-passes (k + used_by (carried e)) es f.2)

  module _ (d : Disk) (k : Right d) where
    opened : Open d k.reader
    opened = open-log d k.reader k.log

    card-kept : Kept opened.reader
    card-kept =
        let o = opened in
        replay-kept start o.reader (joined o.segs)
        (all-joined passes o.segs (λ h l. fine-passes 0 (get_or o.segs h []) (o.flows.carries.holds h l).fine))
        o.first start-kept

    persistent-kept : Q (persistent d)
    unfolding persistent state_of
    persistent-kept = rw opened.walks card-kept.state

    committed-kept : Q (committed d)
    committed-kept =
        let o = opened in
        rw (committed-is d k.reader k.log.replays)
        (replay-kept o.reader k.reader (queued d) (all-each (λ e. legal (raw 0 e)) passes (queued d) (legal-passes 0) k.log.lawful) o.onward card-kept).state

    unit_kept : (u : ℕ) → is_open_unit d u ≡ true → Q (overlay (journal_of d u) (committed d))
    unfolding journal_sound passes
    unit_kept u h =
        let (p, q, o) = unit-range d u h in
        overlay-keeps (journal_of d u) (committed d)
        (all-each (journal_sound d.rec u) ok (journal_of d u) (λ c j. legal-passes 0 (member c) (and-true (legal (raw 0 (member c))) _ j).0) (k.units.units u p q).sound)
        committed-kept

    pub view-kept : (v : ℕ) → view_open d v ≡ true → Q (view d v)
    view-kept v h = open-views d Q persistent-kept committed-kept unit_kept v h
