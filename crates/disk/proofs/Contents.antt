-- Every content that an open view of a sound disk shows has 256 bytes (`view-sized`): what the log, the queue and the journals carry has them, so a map
-- that leaves contents of 256 bytes alone leaves the state alone, whose contents are then results of that map.
use mathlib.Core.Path.{◌≡◌, refl, sym, ap, ◌∙◌}
use mathlib.Core.Logic.{⊎_elim}
use mathlib.Core.Bool.{true, false, cond}
use mathlib.Core.Option.{some, some-injective}
use mathlib.Core.List.{List, [], ◌∷◌, ◌++◌, map}
use Prim.Native.Nat.{ℕ, suc, ◌+◌, ◌<◌}
use native.Mathlib.Omega.{arith}
use lib.Dec.{eqb}
use lib.ListN.{length, get_or, replicate, length-replicate}
use Rattle.lists.specs.Basic.{joined}
use Rattle.lists.specs.Change.{Change, take_list, put_first, put_after, write, del_block, del_list, map_change, carried_by}
use Rattle.lists.specs.State.{State, overlay, map_state}
use Rattle.lists.specs.Lookup.{content_of}
use Rattle.lists.proofs.Basic.{eq-true, eqb-true, either}
use Rattle.lists.proofs.Naturality.{overlay-map, content_of-map}
use Rattle.card_log.specs.Raced.{with_body}
use Rattle.card_log.specs.Entry.{Entry, plain, member, commit, map_entry, carried}
use Rattle.card_log.specs.Reader.{Reader, start, replay}
use Rattle.card_log.specs.Card.{Written, card_length, segments_in, used_by, sound, mounted}
use Rattle.card_log.proofs.CardLength.{card-size}
use Rattle.card_log.proofs.Naturality.{map_reader, replay-map}
use Rattle.card_log.proofs.Segment.{Sized, Fine, Carries}
use Rattle.card_log.proofs.Regain.{carries-read}
use Rattle.disk.specs.Disk.{Disk, queued, journal_of, state_of, persistent, committed, view}
use Rattle.disk.specs.Sound.{lengths_right, record_sound, is_open_unit}
use Rattle.disk.specs.Questions.{view_open}
use Rattle.disk.specs.Perform.{unit_entries}
use Rattle.disk.proofs.Queue.{AllSized, queued-sized}
use Rattle.disk.proofs.Journal.{unit-sized}
use Rattle.disk.proofs.Questions.{unit-range, open-views}
use Rattle.disk.proofs.Clauses.{Right, right, committed-is}
use Rattle.disk.proofs.Draining.{Open, open-log}

-- the content where it has 256 bytes, else others
unfoldable fit : Written → Written
fit x = with_body (cond (eqb (length x.body) 256) x.body (replicate 256 0)) x

fit_same : (x : Written) → length x.body ≡ 256 → fit x ≡ x
unfolding fit
fit_same x h = rw (eq-true (length x.body) 256 h)

fit-sized : (x : Written) → length (fit x).body ≡ 256
unfolding fit
fit-sized x = ⊎_elim
    (λ (e : eqb (length x.body) 256 ≡ true). rw e (eqb-true (length x.body) 256 e))
    (λ (e : eqb (length x.body) 256 ≡ false). rw e (length-replicate {A = ℕ} 256 0))
    (either (eqb (length x.body) 256))

-- It leaves alone what carries contents of 256 bytes.
change-fit : (c : Change Written) → Sized (carried_by c) → map_change fit c ≡ c
unfolding map_change carried_by
change-fit (take_list l) h = refl
change-fit (put_first b l) h = refl
change-fit (put_after b l p) h = refl
change-fit (write b x) h = ap (write b) (fit_same x h)
change-fit (del_block b) h = refl
change-fit (del_list l) h = refl

entry-fit : (e : Entry Written) → Sized (carried e) → map_entry fit e ≡ e
unfolding map_entry carried
entry-fit (plain c) h = ap plain (change-fit c h)
entry-fit (member c) h = ap member (change-fit c h)
entry-fit (commit n) h = refl

entries_fit : (es : List (Entry Written)) → AllSized es → map (map_entry fit) es ≡ es
entries_fit [] h = refl
entries_fit (e ∷ es) h = rw (entry-fit e h.0, entries_fit es h.1)

members-fit : (cs : List (Change Written)) (n : ℕ) → AllSized (map member cs ++ commit n ∷ []) → map (map_change fit) cs ≡ cs
unfolding carried
members-fit [] n h = refl
members-fit (c ∷ cs) n h = rw (change-fit c h.0, members-fit cs n h.1)

journal-fit : (cs : List (Change Written)) → AllSized (unit_entries cs) → map (map_change fit) cs ≡ cs
unfolding unit_entries
journal-fit cs h = members-fit cs (length cs) h

-- So a reader and a state that it leaves alone are led to such ones.
replay-fit : (r q : Reader Written) (es : List (Entry Written)) → AllSized es → replay r es ≡ some q → map_reader fit r ≡ r → map_reader fit q ≡ q
replay-fit r q es z h f = some-injective _ _ (rw (f, entries_fit es z, h) at (sym (replay-map fit r es)))

overlay-fit : (cs : List (Change Written)) (s : State Written) → map (map_change fit) cs ≡ cs → map_state fit s ≡ s → map_state fit (overlay cs s) ≡ overlay cs s
overlay-fit cs s c f = rw (c, f) at (sym (overlay-map fit cs s))

shown-sized : (s : State Written) → map_state fit s ≡ s → (b : ℕ) (x : Written) → content_of s.lists b ≡ some x → length x.body ≡ 256
shown-sized s f b x h =
    let e : fit x ≡ x = some-injective _ _ (rw h at (sym (content_of-map fit s.lists b) ∙ ap (λ (t : State Written). content_of t.lists b) f ∙ h)) in
    ap (λ (w : Written). length w.body) (sym e) ∙ fit-sized x

-- The entries that a card carries.
fine-sized : (k : ℕ) (es : List (Entry Written)) → Fine k es → AllSized es
fine-sized k [] f = tt
fine-sized k (e ∷ es) f = (f.1, fine-sized (k + used_by (carried e)) es f.2)

sized-append : (xs ys : List (Entry Written)) → AllSized xs → AllSized ys → AllSized (xs ++ ys)
sized-append [] ys h k = k
sized-append (x ∷ xs) ys h k = (h.0, sized-append xs ys h.1 k)

sized-joined : (ess : List (List (Entry Written))) → ((h : ℕ) → h < length ess → Fine 0 (get_or ess h [])) → AllSized (joined ess)
unfolding joined
sized-joined [] f = tt
sized-joined (es ∷ ess) f = sized-append es (joined ess) (fine-sized 0 es (f 0 (omega arith))) (sized-joined ess (λ h l. f (suc h) (omega arith)))

card-fit : (c : List ℕ) (ess : List (List (Entry Written))) (r : Reader Written) → Carries c ess → replay start (joined ess) ≡ some r → map_reader fit r ≡ r
card-fit c ess r k h = replay-fit start r (joined ess) (sized-joined ess (λ h l. (k.holds h l).fine)) h refl

-- The contents of a card that mounts.
pub mounted-sized : (c : List ℕ) (r : Reader Written) → card_length c ≡ true → mounted c ≡ sound r → (b : ℕ) (x : Written) → content_of r.state.lists b ≡ some x → length x.body ≡ 256
mounted-sized c r l w =
    let (a, n) = card-size c l in
    let (ess, k, v) = carries-read (segments_in c) c r n a w in
    shown-sized r.state (ap (λ (q : Reader Written). q.state) (card-fit c ess r k v))

-- The views.
module _ (d : Disk) (k : Right d) where
  opened : Open d k.reader
  opened = open-log d k.reader k.log

  reader-fit : map_reader fit opened.reader ≡ opened.reader
  reader-fit = card-fit d.card opened.segs opened.reader opened.flows.carries opened.first

  persistent-fit : map_state fit (persistent d) ≡ persistent d
  unfolding persistent state_of
  persistent-fit = rw opened.walks (ap (λ (q : Reader Written). q.state) reader-fit)

  committed-fit : map_state fit (committed d) ≡ committed d
  committed-fit =
      let o = opened in
      rw (committed-is d k.reader k.log.replays)
      (ap (λ (q : Reader Written). q.state) (replay-fit o.reader k.reader (queued d) (queued-sized d k.log.queue_data) o.onward reader-fit))

  unit-fit : (u : ℕ) → is_open_unit d u ≡ true → map_state fit (overlay (journal_of d u) (committed d)) ≡ overlay (journal_of d u) (committed d)
  unit-fit u h =
      let (p, q, o) = unit-range d u h in
      overlay-fit (journal_of d u) (committed d) (journal-fit (journal_of d u) (unit-sized d u p q k.journal_data (k.units.units u p q).room)) committed-fit

  view-fit : (v : ℕ) → view_open d v ≡ true → map_state fit (view d v) ≡ view d v
  view-fit v h = open-views d (λ s. map_state fit s ≡ s) persistent-fit committed-fit unit-fit v h

pub view-sized : (d : Disk) → lengths_right d ≡ true → record_sound d ≡ true → (v b : ℕ) (x : Written) → view_open d v ≡ true → content_of (view d v).lists b ≡ some x → length x.body ≡ 256
view-sized d l r v b x o h = shown-sized (view d v) (view-fit d (right d l r) v o) b x h
