-- Changes that join the line or a batch keep the invariant: one on stream 0, one in a unit, and a unit's end.
use mathlib.Core.Path.{◌≡◌, refl, sym, ap, ◌∙◌, subst}
use mathlib.Core.Option.{some}
use mathlib.Core.List.{List, [], ◌∷◌, ◌++◌, map}
use Prim.Native.Nat.{ℕ, suc, ◌+◌, ◌-◌, ◌≤◌, ◌<◌}
use native.Mathlib.Omega.{arith}
use native.Mathlib.Decide.{ℕ_discrete}
use lib.ListN.{length, length-set}
use Rattle.lists.specs.Basic.{bind, joined}
use Rattle.lists.specs.Change.{Change, carried_by}
use Rattle.lists.specs.State.{State, apply, apply_all}
use Rattle.lists.proofs.Takings.{TakenOnce}
use Rattle.card_log.specs.Entry.{Entry, plain, commit}
use Rattle.card_log.specs.Reader.{Reader, settled, start, read, replay}
use Rattle.card_log.specs.Card.{Written, sound, mounted}
use Rattle.card_log.proofs.Replay.{replay-append}
use Rattle.card_log.proofs.Segment.{Sized, carries-walk}
use Rattle.card_log.proofs.Places.{Good}
use Rattle.card_log.proofs.Flows.{AllGood, flows-append}
use Rattle.disk.specs.Record.{with_listed}
use Rattle.disk.specs.Disk.{Disk, queued, unit_of, journal_of, reader_of, committed_reader, committed}
use Rattle.disk.specs.Perform.{enqueue, enqueue_all, journal_add, relisted, closing as closing_unit, unit_entries}
use Rattle.disk.proofs.Queue.{queued-add, AllSized, queued-all, beside-one, beside-all, queued-journal, queued-closing}
use Rattle.disk.proofs.Journal.{journal-add, journal-other, journal-enqueue, journal-enqueue_all, journal-closing, journal-closing-other, unit-entries}
use Rattle.disk.proofs.Clauses.{Right, committed-is}
use Rattle.disk.proofs.Changes.{replay-unit}
use Rattle.crash.specs.Book.{Book, Waiting, Act, entries_of, placed_entries, member_of, batch_of, with_batch, join_history, join_unit}
use Rattle.crash.proofs.History.{tell, tell-unit, tell-plain, run_after, closing, label, label-plain, label-unit, entries-label}
use Rattle.crash.proofs.Book.{entries-append, entries-joined, batch-same, batch-other, batch-dropped, once-with}
use Rattle.crash.proofs.Told.{Told, Shown, told-shown, told_add, with_batch-told}
use Rattle.crash.proofs.Simulation.{Sim}
use Rattle.crash.proofs.Invariant.{Tied, Live, live}

-- The committed state is that of the reader that the book tells.
committed-reader : (d : Disk) (b : Book) → Sim d.card b → (t : Told b) → Tied d b → committed_reader d ≡ some t.reader
unfolding committed_reader placed_entries reader_of
committed-reader d b s t i =
    let v : Shown b.segs b.history = told-shown b t in
    let p : joined (map entries_of b.segs) ≡ v.entries = entries-joined b.segs ∙ ap entries_of v.log ∙ entries-label 0 v.entries in
    let w : mounted d.card ≡ sound v.reader =
    carries-walk d.card (map entries_of b.segs) v.reader s.carries (ap (replay start) p ∙ v.replays) in
    let e : v.entries ++ entries_of b.line ≡ t.entries =
    ap (λ (x : List (Entry Written)). x ++ entries_of b.line) (sym p ∙ entries-joined b.segs)
    ∙ sym (entries-append (joined b.segs) b.line) ∙ ap entries_of t.log ∙ entries-label 0 t.entries in
    rw w (rw i.queue
    (rejoin v t.reader (entries_of b.line)
    (sym (replay-append start v.entries (entries_of b.line)) ∙ ap (replay start) e ∙ t.replays)))
  where
    rejoin : (v : Shown b.segs b.history) (z : Reader Written) (q : List (Entry Written))
        → bind (replay start v.entries) (λ r. replay r q) ≡ some z → replay v.reader q ≡ some z
    rejoin v z q h = rw v.replays at h

pub committed-state : (d : Disk) (b : Book) (i : Live d b) → committed d ≡ i.told.reader.state
committed-state d b i = committed-is d i.told.reader (committed-reader d b i.sim i.told (i.tied refl))

-- What is left of the disk as it was when the queue has grown by es and the book's line by ws.
record Grown (d d' : Disk) (b b' : Book) (es : List (Entry Written)) (ws : List Waiting) : Type 0 where
  card : d'.card ≡ d.card
  queue : queued d' ≡ queued d ++ es
  done : d'.rec.ring.done ≡ d.rec.ring.done
  segs : b'.segs ≡ b.segs
  line : b'.line ≡ b.line ++ ws
  mark : b'.done ≡ b.done
  four : length b'.batches ≡ 4
  journals : (u : ℕ) → 1 ≤ u → u ≤ 4 → journal_of d' u ≡ batch_of b' u
  once : (u : ℕ) → 1 ≤ u → u ≤ 4 → TakenOnce (batch_of b' u)

-- entries join the queue and the line, and what they tell joins the history
join-line : (d d' : Disk) (b b' : Book) (es : List (Entry Written)) (hs : List Act) (z : Reader Written) (i : Live d b)
    → Grown d d' b b' es (label (length b.history) es) → AllGood es → hs ≡ tell (run_after [] i.told.entries) es → b'.history ≡ b.history ++ hs
    → replay i.told.reader es ≡ some z → Live d' b'
unfolding placed_entries
join-line d d' b b' es hs z i g good h k r =
    live d' b'
    (rw (g.card, ap (map entries_of) g.segs, lines, g.mark)
    (flows-append d.card (map entries_of b.segs) (entries_of b.line) es b.done i.sim good))
    (told_add b i.told (label (length b.history) es) hs es z refl h r b' g.segs g.line k)
    (record {
      queue = g.queue ∙ ap (λ (x : List (Entry Written)). x ++ es) (i.tied refl).queue ∙ sym lines;
      done = g.done ∙ (i.tied refl).done ∙ sym g.mark;
      journals = g.journals;
      once = g.once;
    })
    g.four
    (rw g.segs i.few)
  where
    lines : entries_of b'.line ≡ entries_of b.line ++ es
    lines =
        ap entries_of g.line ∙ entries-append b.line (label (length b.history) es)
        ∙ ap (λ (x : List (Entry Written)). entries_of b.line ++ x) (entries-label (length b.history) es)

-- A simple change.
replay-plain : (r : Reader Written) (c : Change Written) (s : State Written) → apply c r.state ≡ some s → replay r (plain c ∷ []) ≡ some (settled s)
unfolding replay read
replay-plain r c s a = rw a

pub join-plain : (d : Disk) (b : Book) (c : Change Written) (s : State Written) → Right d → Live d b → d.rec.ring.len < 32 → Good (plain c)
    → apply c (committed d) ≡ some s → Live (enqueue (plain c) d) (join_history (c ∷ []) [] (plain c) b)
unfolding join_history batch_of
join-plain d b c s r i m g a =
    join-line d (enqueue (plain c) d) b (join_history (c ∷ []) [] (plain c) b) (plain c ∷ []) ((c ∷ []) ∷ []) (settled s) i
    (record {
      card = (beside-one (plain c) d).card;
      queue = queued-add (plain c) d r.log.queue_data r.log.places m g.sized;
      done = (beside-one (plain c) d).done;
      segs = refl;
      line = ap (λ (x : List Waiting). b.line ++ x) (sym (label-plain (length b.history) c));
      mark = refl;
      four = i.four;
      journals = λ u p q. journal-enqueue (plain c) d u ∙ (i.tied refl).journals u p q;
      once = (i.tied refl).once;
    })
    (g, tt) (sym (tell-plain (run_after [] i.told.entries) c)) refl
    (replay-plain i.told.reader c s (ap (apply c) (sym (committed-state d b i)) ∙ a))

-- A change in a unit.
pub join-batch : (d : Disk) (b : Book) (u : ℕ) (c : Change Written) → Right d → Live d b → 1 ≤ u → u ≤ 4 → (unit_of d u).len < 15 → Sized (carried_by c)
    → TakenOnce (batch_of b u ++ c ∷ []) → Live (journal_add u c d) (with_batch b u (batch_of b u ++ c ∷ []))
unfolding with_batch placed_entries journal_add
join-batch d b u c r i p q m z o =
    live (journal_add u c d) (with_batch b u (batch_of b u ++ c ∷ []))
    i.sim (with_batch-told b u (batch_of b u ++ c ∷ []) i.told)
    (record { queue = queued-journal u c d ∙ (i.tied refl).queue; done = (i.tied refl).done; journals = λ v x y. journals v x y (ℕ_discrete u v); once = once-with b u (batch_of b u ++ c ∷ []) p (batch-same b u (batch_of b u ++ c ∷ []) (omega (arith, i.four))) o (i.tied refl).once })
    (length-set b.batches (u - 1) _ ∙ i.four)
    i.few
  where
    journals : (v : ℕ) → 1 ≤ v → v ≤ 4 → Dec (u ≡ v) → journal_of (journal_add u c d) v ≡ batch_of (with_batch b u (batch_of b u ++ c ∷ [])) v
    journals v x y (yes e) =
        subst (λ (w : ℕ). journal_of (journal_add u c d) w ≡ batch_of (with_batch b u (batch_of b u ++ c ∷ [])) w) e
        (journal-add u c d p q r.journal_data m z r.units.four (r.units.units u p q).places
        ∙ ap (λ (k : List (Change Written)). k ++ c ∷ []) ((i.tied refl).journals u p q)
        ∙ sym (batch-same b u (batch_of b u ++ c ∷ []) (omega (arith, i.four))))
    journals v x y (no e) =
        journal-other u c d p q r.journal_data m z v x y e (r.units.units v x y).room
        ∙ (i.tied refl).journals v x y
        ∙ sym (batch-other b u v (batch_of b u ++ c ∷ []) (omega arith))

-- A unit's batch as it goes to the line.
line-unit : (l : List Waiting) (n : ℕ) (cs : List (Change Written)) → l ++ (map member_of cs ++ closing (commit (length cs)) n ∷ []) ≡ l ++ label n (unit_entries cs)
unfolding unit_entries
line-unit l n cs = ap (λ (x : List Waiting). l ++ x) (sym (label-unit n (length cs) cs))

unit-tells : (cs run : List (Change Written)) → cs ∷ [] ≡ tell run (unit_entries cs)
unfolding unit_entries
unit-tells cs run = sym (tell-unit cs run)

pub join-unit : (d : Disk) (b : Book) (u : ℕ) (f s : State Written) → Right d → Live d b → 1 ≤ u → u ≤ 4 → d.rec.ring.len + suc (length (journal_of d u)) ≤ 32
    → AllGood (unit_entries (journal_of d u)) → AllSized (unit_entries (journal_of d u)) → apply_all (journal_of d u) (committed d) ≡ some s
    → Live (closing_unit u f (enqueue_all (unit_entries (journal_of d u)) d)) (join_unit u b)
unfolding join_unit join_history with_batch closing_unit relisted with_listed batch_of
join-unit d b u f s r i p q m g z a =
    join-line d (closing_unit u f x) b (join_unit u b) es (batch_of b u ∷ []) (settled s) i
    (record {
      card = (beside-all es d).card;
      queue = queued-closing u f x ∙ queued-all es d r.log.queue_data r.log.places (omega (arith, unit-entries (journal_of d u))) z;
      done = (beside-all es d).done;
      segs = refl;
      line = line-unit b.line n (batch_of b u) ∙ ap (λ (cs : List (Change Written)). b.line ++ label n (unit_entries cs)) (sym same);
      mark = refl;
      four = length-set b.batches (u - 1) [] ∙ i.four;
      journals = λ v y w. journals v y w (ℕ_discrete u v);
      once = once-with b u [] p (batch-dropped b u u refl) tt (i.tied refl).once;
    })
    g (unit-tells (batch_of b u) run ∙ ap (λ (cs : List (Change Written)). tell run (unit_entries cs)) (sym same)) refl
    (replay-unit i.told.reader (journal_of d u) s (ap (apply_all (journal_of d u)) (sym (committed-state d b i)) ∙ a))
  where
    n : ℕ
    n = length b.history

    es : List (Entry Written)
    es = unit_entries (journal_of d u)

    x : Disk
    x = enqueue_all es d

    same : journal_of d u ≡ batch_of b u
    same = (i.tied refl).journals u p q

    run : List (Change Written)
    run = run_after [] i.told.entries

    journals : (v : ℕ) → 1 ≤ v → v ≤ 4 → Dec (u ≡ v) → journal_of (closing_unit u f x) v ≡ batch_of (join_unit u b) v
    journals v y w (yes e) = rw (← e) (journal-closing u f x ∙ sym (batch-dropped b u u refl))
    journals v y w (no e) =
        journal-closing-other u v f x p y e ∙ journal-enqueue_all es d v ∙ (i.tied refl).journals v y w ∙ sym (batch-other b u v [] (omega arith))
