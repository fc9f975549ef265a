-- The clauses of the log and its queue, kept: by entries that join the queue, and by all that leaves the queue alone.
use mathlib.Core.Path.{◌≡◌, refl, sym, ◌∙◌, subst}
use mathlib.Core.Bool.{true}
use mathlib.Core.Option.{Option, none, some, some-injective}
use mathlib.Core.List.{List, [], ◌∷◌, ◌++◌}
use Prim.Native.Nat.{ℕ, ◌+◌, ◌≤◌, ◌<◌}
use native.Mathlib.Omega.{arith}
use lib.ListN.{length}
use Rattle.lists.specs.Basic.{all}
use Rattle.lists.proofs.Basic.{bind-some, lt-true, eqb-true, all_append}
use Rattle.card_log.specs.Entry.{Entry, legal, raw}
use Rattle.card_log.specs.Reader.{Reader, read, replay}
use Rattle.card_log.specs.Card.{Written, segments_in, mounted}
use Rattle.card_log.specs.Store.{standing, home, tail, entry_stores, head_at}
use Rattle.card_log.specs.declared.place.Place.{Place}
use Rattle.card_log.proofs.Replay.{replay-append}
use Rattle.card_log.proofs.EntryStores.{entry-stores-length}
use Rattle.card_log.proofs.Places.{Good}
use Rattle.card_log.proofs.Flows.{AllGood}
use Rattle.disk.specs.Disk.{Disk, queued, reader_of, committed_reader}
use Rattle.disk.specs.Sound.{head_standing}
use Rattle.disk.specs.Perform.{enqueue, enqueue_all}
use Rattle.disk.proofs.Queue.{enqueue-length, enqueue-places, enqueue-data, queued-add, beside-one, queued-same, reader-same}
use Rattle.disk.proofs.Clauses.{LogRight}

-- The log followed by the queue and more entries.
reader-more : (d e : Disk) (z y : Reader Written) (es : List (Entry Written)) → e.card ≡ d.card → queued e ≡ queued d ++ es
    → committed_reader d ≡ some z → replay z es ≡ some y → committed_reader e ≡ some y
unfolding committed_reader
reader-more d e z y es c q h k =
    let (r, p, u) = bind-some (reader_of (mounted d.card)) (λ r. replay r (queued d)) z h in
    rw (q, c, p) (replay-append r (queued d) es ∙ rw u k)

-- Stores of the head: none done stand anywhere, and those done do not change as the queue grows behind it.
head-none : (c : List ℕ) (o : Option Place) (e : Entry Written) → head_at c 0 o e ≡ true
unfolding head_at standing
head-none c none e = refl
head-none c (some p) e = rw (lt-true 0 (length (entry_stores p e)) (omega (arith, entry-stores-length p e)))

queue-none : (c : List ℕ) (q : List (Entry Written)) → head_standing c 0 q ≡ true
unfolding head_standing
queue-none c [] = refl
queue-none c (e ∷ q) = head-none c (home (segments_in c) (tail c) e) e

head_more : (c : List ℕ) (k : ℕ) (q es : List (Entry Written)) → head_standing c k q ≡ true → head_standing c k (q ++ es) ≡ true
unfolding head_standing
head_more c k [] es h = subst (λ (n : ℕ). head_standing c n es ≡ true) (sym (eqb-true k 0 h)) (queue-none c es)
head_more c k (e ∷ q) es h = h

-- The entry joins the queue.
pub enqueue-log : (e : Entry Written) (d : Disk) (z y : Reader Written) → LogRight d z → d.rec.ring.len < 32 → Good e → read z e ≡ some y → LogRight (enqueue e d) y
unfolding all replay
enqueue-log e d z y l m g r =
    let b = beside-one e d in
    let q : queued (enqueue e d) ≡ queued d ++ e ∷ [] = queued-add e d l.queue_data l.places m g.sized in
    record {
      card = rw b.card l.card;
      queue_data = enqueue-data e d l.queue_data g.sized;
      places = enqueue-places e d ∙ l.places;
      room = omega (arith, enqueue-length e d);
      head = rw b.head l.head;
      lawful = rw q (all_append (λ x. legal (raw 0 x)) (queued d) (e ∷ []) l.lawful (rw g.lawful));
      replays = reader-more d (enqueue e d) z y (e ∷ []) b.card q l.replays (rw r);
      stands = rw (q, b.card, b.done) (head_more d.card d.rec.ring.done (queued d) (e ∷ []) l.stands);
    }

pub enqueue_all-log : (es : List (Entry Written)) (d : Disk) (z y : Reader Written) → LogRight d z → d.rec.ring.len + length es ≤ 32 → AllGood es
    → replay z es ≡ some y → LogRight (enqueue_all es d) y
unfolding enqueue_all replay
enqueue_all-log [] d z y l m g r = subst (LogRight d) (some-injective _ _ r) l
enqueue_all-log (e ∷ es) d z y l m g r =
    let (x, p, q) = bind-some (read z e) (λ x. replay x es) y r in
    enqueue_all-log es (enqueue e d) x y (enqueue-log e d z x l (omega arith) g.0 p) (omega (arith, enqueue-length e d)) g.1 q

-- Another disk with the same card and queue.
pub log-same : (d e : Disk) (z : Reader Written) → e.card ≡ d.card → e.queue_data ≡ d.queue_data → e.rec.ring.queue ≡ d.rec.ring.queue
    → e.rec.ring.head ≡ d.rec.ring.head → e.rec.ring.len ≡ d.rec.ring.len → e.rec.ring.done ≡ d.rec.ring.done → LogRight d z → LogRight e z
log-same d e z c x q h n k l =
    let s : queued e ≡ queued d = queued-same d e x q h n in
    record {
      card = rw c l.card;
      queue_data = rw x l.queue_data;
      places = rw q l.places;
      room = rw n l.room;
      head = rw h l.head;
      lawful = rw s l.lawful;
      replays = reader-same d e c s ∙ l.replays;
      stands = rw (s, c, k) l.stands;
    }
