-- A flush, entry by entry: where it stands when some entries have left the queue (`Going`), and what it leaves at each ending.
use mathlib.Core.Path.{◌≡◌, refl, sym, ap, ◌∙◌, subst}
use mathlib.Core.Bool.{Bool, true}
use mathlib.Core.Option.{Option, none, some}
use mathlib.Core.List.{List, [], ◌∷◌}
use Prim.Native.Nat.{ℕ, ◌+◌, ◌-◌, ◌*◌, ◌/◌, ◌%◌, ◌≤◌, ◌<◌}
use native.Mathlib.Omega.{arith}
use native.Mathlib.Decide.{dec_lt}
use lib.ListN.{length, take, drop, get_or, length-take, length-drop}
use Rattle.lists.specs.Basic.{from}
use Rattle.lists.proofs.Basic.{from-length, from_step, from-none}
use Rattle.card_log.specs.declared.entry.LogEntry.{LogEntry}
use Rattle.card_log.specs.declared.place.Place.{Place}
use Rattle.card_log.specs.Entry.{Entry}
use Rattle.card_log.specs.Cell.{member_in, entry_in}
use Rattle.card_log.specs.Card.{Content, Written, slot, segments_in}
use Rattle.card_log.specs.Store.{home, tail, entry_stores}
use Rattle.card_log.specs.Flush.{Flushed, Ending, drained, full, spent, next_store, flush_from}
use Rattle.card_log.specs.promises.Within.{Within}
use Rattle.card_log.proofs.Allowance.{stopped-flush}
use Rattle.card_log.proofs.EntryStores.{entry-stores-length}
use Rattle.card_log.proofs.Places.{raw-length, add_to}
use Rattle.card_log.proofs.Flows.{end_of, tail-end, end-add, head_at_lem, Flows}
use Rattle.card_log.proofs.Segment.{carries-walk, carries-segments}
use Rattle.card_log.proofs.Sequence.{ReadyHead}
use Rattle.card_log.proofs.LogStores.{going}
use Rattle.disk.specs.Record.{Record, no_cell, ring_place, with_flow}
use Rattle.answers.specs.declared.Ending.TheVariants as reply
use Rattle.disk.specs.Disk.{Disk, disk, queued_at, queued}
use Rattle.disk.specs.Sound.{lengths_right, record_sound}
use Rattle.disk.specs.Call.{flush}
use Rattle.disk.specs.Perform.{flow_of, flushed, after_flush, accepted}
use Rattle.answers.specs.Answers.{ending_number, ending_of, flush_answer}
use Rattle.disk.proofs.Queue.{queued-same}
use Rattle.disk.proofs.Clauses.{right}
use Rattle.disk.proofs.Draining.{open-log}
use Rattle.disk.proofs.Sequence.{flow-ready}
use Rattle.inspect.proofs.Behind.{tail_within}
use Rattle.calls.specs.promises.Flushing.{flow, HeadReady, HeadDrained, Heads, Flushable, Flushes}
use Rattle.calls.specs.declared.drain.Headed.{Headed}
use Rattle.calls.specs.declared.drain.Headed.TheVariants as headed
use Rattle.calls.proofs.Storing.{few-stores}
use Rattle.calls.proofs.Turns.{all-in-turn, flows-last}

-- the data of the queue's place i, as it is lent
abbrev pub data_at : List ℕ → ℕ → Content
data_at q i = take (256 * i + 256 - 256 * i) (drop (256 * i) q)

-- the queue's entry i, as the code meets it
abbrev pub entry_here : List ℕ → Record → ℕ → Entry Written
entry_here q r i = let x = get_or r.ring.queue (ring_place r i) no_cell in going (data_at q (ring_place r i)) (member_in x) (entry_in x)

-- it is a place's data, and its stores are few
pub data-size : (q : List ℕ) (i : ℕ) → length q ≡ 8192 → i < 32 → length (data_at q i) ≡ 256
data-size q i h l = simp (length-take, length-drop) (omega (arith, h))

pub few-here : (q : List ℕ) (r : Record) (i : ℕ) (p : Place) → length q ≡ 8192 → length (entry_stores p (entry_here q r i)) ≤ 261
few-here q r i p h = few-stores (data_at q (ring_place r i)) (data-size q (ring_place r i) h (omega arith)) _ _ p

-- the same by its parts
pub entry-met : (q : List ℕ) (r : Record) (first i : ℕ) (m : Bool) (e : LogEntry) → first ≡ r.ring.head
    → (let x = get_or r.ring.queue ((first + i) % 32) no_cell in m ≡ member_in x → e ≡ entry_in x → going (data_at q ((first + i) % 32)) m e ≡ entry_here q r i)
entry-met q r first i m e f a b = rw (a, b, f)

pub heads-met : (c : List ℕ) (p : Place) (x y : Entry Written) (k a : ℕ) (h : Headed) (c' : List ℕ) → x ≡ y → Heads c p x k a h c' → Heads c p y k a h c'
heads-met c p x y k a h c' e = subst (λ (z : Entry Written). Heads c p z k a h c') e

module _ (c q : List ℕ) (r : Record) where
  -- the queue when i entries have left it
  unfoldable pub rest : ℕ → List (Entry Written)
  rest i = from (queued_at (disk c q [] r)) i (r.ring.len - i)

  pub entry_here_lem : (i : ℕ) → queued_at (disk c q [] r) i ≡ entry_here q r i
  unfolding queued_at slot
  entry_here_lem i = let e : 256 * ring_place r i + 256 - 256 * ring_place r i ≡ 256 = omega arith in rw e

  pub rest-step : (i : ℕ) → i < r.ring.len → rest i ≡ entry_here q r i ∷ rest (i + 1)
  unfolding rest
  rest-step i l = from_step (queued_at (disk c q [] r)) i r.ring.len l ∙ rw (entry_here_lem i)

  pub rest-none : (i : ℕ) → r.ring.len ≤ i → rest i ≡ []
  unfolding rest
  rest-none i l = from-none (queued_at (disk c q [] r)) i r.ring.len l

  rest-length : (i : ℕ) → length (rest i) ≡ r.ring.len - i
  unfolding rest
  rest-length i = from-length (queued_at (disk c q [] r)) i (r.ring.len - i)

  pub queue-whole : (j : List ℕ) → queued (disk c q j r) ≡ rest 0
  unfolding queued rest
  queue-whole j =
      let e : r.ring.len ≡ r.ring.len - 0 = omega arith in
      queued-same (disk c q [] r) (disk c q j r) refl refl refl refl ∙ ap (from (queued_at (disk c q [] r)) 0) e

  module _ (a : ℕ) (p : Place) where
    -- the flush whole
    unfoldable pub whole : Flushed
    whole = flush_from (segments_in c) a 0 (flow c p (rest 0) r.ring.done)

    -- `gone` entries have left the queue, `left` of the allowance is not used, and k stores of the next entry are done; the card carries the
    -- segments `segs`, behind which the log goes on
    pub record Going (c' : List ℕ) (p' : Place) (k left gone : ℕ) : Type 0 where
      pub among : gone ≤ r.ring.len
      pub few : left ≤ a
      pub size : length c' ≡ length c
      pub within : Within p'
      pub inside : p'.segment < segments_in c
      pub begun : gone < r.ring.len → k < length (entry_stores p' (entry_here q r gone))
      pub small : k < 65536
      pub segs : List (List (Entry Written))
      pub flows : Flows c' segs (rest gone) k
      pub place : p' ≡ end_of segs
      pub onward : flush_from (segments_in c) left (a - left) (flow c' p' (rest gone) k) ≡ whole

    pub going_start : Flushable c q r p → Going c p r.ring.done a 0
    unfolding whole flow_of
    going_start f =
        let i : a - a ≡ 0 = omega arith in
        let k = right (disk c q f.journal_data r) f.lengths f.sound in
        let o = open-log (disk c q f.journal_data r) k.reader k.log in
        record {
          among = omega arith;
          few = omega arith;
          size = refl;
          within = f.within;
          inside = f.inside;
          begun = λ l. rw (entry_here_lem 0) at (f.begun l);
          small = go (dec_lt 0 r.ring.len);
          segs = o.segs;
          flows = subst (λ (es : List (Entry Written)). Flows c o.segs es r.ring.done) (queue-whole f.journal_data) o.flows;
          place = f.place ∙ tail-end c o.segs o.flows.carries;
          onward = rw i;
        }
      where
        go : Dec (0 < r.ring.len) → r.ring.done < 65536
        go (yes l) = omega (arith, rw (entry_here_lem 0) at (f.begun l), few-here q r 0 p f.queue_data)
        go (no n) =
            let d = disk c q f.journal_data r in
            let z = rw (queue-whole f.journal_data, rest-none 0 (omega arith)) at (flow-ready d (right d f.lengths f.sound)) in
            omega arith

    module _ (c' : List ℕ) (p' : Place) (k left gone : ℕ) (g : Going c' p' k left gone) where
      pub segments-same : segments_in c' ≡ segments_in c
      segments-same = ap (λ (n : ℕ). n / 4096) g.size

      module _ (l : gone < r.ring.len) where
        flows-here : Flows c' g.segs (entry_here q r gone ∷ rest (gone + 1)) k
        flows-here = subst (λ (es : List (Entry Written)). Flows c' g.segs es k) (rest-step gone l) g.flows

        home_here : (h : Place) → home (segments_in c') p' (entry_here q r gone) ≡ some h → home (length g.segs) (end_of g.segs) (entry_here q r gone) ≡ some h
        home_here h v = (λ i. home (sym (carries-segments c' g.segs g.flows.carries) i) (sym g.place i) (entry_here q r gone)) ∙ v

        pub going-head : HeadReady c' p' (entry_here q r gone) k
        going-head = record { within = g.within; inside = rw segments-same g.inside; left = g.begun l; turns = λ h v. all-in-turn g.segs (entry_here q r gone) (rest (gone + 1)) h (home_here h v) k c' flows-here }

        pub going_on : (p'' : Place) (n : ℕ) (c'' : List ℕ) → length c'' ≡ length c' → HeadDrained c' p' (entry_here q r gone) k left p'' n c'' → Going c'' p'' 0 (left - n) (gone + 1)
        going_on p'' n c'' s h =
            let i : a - left + n ≡ a - (left - n) = omega (arith, h.few, g.few) in
            let e = entry_here q r gone in
            let v = home_here h.place h.found in
            record {
              among = omega arith;
              few = omega (arith, g.few);
              size = s ∙ g.size;
              within = h.within;
              inside = rw (← segments-same) h.inside;
              begun = λ l. omega (arith, entry-stores-length p'' (entry_here q r (gone + 1)));
              small = omega arith;
              segs = add_to h.place.segment e g.segs;
              flows = rw h.card (flows-last g.segs e (rest (gone + 1)) h.place v k c' flows-here);
              place = h.behind ∙ sym (end-add (head_at_lem c' g.segs e (rest (gone + 1)) k flows-here h.place v) g.flows.carries.packed);
              onward = sym (rw (segments-same, i) at (h.onward (rest (gone + 1)) (a - left)))
                  ∙ ap (λ (es : List (Entry Written)). flush_from (segments_in c) left (a - left) (flow c' p' es k)) (sym (rest-step gone l)) ∙ g.onward;
            }

    -- The endings: the flush whole, and what the definition makes of the disk by it.
    flushed-whole : (j : List ℕ) → p ≡ tail c → flushed a (disk c q j r) ≡ whole
    unfolding flushed flow_of whole
    flushed-whole j t = let e = queue-whole j in (λ i. flush_from (segments_in c) a 0 (flow c (sym t i) (e i) r.ring.done))

    ends : (j c' : List ℕ) (p' : Place) (i k s : ℕ) (x : Ending) → p ≡ tail c → i ≤ r.ring.len → whole ≡ record { flow = flow c' p' (rest i) k; stores = s; ending = x }
        → accepted (flush a) (disk c q j r)
        ≡ record { disk = disk c' q j (with_flow r ((r.ring.head + i) % 32) (r.ring.len - i) k); answer = record { code = 0; value = s; second = ending_number x }; lent = [] }
    unfolding accepted after_flush
    ends j c' p' i k s x t l h =
        let u : r.ring.len - (r.ring.len - i) ≡ i = omega arith in
        rw (flushed-whole j t ∙ h, rest-length i) (rw u)

    module _ (f : Flushable c q r p) (c' : List ℕ) (p' : Place) (k left gone : ℕ) (g : Going c' p' k left gone) where
      pub flushes-drained : r.ring.len ≤ gone → Flushes a c q r c' (with_flow r ((r.ring.head + gone) % 32) (r.ring.len - gone) k) (record { stores = a - left; ending = reply.Drained })
      unfolding flush_answer ending_of next_store
      flushes-drained l j =
          ends j c' p' gone k (a - left) drained f.place g.among
          (sym g.onward ∙ stopped-flush (segments_in c) left (a - left) (flow c' p' (rest gone) k) drained (rw (rest-none gone l)))

      module _ (l : gone < r.ring.len) where
        whole-ends : (c'' : List ℕ) (k'' s : ℕ) (x : Ending)
            → flush_from (segments_in c') left (a - left) (flow c' p' (entry_here q r gone ∷ rest (gone + 1)) k)
            ≡ record { flow = flow c'' p' (entry_here q r gone ∷ rest (gone + 1)) k''; stores = s; ending = x }
            → whole ≡ record { flow = flow c'' p' (rest gone) k''; stores = s; ending = x }
        whole-ends c'' k'' s x h =
            sym g.onward
            ∙ rw (rest-step gone l) (rw (segments-same c' p' k left gone g) at h)

        pub flushes-full : (c'' : List ℕ) → Heads c' p' (entry_here q r gone) k left headed.Full c''
            → Flushes a c q r c'' (with_flow r ((r.ring.head + gone) % 32) (r.ring.len - gone) k) (record { stores = a - left; ending = reply.Full })
        unfolding flush_answer ending_of
        flushes-full c'' h j = ends j c'' p' gone k (a - left) full f.place g.among (whole-ends c'' k (a - left) full (h (rest (gone + 1)) (a - left)))

        pub flushes-spent : (c'' : List ℕ) (k'' : ℕ) → Heads c' p' (entry_here q r gone) k left (headed.Spent k'') c''
            → Flushes a c q r c'' (with_flow r ((r.ring.head + gone) % 32) (r.ring.len - gone) k'') (record { stores = a; ending = reply.Spent })
        unfolding flush_answer ending_of
        flushes-spent c'' k'' h j =
            let i : a - left + left ≡ a = omega (arith, g.few) in
            ends j c'' p' gone k'' a spent f.place g.among (whole-ends c'' k'' a spent (rw i at (h.1 (rest (gone + 1)) (a - left))))

-- A sound disk can be flushed from the place behind its log: the head's stores that are done are fewer than it takes, wherever it goes.
ready-begun : (o : Option Place) (e : Entry Written) (k : ℕ) (p : Place) → ReadyHead o e k → k < length (entry_stores p e)
ready-begun none e k p h = omega (arith, entry-stores-length p e)
ready-begun (some x) e k p h = omega (arith, entry-stores-length p e, entry-stores-length x e, raw-length p.slots e, raw-length x.slots e)

pub flushable : (d : Disk) (p : Place) → lengths_right d ≡ true → record_sound d ≡ true → p ≡ tail d.card → Flushable d.card d.queue_data d.rec p
unfolding flow_of
flushable d p h s t =
    let k = right d h s in
    let o = open-log d k.reader k.log in
    let (w, i) = tail_within d.card o.reader k.log.card (carries-walk d.card o.segs o.reader o.flows.carries o.first) in
    let c = d.card in
    let q = d.queue_data in
    let r = d.rec in
    record {
      place = t;
      within = rw t w;
      inside = rw t i;
      room = k.log.room;
      head = k.log.head;
      queue_data = k.log.queue_data;
      begun = λ l. rw (entry_here_lem c q r 0) (ready-begun (home (segments_in c) (tail c) (entry_here q r 0)) (entry_here q r 0) r.ring.done p (rw (queue-whole c q r d.journal_data, rest-step c q r 0 l) at (flow-ready d k)));
      journal_data = d.journal_data;
      lengths = h;
      sound = s;
    }
