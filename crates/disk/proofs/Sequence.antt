-- The stores that a disk has still to do (`todo`): an accepted flush does the next ones, as many as it may, and reports how many (`flush-stored`,
-- `reported`). A cut after k of them leaves the card that allowance k leaves (`cut_left`). Each lies on the card and stores a byte (`todo-in`).
use mathlib.Core.Path.{◌≡◌, sym, ap, ◌∙◌}
use mathlib.Core.Bool.{true}
use mathlib.Core.Option.{Option, none, some}
use mathlib.Core.List.{List, [], ◌∷◌}
use Prim.Native.Nat.{ℕ, zero, suc, ◌-◌, ◌/◌, ◌≤◌, min}
use native.Mathlib.Omega.{arith}
use lib.Dec.{ltb}
use lib.ListN.{length, drop, take, length-drop}
use lib.Seq.{take-take}
use Rattle.lists.specs.Basic.{from}
use Rattle.lists.specs.Change.{Change, take_list, put_first, put_after, write, del_block, del_list, map_change, carried_by}
use Rattle.lists.proofs.Basic.{and-true, eqb-true, ltb-true}
use Rattle.card_log.specs.declared.place.Place.{Place}
use Rattle.card_log.specs.Raced.{Raced, with_body}
use Rattle.card_log.specs.Entry.{Entry, plain, member, commit, map_entry, carried}
use Rattle.card_log.specs.Card.{Content, Written, segments_in}
use Rattle.card_log.specs.Store.{Store, do_stores, standing, home, tail, entry_stores, head_at}
use Rattle.card_log.proofs.Flows.{flow_for}
use Rattle.card_log.specs.Flush.{ahead, rest}
use Rattle.card_log.proofs.Sequence.{ReadyHead, Ready, Along, along}
use Rattle.card_log.proofs.Stores.{AllBytes, AllIn, AllDataBytes, DataBytes, in-drop, bytes-slot, ahead_in, sane-tail}
use Rattle.disk.specs.Record.{ring_place}
use Rattle.disk.specs.Disk.{Disk, queued_at, queued}
use Rattle.disk.specs.Sound.{head_standing}
use Rattle.disk.specs.Perform.{flow_of, flushed, after_flush}
use Rattle.disk.specs.Statements.{todo}
use Rattle.disk.proofs.Clauses.{Right}
use Rattle.disk.proofs.Draining.{left, open-log, flow-of, flush-size, turn}

head-ready : (c : List ℕ) (k : ℕ) (o : Option Place) (e : Entry Written) → head_at c k o e ≡ true → ReadyHead o e k
unfolding head_at
head-ready c k none e h = eqb-true k 0 h
head-ready c k (some p) e h = ltb-true k (length (entry_stores p e)) (and-true (ltb k (length (entry_stores p e))) (standing (take k (entry_stores p e)) c) h).0

queue-ready : (c : List ℕ) (k : ℕ) (q : List (Entry Written)) → head_standing c k q ≡ true → Ready (segments_in c) (tail c) q k
unfolding head_standing
queue-ready c k [] h = eqb-true k 0 h
queue-ready c k (e ∷ q) h = head-ready c k (home (segments_in c) (tail c) e) e h

pub flow-ready : (d : Disk) → Right d → Ready (segments_in d.card) (flow_of d).place (flow_of d).queue (flow_of d).done
unfolding flow_of
flow-ready d k = queue-ready d.card d.rec.ring.done (queued d) k.log.stands

-- the disk that a flush leaves stands in the flow that it ended with, on as many segments
pub left-flow : (a : ℕ) (d : Disk) → Right d → flow_of (left a d) ≡ (flushed a d).flow
left-flow a d k =
    let t = turn a d k.reader k.log in
    let f = t.after in
    flow-of (left a d) f.segs (rw t.card f.flows.carries) ∙ (λ i. flow_for (t.card i) f.segs (t.queue i) (t.done i)) ∙ sym f.flow

pub left-segments : (a : ℕ) (d : Disk) → Right d → segments_in (left a d).card ≡ segments_in d.card
left-segments a d k = ap (λ (n : ℕ). n / 4096) (flush-size a d k.reader (turn a d k.reader k.log))

pub record Stored (a : ℕ) (d : Disk) : Type 0 where
  pub card : (left a d).card ≡ do_stores (take a (todo d)) d.card
  pub stores : (flushed a d).stores ≡ min a (length (todo d))
  pub onward : todo (left a d) ≡ drop a (todo d)

pub flush-stored : (a : ℕ) (d : Disk) → Right d → Stored a d
unfolding todo flushed after_flush flow_of
flush-stored a d k =
    let h : Along (segments_in d.card) a 0 (flow_of d) = along a (segments_in d.card) 0 (flow_of d) (flow-ready d k) in
    record {
      card = h.card;
      stores = h.count ∙ omega arith;
      onward = (λ i. rest (left-segments a d k i) (left-flow a d k i)) ∙ h.todo;
    }

pub reported : (a : ℕ) (d : Disk) → Right d → (flushed a d).stores ≡ length (todo d) - length (todo (left a d))
reported a d k = let h = flush-stored a d k in h.stores ∙ omega (arith, ap length h.onward ∙ length-drop a (todo d))

pub cut_left : (a k : ℕ) (d : Disk) → Right d → k ≤ (flushed a d).stores → do_stores (take k (take a (todo d))) d.card ≡ (left k d).card
cut_left a k d r l =
    let h = flush-stored a d r in
    ap (λ (ss : List Store). do_stores ss d.card) (take-take k a (todo d) (omega (arith, h.stores))) ∙ sym (flush-stored k d r).card

-- Where the queue's data are bytes, every store to do lies on the card and stores a byte.
change-data : {A : Type 0} (x : Content) (c : Change (Raced A)) → AllBytes x → DataBytes (carried_by (map_change (with_body x) c))
unfolding map_change carried_by
change-data x (take_list l) h = tt
change-data x (put_first b l) h = tt
change-data x (put_after b l p) h = tt
change-data x (write b s) h = h
change-data x (del_block b) h = tt
change-data x (del_list l) h = tt

entry-data : {A : Type 0} (x : Content) (e : Entry (Raced A)) → AllBytes x → DataBytes (carried (map_entry (with_body x) e))
unfolding map_entry carried
entry-data x (plain c) h = change-data x c h
entry-data x (member c) h = change-data x c h
entry-data x (commit n) h = tt

data-from : (f : ℕ → Entry Written) (k n : ℕ) → ((j : ℕ) → DataBytes (carried (f j))) → AllDataBytes (from f k n)
unfolding from
data-from f k zero h = tt
data-from f k (suc n) h = (h k, data-from f (suc k) n h)

queue-bytes : (d : Disk) → AllBytes d.queue_data → AllDataBytes (queued d)
unfolding queued queued_at
queue-bytes d h = data-from _ 0 d.rec.ring.len (λ k. entry-data _ _ (bytes-slot d.queue_data (ring_place d.rec k) h))

pub todo-in : (d : Disk) → Right d → AllBytes d.queue_data → AllIn (segments_in d.card) (todo d)
unfolding todo rest flow_of
todo-in d k b =
    let o = open-log d k.reader k.log in
    let n = segments_in d.card in
    in-drop n d.rec.ring.done (ahead n (tail d.card) (queued d))
    (ahead_in n (tail d.card) (queued d) (sane-tail d.card o.segs o.flows.carries) o.flows.good (queue-bytes d b))
