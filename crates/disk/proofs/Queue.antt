-- The queue as the record's ring holds it: entries that join it, entries that a flush drains, and what leaves it alone.
use mathlib.Core.Path.{◌≡◌, refl, sym, ap, ◌∙◌}
use mathlib.Core.Logic.{◌≢◌}
use mathlib.Core.List.{List, [], ◌∷◌, ◌++◌, append_assoc, append-nil}
use Prim.Native.Nat.{ℕ, zero, suc, ◌+◌, ◌-◌, ◌*◌, ◌%◌, ◌≤◌, ◌<◌}
use native.Mathlib.Omega.{arith}
use native.Mathlib.Numerals.{add-one}
use native.Mathlib.Nat.{zero-add, mod-add-mod}
use lib.ListN.{length, drop, get_or, length-drop, length-set}
use lib.Seq.{get_or-set_same, get_or-set_other}
use Rattle.lists.specs.Basic.{bind, from}
use Rattle.lists.specs.Change.{Change, take_list, put_first, put_after, write, del_block, del_list, map_change, carried_by}
use Rattle.lists.proofs.Basic.{from-length, from-shift, from-ext, from-snoc, from-drop}
use Rattle.lists.specs.State.{State}
use Rattle.card_log.specs.Raced.{Raced, with_body}
use Rattle.card_log.specs.Entry.{Entry, plain, member, commit, map_entry, carried, as_entry, as_change, raw}
use Rattle.card_log.specs.Cell.{cell_of, member_in, entry_in}
use Rattle.card_log.specs.Reader.{replay}
use Rattle.card_log.specs.Card.{Content, Written, slot, mounted}
use Rattle.card_log.specs.Flush.{Flow}
use Rattle.card_log.proofs.Cells.{cell-entry, cell-change}
use Rattle.card_log.proofs.Segment.{Sized}
use Rattle.card_log.proofs.Slot.{length-slot}
use Rattle.disk.specs.Record.{ring_place, no_cell, with_listed}
use Rattle.disk.specs.Disk.{Disk, queued_at, queued, reader_of, committed_reader}
use Rattle.disk.specs.Perform.{splice_some, enqueue, enqueue_all, after_flush, journal_add, hold, relisted, opening, closing, conflicted}
use Rattle.disk.proofs.Buffer.{FillsWith, length-spliced, filled-place, other_place}

-- An entry with its data taken out and put in again.
change-filled : (x : Content) (c : Change Written) → FillsWith x (carried_by c) → map_change (with_body x) (map_change (with_body {B = ℕ} 0) c) ≡ c
unfolding map_change carried_by
change-filled x (take_list l) h = refl
change-filled x (put_first b l) h = refl
change-filled x (put_after b l p) h = refl
change-filled x (write b d) h = ap (λ (y : Content). write b (with_body y d)) h
change-filled x (del_block b) h = refl
change-filled x (del_list l) h = refl

pub change-fill : (x : Content) (c : Change Written) → FillsWith x (carried_by c) → map_change (with_body x) (as_change (entry_in (cell_of (plain c)))) ≡ c
change-fill x c h = ap (map_change (with_body x)) (cell-change c) ∙ change-filled x c h

entry-filled : (x : Content) (e : Entry Written) → FillsWith x (carried e) → map_entry (with_body x) (raw 0 e) ≡ e
unfolding raw carried map_entry
entry-filled x (plain c) h = ap plain (change-filled x c h)
entry-filled x (member c) h = ap member (change-filled x c h)
entry-filled x (commit n) h = refl

pub entry-fill : (x : Content) (e : Entry Written) → FillsWith x (carried e) → map_entry (with_body x) (as_entry (member_in (cell_of e)) (entry_in (cell_of e))) ≡ e
entry-fill x e h = ap (map_entry (with_body x)) (cell-entry e) ∙ entry-filled x e h

-- Places of the ring.
ring-apart : (h k n : ℕ) → k < n → n < 32 → (h + k) % 32 ≢ (h + n) % 32
ring-apart h k n a b = omega arith

ring-small : (n : ℕ) → n % 32 < 32
ring-small n = omega arith

ring-fits : (n : ℕ) → 256 * (n % 32) + 256 ≤ 8192
ring-fits n = omega arith

-- The entry joins the queue.
pub enqueue-length : (e : Entry Written) (d : Disk) → (enqueue e d).rec.ring.len ≡ suc d.rec.ring.len
unfolding enqueue
enqueue-length e d = add-one d.rec.ring.len

pub enqueue-places : (e : Entry Written) (d : Disk) → length (enqueue e d).rec.ring.queue ≡ length d.rec.ring.queue
unfolding enqueue
enqueue-places e d = length-set d.rec.ring.queue _ (cell_of e)

pub enqueue-data : (e : Entry Written) (d : Disk) → length d.queue_data ≡ 8192 → Sized (carried e) → length (enqueue e d).queue_data ≡ 8192
unfolding enqueue
enqueue-data e d l z = length-spliced d.queue_data _ (carried e) (omega (arith, l, ring-fits (d.rec.ring.head + d.rec.ring.len))) z ∙ l

pub queue-length : (d : Disk) → length (queued d) ≡ d.rec.ring.len
unfolding queued
queue-length d = from-length (queued_at d) 0 d.rec.ring.len

queued-new : (e : Entry Written) (d : Disk) → length d.queue_data ≡ 8192 → length d.rec.ring.queue ≡ 32 → Sized (carried e) → queued_at (enqueue e d) d.rec.ring.len ≡ e
unfolding queued_at enqueue
queued-new e d l q z =
    rw (get_or-set_same d.rec.ring.queue p (cell_of e) no_cell (omega (arith, ring-small (d.rec.ring.head + d.rec.ring.len))))
    (entry-fill (slot (splice_some d.queue_data (256 * p) (carried e)) p) e (filled-place d.queue_data p (carried e) (omega (arith, ring-fits (d.rec.ring.head + d.rec.ring.len))) z))
  where
    p : ℕ
    p = ring_place d.rec d.rec.ring.len

queued-old : (e : Entry Written) (d : Disk) (k : ℕ) → length d.queue_data ≡ 8192 → d.rec.ring.len < 32 → Sized (carried e) → k < d.rec.ring.len
    → queued_at (enqueue e d) k ≡ queued_at d k
unfolding queued_at enqueue
queued-old e d k l m z a =
    rw (get_or-set_other d.rec.ring.queue p j (cell_of e) no_cell (ring-apart d.rec.ring.head k d.rec.ring.len a m))
    (rw (other_place d.queue_data p j (carried e) (omega (arith, ring-fits (d.rec.ring.head + d.rec.ring.len))) (omega (arith, ring-fits (d.rec.ring.head + k))) z
    (λ e. ring-apart d.rec.ring.head k d.rec.ring.len a m (sym e))))
  where
    p : ℕ
    p = ring_place d.rec d.rec.ring.len

    j : ℕ
    j = ring_place d.rec k

pub queued-add : (e : Entry Written) (d : Disk) → length d.queue_data ≡ 8192 → length d.rec.ring.queue ≡ 32 → d.rec.ring.len < 32 → Sized (carried e)
    → queued (enqueue e d) ≡ queued d ++ e ∷ []
unfolding queued
queued-add e d l q m z =
    ap (from f 0) (enqueue-length e d)
    ∙ from-snoc f 0 d.rec.ring.len
    ∙ ap (λ (x : Entry Written). from f 0 d.rec.ring.len ++ x ∷ []) (ap f (zero-add d.rec.ring.len) ∙ queued-new e d l q z)
    ∙ ap (λ (r : List (Entry Written)). r ++ e ∷ []) (from-ext f (queued_at d) d.rec.ring.len (λ k a. queued-old e d k l m z a))
  where
    f : ℕ → Entry Written
    f = queued_at (enqueue e d)

-- several entries
abbrev pub AllSized : List (Entry Written) → Type 0
AllSized [] = Unit {0}
AllSized (e ∷ es) = Sized (carried e) × AllSized es

pub queued-all : (es : List (Entry Written)) (d : Disk) → length d.queue_data ≡ 8192 → length d.rec.ring.queue ≡ 32 → d.rec.ring.len + length es ≤ 32 → AllSized es
    → queued (enqueue_all es d) ≡ queued d ++ es
unfolding enqueue_all
queued-all [] d l q m z = sym (append-nil (queued d))
queued-all (e ∷ es) d l q m z =
    queued-all es (enqueue e d) (enqueue-data e d l z.0) (enqueue-places e d ∙ q) (omega (arith, enqueue-length e d)) z.1
    ∙ ap (λ (x : List (Entry Written)). x ++ es) (queued-add e d l q (omega arith) z.0)
    ∙ append_assoc (queued d) (e ∷ []) es

pub enqueue_all-data : (es : List (Entry Written)) (d : Disk) → length d.queue_data ≡ 8192 → AllSized es → length (enqueue_all es d).queue_data ≡ 8192
unfolding enqueue_all
enqueue_all-data [] d l z = l
enqueue_all-data (e ∷ es) d l z = enqueue_all-data es (enqueue e d) (enqueue-data e d l z.0) z.1

pub enqueue_all-length : (es : List (Entry Written)) (d : Disk) → (enqueue_all es d).rec.ring.len ≡ d.rec.ring.len + length es
unfolding enqueue_all
enqueue_all-length [] d = omega arith
enqueue_all-length (e ∷ es) d = omega (arith, enqueue_all-length es (enqueue e d), enqueue-length e d)

-- the data of the entries that stand in the queue
pub change-sized : {A : Type 0} (x : Content) (c : Change (Raced A)) → length x ≡ 256 → Sized (carried_by (map_change (with_body x) c))
unfolding map_change carried_by
change-sized x (take_list l) z = tt
change-sized x (put_first b l) z = tt
change-sized x (put_after b l p) z = tt
change-sized x (write b s) z = z
change-sized x (del_block b) z = tt
change-sized x (del_list l) z = tt

entry-sized : {A : Type 0} (x : Content) (e : Entry (Raced A)) → length x ≡ 256 → Sized (carried (map_entry (with_body x) e))
unfolding map_entry carried
entry-sized x (plain c) z = change-sized x c z
entry-sized x (member c) z = change-sized x c z
entry-sized x (commit n) z = tt

sized-from : (f : ℕ → Entry Written) (k n : ℕ) → ((j : ℕ) → Sized (carried (f j))) → AllSized (from f k n)
unfolding from
sized-from f k zero h = tt
sized-from f k (suc n) h = (h k, sized-from f (suc k) n h)

sized-at : (d : Disk) (k : ℕ) → length d.queue_data ≡ 8192 → Sized (carried (queued_at d k))
unfolding queued_at
sized-at d k l = entry-sized _ _ (length-slot d.queue_data (ring_place d.rec k) (omega (arith, ring-fits (d.rec.ring.head + k))))

pub queued-sized : (d : Disk) → length d.queue_data ≡ 8192 → AllSized (queued d)
unfolding queued
queued-sized d l = sized-from (queued_at d) 0 d.rec.ring.len (λ k. sized-at d k l)

-- what the queue's growth leaves alone
pub record Beside (d e : Disk) : Type 0 where
  pub card : e.card ≡ d.card
  pub journal_data : e.journal_data ≡ d.journal_data
  pub places : length e.rec.ring.queue ≡ length d.rec.ring.queue
  pub head : e.rec.ring.head ≡ d.rec.ring.head
  pub done : e.rec.ring.done ≡ d.rec.ring.done
  pub units : e.rec.held.units ≡ d.rec.held.units
  pub holder : e.rec.held.holder ≡ d.rec.held.holder
  pub order : e.rec.tally.order ≡ d.rec.tally.order
  pub listed : e.rec.tally.listed ≡ d.rec.tally.listed
  pub conflicts : e.rec.tally.conflicts ≡ d.rec.tally.conflicts

pub beside-one : (e : Entry Written) (d : Disk) → Beside d (enqueue e d)
unfolding enqueue
beside-one e d =
    record {
      card = refl;
      journal_data = refl;
      places = length-set d.rec.ring.queue _ (cell_of e);
      head = refl;
      done = refl;
      units = refl;
      holder = refl;
      order = refl;
      listed = refl;
      conflicts = refl;
    }

pub beside-all : (es : List (Entry Written)) (d : Disk) → Beside d (enqueue_all es d)
unfolding enqueue_all
beside-all [] d =
    record {
      card = refl;
      journal_data = refl;
      places = refl;
      head = refl;
      done = refl;
      units = refl;
      holder = refl;
      order = refl;
      listed = refl;
      conflicts = refl;
    }
beside-all (e ∷ es) d =
    let x = beside-one e d in
    let y = beside-all es (enqueue e d) in
    record {
      card = y.card ∙ x.card;
      journal_data = y.journal_data ∙ x.journal_data;
      places = y.places ∙ x.places;
      head = y.head ∙ x.head;
      done = y.done ∙ x.done;
      units = y.units ∙ x.units;
      holder = y.holder ∙ x.holder;
      order = y.order ∙ x.order;
      listed = y.listed ∙ x.listed;
      conflicts = y.conflicts ∙ x.conflicts;
    }

-- A flush that drained n entries.
ring-shift : (h n k : ℕ) → ((h + n) % 32 + k) % 32 ≡ (h + (n + k)) % 32
ring-shift h n k = mod-add-mod (h + n) 32 k ∙ ap (λ (m : ℕ). m % 32) (let e : h + n + k ≡ h + (n + k) = omega arith in e)

drained-at : (d : Disk) (f : Flow) (k : ℕ) → queued_at (after_flush d f) k ≡ queued_at d (d.rec.ring.len - length f.queue + k)
unfolding queued_at after_flush
drained-at d f k = rw (ring-shift d.rec.ring.head (d.rec.ring.len - length f.queue) k)

pub queued-flushed : (d : Disk) (f : Flow) (n : ℕ) → n ≤ d.rec.ring.len → f.queue ≡ drop n (queued d) → queued (after_flush d f) ≡ f.queue
unfolding queued after_flush
queued-flushed d f n h e =
    ap (from (queued_at (after_flush d f)) 0) left
    ∙ from-shift (queued_at (after_flush d f)) (queued_at d) 0 (0 + n) m
    (λ k o. ap (queued_at (after_flush d f)) (zero-add k) ∙ drained-at d f k ∙ ap (queued_at d) (let p : d.rec.ring.len - length f.queue + k ≡ 0 + n + k = omega (arith, left) in p))
    ∙ sym (from-drop (queued_at d) 0 n m)
    ∙ ap (λ (j : ℕ). drop n (from (queued_at d) 0 j)) (let p : n + m ≡ d.rec.ring.len = omega arith in p)
    ∙ sym e
  where
    m : ℕ
    m = d.rec.ring.len - n

    left : length f.queue ≡ m
    left = ap length e ∙ length-drop n (queued d) ∙ ap (λ (j : ℕ). j - n) (queue-length d)

pub flushed-head : (d : Disk) (f : Flow) → (after_flush d f).rec.ring.head < 32
unfolding after_flush
flushed-head d f = ring-small (d.rec.ring.head + (d.rec.ring.len - length f.queue))

-- What leaves the queue alone.
pub queued-same : (d e : Disk) → e.queue_data ≡ d.queue_data → e.rec.ring.queue ≡ d.rec.ring.queue → e.rec.ring.head ≡ d.rec.ring.head → e.rec.ring.len ≡ d.rec.ring.len
    → queued e ≡ queued d
unfolding queued queued_at
queued-same d e a b c n i =
    from (λ k. let q = get_or (b i) ((c i + k) % 32) no_cell in map_entry (with_body (slot (a i) ((c i + k) % 32))) (as_entry (member_in q) (entry_in q))) 0 (n i)

pub queued-journal : (u : ℕ) (c : Change Written) (d : Disk) → queued (journal_add u c d) ≡ queued d
unfolding journal_add
queued-journal u c d = queued-same d (journal_add u c d) refl refl refl refl

pub queued-hold : (s b : ℕ) (d : Disk) → queued (hold s b d) ≡ queued d
unfolding hold
queued-hold zero b d = refl
queued-hold (suc u) b d = queued-same d (hold (suc u) b d) refl refl refl refl

pub queued-relisted : (fs : List ℕ) (d : Disk) → queued (relisted fs d) ≡ queued d
unfolding relisted with_listed
queued-relisted fs d = queued-same d (relisted fs d) refl refl refl refl

pub queued-opening : (u w : ℕ) (d : Disk) → queued (opening u w d) ≡ queued d
unfolding opening
queued-opening u w d = queued-same d (opening u w d) refl refl refl refl

pub queued-closing : (u : ℕ) (s : State Written) (d : Disk) → queued (closing u s d) ≡ queued d
unfolding closing relisted with_listed
queued-closing u s d = queued-same d (closing u s d) refl refl refl refl

pub queued-conflicted : (w : ℕ) (d : Disk) → queued (conflicted w d) ≡ queued d
unfolding conflicted
queued-conflicted w d = queued-same d (conflicted w d) refl refl refl refl

-- The log followed by the queue, of two disks with the same of both.
pub reader-same : (d e : Disk) → e.card ≡ d.card → queued e ≡ queued d → committed_reader e ≡ committed_reader d
unfolding committed_reader
reader-same d e a b i = bind (reader_of (mounted (a i))) (λ r. replay r (b i))
