-- An accepted flush, whole or cut, keeps the invariant.
use mathlib.Core.Path.{◌≡◌, refl, sym, ap, ◌∙◌, subst}
use mathlib.Core.Bool.{false}
use mathlib.Core.List.{List, []}
use Prim.Native.Nat.{ℕ, ◌-◌, ◌≤◌}
use native.Mathlib.Omega.{arith}
use lib.ListN.{length, drop, get_or, length-map}
use Rattle.lists.specs.Change.{Change}
use Rattle.lists.proofs.Basic.{map-drop}
use Rattle.lists.proofs.Takings.{TakenOnce}
use Rattle.card_log.specs.Card.{Written, segments_in}
use Rattle.card_log.specs.Flush.{Flow}
use Rattle.card_log.proofs.Segment.{Carries}
use Rattle.card_log.proofs.Flows.{tail-end, flow_for}
use Rattle.disk.specs.Disk.{Disk}
use Rattle.disk.specs.Call.{flush}
use Rattle.disk.specs.Perform.{flow_of, flushed, after_flush, accepted}
use Rattle.disk.proofs.Queue.{queue-length, queued-flushed}
use Rattle.disk.proofs.Journal.{journal-flushed}
use Rattle.crash.specs.Event.{Rest, World, cut_flush, leaves, step}
use Rattle.crash.specs.Book.{Book, Waiting, batch_of, entries_of, placed_entries, book_flush, settle}
use Rattle.crash.proofs.Told.{Told, told-shown}
use Rattle.crash.proofs.Simulation.{Sim, book_flow, Keeps, FlushSim, flush-sim}
use Rattle.crash.proofs.Invariant.{Tied, Inv, Live, live, settled-inv, segments-count}

pub keeps-told : (b b' : Book) → Keeps b b' → Told b → Told b'
keeps-told b b' k t = record { entries = t.entries; log = k.log ∙ t.log; history = k.history ∙ t.history; reader = t.reader; replays = t.replays }

keeps-few : (b b' : Book) → Keeps b b' → length b.segs ≤ 64 → length b'.segs ≤ 64
keeps-few b b' k m = omega (arith, k.size)

flow-of : (d : Disk) (b : Book) → Carries d.card (placed_entries b) → Tied d b → flow_of d ≡ book_flow d.card b
unfolding flow_of flow_for
flow-of d b h t i = record { card = d.card; place = tail-end d.card (placed_entries b) h i; queue = t.queue i; done = t.done i }

pub flushes : (a : ℕ) (d : Disk) (b : Book) → Sim d.card b → Tied d b → FlushSim (flushed a d).flow b (book_flush a b)
unfolding flushed
flushes a d b s t = rw (flow-of d b s.carries t) (flush-sim a 0 (segments_in d.card) d.card b (segments-count d.card b s.carries) s)

module _ (d : Disk) (b b' : Book) (y : Flow) (f : FlushSim y b b') where
  flow-card : f.card ≡ y.card
  unfolding flow_for
  flow-card = ap (λ (z : Flow). z.card) (sym f.flow)

  flow-queue : y.queue ≡ drop f.keeps.gone (entries_of b.line)
  unfolding flow_for entries_of
  flow-queue = ap (λ (z : Flow). z.queue) f.flow ∙ ap entries_of f.keeps.rest ∙ map-drop (λ (w : Waiting). w.entry) f.keeps.gone b.line

  gone-queued : Tied d b → f.keeps.gone ≤ d.rec.ring.len
  unfolding entries_of
  gone-queued t = omega (arith, f.keeps.left, queue-length d, ap length t.queue, length-map b.line (λ (w : Waiting). w.entry))

  flush-tied : Tied d b → Tied (after_flush d y) b'
  unfolding flow_for batch_of after_flush
  flush-tied t =
      record {
        queue =
            queued-flushed d y f.keeps.gone (gone-queued t) (flow-queue ∙ ap (drop f.keeps.gone) (sym t.queue)) ∙ ap (λ (z : Flow). z.queue) f.flow;
        done = ap (λ (z : Flow). z.done) f.flow;
        journals = λ u l m. journal-flushed d y u ∙ t.journals u l m
            ∙ ap (λ (x : List (List (Change Written))). get_or x (u - 1) []) (sym f.keeps.batches);
        once = λ u l m. subst TakenOnce (ap (λ (x : List (List (Change Written))). get_or x (u - 1) []) (sym f.keeps.batches)) (t.once u l m);
      }

pub cut-flush : (w : World) (b : Book) (a k : ℕ) (x : Rest) → w.down ≡ false → Inv w b → Inv (step w (cut_flush a k x)) (settle (book_flush k b))
unfolding step leaves
cut-flush w b a k x l i =
    let f = flushes k w.disk b i.sim (i.tied l) in
    let b' = book_flush k b in
    settled-inv (leaves (flushed k w.disk).flow.card x) b'
    (subst (λ (c : List ℕ). Carries c (placed_entries b')) (flow-card w.disk b b' (flushed k w.disk).flow f) f.sim.carries)
    (told-shown b' (keeps-told b b' f.keeps i.told)) (keeps-few b b' f.keeps i.few)

pub accepted-flush : (a : ℕ) (d : Disk) (b : Book) → Live d b → Live (accepted (flush a) d).disk (book_flush a b)
unfolding accepted after_flush
accepted-flush a d b i =
    let f = flushes a d b i.sim (i.tied refl) in
    let b' = book_flush a b in
    live (after_flush d (flushed a d).flow) b'
    (subst (λ (c : List ℕ). Sim c b') (flow-card d b b' (flushed a d).flow f) f.sim)
    (keeps-told b b' f.keeps i.told)
    (flush-tied d b b' (flushed a d).flow f (i.tied refl))
    (ap length f.keeps.batches ∙ i.four)
    (keeps-few b b' f.keeps i.few)
