-- What settles the book keeps the invariant: a cut between calls, a formatting whole or cut, and a mounting.
use mathlib.Core.Path.{◌≡◌, refl, sym, ap, ◌∙◌, subst}
use mathlib.Core.List.{List, []}
use Prim.Native.Nat.{ℕ, ◌-◌, ◌≤◌}
use native.Mathlib.Omega.{arith}
use lib.ListN.{length, take}
use Rattle.lists.specs.Numbers.{all_numbers}
use Rattle.lists.proofs.Basic.{get_or-same}
use Rattle.lists.proofs.Takings.{TakenOnce}
use Rattle.card_log.specs.Card.{segments_in}
use Rattle.card_log.specs.Store.{do_stores, format_stores}
use Rattle.card_log.proofs.Segment.{Carries}
use Rattle.disk.specs.Record.{Record, blank_record, fresh_record, with_listed}
use Rattle.disk.specs.Disk.{Disk, with_record, persistent}
use Rattle.disk.specs.Call.{format, mount}
use Rattle.disk.specs.Perform.{formatted, accepted}
use Rattle.disk.proofs.Fresh.{fresh-queue, fresh-journal}
use Rattle.crash.specs.Event.{Rest, World, cut_between, cut_format, leaves, step}
use Rattle.crash.specs.Book.{Book, batch_of, entries_of, placed_entries, book_format, settle}
use Rattle.crash.proofs.Book.{length-keep}
use Rattle.crash.proofs.Told.{Told, told-shown, format-shown, settle-told}
use Rattle.crash.proofs.Formatting.{format-carries}
use Rattle.crash.proofs.Simulation.{Sim}
use Rattle.crash.proofs.Invariant.{Tied, Inv, Live, live, settle-sim, settle-four, settle-few, settled-inv, segments-count}

-- Cuts.
pub cut-between : (w : World) (b : Book) (x : Rest) → Inv w b → Inv (step w (cut_between x)) (settle b)
unfolding step leaves
cut-between w b x i = settled-inv (leaves w.disk.card x) b i.sim.carries (told-shown b i.told) i.few

format-few : (k : ℕ) (b : Book) → length b.segs ≤ 64 → length (book_format k b).segs ≤ 64
unfolding book_format
format-few k b m = omega (arith, length-keep (length b.segs - k) b.segs)

formatted-card : (k : ℕ) (c : List ℕ) (b : Book) → k ≤ length b.segs → Carries c (placed_entries b) → Carries (formatted k c) (placed_entries (book_format k b))
unfolding formatted
formatted-card k c b l h =
    subst (λ (n : ℕ). Carries (do_stores (take k (format_stores n)) c) (placed_entries (book_format k b))) (sym (segments-count c b h)) (format-carries k c b l h)

pub cut-format : (w : World) (b : Book) (k : ℕ) (x : Rest) → k ≤ length b.segs → Inv w b → Inv (step w (cut_format k x)) (settle (book_format k b))
unfolding step leaves
cut-format w b k x l i =
    settled-inv (leaves (formatted k w.disk.card) x) (book_format k b)
    (formatted-card k w.disk.card b l i.sim.carries) (format-shown k b i.told) (format-few k b i.few)

-- A mounting or a formatting, accepted.
pub fresh-tied : (d : Disk) (b : Book) (fs : List ℕ) → d.rec ≡ fresh_record fs → Tied d (settle b)
unfolding settle entries_of batch_of fresh_record with_listed blank_record
fresh-tied d b fs e =
    record {
      queue = fresh-queue d fs e;
      done = ap (λ (r : Record). r.ring.done) e;
      journals = λ u l m. fresh-journal d fs e u ∙ sym (get_or-same 4 (u - 1) []);
      once = λ u l m. subst TakenOnce (sym (get_or-same 4 (u - 1) [])) tt;
    }

settled-live : (d : Disk) (b : Book) (fs : List ℕ) → d.rec ≡ fresh_record fs → Sim d.card (settle b) → Told (settle b) → length b.segs ≤ 64 → Live d (settle b)
settled-live d b fs e s t m = live d (settle b) s t (fresh-tied d b fs e) (settle-four b) (settle-few b m)

pub accepted-mount : (w : World) (b : Book) → Inv w b → Live (accepted mount w.disk).disk (settle b)
unfolding accepted
accepted-mount w b i =
    let fs = (persistent w.disk).free in
    settled-live (with_record w.disk (fresh_record fs)) b fs refl (settle-sim w.disk.card b i.sim.carries) (settle-told b (told-shown b i.told)) i.few

pub accepted-format : (w : World) (b : Book) → Inv w b → Live (accepted format w.disk).disk (settle (book_format (length b.segs) b))
unfolding accepted
accepted-format w b i =
    let n = length b.segs in
    let c = w.disk.card in
    settled-live (accepted format w.disk).disk (book_format n b) all_numbers refl
    (settle-sim (formatted (segments_in c) c) (book_format n b)
    (subst (λ (m : ℕ). Carries (formatted m c) (placed_entries (book_format n b))) (sym (segments-count c b i.sim.carries))
    (formatted-card n c b (omega arith) i.sim.carries)))
    (settle-told (book_format n b) (format-shown n b i.told)) (format-few n b i.few)
