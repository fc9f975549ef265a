-- A refused call keeps the invariant, whatever it was lent: refusal 12 closes the unit and drops its batch, another changes nothing.
use mathlib.Core.Path.{◌≡◌, refl, sym, ap, ◌∙◌}
use mathlib.Core.Bool.{Bool, true, false}
use mathlib.Core.Option.{Option, none, some, some-injective}
use mathlib.Core.List.{[]}
use Prim.Native.Nat.{ℕ, suc, ◌-◌, ◌≤◌}
use native.Mathlib.Omega.{arith}
use native.Mathlib.Decide.{ℕ_discrete}
use lib.Dec.{eqb}
use lib.ListN.{length-set}
use Rattle.lists.specs.State.{State}
use Rattle.card_log.specs.Card.{Written}
use Rattle.lists.proofs.Basic.{eqb-true}
use Rattle.disk.specs.Record.{with_listed}
use Rattle.disk.specs.Disk.{Disk, unit_of, journal_of}
use Rattle.disk.specs.Call.{Call, end, ends}
use Rattle.disk.specs.Questions.{questions, refusal}
use Rattle.disk.specs.Perform.{relisted, given_up, closing, conflicted, refused}
use Rattle.disk.proofs.Queue.{queued-closing, queued-conflicted}
use Rattle.disk.proofs.Journal.{journal-closing, journal-closing-other, journal-conflicted}
use Rattle.disk.proofs.Questions.{past, twelve-end, unit-range}
use Rattle.crash.specs.Event.{Parts, World, lend, give_back}
use Rattle.crash.specs.Book.{Book, batch_of, with_batch, placed_entries, book_refused}
use Rattle.crash.proofs.Book.{batch-other, batch-dropped, once-with}
use Rattle.crash.proofs.Told.{with_batch-told}
use Rattle.crash.proofs.Lending.{back-record}
use Rattle.crash.proofs.Invariant.{Tied, Inv}

-- the world after a call that made x of what it was lent, and was not accepted
abbrev pub after : Parts → World → Disk → World
after p w x = record { disk = give_back p w.disk x; down = w.down }

unchanged : (p : Parts) (w : World) (b : Book) → Inv w b → Inv (after p w (lend p w.disk)) b
unfolding lend
unchanged p w b i = rw (back-record p w.disk w.disk.rec) i

-- Refusal 12.
closed-tied : (v : ℕ) (s : State Written) (d : Disk) (b : Book) (u : ℕ) → 1 ≤ u → Tied d b → Tied (conflicted v (closing u s d)) (with_batch b u [])
unfolding conflicted closing relisted with_listed with_batch
closed-tied v s d b u p t =
    record {
      queue = queued-conflicted v (closing u s d) ∙ queued-closing u s d ∙ t.queue;
      done = t.done;
      journals = λ w x y. journal-conflicted v (closing u s d) w ∙ journals w x y (ℕ_discrete u w);
      once = once-with b u [] p (batch-dropped b u u refl) tt t.once;
    }
  where
    journals : (w : ℕ) → 1 ≤ w → w ≤ 4 → Dec (u ≡ w) → journal_of (closing u s d) w ≡ batch_of (with_batch b u []) w
    journals w x y (yes e) = rw (← e) (journal-closing u s d ∙ sym (batch-dropped b u u refl))
    journals w x y (no e) = journal-closing-other u w s d p x e ∙ t.journals w x y ∙ sym (batch-other b u w [] (omega arith))

back-closed : (p : Parts) (s : State Written) (d : Disk) (v u : ℕ) → give_back p d (conflicted v (closing u s (lend p d))) ≡ conflicted v (closing u s d)
unfolding lend conflicted closing given_up relisted with_listed unit_of
back-closed p s d v u = back-record p d (conflicted v (closing u s d)).rec

closed-inv : (p : Parts) (s : State Written) (w : World) (b : Book) (v u : ℕ) → 1 ≤ u → Inv w b → Inv (after p w (conflicted v (closing u s (lend p w.disk)))) (with_batch b u [])
unfolding conflicted closing relisted with_listed with_batch placed_entries
closed-inv p s w b v u l i =
    rw (back-closed p s w.disk v u)
    (record {
      sim = i.sim;
      told = with_batch-told b u [] i.told;
      tied = λ e. closed-tied v s w.disk b u l (i.tied e);
      four = length-set b.batches (u - 1) [] ∙ i.four;
      few = i.few;
    })

-- the unit is open, so it is one
end-range : (c : Call) (u : ℕ) (d : Disk) → ends c ≡ some u → refusal c d ≡ 12 → 1 ≤ u
unfolding refusal questions ends
end-range c u d o h =
    let (v, e) = twelve-end c d h in
    let k : v ≡ u = some-injective v u (sym (ap ends e) ∙ o) in
    let r : refusal (end v) d ≡ 12 = sym (ap (λ (x : Call). refusal x d) e) ∙ h in
    let (l, _, _) = unit-range d v (past 3 (questions (end v) d) 12 (omega arith) r 2 (omega arith)) in
    omega arith

pub refused-inv : (c : Call) (m : ℕ) (p : Parts) (w : World) (b : Book) → refusal c (lend p w.disk) ≡ suc m → Inv w b
    → Inv (after p w (refused c (suc m) (lend p w.disk))) (book_refused c (suc m) b)
unfolding refused book_refused
refused-inv c m p w b h i = go (ends c) refl (eqb (suc m) 12) refl
  where
    go : (o : Option ℕ) → ends c ≡ o → (f : Bool) → eqb (suc m) 12 ≡ f → Inv (after p w (refused c (suc m) (lend p w.disk))) (book_refused c (suc m) b)
    go none o f e = rw (o, refused, book_refused) (unchanged p w b i)
    go (some u) o true e = rw (o, refused, book_refused) (rw (e, refused, book_refused) (closed-inv p _ w b _ u (end-range c u (lend p w.disk) o (h ∙ eqb-true (suc m) 12 e)) i))
    go (some u) o false e = rw (o, refused, book_refused) (rw (e, refused, book_refused) (unchanged p w b i))
