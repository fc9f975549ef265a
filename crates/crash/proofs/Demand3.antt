-- Demand 3, proved: the invariant holds at the start, each event that may happen keeps it, and it says what mounting shows.
use mathlib.Core.Path.{◌≡◌, refl, sym, subst}
use mathlib.Core.Logic.{◌⊎◌, inl, inr}
use mathlib.Core.Bool.{Bool, true, false, ◌&&◌, ◌||◌, not, true≢false, and-false, and-true as and_yes}
use mathlib.Core.List.{List, [], ◌∷◌}
use Prim.Native.Nat.{ℕ, zero, suc, ◌*◌, ◌<◌}
use native.Mathlib.Omega.{arith}
use lib.Dec.{leb, eqb, eqb-suc-zero}
use lib.ListN.{length, take, length-replicate}
use Rattle.lists.proofs.Basic.{and-true, not-false, leb-true}
use Rattle.lists.specs.Numbers.{all_numbers}
use Rattle.card_log.specs.Card.{card_length, segments_in}
use Rattle.card_log.specs.Store.{do_stores, format_stores}
use Rattle.card_log.proofs.CardLength.{card-size, card-small}
use Rattle.disk.specs.Record.{fresh_record}
use Rattle.disk.specs.Disk.{Disk}
use Rattle.disk.specs.Call.{Call, format, mount, conflict_count, on_stream, in_view, begin, end, flush, resets}
use Rattle.disk.specs.Questions.{questions, refusal}
use Rattle.disk.specs.Perform.{flushed, formatted, accepted, refusal_answer, perform}
use Rattle.answers.specs.Answers.{Answer}
use Rattle.disk.proofs.Questions.{yes-all, card-length}
use Rattle.disk.proofs.Performing.{refused_result, perform-accepted, perform-refused, accepted-code, refusal-code}
use Rattle.crash.specs.Event.{Event, called, cut_between, cut_flush, cut_format, Parts, World, lend, give_back, lent_whole, is_accepted, answered, step, may_happen}
use Rattle.crash.specs.Book.{Book, Waiting, empty_book, entries_of, batch_of, settle, book_accepted, book_refused, book_called, book_step}
use Rattle.crash.specs.Demand3.{Scene, scene_step, play, valid, begun, Demand3}
use Rattle.crash.proofs.Lending.{lend-whole, back_whole}
use Rattle.crash.proofs.Told.{empty-told}
use Rattle.crash.proofs.Formatting.{empty-carries}
use Rattle.crash.proofs.Simulation.{Sim}
use Rattle.crash.proofs.Invariant.{Tied, Inv, Live, live, inv-kept, segments-count}
use Rattle.crash.proofs.Cuts.{fresh-tied, cut-between, cut-format, accepted-mount, accepted-format}
use Rattle.crash.proofs.Flushing.{cut-flush, accepted-flush}
use Rattle.crash.proofs.Refusals.{refused-inv}
use Rattle.crash.proofs.Calls.{accepted-edit, accepted-begin, accepted-end}

-- Accepted calls: after a cut only a mounting or a formatting may happen.
awake : (d : Disk) (b : Book) (dn : Bool) → (dn ≡ false) ⊎ (false ≡ true) → Inv (record { disk = d; down = dn }) b → Live d b
awake d b dn (inl e) i = subst (λ (x : Bool). Inv (record { disk = d; down = x }) b) e i
awake d b dn (inr e) i = absurd (true≢false (sym e))

accepted-inv : (c : Call) (d : Disk) (b : Book) (dn : Bool) → refusal c d ≡ 0 → (dn ≡ false) ⊎ (resets c ≡ true) → Inv (record { disk = d; down = dn }) b
    → Live (accepted c d).disk (book_accepted c (accepted c d).answer.value b)
unfolding accepted book_accepted resets
accepted-inv format d b dn h w i = accepted-format (record { disk = d; down = dn }) b i
accepted-inv mount d b dn h w i = accepted-mount (record { disk = d; down = dn }) b i
accepted-inv (conflict_count v) d b dn h w i = awake d b dn w i
accepted-inv (on_stream s e) d b dn h w i = accepted-edit s e d b h (awake d b dn w i)
accepted-inv (in_view v k) d b dn h w i = awake d b dn w i
accepted-inv (begin u v) d b dn h w i = accepted-begin u v d b h (awake d b dn w i)
accepted-inv (end u) d b dn h w i = accepted-end u d b h (awake d b dn w i)
accepted-inv (flush a) d b dn h w i = accepted-flush a d b (awake d b dn w i)

-- A call that happens, whole or in parts lent.
book-accepted : (c : Call) (a : Answer) (b : Book) → a.code ≡ 0 → book_called c a b ≡ book_accepted c a.value b
unfolding book_called
book-accepted c a b h = rw (h, book_called)

book-refused : (c : Call) (a : Answer) (b : Book) (m : ℕ) → a.code ≡ suc m → book_called c a b ≡ book_refused c (suc m) b
unfolding book_called
book-refused c a b m h = rw (h, book_called)

accepted-test : (a : Answer) → a.code ≡ 0 → is_accepted a ≡ true
unfolding is_accepted
accepted-test a h = rw h

refused-test : (a : Answer) (m : ℕ) → a.code ≡ suc m → is_accepted a ≡ false
unfolding is_accepted
refused-test a m h = rw h (eqb-suc-zero m)

allowed : (a c : Bool) → not a || c ≡ true → (a ≡ false) ⊎ (c ≡ true)
allowed true c h = inr h
allowed false c h = inl refl

-- an accepted call was lent all of it
accepted-step : (c : Call) (p : Parts) (w : World) (b : Book) → refusal c (lend p w.disk) ≡ 0 → lent_whole p w.disk && (not w.down || resets c) ≡ true
    → Inv w b
    → Inv (record { disk = give_back p w.disk (accepted c (lend p w.disk)).disk; down = w.down && false })
    (book_accepted c (accepted c (lend p w.disk)).answer.value b)
accepted-step c p w b q m i =
    let (l, s) = and-true (lent_whole p w.disk) (not w.down || resets c) m in
    let e : lend p w.disk ≡ w.disk = lend-whole p w.disk l in
    rw (and-false w.down) (rw e (rw (back_whole p w.disk l (accepted c w.disk).disk)
    (accepted-inv c w.disk b w.down (rw e at q) (allowed w.down (resets c) s) i)))

-- a refused one may be lent any parts
refused-step : (c : Call) (m : ℕ) (p : Parts) (w : World) (b : Book) → refusal c (lend p w.disk) ≡ suc m → Inv w b
    → let r = refused_result c (suc m) (lend p w.disk) in
    Inv (record { disk = give_back p w.disk r.disk; down = w.down && not (is_accepted r.answer) }) (book_called c r.answer b)
refused-step c m p w b q i =
    let a = refusal_answer (suc m) (lend p w.disk) in
    let k : a.code ≡ suc m = refusal-code (suc m) (lend p w.disk) in
    rw (refused-test a m k) (rw (and_yes w.down) (rw (book-refused c a b m k) (refused-inv c m p w b q i)))

called-inv : (c : Call) (p : Parts) (w : World) (b : Book) → may_happen w (called c p) ≡ true → Inv w b
    → Inv (step w (called c p)) (book_step b (called c p) (answered w (called c p)))
unfolding may_happen step answered book_step
called-inv c p w b m i = go (refusal c (lend p w.disk)) refl
  where
    x : Disk
    x = lend p w.disk

    go : (n : ℕ) → refusal c (lend p w.disk) ≡ n → Inv (step w (called c p)) (book_step b (called c p) (answered w (called c p)))
    go zero q =
        let e : perform c x ≡ accepted c x = perform-accepted c x q in
        let k : (accepted c x).answer.code ≡ 0 = accepted-code c x in
        let y : is_accepted (accepted c x).answer ≡ true = accepted-test (accepted c x).answer k in
        rw e (rw y (rw (book-accepted c (accepted c x).answer b k) (accepted-step c p w b q (rw y at (rw e at m)) i)))
    go (suc n) q = rw (perform-refused c x n q) (refused-step c n p w b q i)

event-inv : (e : Event) (w : World) (b : Book) → may_happen w e ≡ true → Inv w b → Inv (step w e) (book_step b e (answered w e))
unfolding book_step may_happen
event-inv (called c p) w b m i = called-inv c p w b m i
event-inv (cut_between x) w b m i = cut-between w b x i
event-inv (cut_flush a k x) w b m i =
    let (o, l) = and-true (not w.down && eqb (refusal (flush a) w.disk) 0) (leb k (flushed a w.disk).stores) m in
    cut-flush w b a k x (not-false w.down (and-true (not w.down) (eqb (refusal (flush a) w.disk) 0) o).0) i
event-inv (cut_format k x) w b m i =
    let (o, l) = and-true (eqb (refusal format w.disk) 0) (leb k (segments_in w.disk.card)) m in
    cut-format w b k x (rw (segments-count w.disk.card b i.sim.carries) at (leb-true k (segments_in w.disk.card) l)) i

-- The start: right after an accepted formatting, the book empty.
start-sim : (n : ℕ) (c : List ℕ) → 0 < n → length c ≡ 4096 * n → Sim (do_stores (take n (format_stores n)) c) (empty_book n)
unfolding empty_book entries_of
start-sim n c p l = record { carries = empty-carries n c p l; good = tt; head = refl }

start-tied : (d : Disk) (n : ℕ) (fs : List ℕ) → d.rec ≡ fresh_record fs → Tied d (empty_book n)
unfolding empty_book settle batch_of
start-tied d n fs e = let t = fresh-tied d (empty_book n) fs e in record { queue = t.queue; done = t.done; journals = t.journals; once = t.once }

start-inv : (d : Disk) → refusal format d ≡ 0 → Live (accepted format d).disk (empty_book (segments_in d.card))
unfolding questions accepted formatted empty_book
start-inv d h =
    let k : card_length d.card ≡ true = card-length d (yes-all format d h 0) in
    let n = segments_in d.card in
    let (l, p) = card-size d.card k in
    live (accepted format d).disk (empty_book n) (start-sim n d.card p l) (empty-told n) (start-tied (accepted format d).disk n all_numbers refl) refl
    (omega (arith, card-small d.card k, length-replicate {A = List Waiting} n []))

pub begun-inv : (d : Disk) → refusal format d ≡ 0 → Inv (begun d).world (begun d).book
unfolding begun
begun-inv d h = rw (perform-accepted format d h) (start-inv d h)

-- Every list of events.
pub play-inv : (s : Scene) (es : List Event) → valid s es ≡ true → Inv s.world s.book → Inv (play s es).world (play s es).book
unfolding play valid scene_step
play-inv s [] v i = i
play-inv s (e ∷ es) v i =
    let (m, n) = and-true (may_happen s.world e) (valid (scene_step s e) es) v in
    play-inv (scene_step s e) es n (event-inv e s.world s.book m i)

pub demand3 : Demand3
demand3 d h es v = let s = play (begun d) es in inv-kept s.world s.book (play-inv (begun d) es v (begun-inv d h))
