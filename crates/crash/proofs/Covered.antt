-- "A drained flush covers the history so far.": after a flush that reports drained, every closing store of the history is on the card.
use mathlib.Core.Path.{◌≡◌, refl, sym, ap, ◌∙◌, subst}
use mathlib.Core.Bool.{Bool, true, false, ◌||◌, not, or-false}
use mathlib.Core.Option.{Option, none, some, some-injective}
use mathlib.Core.List.{List, [], ◌∷◌, ◌++◌, append-nil}
use Prim.Native.Nat.{ℕ, zero, suc}
use native.Mathlib.Omega.{arith}
use lib.ListN.{length}
use Rattle.lists.specs.Basic.{joined}
use Rattle.lists.proofs.Basic.{and-true, not-false}
use Rattle.card_log.specs.declared.place.Place.{Place}
use Rattle.card_log.specs.Entry.{Entry}
use Rattle.card_log.specs.Card.{Written, segments_in}
use Rattle.card_log.specs.Store.{home}
use Rattle.card_log.specs.Flush.{Flow, Ending, drained, full, spent, Next, stored, stopped, store_next, next_store, flush_from}
use Rattle.card_log.proofs.Flows.{flow_for}
use Rattle.answers.specs.declared.Ending.TheVariants.{Drained}
use Rattle.std.specs.Prelude.{Ok}
use Rattle.disk.specs.Disk.{Disk}
use Rattle.disk.specs.Call.{flush, resets}
use Rattle.disk.specs.Questions.{refusal}
use Rattle.disk.specs.Perform.{Result, flow_of, flushed, accepted, perform}
use Rattle.answers.specs.Answers.{Answer, ending_number}
use Rattle.answers.specs.Answers.{flush_answer, ending_of}
use Rattle.disk.proofs.Performing.{perform-accepted, perform-refused, refusal-code}
use Rattle.crash.specs.Event.{called, Parts, lend, lent_whole, is_accepted, answered, may_happen}
use Rattle.crash.specs.Book.{Book, Waiting, entries_of, longest, closing_on_card, on_card, book_flush, book_accepted, book_called, book_step}
use Rattle.crash.specs.Demand3.{Scene, scene_step, play, begun, DrainedCovers}
use Rattle.crash.proofs.History.{tell, on-card}
use Rattle.crash.proofs.Told.{Told}
use Rattle.crash.proofs.Lending.{lend-whole}
use Rattle.crash.proofs.Invariant.{Inv, Live}
use Rattle.crash.proofs.Flushing.{keeps-told, flushes}
use Rattle.crash.proofs.Demand3.{begun-inv, play-inv}

-- with nothing in the line every closing store is on the card
line-covered : (b : Book) → Told b → b.line ≡ [] → on_card b ≡ b.history
unfolding on_card
line-covered b t e =
    ap (longest (closing_on_card b.segs) 0) (t.history ∙ sym (append-nil (tell [] t.entries)))
    ∙ on-card b.segs t.entries [] (sym (append-nil (joined b.segs)) ∙ ap (λ (l : List Waiting). joined b.segs ++ l) (sym e) ∙ t.log)
    ∙ sym t.history

-- A flush that ends drained leaves nothing in the queue.
next-drained : (n : ℕ) (f : Flow) → next_store n f ≡ stopped drained → f.queue ≡ []
unfolding next_store
next-drained n f h = go f.queue refl
  where
    head : (e : Entry Written) (q : List (Entry Written)) → f.queue ≡ e ∷ q → (o : Option Place) → home n f.place e ≡ o → f.queue ≡ []
    head e q x none y =
        let z : stopped full ≡ stopped drained = rw y at (rw (x, next_store) at h) in
        absurd (let w : ◌≡◌ {A = ℕ} 0 1 = cc in omega arith)
    head e q x (some p) y =
        let z : stored (store_next f p e q) ≡ stopped drained = rw y at (rw (x, next_store) at h) in
        absurd (let w : ◌≡◌ {A = ℕ} 0 1 = cc in omega arith)

    go : (q : List (Entry Written)) → f.queue ≡ q → f.queue ≡ []
    go [] x = x
    go (e ∷ q) x = head e q x (home n f.place e) refl

drained-none : (a n k : ℕ) (f : Flow) → (flush_from n a k f).ending ≡ drained → (flush_from n a k f).flow.queue ≡ []
unfolding flush_from
drained-none zero n k f h = go (next_store n f) refl
  where
    go : (x : Next) → next_store n f ≡ x → (flush_from n zero k f).flow.queue ≡ []
    go (stored g) q = let z : spent ≡ drained = rw (q, flush_from) at h in absurd (let y : ◌≡◌ {A = ℕ} 0 1 = cc in omega arith)
    go (stopped e) q = let z : e ≡ drained = rw (q, flush_from) at h in rw (q, flush_from) (next-drained n f (q ∙ ap stopped z))
drained-none (suc a) n k f h = go (λ g. drained-none a n (suc k) g) (next_store n f) refl
  where
    go : ((g : Flow) → (flush_from n a (suc k) g).ending ≡ drained → (flush_from n a (suc k) g).flow.queue ≡ [])
        → (x : Next) → next_store n f ≡ x → (flush_from n (suc a) k f).flow.queue ≡ []
    go later (stored g) q = rw (q, flush_from) (later g (rw (q, flush_from) at h))
    go later (stopped e) q = let z : e ≡ drained = rw (q, flush_from) at h in rw (q, flush_from) (next-drained n f (q ∙ ap stopped z))

ending-drained : (x : Ending) → ending_number x ≡ ending_number drained → x ≡ drained
unfolding ending_number
ending-drained drained h = refl
ending-drained full h = absurd (omega arith)
ending-drained spent h = absurd (omega arith)

no-entries : (l : List Waiting) → entries_of l ≡ [] → l ≡ []
unfolding entries_of
no-entries [] h = refl
no-entries (w ∷ l) h = absurd (omega (arith, ap length h))

-- the flush along the book
book-covered : (a : ℕ) (d : Disk) (b : Book) → Live d b → (flushed a d).ending ≡ drained → on_card (book_flush a b) ≡ b.history
unfolding flushed flow_for
book-covered a d b i h =
    let f = flushes a d b i.sim (i.tied refl) in
    let e : (flushed a d).flow.queue ≡ [] = drained-none a (segments_in d.card) 0 (flow_of d) h in
    line-covered (book_flush a b) (keeps-told b (book_flush a b) f.keeps i.told)
    (no-entries (book_flush a b).line (ap (λ (y : Flow). y.queue) (sym f.flow) ∙ e))
    ∙ f.keeps.history

-- the reported ending is the flush's
flush-ending : (a n : ℕ) (d : Disk) → (perform (flush a) d).answer ≡ flush_answer (Ok (record { stores = n; ending = Drained })) → (flushed a d).ending ≡ drained
unfolding accepted flush_answer ending_of
flush-ending a n d h = go (refusal (flush a) d) refl
  where
    go : (m : ℕ) → refusal (flush a) d ≡ m → (flushed a d).ending ≡ drained
    go zero q = ending-drained (flushed a d).ending (ap (λ (y : Answer). y.second) (ap (λ (r : Result). r.answer) (sym (perform-accepted (flush a) d q)) ∙ h))
    go (suc m) q =
        let k : suc m ≡ 0 =
        sym (refusal-code (suc m) d) ∙ ap (λ (y : Answer). y.code) (ap (λ (r : Result). r.answer) (sym (perform-refused (flush a) d m q)) ∙ h) in
        absurd (omega arith)

scene-covered : (s : Scene) (a n : ℕ) (p : Parts) → Inv s.world s.book → may_happen s.world (called (flush a) p) ≡ true
    → (perform (flush a) (lend p s.world.disk)).answer ≡ flush_answer (Ok (record { stores = n; ending = Drained })) → on_card (scene_step s (called (flush a) p)).book ≡ s.book.history
unfolding scene_step book_step answered book_called book_accepted flush_answer may_happen is_accepted resets
scene-covered s a n p i m h =
    let d = s.world.disk in
    let (l, o) = and-true (lent_whole p d) (not s.world.down || false) (rw h at m) in
    let e : lend p d ≡ d = lend-whole p d l in
    let up : s.world.down ≡ false = not-false s.world.down (rw (or-false (not s.world.down)) at o) in
    rw h (book-covered a d s.book (subst (λ (x : Bool). Inv (record { disk = d; down = x }) s.book) up i) (flush-ending a n d (rw e at h)))

pub drained-covers : DrainedCovers
unfolding answered
drained-covers d h es v a n p m q =
    scene-covered (play (begun d) es) a n p (play-inv (begun d) es v (begun-inv d h)) m (some-injective _ _ q)
