-- Nothing is left of a lost unit: its changes are in its batch only; nothing but its accepted End looks at that batch; what loses the unit drops it.
use mathlib.Core.Path.{◌≡◌, refl, sym, ap, ◌∙◌}
use mathlib.Core.Logic.{◌≢◌}
use mathlib.Core.Bool.{Bool, true, false, ◌&&◌, false≢true}
use mathlib.Core.Option.{Option, none, some}
use mathlib.Core.List.{List, [], ◌∷◌, ◌++◌, map}
use Prim.Native.Nat.{ℕ, zero, suc, ◌-◌, ◌≤◌}
use native.Mathlib.Omega.{arith}
use native.Mathlib.Decide.{ℕ_discrete}
use lib.Dec.{eqb}
use lib.ListN.{length}
use lib.Seq.{set-set, set_comm}
use Rattle.lists.specs.Basic.{bind}
use Rattle.lists.specs.Change.{Change}
use Rattle.lists.proofs.Basic.{and-true, eqb-true}
use Rattle.card_log.specs.Entry.{commit}
use Rattle.card_log.specs.Card.{Written}
use Rattle.card_log.specs.Store.{home}
use Rattle.card_log.specs.declared.place.Place.{Place}
use Rattle.disk.specs.Call.{Edit, Call, format, mount, conflict_count, on_stream, in_view, begin, end, flush, ends, resets}
use Rattle.disk.specs.Perform.{change_for}
use Rattle.answers.specs.Answers.{Answer}
use Rattle.crash.specs.Event.{Event, called, cut_between, cut_flush, cut_format, is_accepted}
use Rattle.crash.specs.Book.{Book, Waiting, batch_of, with_batch, join_history, join, member_of, join_unit, cost, placed_entries, place_of, book_store, book_flush, book_format, is_number, on_card, settle, book_accepted, book_refused, book_called, book_step}
use Rattle.crash.specs.LostUnit.{Fed, own, other, fed_all, without, EndsOther, Unended, loses, LostUnit}
use Rattle.crash.proofs.Book.{batch-other}

-- Two batches set, one after the other.
abbrev with_batches : Book → List (List (Change Written)) → Book
with_batches b bs = record { history = b.history; line = b.line; done = b.done; batches = bs; segs = b.segs }

module _ (b : Book) (u : ℕ) where
  batch-twice : (cs ds : List (Change Written)) → with_batch (with_batch b u cs) u ds ≡ with_batch b u ds
  unfolding with_batch
  batch-twice cs ds = ap (with_batches b) (set-set b.batches (u - 1) cs ds)

  batch-swap : (v : ℕ) (cs ds : List (Change Written)) → u - 1 ≢ v - 1 → with_batch (with_batch b u cs) v ds ≡ with_batch (with_batch b v ds) u cs
  unfolding with_batch
  batch-swap v cs ds n = ap (with_batches b) (set_comm b.batches (u - 1) (v - 1) cs ds n)

module _ (u : ℕ) (l : 1 ≤ u) where
  abbrev dropped : Book → Book
  dropped b = with_batch b u []

  dropped-twice : (b : Book) → dropped b ≡ dropped (dropped b)
  dropped-twice b = sym (batch-twice b u [] [])

  -- A flush looks at no batch.
  store-dropped : (b : Book) → book_store (dropped b) ≡ bind (book_store b) (λ c. some (dropped c))
  unfolding book_store with_batch placed_entries
  store-dropped b = go b.line refl
    where
      go : (ws : List Waiting) → b.line ≡ ws → book_store (dropped b) ≡ bind (book_store b) (λ c. some (dropped c))
      go [] e = rw (e, book_store)
      go (w ∷ ws) e = place (home (length b.segs) (place_of (placed_entries b)) w.entry) refl (eqb (suc b.done) (cost w.entry)) refl
        where
          place : (o : Option Place) → home (length b.segs) (place_of (placed_entries b)) w.entry ≡ o
              → (f : Bool) → eqb (suc b.done) (cost w.entry) ≡ f → book_store (dropped b) ≡ bind (book_store b) (λ c. some (dropped c))
          place none h f g = rw (e, book_store) (rw (h, book_store))
          place (some p) h true g = rw (e, book_store) (rw (h, book_store) (rw g))
          place (some p) h false g = rw (e, book_store) (rw (h, book_store) (rw g))

  flush-dropped : (a : ℕ) (b : Book) → book_flush a (dropped b) ≡ dropped (book_flush a b)
  unfolding book_flush
  flush-dropped zero b = refl
  flush-dropped (suc a) b = go (book_store b) refl (λ c. flush-dropped a c)
    where
      go : (o : Option Book) → book_store b ≡ o → ((c : Book) → book_flush a (dropped c) ≡ dropped (book_flush a c))
          → book_flush (suc a) (dropped b) ≡ dropped (book_flush (suc a) b)
      go none h k = rw (store-dropped b, book_flush) (rw (h, book_flush))
      go (some c) h k = rw (store-dropped b, book_flush) (rw (h, book_flush) (k c))

  -- Batches, the unit's and any, changed by changes and Ends.
  own-dropped : (v : ℕ) (cs : List (Change Written)) (b : Book) → v - 1 ≡ u - 1 → dropped (with_batch b v cs) ≡ dropped b
  unfolding with_batch
  own-dropped v cs b e = rw e (batch-twice b u cs [])

  put-dropped : (v : ℕ) (cs : List (Change Written)) (b : Book) → dropped (with_batch b v cs) ≡ dropped (with_batch (dropped b) v cs)
  put-dropped v cs b = go (ℕ_discrete (v - 1) (u - 1))
    where
      go : Dec (v - 1 ≡ u - 1) → dropped (with_batch b v cs) ≡ dropped (with_batch (dropped b) v cs)
      go (yes e) = own-dropped v cs b e ∙ dropped-twice b ∙ sym (own-dropped v cs (dropped b) e)
      go (no n) = batch-swap b v u cs [] n ∙ ap (λ (x : Book). with_batch x v cs) (dropped-twice b) ∙ sym (batch-swap (dropped b) v u cs [] n)

  join-dropped : (s : ℕ) (c : Change Written) (b : Book) → dropped (join s c b) ≡ dropped (join s c (dropped b))
  unfolding join join_history with_batch
  join-dropped zero c b = dropped-twice (join zero c b)
  join-dropped (suc v) c b = go (ℕ_discrete (suc v - 1) (u - 1))
    where
      go : Dec (suc v - 1 ≡ u - 1) → dropped (join (suc v) c b) ≡ dropped (join (suc v) c (dropped b))
      go (yes e) = own-dropped (suc v) _ b e ∙ dropped-twice b ∙ sym (own-dropped (suc v) _ (dropped b) e)
      go (no n) = rw (batch-other b u (suc v) [] n) (put-dropped (suc v) (batch_of b (suc v) ++ c ∷ []) b)

  unit-dropped : (v : ℕ) (b : Book) → v - 1 ≢ u - 1 → dropped (join_unit v b) ≡ dropped (join_unit v (dropped b))
  unfolding join_unit join_history with_batch
  unit-dropped v b n =
      let cs = batch_of b v in
      rw (batch-other b u v [] n) (put-dropped v [] (join_history cs (map member_of cs) (commit (length cs)) b))

  -- What loses the unit leaves the same book with and without its batch.
  reset-lost : (c : Call) (n : ℕ) (b : Book) → resets c ≡ true → book_accepted c n b ≡ book_accepted c n (dropped b)
  unfolding book_accepted settle on_card book_format with_batch resets
  reset-lost format n b r = refl
  reset-lost mount n b r = refl
  reset-lost (conflict_count w) n b r = absurd (false≢true r)
  reset-lost (on_stream s e) n b r = absurd (false≢true r)
  reset-lost (in_view v k) n b r = absurd (false≢true r)
  reset-lost (begin v w) n b r = absurd (false≢true r)
  reset-lost (end v) n b r = absurd (false≢true r)
  reset-lost (flush a) n b r = absurd (false≢true r)

  end-lost : (c : Call) (b : Book) → is_number u (ends c) ≡ true → book_refused c 12 b ≡ book_refused c 12 (dropped b)
  unfolding book_refused is_number
  end-lost c b h = go (ends c) refl
    where
      go : (o : Option ℕ) → ends c ≡ o → book_refused c 12 b ≡ book_refused c 12 (dropped b)
      go none e = absurd (false≢true (rw e at h))
      go (some v) e = rw (e, book_refused) (rw (← eqb-true u v (rw e at h)) (dropped-twice b))

  step-lost : (e : Event) (a : Option Answer) (b : Book) → loses u e a ≡ true → book_step b e a ≡ book_step (dropped b) e a
  unfolding book_step book_called loses is_accepted settle on_card book_format with_batch
  step-lost (called c p) none b k = absurd (false≢true k)
  step-lost (called c p) (some a) b k = go (resets c && is_accepted a) refl
    where
      go : (f : Bool) → resets c && is_accepted a ≡ f → book_called c a b ≡ book_called c a (dropped b)
      go true f = let (r, h) = and-true (resets c) (is_accepted a) f in rw (eqb-true a.code 0 h, book_called) (reset-lost c a.value b r)
      go false f =
          let (o, h) = and-true (is_number u (ends c)) (eqb a.code 12) (rw f at k) in
          rw (eqb-true a.code 12 h, book_called) (end-lost c b o)
  step-lost (cut_between x) a b k = refl
  step-lost (cut_flush m n x) a b k = rw (flush-dropped n b)
  step-lost (cut_format n x) a b k = refl

  -- Every event but the unit's accepted End does the same with the rest of the book.
  accepted-dropped : (c : Call) (n : ℕ) (b : Book) → ((v : ℕ) → c ≡ end v → (1 ≤ v) × (v ≢ u))
      → dropped (book_accepted c n b) ≡ dropped (book_accepted c n (dropped b))
  unfolding book_accepted resets
  accepted-dropped format n b k = ap dropped (reset-lost format n b refl)
  accepted-dropped mount n b k = ap dropped (reset-lost mount n b refl)
  accepted-dropped (conflict_count w) n b k = dropped-twice b
  accepted-dropped (on_stream s e) n b k = join-dropped s (change_for e n) b
  accepted-dropped (in_view v x) n b k = dropped-twice b
  accepted-dropped (begin v w) n b k = dropped-twice b
  accepted-dropped (end v) n b k = let (p, d) = k v refl in unit-dropped v b (omega arith)
  accepted-dropped (flush a) n b k = dropped-twice (book_flush a b) ∙ ap dropped (sym (flush-dropped a b))

  refused-dropped : (c : Call) (n : ℕ) (b : Book) → dropped (book_refused c n b) ≡ dropped (book_refused c n (dropped b))
  unfolding book_refused
  refused-dropped c n b = go (ends c) refl (eqb n 12) refl
    where
      go : (o : Option ℕ) → ends c ≡ o → (f : Bool) → eqb n 12 ≡ f → dropped (book_refused c n b) ≡ dropped (book_refused c n (dropped b))
      go none e f g = rw (e, book_refused) (dropped-twice b)
      go (some v) e true g = rw (e, book_refused) (rw g (put-dropped v [] b))
      go (some v) e false g = rw (e, book_refused) (rw g (dropped-twice b))

  step-dropped : (e : Event) (a : Option Answer) (b : Book) → EndsOther u e a → dropped (book_step b e a) ≡ dropped (book_step (dropped b) e a)
  unfolding book_step book_called is_accepted loses
  step-dropped (called c p) none b k = dropped-twice b
  step-dropped (called c p) (some a) b k = go a.code refl
    where
      go : (n : ℕ) → a.code ≡ n → dropped (book_called c a b) ≡ dropped (book_called c a (dropped b))
      go zero h = rw (h, book_called) (accepted-dropped c a.value b (λ v e. k v p a (ap (λ (x : Call). called x p) e) refl (rw h)))
      go (suc n) h = rw (h, book_called) (refused-dropped c (suc n) b)
  step-dropped (cut_between x) a b k = ap dropped (step-lost (cut_between x) a b refl)
  step-dropped (cut_flush m n x) a b k = ap dropped (step-lost (cut_flush m n x) a b refl)
  step-dropped (cut_format n x) a b k = ap dropped (step-lost (cut_format n x) a b refl)

  -- The unit's changes: an accepted one joins its batch, a refused one nothing.
  own-join : (s : ℕ) (c : Change Written) (b : Book) → s ≡ u → dropped (join s c b) ≡ dropped b
  unfolding join
  own-join zero c b e = absurd (omega arith)
  own-join (suc v) c b e = own-dropped (suc v) _ b (ap (λ (n : ℕ). n - 1) e)

  own-called : (e : Edit) (a : Answer) (b : Book) → dropped (book_called (on_stream u e) a b) ≡ dropped b
  unfolding book_called book_accepted book_refused ends
  own-called e a b = go a.code refl
    where
      go : (n : ℕ) → a.code ≡ n → dropped (book_called (on_stream u e) a b) ≡ dropped b
      go zero h = rw (h, book_called) (own-join u (change_for e a.value) b refl)
      go (suc n) h = rw (h, book_called)

  fed-dropped : (xs : List Fed) (b c : Book) → Unended u xs → dropped b ≡ dropped c → dropped (fed_all u xs b) ≡ dropped (fed_all u (without xs) c)
  unfolding fed_all without
  fed-dropped [] b c k h = h
  fed-dropped (own e a ∷ xs) b c k h = fed-dropped xs (book_called (on_stream u e) a b) c k (own-called e a b ∙ h)
  fed-dropped (other e a ∷ xs) b c (k, ks) h =
      fed-dropped xs (book_step b e a) (book_step c e a) ks
      (step-dropped e a b k ∙ ap (λ (x : Book). dropped (book_step x e a)) h ∙ sym (step-dropped e a c k))

pub lost-unit : LostUnit
lost-unit u xs b l k e a h =
    step-lost u l e a (fed_all u xs b) h
    ∙ ap (λ (x : Book). book_step x e a) (fed-dropped u l xs b b k refl)
    ∙ sym (step-lost u l e a (fed_all u (without xs) b) h)
