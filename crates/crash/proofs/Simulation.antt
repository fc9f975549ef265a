-- A flush along the card and the book's walk along its line keep together, store by store (`flush-sim`).
use mathlib.Core.Path.{◌≡◌, refl, sym, ap, ◌∙◌, subst}
use mathlib.Core.Logic.{◌⊎◌, inl, inr}
use mathlib.Core.Bool.{Bool, true, false}
use mathlib.Core.Option.{Option, none, some}
use mathlib.Core.List.{List, [], ◌∷◌, ◌++◌, map, append_assoc, map-append}
use Prim.Native.Nat.{ℕ, zero, suc, ◌+◌, ◌≤◌, ◌<◌}
use native.Mathlib.Omega.{arith}
use lib.Dec.{eqb}
use lib.ListN.{length, drop, length-drop, length-map}
use lib.Seq.{drop-drop}
use Rattle.lists.specs.Basic.{joined}
use Rattle.lists.specs.Change.{Change}
use Rattle.lists.proofs.Basic.{eqb-true, eqb-neq}
use Rattle.card_log.specs.declared.place.Place.{Place}
use Rattle.card_log.specs.Entry.{Entry, carried}
use Rattle.card_log.specs.Card.{Written}
use Rattle.card_log.specs.Store.{home, entry_stores}
use Rattle.card_log.specs.Flush.{Flow, Ending, drained, full, stored, stopped, next_store, flush_from}
use Rattle.card_log.proofs.Segment.{Sized, Empties, Packed, data-length}
use Rattle.card_log.proofs.EntryStores.{entry-stores-length}
use Rattle.card_log.proofs.Places.{used, add_to, raw-length, At}
use Rattle.card_log.proofs.Allowance.{none_left}
use Rattle.card_log.proofs.Flows.{end_of, joined-add, add-length, Flows, flow_for, card_next, head_at_lem, store-more, next_more, store-last, next_last, next-none, next-full}
use Rattle.crash.specs.Book.{Book, Waiting, Act, place_of, placed_entries, entries_of, cost, move_to, book_store, book_flush}
use Rattle.crash.proofs.PlaceOf.{place_end}

-- Labels aside.
empties-entries : (ss : List (List Waiting)) → Empties (map entries_of ss) → Empties ss
unfolding entries_of
empties-entries [] h = tt
empties-entries ([] ∷ ss) h = empties-entries ss h
empties-entries ((w ∷ ws) ∷ ss) h = absurd h

packed-entries : (ss : List (List Waiting)) → Packed (map entries_of ss) → Packed ss
unfolding entries_of
packed-entries [] h = tt
packed-entries ([] ∷ ss) h = empties-entries ss h
packed-entries ((w ∷ ws) ∷ ss) h = packed-entries ss h

used-entries : (ss : List (List Waiting)) → used (map entries_of ss) ≡ used ss
unfolding entries_of used
used-entries [] = refl
used-entries ([] ∷ ss) = refl
used-entries ((w ∷ ws) ∷ ss) = ap suc (used-entries ss)

move-entries : (g : ℕ) (w : Waiting) (ss : List (List Waiting)) → map entries_of (move_to g w ss) ≡ add_to g w.entry (map entries_of ss)
unfolding move_to add_to entries_of
move-entries g w [] = refl
move-entries zero w (s ∷ ss) = ap {B = List (List (Entry Written))} (λ r. r ∷ map entries_of ss) (map-append (λ (x : Waiting). x.entry) s (w ∷ []))
move-entries (suc g) w (s ∷ ss) = ap {B = List (List (Entry Written))} (λ r. entries_of s ∷ r) (move-entries g w ss)

-- the card carries the book's segments, and of the line's first entry so many stores stand as the book says
abbrev pub Sim : List ℕ → Book → Type 0
Sim c b = Flows c (placed_entries b) (entries_of b.line) b.done

abbrev pub book_flow : List ℕ → Book → Flow
book_flow c b = flow_for c (placed_entries b) (entries_of b.line) b.done

-- a flush changes neither the history nor the batches, nor the log with the line behind it
pub record Keeps (b b' : Book) : Type 0 where
  pub history : b'.history ≡ b.history
  pub batches : b'.batches ≡ b.batches
  pub log : joined b'.segs ++ b'.line ≡ joined b.segs ++ b.line
  pub size : length b'.segs ≡ length b.segs
  pub gone : ℕ
  pub left : gone ≤ length b.line
  pub rest : b'.line ≡ drop gone b.line

-- one step of both: neither stores, or both do and keep together
data Moved (n : ℕ) (c : List ℕ) (b : Book) : Type 0 where
  halted : (x : Ending) → next_store n (book_flow c b) ≡ stopped x → book_store b ≡ none → Moved n c b
  moved : (c' : List ℕ) (b' : Book) → next_store n (book_flow c b) ≡ stored (book_flow c' b') → book_store b ≡ some b' → Sim c' b' → Keeps b b' → Moved n c b

cost-length : (p : Place) (e : Entry Written) → Sized (carried e) → length (entry_stores p e) ≡ cost e
unfolding cost
cost-length p e z = omega (arith, entry-stores-length p e, raw-length p.slots e, data-length (carried e) z)

abbrev book_with : List Act → List (List (Change Written)) → List (List Waiting) → ℕ → List Waiting → Book
book_with hs bs ss k l = record { history = hs; line = l; done = k; batches = bs; segs = ss }

moved-log : (g : ℕ) (w : Waiting) (ss : List (List Waiting)) (ws : List Waiting) → g < length ss → (g ≡ used ss) ⊎ (suc g ≡ used ss) → Packed ss
    → joined (move_to g w ss) ++ ws ≡ joined ss ++ (w ∷ ws)
unfolding move_to add_to
moved-log g w ss ws l u h = ap (λ (r : List Waiting). r ++ ws) (joined-add g w ss l u h) ∙ append_assoc (joined ss) (w ∷ []) ws

moved-size : (g : ℕ) (w : Waiting) (ss : List (List Waiting)) → length (move_to g w ss) ≡ length ss
unfolding move_to add_to
moved-size g w ss = add-length g w ss

store-sim : (hs : List Act) (bs : List (List (Change Written))) (ss : List (List Waiting)) (k : ℕ) (c : List ℕ) (l : List Waiting)
    → Sim c (book_with hs bs ss k l) → Moved (length (map entries_of ss)) c (book_with hs bs ss k l)
unfolding book_store entries_of placed_entries
store-sim hs bs ss k c [] s = halted drained (next-none c (map entries_of ss) k) refl
store-sim hs bs ss k c (w ∷ ws) s = go (home (length ess) (end_of ess) e) refl
  where
    ess : List (List (Entry Written))
    ess = map entries_of ss

    e : Entry Written
    e = w.entry

    q : List (Entry Written)
    q = entries_of ws

    -- the book's own place is the same
    same : {o : Option Place} → home (length ess) (end_of ess) e ≡ o → home (length ss) (place_of ess) e ≡ o
    same h = let n : length ss ≡ length ess = sym (length-map ss entries_of) in (λ i. home (n i) (place_end ess s.carries.packed i) e) ∙ h

    go : (o : Option Place) → home (length ess) (end_of ess) e ≡ o → Moved (length ess) c (book_with hs bs ss k (w ∷ ws))
    go none h = halted full (next-full c ess e q k h) (rw (same h, book_store))
    go (some p) h = close (eqb (suc k) (length (entry_stores p e))) refl
      where
        c' : List ℕ
        c' = card_next c ess e q k s p h

        costs : length (entry_stores p e) ≡ cost e
        costs = cost-length p e s.good.0.sized

        at : At ess p e
        at = head_at_lem c ess e q k s p h

        edge : (p.segment ≡ used ess) ⊎ (suc p.segment ≡ used ess) → (p.segment ≡ used ss) ⊎ (suc p.segment ≡ used ss)
        edge (inl v) = inl (v ∙ used-entries ss)
        edge (inr v) = inr (v ∙ used-entries ss)

        close : (f : Bool) → eqb (suc k) (length (entry_stores p e)) ≡ f → Moved (length ess) c (book_with hs bs ss k (w ∷ ws))
        close true f =
            let l : suc k ≡ length (entry_stores p e) = eqb-true (suc k) (length (entry_stores p e)) f in
            let m : map entries_of (move_to p.segment w ss) ≡ add_to p.segment e ess = move-entries p.segment w ss in
            moved c' (book_with hs bs (move_to p.segment w ss) 0 ws)
            (next_last c ess e q k s p h l ∙ ap (λ (x : List (List (Entry Written))). stored (flow_for c' x q 0)) (sym m))
            (rw (same h, book_store) (rw (rw costs at f)))
            (subst (λ (x : List (List (Entry Written))). Flows c' x q 0) (sym m) (store-last c ess e q k s p h l))
            (record {
              history = refl;
              batches = refl;
              log = moved-log p.segment w ss ws (rw (length-map ss entries_of) at at.inside) (edge at.edge) (packed-entries ss s.carries.packed);
              size = moved-size p.segment w ss;
              gone = 1;
              left = omega arith;
              rest = refl;
            })
        close false f =
            let n = eqb-neq (suc k) (length (entry_stores p e)) f in
            let l : suc k < length (entry_stores p e) = omega (arith, (s.head.0 p h).1) in
            moved c' (book_with hs bs ss (suc k) (w ∷ ws)) (next_more c ess e q k s p h l) (rw (same h, book_store) (rw (rw costs at f)))
            (store-more c ess e q k s p h l) (record { history = refl; batches = refl; log = refl; size = refl; gone = 0; left = omega arith; rest = refl })

-- A flush of a stores.
keeps-trans : (a b c : Book) → Keeps a b → Keeps b c → Keeps a c
keeps-trans a b c h k =
    record {
      history = k.history ∙ h.history;
      batches = k.batches ∙ h.batches;
      log = k.log ∙ h.log;
      size = k.size ∙ h.size;
      gone = h.gone + k.gone;
      left = omega (arith, h.left, k.left, ap length h.rest ∙ length-drop h.gone a.line);
      rest = k.rest ∙ ap (drop k.gone) h.rest ∙ drop-drop k.gone h.gone a.line;
    }

keeps_self : (b : Book) → Keeps b b
keeps_self b = record { history = refl; batches = refl; log = refl; size = refl; gone = 0; left = omega arith; rest = refl }

pub record FlushSim (f : Flow) (b b' : Book) : Type 0 where
  pub card : List ℕ
  pub flow : f ≡ book_flow card b'
  pub sim : Sim card b'
  pub keeps : Keeps b b'

sim-self : (c : List ℕ) (b : Book) → Sim c b → FlushSim (book_flow c b) b b
sim-self c b s = record { card = c; flow = refl; sim = s; keeps = keeps_self b }

pub flush-sim : (a m n : ℕ) (c : List ℕ) (b : Book) → n ≡ length b.segs → Sim c b → FlushSim (flush_from n a m (book_flow c b)).flow b (book_flush a b)
unfolding flush_from book_flush
flush-sim zero m n c b e s = rw (none_left n m (book_flow c b)).0 (sim-self c b s)
flush-sim (suc a) m n c b e s =
    go (λ c' b' e' s'. flush-sim a (suc m) n c' b' e' s')
    (subst (λ (j : ℕ). Moved j c b) (length-map b.segs entries_of ∙ sym e) (store-sim b.history b.batches b.segs b.done c b.line s))
  where
    go : ((c' : List ℕ) (b' : Book) → n ≡ length b'.segs → Sim c' b' → FlushSim (flush_from n a (suc m) (book_flow c' b')).flow b' (book_flush a b'))
        → Moved n c b → FlushSim (flush_from n (suc a) m (book_flow c b)).flow b (book_flush (suc a) b)
    go later (halted x q r) = rw (q, flush_from) (rw (r, book_flush) (sim-self c b s))
    go later (moved c' b' q r s' h) =
        let i : FlushSim (flush_from n a (suc m) (book_flow c' b')).flow b' (book_flush a b') = later c' b' (e ∙ sym h.size) s' in
        rw (q, flush_from) (rw (r, book_flush)
        (record { card = i.card; flow = i.flow; sim = i.sim; keeps = keeps-trans b b' (book_flush a b') h i.keeps }))
