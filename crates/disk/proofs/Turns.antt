-- Stores in turn. Each store of a flush is one (`in-turn`). Whoever makes a store in turn on a card with an acceptable log, whatever else his program
-- does, leaves that log, or that log and the entry behind it (`turn-mounts`); whoever clears a count with nothing but empty segments behind it
-- leaves an acceptable log (`clear-mounts`).
use mathlib.Core.Path.{◌≡◌, refl, sym, ap, ◌∙◌, subst}
use mathlib.Core.Logic.{◌⊎◌, inl, inr}
use mathlib.Core.Bool.{true}
use mathlib.Core.Option.{Option, some}
use mathlib.Core.List.{List, [], ◌∷◌, ◌++◌, append_assoc, append-nil}
use Prim.Native.Nat.{ℕ, zero, suc, ◌+◌, ◌*◌, ◌<◌}
use native.Mathlib.Omega.{arith}
use native.Mathlib.Decide.{dec_lt, ℕ_discrete}
use lib.Dec.{ltb}
use lib.ListN.{length, take, get_or, set, length-set, get_or-eq_default}
use lib.Seq.{get_or-set_same, get_or-set_other}
use Rattle.lists.specs.Basic.{joined}
use Rattle.lists.proofs.Basic.{and-true, lt-true, bind-some}
use Rattle.card_log.specs.declared.place.Place.{Place}
use Rattle.card_log.specs.Entry.{Entry}
use Rattle.card_log.specs.Reader.{Reader, start, read, replay}
use Rattle.card_log.specs.Card.{Written, card_length, segments_in, count, sound, mounted}
use Rattle.card_log.specs.Store.{Store, standing, home, tail, entry_stores, head_at}
use Rattle.card_log.specs.Turns.{InTurn, Clearable}
use Rattle.card_log.proofs.CardLength.{card-size}
use Rattle.card_log.proofs.Replay.{replay-append}
use Rattle.card_log.proofs.Segment.{Holds, Empties, Packed, Carries, carries-walk, carries-segments}
use Rattle.card_log.proofs.EntryStores.{holds-free}
use Rattle.card_log.proofs.Places.{Good, add_to}
use Rattle.card_log.proofs.Regain.{carries-read}
use Rattle.card_log.proofs.Formatting.{holds-none}
use Rattle.card_log.proofs.Flows.{end_of, Flows, head_at_lem, store-more, store-last, joined-add}
use Rattle.disk.specs.Sound.{head_standing}
use Rattle.disk.proofs.Standing.{home_same, standing-head, head-standing}

-- the card with one more store
abbrev pub stored_on : List ℕ → Store → List ℕ
stored_on c x = set c x.0 x.1

module _ (c : List ℕ) (ess : List (List (Entry Written))) (e : Entry Written) (p : Place) (k : ℕ) where
  pub in-turn : (q : List (Entry Written)) → Flows c ess (e ∷ q) k → home (length ess) (end_of ess) e ≡ some p → InTurn c p e k
  unfolding head_standing head_at
  in-turn q f h =
      let v : home (segments_in c) (tail c) e ≡ some p = home_same c ess f.carries e ∙ h in
      record {
        behind = v;
        stand = (and-true (ltb k (length (entry_stores p e))) (standing (take k (entry_stores p e)) c)
            (ap (λ (o : Option Place). head_at c k o e) (sym v) ∙ head-standing c ess f.carries (e ∷ q) k f.good f.head)).1;
      }

  module _ (h : Carries c ess) (g : Good e) (l : k < length (entry_stores p e)) (t : InTurn c p e k) where
    turn-home : home (length ess) (end_of ess) e ≡ some p
    turn-home = sym (home_same c ess h e) ∙ t.behind

    turn-flows : Flows c ess (e ∷ []) k
    unfolding head_standing head_at
    turn-flows = record {
      carries = h;
      good = (g, tt);
      head = standing-head c ess h (e ∷ []) k (g, tt) (ap (λ (o : Option Place). head_at c k o e) t.behind ∙ rw (lt-true k (length (entry_stores p e)) l) t.stand);
    }

    turn-carries : (let c' = stored_on c (get_or (entry_stores p e) k (0, 0)) in Carries c' ess ⊎ Carries c' (add_to p.segment e ess))
    turn-carries = go (dec_lt (suc k) (length (entry_stores p e)))
      where
        go : Dec (suc k < length (entry_stores p e)) → (let c' = stored_on c (get_or (entry_stores p e) k (0, 0)) in Carries c' ess ⊎ Carries c' (add_to p.segment e ess))
        go (yes m) = inl (store-more c ess e [] k turn-flows p turn-home m).carries
        go (no m) = inr (store-last c ess e [] k turn-flows p turn-home (omega arith)).carries

    turn-joined : joined (add_to p.segment e ess) ≡ joined ess ++ e ∷ []
    turn-joined = let a = head_at_lem c ess e [] k turn-flows p turn-home in joined-add p.segment e ess a.inside a.edge h.packed

read_behind : (es : List (Entry Written)) (e : Entry Written) (r r' : Reader Written) → replay start es ≡ some r → read r e ≡ some r'
    → replay start (es ++ e ∷ []) ≡ some r'
unfolding replay
read_behind es e r r' h k = replay-append start es (e ∷ []) ∙ rw h (rw k)

pub turn-mounts : (c : List ℕ) (r : Reader Written) (e : Entry Written) (p : Place) (k : ℕ) → card_length c ≡ true → mounted c ≡ sound r
    → Good e → k < length (entry_stores p e) → InTurn c p e k
    → (let c' = stored_on c (get_or (entry_stores p e) k (0, 0)) in (mounted c' ≡ sound r) ⊎ ((r' : Reader Written) → read r e ≡ some r' → mounted c' ≡ sound r'))
turn-mounts c r e p k s m g l t = go (turn-carries c ess e p k h g l t)
  where
    regained : (ess : List (List (Entry Written))) × Carries c ess × (replay start (joined ess) ≡ some r)
    regained = let (a, b) = card-size c s in carries-read (segments_in c) c r b a m

    ess : List (List (Entry Written))
    ess = regained.0

    h : Carries c ess
    h = regained.1

    c' : List ℕ
    c' = stored_on c (get_or (entry_stores p e) k (0, 0))

    go : Carries c' ess ⊎ Carries c' (add_to p.segment e ess) → (mounted c' ≡ sound r) ⊎ ((r' : Reader Written) → read r e ≡ some r' → mounted c' ≡ sound r')
    go (inl x) = inl (carries-walk c' ess r x regained.2)
    go (inr x) = inr (λ r' y. carries-walk c' (add_to p.segment e ess) r' x
        (ap (replay start) (turn-joined c ess e p k h g l t) ∙ read_behind (joined ess) e r r' regained.2 y))

-- Segments of which g is emptied, those behind it being empty.
module _ {A : Type 0} where
  empties-all : (ss : List (List A)) → ((h : ℕ) → get_or ss h [] ≡ []) → Empties ss
  empties-all [] z = tt
  empties-all ([] ∷ ss) z = empties-all ss (λ h. z (suc h))
  empties-all ((x ∷ xs) ∷ ss) z = absurd (let q : suc (length xs) ≡ 0 = ap length (z 0) in omega arith)

  empties-set : (g : ℕ) (ss : List (List A)) → Empties ss → Empties (set ss g [])
  empties-set g [] h = tt
  empties-set zero ([] ∷ ss) h = h
  empties-set (suc g) ([] ∷ ss) h = empties-set g ss h
  empties-set g ((x ∷ xs) ∷ ss) h = absurd h

  packed-clear : (g : ℕ) (ss : List (List A)) → Packed ss → ((h : ℕ) → g < h → get_or ss h [] ≡ []) → Packed (set ss g [])
  packed-clear g [] k z = tt
  packed-clear zero (s ∷ ss) k z = empties-all ss (λ h. z (suc h) (omega arith))
  packed-clear (suc g) ([] ∷ ss) k z = empties-set g ss k
  packed-clear (suc g) ((x ∷ xs) ∷ ss) k z = packed-clear g ss k (λ h l. z (suc h) (omega arith))

  joined-none : (ss : List (List A)) → ((h : ℕ) → get_or ss h [] ≡ []) → joined ss ≡ []
  unfolding joined
  joined-none [] z = refl
  joined-none (s ∷ ss) z = rw (z 0) (joined-none ss (λ h. z (suc h)))

  joined-clear : (g : ℕ) (ss : List (List A)) → ((h : ℕ) → g < h → get_or ss h [] ≡ []) → joined ss ≡ joined (set ss g []) ++ get_or ss g []
  unfolding joined
  joined-clear g [] z = refl
  joined-clear zero (s ∷ ss) z = rw (joined-none ss (λ h. z (suc h) (omega arith))) (append-nil s)
  joined-clear (suc g) (s ∷ ss) z =
      ap (λ (l : List A). s ++ l) (joined-clear g ss (λ h l. z (suc h) (omega arith))) ∙ sym (append_assoc s (joined (set ss g [])) (get_or ss g []))

module _ (c : List ℕ) (ess : List (List (Entry Written))) (g : ℕ) (k : Carries c ess) (t : Clearable c g) where
  abbrev c₀ : List ℕ
  c₀ = set c (4096 * g + 3584) 0

  within : g < length ess
  within = rw (carries-segments c ess k) at t.inside

  no-entries : (es : List (Entry Written)) → length es ≡ 0 → es ≡ []
  no-entries [] q = refl
  no-entries (e ∷ es) q = absurd (omega arith)

  empty-behind : (h : ℕ) → g < h → get_or ess h [] ≡ []
  unfolding count
  empty-behind h l = go (dec_lt h (length ess))
    where
      go : Dec (h < length ess) → get_or ess h [] ≡ []
      go (yes m) = no-entries (get_or ess h []) (sym (k.holds h m).counted ∙ t.behind h l (rw (carries-segments c ess k) m))
      go (no m) = get_or-eq_default ess [] (omega arith)

  clear-holds : (h : ℕ) → h < length ess → Dec (h ≡ g) → Holds c₀ h (get_or (set ess g []) h [])
  clear-holds h m (yes q) =
      subst (λ (n : ℕ). Holds c₀ n (get_or (set ess g []) n [])) (sym q)
      (rw (get_or-set_same ess g [] [] within) (holds-none c₀ g (get_or-set_same c (4096 * g + 3584) 0 0 (omega (arith, k.size, within)))))
  clear-holds h m (no d) = rw (get_or-set_other ess g h [] [] d) (side (dec_lt h g))
    where
      side : Dec (h < g) → Holds c₀ h (get_or ess h [])
      side (yes v) = holds-free c h (get_or ess h []) (4096 * g + 3584) 0 (inr (inr (omega (arith, (k.holds h m).short)))) (k.holds h m)
      side (no v) = holds-free c h (get_or ess h []) (4096 * g + 3584) 0 (inl (omega arith)) (k.holds h m)

  clear-carries : Carries c₀ (set ess g [])
  clear-carries = record {
    size = length-set c (4096 * g + 3584) 0 ∙ k.size ∙ ap (λ (n : ℕ). 4096 * n) (sym (length-set ess g []));
    some-segment = rw (length-set ess g []) k.some-segment;
    packed = packed-clear g ess k.packed empty-behind;
    holds = λ h m. clear-holds h (rw (length-set ess g []) at m) (ℕ_discrete h g);
  }

pub clear-mounts : (c : List ℕ) (r : Reader Written) (g : ℕ) → card_length c ≡ true → mounted c ≡ sound r → Clearable c g
    → (r' : Reader Written) × (mounted (set c (4096 * g + 3584) 0) ≡ sound r')
clear-mounts c r g s m t =
    let (a, b) = card-size c s in
    let (ess, k, v) = carries-read (segments_in c) c r b a m in
    let (r', x, y) = bind-some (replay start (joined (set ess g []))) (λ z. replay z (get_or ess g [])) r
    (sym (replay-append start (joined (set ess g [])) (get_or ess g [])) ∙ ap (replay start) (sym (joined-clear g ess (empty-behind c ess g k t))) ∙ v) in
    (r', carries-walk (set c (4096 * g + 3584) 0) (set ess g []) r' (clear-carries c ess g k t) x)
