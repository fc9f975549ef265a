-- The book's place behind its segments is the place where the card's log ends.
use mathlib.Core.Path.{◌≡◌, refl, ap, ◌∙◌}
use mathlib.Core.List.{List, [], ◌∷◌}
use Prim.Native.Nat.{ℕ, zero, suc, ◌+◌, ◌-◌}
use native.Mathlib.Omega.{arith}
use lib.ListN.{get_or}
use Rattle.card_log.specs.Entry.{Entry}
use Rattle.card_log.specs.Card.{Written}
use Rattle.card_log.specs.Store.{opened, after_all}
use Rattle.card_log.proofs.Segment.{Empties, Packed}
use Rattle.card_log.proofs.Places.{used}
use Rattle.card_log.proofs.Flows.{end_of}
use Rattle.crash.specs.Book.{last_in_use, place_of}

last-empties : (l g : ℕ) (ss : List (List (Entry Written))) → Empties ss → last_in_use l g ss ≡ l
unfolding last_in_use
last-empties l g [] h = refl
last-empties l g ([] ∷ ss) h = last-empties l (suc g) ss h
last-empties l g ((e ∷ es) ∷ ss) h = absurd h

last_none : (l g : ℕ) (ss : List (List (Entry Written))) → Packed ss → used ss ≡ 0 → last_in_use l g ss ≡ l
unfolding last_in_use used
last_none l g [] h u = refl
last_none l g ([] ∷ ss) h u = last-empties l (suc g) ss h
last_none l g ((e ∷ es) ∷ ss) h u = absurd (omega arith)

last-used : (l g u : ℕ) (ss : List (List (Entry Written))) → Packed ss → used ss ≡ suc u → last_in_use l g ss ≡ g + u
unfolding last_in_use used
last-used l g u [] h e = absurd (omega arith)
last-used l g u ([] ∷ ss) h e = absurd (omega arith)
last-used l g zero ((x ∷ xs) ∷ ss) h e = last_none g (suc g) ss h (omega arith) ∙ omega arith
last-used l g (suc u) ((x ∷ xs) ∷ ss) h e = last-used g (suc g) u ss h (omega arith) ∙ omega arith

pub place_end : (ess : List (List (Entry Written))) → Packed ess → place_of ess ≡ end_of ess
unfolding place_of end_of
place_end ess h = ap (λ (g : ℕ). after_all (opened g) (get_or ess g [])) (go (used ess) refl)
  where
    go : (u : ℕ) → used ess ≡ u → last_in_use 0 0 ess ≡ used ess - 1
    go zero e = last_none 0 0 ess h e ∙ omega arith
    go (suc u) e = last-used 0 0 u ess h e ∙ omega arith
