-- Laws of the book alone: the entries of labelled lists, a unit's batch, and the segments that a formatting has not reached yet.
use mathlib.Core.Path.{◌≡◌, refl, sym, ap, ◌∙◌, subst}
use mathlib.Core.Logic.{◌≢◌}
use mathlib.Core.List.{List, [], ◌∷◌, ◌++◌, map, append_assoc, map-append}
use Prim.Native.Nat.{ℕ, zero, suc, ◌-◌, ◌≤◌, ◌<◌}
use native.Mathlib.Omega.{arith}
use native.Mathlib.Decide.{ℕ_discrete}
use lib.ListN.{length, drop, get_or, set}
use lib.Seq.{get_or-set_same, get_or-set_other}
use Rattle.lists.specs.Basic.{joined}
use Rattle.lists.specs.Change.{Change}
use Rattle.lists.proofs.Basic.{get_or-set-default}
use Rattle.lists.proofs.Takings.{TakenOnce}
use Rattle.card_log.specs.Entry.{Entry}
use Rattle.card_log.specs.Card.{Written}
use Rattle.crash.specs.Book.{Book, Waiting, entries_of, batch_of, with_batch, keep_first}

-- Entries.
pub entries-append : (x y : List Waiting) → entries_of (x ++ y) ≡ entries_of x ++ entries_of y
unfolding entries_of
entries-append x y = map-append (λ (w : Waiting). w.entry) x y

pub entries-joined : (ss : List (List Waiting)) → joined (map entries_of ss) ≡ entries_of (joined ss)
unfolding joined entries_of
entries-joined [] = refl
entries-joined (s ∷ ss) = ap (λ (l : List (Entry Written)). entries_of s ++ l) (entries-joined ss) ∙ sym (map-append (λ (w : Waiting). w.entry) s (joined ss))

-- Batches.
module _ (b : Book) (u : ℕ) where
  pub batch-same : (cs : List (Change Written)) → u - 1 < length b.batches → batch_of (with_batch b u cs) u ≡ cs
  unfolding batch_of with_batch
  batch-same cs l = get_or-set_same b.batches (u - 1) cs [] l

  pub batch-other : (v : ℕ) (cs : List (Change Written)) → v - 1 ≢ u - 1 → batch_of (with_batch b u cs) v ≡ batch_of b v
  unfolding batch_of with_batch
  batch-other v cs d = get_or-set_other b.batches (u - 1) (v - 1) cs [] d

  pub batch-dropped : (v : ℕ) → u - 1 ≡ v - 1 → batch_of (with_batch b u []) v ≡ []
  unfolding batch_of with_batch
  batch-dropped v e = ap (λ (k : ℕ). get_or (set b.batches k []) (v - 1) []) e ∙ get_or-set-default b.batches (v - 1) []

-- Batches none of which takes a list twice, one of them another one.
pub once-with : (b : Book) (u : ℕ) (cs : List (Change Written)) → 1 ≤ u → batch_of (with_batch b u cs) u ≡ cs → TakenOnce cs
    → ((v : ℕ) → 1 ≤ v → v ≤ 4 → TakenOnce (batch_of b v)) → (v : ℕ) → 1 ≤ v → v ≤ 4 → TakenOnce (batch_of (with_batch b u cs) v)
once-with b u cs p s o f v x y = go (ℕ_discrete u v)
  where
    go : Dec (u ≡ v) → TakenOnce (batch_of (with_batch b u cs) v)
    go (yes e) = subst TakenOnce (sym s ∙ ap (batch_of (with_batch b u cs)) e) o
    go (no e) = subst TakenOnce (sym (batch-other b u v cs (omega arith))) (f v x y)

-- The first m segments kept, the others emptied.
module _ {A : Type 0} where
  pub get_or-keep : (m h : ℕ) (ss : List (List A)) → h < m → get_or (keep_first m ss) h [] ≡ get_or ss h []
  unfolding keep_first
  get_or-keep m h [] l = refl
  get_or-keep zero h (s ∷ ss) l = absurd (omega arith)
  get_or-keep (suc m) zero (s ∷ ss) l = refl
  get_or-keep (suc m) (suc h) (s ∷ ss) l = get_or-keep m h ss (omega arith)

  pub get_or-emptied : (m h : ℕ) (ss : List (List A)) → m ≤ h → get_or (keep_first m ss) h [] ≡ []
  unfolding keep_first
  get_or-emptied m h [] l = refl
  get_or-emptied zero zero (s ∷ ss) l = refl
  get_or-emptied zero (suc h) (s ∷ ss) l = get_or-emptied zero h ss (omega arith)
  get_or-emptied (suc m) zero (s ∷ ss) l = absurd (omega arith)
  get_or-emptied (suc m) (suc h) (s ∷ ss) l = get_or-emptied m h ss (omega arith)

  pub length-keep : (m : ℕ) (ss : List (List A)) → length (keep_first m ss) ≡ length ss
  unfolding keep_first
  length-keep m [] = refl
  length-keep zero (s ∷ ss) = ap suc (length-keep zero ss)
  length-keep (suc m) (s ∷ ss) = ap suc (length-keep m ss)

  pub keep_all : (m : ℕ) (ss : List (List A)) → length ss ≤ m → keep_first m ss ≡ ss
  unfolding keep_first
  keep_all m [] l = refl
  keep_all zero (s ∷ ss) l = absurd (omega arith)
  keep_all (suc m) (s ∷ ss) l = ap {B = List (List A)} (λ r. s ∷ r) (keep_all m ss (omega arith))

  joined-none : (ss : List (List A)) → joined (keep_first zero ss) ≡ []
  unfolding joined keep_first
  joined-none [] = refl
  joined-none (s ∷ ss) = joined-none ss

  pub joined-keep : (m : ℕ) (ss : List (List A)) → joined (keep_first m ss) ++ joined (drop m ss) ≡ joined ss
  unfolding joined keep_first
  joined-keep zero [] = refl
  joined-keep (suc m) [] = refl
  joined-keep zero (s ∷ ss) = rw (joined-none ss)
  joined-keep (suc m) (s ∷ ss) =
      append_assoc s (joined (keep_first m ss)) (joined (drop m ss)) ∙ ap (λ (r : List A). s ++ r) (joined-keep m ss)

pub keep-entries : (m : ℕ) (ss : List (List Waiting)) → map entries_of (keep_first m ss) ≡ keep_first m (map entries_of ss)
unfolding keep_first entries_of
keep-entries m [] = refl
keep-entries zero (s ∷ ss) = ap {B = List (List (Entry Written))} (λ r. [] ∷ r) (keep-entries zero ss)
keep-entries (suc m) (s ∷ ss) = ap {B = List (List (Entry Written))} (λ r. entries_of s ∷ r) (keep-entries m ss)
