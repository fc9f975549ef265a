-- In every state that a log leads to, each list taken stands once, and each block at most once.
use mathlib.Core.Path.{◌≡◌, refl, subst}
use mathlib.Core.Option.{Option, none, some, some-injective}
use mathlib.Core.List.{List, [], ◌∷◌}
use Prim.Native.Nat.{ℕ}
use native.Mathlib.Omega.{arith}
use lib.Dec.{leb}
use lib.ListN.{length}
use Rattle.lists.specs.Basic.{bind}
use Rattle.lists.specs.State.{State, apply, apply_all}
use Rattle.lists.proofs.Basic.{guard-some, bind-some}
use Rattle.lists.proofs.Distinct.{Distinct, empty-distinct, apply-distinct, apply_all-distinct}
use Rattle.card_log.specs.Raced.{Raced}
use Rattle.card_log.specs.Entry.{Entry, plain, member, commit}
use Rattle.card_log.specs.Reader.{Reader, settled, start, last_of, read, replay}
use Rattle.card_log.specs.Card.{Item, good, bad, items, segments_in, Outcome, sound, fault, walk, walk_card}

module _ {D : Type 0} where
  settled-distinct : (o : Option (State D)) (q : Reader D) → bind o (λ s. some (settled s)) ≡ some q → ((t : State D) → o ≡ some t → Distinct t.lists)
      → Distinct q.state.lists
  settled-distinct o q e d =
      let (t, a, b) = bind-some o (λ s. some (settled s)) q e in
      subst (λ (x : Reader D). Distinct x.state.lists) (some-injective _ _ b) (d t a)

  read-distinct : (r q : Reader D) (e : Entry D) → read r e ≡ some q → Distinct r.state.lists → Distinct q.state.lists
  unfolding read
  read-distinct r q (plain c) h d = settled-distinct (apply c r.state) q h (λ t e. apply-distinct c r.state t e d)
  read-distinct r q (member c) h d = subst (λ (x : Reader D). Distinct x.state.lists) (some-injective _ _ h) d
  read-distinct r q (commit n) h d =
      let (a, b) = guard-some (leb n (length r.run)) (bind (apply_all (last_of n r.run) r.state) (λ s. some (settled s))) q h in
      settled-distinct (apply_all (last_of n r.run) r.state) q b (λ t e. apply_all-distinct (last_of n r.run) r.state t e d)

  pub replay-distinct : (r q : Reader D) (es : List (Entry D)) → replay r es ≡ some q → Distinct r.state.lists → Distinct q.state.lists
  unfolding replay
  replay-distinct r q [] h d = subst (λ (x : Reader D). Distinct x.state.lists) (some-injective _ _ h) d
  replay-distinct r q (e ∷ es) h d = let (x, a, b) = bind-some (read r e) (λ y. replay y es) q h in replay-distinct x q es b (read-distinct r x e a d)

  pub walk-distinct : (r q : Reader D) (is : List (Item D)) → walk r is ≡ sound q → Distinct r.state.lists → Distinct q.state.lists
  unfolding walk
  walk-distinct r q [] h d = let e : r ≡ q = cc in subst (λ (x : Reader D). Distinct x.state.lists) e d
  walk-distinct r q (good g i e ∷ is) h d = go (λ x. walk-distinct x q is) (read r e) refl h
    where
      go : ((x : Reader D) → walk x is ≡ sound q → Distinct x.state.lists → Distinct q.state.lists) → (o : Option (Reader D)) → read r e ≡ o
          → ◌≡◌ {A = Outcome D} (elim o [ none ↦ fault g i | some x ↦ walk x is ]) (sound q) → Distinct q.state.lists
      go ih none a b = let n : ◌≡◌ {A = ℕ} 0 1 = cc in absurd (omega arith)
      go ih (some x) a b = ih x b (read-distinct r x e a d)
  walk-distinct r q (bad g i ∷ is) h d = let n : ◌≡◌ {A = ℕ} 0 1 = cc in absurd (omega arith)

  pub walk_card-distinct : (f : ℕ → Raced ℕ → D) (c : List ℕ) (q : Reader D) → walk_card f c ≡ sound q → Distinct q.state.lists
  unfolding walk_card
  walk_card-distinct f c q h = walk-distinct start q (items f c (segments_in c) 0) h empty-distinct
