-- What it says of a state that a change led to it.
use mathlib.Core.Path.{◌≡◌, refl, sym, subst}
use mathlib.Core.Bool.{true}
use mathlib.Core.Option.{Option, none, some, some-injective}
use mathlib.Core.List.{List, [], ◌∷◌}
use Rattle.lists.specs.Basic.{or_else}
use Rattle.lists.specs.Change.{Change}
use Rattle.lists.specs.State.{Row, State, state, applies, changed, free_after, apply, apply_all, overlay}
use Rattle.lists.proofs.Basic.{guard-some, bind-some}

module _ {D : Type 0} where
  pub apply_some : (c : Change D) (s t : State D) → apply c s ≡ some t → (applies c s.lists ≡ true) × (t ≡ state (changed c s.lists) (free_after c s.lists s.free))
  unfolding apply
  apply_some c s t e =
      let (a, f) = guard-some (applies c s.lists) (some (state (changed c s.lists) (free_after c s.lists s.free))) t e in
      (a, sym (some-injective _ _ f))

  -- what a change that applies keeps, changes keep
  module _ (P : List (Row D) → Type 0) (kept : (c : Change D) (rs : List (Row D)) → applies c rs ≡ true → P rs → P (changed c rs)) where
    pub apply-keeps : (c : Change D) (s t : State D) → apply c s ≡ some t → P s.lists → P t.lists
    apply-keeps c s t e p = let (a, f) = apply_some c s t e in rw f (kept c s.lists a p)

    pub apply_all-keeps : (cs : List (Change D)) (s t : State D) → apply_all cs s ≡ some t → P s.lists → P t.lists
    unfolding apply_all
    apply_all-keeps [] s t e p = subst (λ (x : State D). P x.lists) (some-injective _ _ e) p
    apply_all-keeps (c ∷ cs) s t e p =
        let (u, f, g) = bind-some (apply c s) (λ x. apply_all cs x) t e in
        apply_all-keeps cs u t g (apply-keeps c s u f p)

    pub overlay-keeps : (cs : List (Change D)) (s : State D) → P s.lists → P (overlay cs s).lists
    unfolding overlay or_else
    overlay-keeps [] s p = p
    overlay-keeps (c ∷ cs) s p = overlay-keeps cs (or_else s (apply c s)) (go (apply c s) refl)
      where
        go : (o : Option (State D)) → apply c s ≡ o → P (or_else s o).lists
        go none e = p
        go (some t) e = apply-keeps c s t e p
