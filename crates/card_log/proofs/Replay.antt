-- The replay of entries one behind the other, and the walk of items without a fault.
use mathlib.Core.Path.{◌≡◌, refl, sym, ap, ◌∙◌}
use mathlib.Core.Option.{none, some}
use mathlib.Core.List.{List, [], ◌∷◌, ◌++◌}
use Prim.Native.Nat.{ℕ, suc}
use Rattle.lists.specs.Basic.{bind, joined}
use Rattle.lists.proofs.Basic.{bind-ext, bind-bind, bind-some}
use Rattle.card_log.specs.Entry.{Entry}
use Rattle.card_log.specs.Reader.{Reader, read, replay}
use Rattle.card_log.specs.Card.{Item, good, Outcome, sound, walk}

module _ {D : Type 0} where
  pub replay-append : (r : Reader D) (xs ys : List (Entry D)) → replay r (xs ++ ys) ≡ bind (replay r xs) (λ q. replay q ys)
  unfolding replay
  replay-append r [] ys = refl
  replay-append r (e ∷ xs) ys = bind-ext (read r e) _ _ (λ q. replay-append q xs ys) ∙ sym (bind-bind (read r e) (λ q. replay q xs) (λ q. replay q ys))

  -- the items of segment g that are entries, the first of them number i
  unfoldable pub goods : ℕ → ℕ → List (Entry D) → List (Item D)
  goods g i [] = []
  goods g i (e ∷ es) = good g i e ∷ goods g (suc i) es

  -- those of the segments from g on
  unfoldable pub goods_all : ℕ → List (List (Entry D)) → List (Item D)
  goods_all g [] = []
  goods_all g (es ∷ ess) = goods g 0 es ++ goods_all (suc g) ess

  module _ where
    pub walk-goods : (g i : ℕ) (es : List (Entry D)) (is : List (Item D)) (r q : Reader D) → replay r es ≡ some q → walk r (goods g i es ++ is) ≡ walk q is
    unfolding walk goods replay
    walk-goods g i [] is r q h = ap {B = Outcome D} (λ o. elim o [ none ↦ walk r is | some x ↦ walk x is ]) h
    walk-goods g i (e ∷ es) is r q h =
        let (y, a, b) = bind-some (read r e) (λ x. replay x es) q h in
        rw (a, walk) (walk-goods g (suc i) es is y q b)

    pub walk-all : (g : ℕ) (ess : List (List (Entry D))) (r q : Reader D) → replay r (joined ess) ≡ some q → walk r (goods_all g ess) ≡ sound q
    unfolding walk goods_all replay joined
    walk-all g [] r q h = ap {B = Outcome D} (λ o. elim o [ none ↦ sound r | some x ↦ sound x ]) h
    walk-all g (es ∷ ess) r q h =
        let (y, a, b) = bind-some (replay r es) (λ x. replay x (joined ess)) q (sym (replay-append r es (joined ess)) ∙ h) in
        walk-goods g 0 es (goods_all (suc g) ess) r y a ∙ walk-all (suc g) ess y q b
