-- The block behind another on a list fits a byte: no change of a log puts a block above 64.
use mathlib.Core.Path.{◌≡◌, refl, sym, ap, ◌∙◌}
use mathlib.Core.Logic.{◌≢◌}
use mathlib.Core.Bool.{Bool, true, false, ◌||◌, and-false}
use mathlib.Core.List.{List, [], ◌∷◌, map}
use Prim.Native.Nat.{ℕ, ◌≤◌, ◌<◌}
use native.Mathlib.Omega.{arith}
use native.Mathlib.Decide.{dec_le}
use lib.Dec.{leb, eqb}
use lib.ListN.{get_or}
use Rattle.lists.specs.Basic.{any}
use Rattle.lists.specs.State.{Block, Row, is_block_num, on_row, placed}
use Rattle.lists.specs.Lookup.{blocks_of, next_in, next_after}
use Rattle.lists.proofs.Basic.{or-both, eqb-false, eqb-neq, gt-false}
use Rattle.card_log.specs.Card.{Written}
use Rattle.disk.specs.Disk.{Disk, view}
use Rattle.disk.specs.Call.{block_after, in_view}
use Rattle.disk.specs.Questions.{view_open, questions, refusal}
use Rattle.disk.specs.Perform.{Result, found, perform, accepted}
use Rattle.std.specs.Prelude.{Ok}
use Rattle.answers.specs.Answers.{number_answer}
use Rattle.calls.specs.Performs.{Performs}
use Rattle.disk.proofs.Questions.{yes-all}
use Rattle.disk.proofs.Clauses.{Right, right}
use Rattle.disk.proofs.Performing.{perform-accepted}
use Rattle.disk.proofs.Ranges.{unplaced}
use Rattle.commands.proofs.Accepted.{code-accepted}

-- A block above 64 is on no list of an open view.
module _ (b : ℕ) (far : 64 < b) where
  unplaced-far : (d : Disk) → Right d → (v : ℕ) → view_open d v ≡ true → placed b (view d v).lists ≡ false
  unplaced-far d k v h = unplaced b (rw (gt-false b 64 far) (and-false (leb 1 b))) d k v h

  -- nor does it follow another there
  following : (p : ℕ) (ns : List ℕ) → any (λ n. eqb n b) ns ≡ false → next_in p ns ≢ b
  unfolding next_in
  following p [] h = λ e. absurd (omega arith)
  following p (n ∷ ns) h = let (x, y) = or-both (eqb n b) (any (λ m. eqb m b) ns) h in go y (following p ns y) (eqb n p) refl
    where
      first : (ms : List ℕ) → any (λ m. eqb m b) ms ≡ false → get_or ms 0 0 ≢ b
      first [] y e = absurd (omega arith)
      first (m ∷ ms) y e = absurd (eqb-neq m b (or-both (eqb m b) (any (λ k. eqb k b) ms) y).0 e)

      go : any (λ m. eqb m b) ns ≡ false → next_in p ns ≢ b → (t : Bool) → eqb n p ≡ t → next_in p (n ∷ ns) ≢ b
      go y ih true f = rw (f, next_in) (first ns y)
      go y ih false f = rw (f, next_in) ih

  away : (l : ℕ) (rs : List (Row Written)) → placed b rs ≡ false → any (λ n. eqb n b) (blocks_of rs l) ≡ false
  unfolding placed blocks_of
  away l [] h = refl
  away l (r ∷ rs) h =
      let (x, y) = or-both (on_row b r) (placed b rs) h in
      go x (away l rs y) (eqb r.num l) refl
    where
      on : (xs : List (Block Written)) → any (is_block_num b) xs ≡ any (λ n. eqb n b) (map (λ x. x.num) xs)
      on [] = refl
      on (x ∷ xs) = ap (λ (t : Bool). eqb x.num b || t) (on xs)

      go : on_row b r ≡ false → any (λ n. eqb n b) (blocks_of rs l) ≡ false → (t : Bool) → eqb r.num l ≡ t → any (λ n. eqb n b) (blocks_of (r ∷ rs) l) ≡ false
      go x ih true f = rw (f, blocks_of) (sym (on r.blocks) ∙ x)
      go x ih false f = rw (f, blocks_of) ih

  next-other : (rs : List (Row Written)) (l p : ℕ) → placed b rs ≡ false → next_after rs l p ≢ b
  unfolding next_after
  next-other rs l p h = following p (0 ∷ blocks_of rs l) (rw (eqb-false 0 b (λ e. absurd (omega arith))) (away l rs h))

module _ (d : Disk) (v l p : ℕ) where
  next-most : refusal (in_view v (block_after l p)) d ≡ 0 → (perform (in_view v (block_after l p)) d).answer.value ≤ 64
  unfolding questions accepted found
  next-most h =
      let y = yes-all (in_view v (block_after l p)) d h in
      let n = next_after (view d v).lists l p in
      rw (perform-accepted (in_view v (block_after l p)) d h)
      (go n (λ b f. next-other b f (view d v).lists l p (unplaced-far b f d (right d (y 0) (y 1)) v (y 2))))
    where
      go : (n : ℕ) → ((b : ℕ) → 64 < b → n ≢ b) → n ≤ 64
      go n f = elim (dec_le n 64) [ yes q ↦ q | no q ↦ absurd (f n (omega arith) refl) ]

  -- an answer that is a number is one of an accepted call
  pub behind-most : (n : ℕ) → Performs (in_view v (block_after l p)) d d (number_answer (Ok n)) [] → n ≤ 64
  unfolding number_answer
  behind-most n h = rw (← (ap (λ (x : Result). x.answer.value) h)) (next-most (code-accepted (in_view v (block_after l p)) d (ap (λ (x : Result). x.answer.code) h)))
