-- What a view's look-ups answer, put together: a list's blocks gathered one after the other, and texts for numbers one after the other.
use mathlib.Core.Path.{◌≡◌, refl, sym, ap, ap₂, ◌∙◌}
use mathlib.Core.Logic.{◌≢◌}
use mathlib.Core.List.{List, [], ◌∷◌, ◌++◌, append_assoc, append-nil}
use Prim.Native.Nat.{ℕ, zero, suc, ◌+◌, ◌-◌, ◌≤◌, ◌<◌}
use native.Mathlib.Omega.{arith}
use native.Mathlib.Numerals.{add-one}
use lib.ListN.{length, take, set, replicate, length-set}
use lib.Seq.{slice, take-suc, take-set-le, get_or-set_same}
use Rattle.lists.proofs.Basic.{eqb-false}
use Rattle.answers.specs.declared.Refusal.{Refusal}
use Rattle.std.specs.Prelude.{Ok, Err}
use Rattle.disk.specs.Disk.{Disk}
use Rattle.disk.specs.Call.{read_block, block_after, inventory, in_view}
use Rattle.disk.specs.Perform.{Result}
use Rattle.answers.specs.Answers.{Answer}
use Rattle.answers.specs.Answers.{number, read_answer, number_answer}
use Rattle.calls.specs.Performs.{Performs}
use Rattle.inspect.proofs.Asking.{number-nonzero}
use Rattle.script.specs.Lines.{number_line, block_line, unwritten_line}
use Rattle.commands.specs.Shown.{block_behind, blocks_from, blocks_on, block_shown, view_shown, shown}

stored_more : (bs : List ℕ) (n b : ℕ) → n < length bs → take (suc n) (set bs n b) ≡ take n bs ++ b ∷ []
stored_more bs n b h =
    take-suc (set bs n b) n 0 (rw (length-set bs n b) h)
    ∙ ap₂ (λ (x : List ℕ) (y : ℕ). x ++ y ∷ []) (take-set-le n bs n b (omega arith)) (get_or-set_same bs n b 0 h)

module _ (d : Disk) (v : ℕ) where
  module _ (l : ℕ) where
    pub behind-is : (p : ℕ) (a : Answer) → Performs (in_view v (block_after l p)) d d a [] → block_behind d v l p ≡ a.value
    unfolding block_behind
    behind-is p a h = ap (λ (x : Result). x.answer.value) h

    -- n blocks stand in the table, and b is the next
    abbrev pub Gathered : List ℕ → ℕ → ℕ → Type 0
    Gathered bs n b = (n ≤ 64) × (length bs ≡ 64) × (take n bs ++ blocks_from d v l (64 - n) b ≡ blocks_on d v l)

    pub gathered_none : (bs : List ℕ) (b : ℕ) → length bs ≡ 64 → b ≡ block_behind d v l 0 → Gathered bs 0 b
    unfolding blocks_on
    gathered_none bs b e h = (omega arith, e, ap (blocks_from d v l 64) h)

    from_more : (m b : ℕ) → b ≢ 0 → blocks_from d v l (suc m) b ≡ b ∷ blocks_from d v l m (block_behind d v l b)
    unfolding blocks_from
    from_more m b z = rw (eqb-false b 0 z, blocks_from)

    module _ (bs : List ℕ) (n b : ℕ) (g : Gathered bs n b) where
      pub gathered-more : (k : ℕ) → n < 64 → b ≢ 0 → k ≡ block_behind d v l b → Gathered (set bs n b) (n + 1) k
      gathered-more k h z e =
          let s : 64 - n ≡ suc (64 - (n + 1)) = omega arith in (
            omega arith,
            length-set bs n b ∙ g.1,
            ap (λ (m : ℕ). take m (set bs n b) ++ blocks_from d v l (64 - (n + 1)) k) (add-one n)
                ∙ rw (stored_more bs n b (omega (arith, g.1)), append_assoc (take n bs) (b ∷ []) (blocks_from d v l (64 - (n + 1)) k), e)
                (rw (s, from_more (64 - (n + 1)) b z) at g.2),
          )

      -- there is no next one, or there were as many as there can be
      pub gathered-end : b ≡ 0 → slice 0 n bs ≡ blocks_on d v l
      unfolding blocks_from
      gathered-end e = sym (append-nil (take n bs)) ∙ ap (λ (x : List ℕ). take n bs ++ x) (sym (none (64 - n) b e)) ∙ g.2
        where
          none : (m b : ℕ) → b ≡ 0 → blocks_from d v l m b ≡ []
          none zero b e = refl
          none (suc m) b e = rw e

      pub gathered-full : 64 ≤ n → slice 0 n bs ≡ blocks_on d v l
      unfolding blocks_from
      gathered-full h =
          let z : 64 - n ≡ 0 = omega arith in
          sym (append-nil (take n bs)) ∙ (rw z at g.2)

  pub block_read : (b n : ℕ) (x : List ℕ) → Performs (in_view v (read_block b (replicate 256 0))) d d (read_answer (Ok n)) x → block_shown d v b ≡ block_line b x n
  unfolding block_shown read_answer
  block_read b n x h = rw h

  pub block-unread : (b : ℕ) (r : Refusal) (x : List ℕ) → Performs (in_view v (read_block b (replicate 256 0))) d d (read_answer (Err r)) x → block_shown d v b ≡ unwritten_line b
  unfolding block_shown read_answer
  block-unread b r x h = rw (h, eqb-false (number r) 0 (number-nonzero r))

  pub view-seen : (n : ℕ) (x : List ℕ) → Performs (in_view v (inventory (replicate 16 0))) d d (number_answer (Ok n)) x → shown v d ≡ view_shown d v (slice 0 n x)
  unfolding shown number_answer
  view-seen n x h = rw h

  pub view-unseen : (r : Refusal) (x : List ℕ) → Performs (in_view v (inventory (replicate 16 0))) d d (number_answer (Err r)) x → shown v d ≡ number_line (number r)
  unfolding shown number_answer
  view-unseen r x h = rw (h, eqb-false (number r) 0 (number-nonzero r))
