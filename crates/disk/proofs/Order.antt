-- "The questions, in order": each call's stand in the order of their numbers.
use mathlib.Core.Path.{◌≡◌, refl}
use mathlib.Core.Bool.{Bool, true, false, ◌&&◌}
use mathlib.Core.List.{List, [], ◌∷◌}
use Prim.Native.Nat.{ℕ, ◌≤◌}
use native.Mathlib.Omega.{arith}
use lib.Dec.{eqb, ltb}
use Rattle.lists.specs.Basic.{all, any}
use Rattle.lists.specs.State.{Row}
use Rattle.lists.proofs.Basic.{and-true, ltb-true, lt-true, eqb-false}
use Rattle.card_log.specs.Card.{Written}
use Rattle.disk.specs.Disk.{Disk, view}
use Rattle.disk.specs.Call.{Edit, new_list, new_block, write_block, delete_block, delete_list, Look, read_block, block_after, inventory, page, Call, format, mount, conflict_count, on_stream, in_view, begin, end, flush}
use Rattle.disk.specs.Questions.{edit_questions, look_questions, questions}

-- are the questions' numbers above n, and does each stand above the one before?
pub rising : ℕ → List (ℕ × Bool) → Bool
rising n [] = true
rising n (q ∷ qs) = ltb n q.0 && rising q.0 qs

-- is question n among them?
abbrev pub asks : ℕ → List (ℕ × Bool) → Bool
asks n qs = any (λ q. eqb q.0 n) qs

-- what stands behind question 4, where question 12 is an End's alone
pub record Behind (qs : List (ℕ × Bool)) : Type 0 where
  pub rises : rising 4 qs ≡ true
  pub ends-none : asks 12 qs ≡ false

pub edit-behind : (s : ℕ) (e : Edit) (d : Disk) → Behind (edit_questions s e d)
unfolding rising edit_questions
edit-behind s new_list d = record { rises = refl; ends-none = refl }
edit-behind s (new_block l p) d = record { rises = refl; ends-none = refl }
edit-behind s (write_block b n x) d = record { rises = refl; ends-none = refl }
edit-behind s (delete_block b) d = record { rises = refl; ends-none = refl }
edit-behind s (delete_list l) d = record { rises = refl; ends-none = refl }

pub look-behind : (k : Look) (rs : List (Row Written)) → Behind (look_questions k rs)
unfolding rising look_questions
look-behind (read_block b x) rs = record { rises = refl; ends-none = refl }
look-behind (block_after l p) rs = record { rises = refl; ends-none = refl }
look-behind (inventory x) rs = record { rises = refl; ends-none = refl }
look-behind (page x) rs = record { rises = refl; ends-none = refl }

pub questions-rise : (c : Call) (d : Disk) → rising 0 (questions c d) ≡ true
unfolding rising questions
questions-rise format d = refl
questions-rise mount d = refl
questions-rise (conflict_count w) d = refl
questions-rise (on_stream s e) d = (edit-behind s e d).rises
questions-rise (in_view v k) d = (look-behind k (view d v).lists).rises
questions-rise (begin u w) d = refl
questions-rise (end u) d = refl
questions-rise (flush a) d = refl

-- Numbers that rise from n on are all above it, so that no lower question is among them.
pub rising-above : (m n : ℕ) (qs : List (ℕ × Bool)) → m ≤ n → rising n qs ≡ true → all (λ q. ltb m q.0) qs ≡ true
unfolding rising all
rising-above m n [] l h = refl
rising-above m n (q ∷ qs) l h =
    let (a, b) = and-true (ltb n q.0) (rising q.0 qs) h in
    let o = ltb-true n q.0 a in
    rw (lt-true m q.0 (omega arith)) (rising-above m q.0 qs (omega arith) b)

pub asks-above : (m n : ℕ) (qs : List (ℕ × Bool)) → m ≤ n → all (λ q. ltb n q.0) qs ≡ true → asks m qs ≡ false
unfolding all
asks-above m n [] l h = refl
asks-above m n (q ∷ qs) l h =
    let (a, b) = and-true (ltb n q.0) (all (λ x. ltb n x.0) qs) h in
    let o = ltb-true n q.0 a in
    rw (eqb-false q.0 m (λ e. omega arith)) (asks-above m n qs l b)
