-- The first bytes of a buffer, lent and given back.
use mathlib.Core.Path.{◌≡◌, refl, sym, ap, ◌∙◌}
use mathlib.Core.List.{List, ◌++◌, append-nil}
use Prim.Native.Nat.{ℕ, ◌+◌, ◌-◌, ◌≤◌, min}
use native.Mathlib.Omega.{arith}
use native.Mathlib.Decide.{dec_le}
use native.Mathlib.Nat.{min-eq_left, zero-add}
use lib.ListN.{length, take, drop, replicate, length-take, drop_of_length-le}
use lib.Seq.{length-take-le, length_front, take_all, take_at, take-take, take-add, take-append-add, drop_at, drop-append-add, drop-drop, slice}
use Rattle.disk.specs.Disk.{disk_in}
use Rattle.crash.specs.Event.{part_of, put_back, lend}
use Rattle.text.proofs.Lines.{take-least, drop-least}
use Rattle.commands.specs.declared.state.State.{State}
use Rattle.commands.specs.Shell.{shell_of, first_bytes, lent_disk}
use Rattle.commands.specs.Ran.{Fits}

-- so many bytes, or as many as there are
pub lent-count : (n : ℕ) (l : List ℕ) → min n (length l) ≡ length (take (min n (length l)) l)
lent-count n l = sym (length-take-le (min n (length l)) l (omega arith))

-- what is put there is seen there
pub lent_back : (n : ℕ) (l x : List ℕ) → length x ≡ min n (length l) → take n (x ++ drop (min n (length l)) l) ≡ x
lent_back n l x e = go (dec_le n (length l))
  where
    go : Dec (n ≤ length l) → take n (x ++ drop (min n (length l)) l) ≡ x
    go (yes h) = take_at x (drop (min n (length l)) l) n (omega arith)
    go (no h) = rw (drop_of_length-le l {i = min n (length l)} (omega arith), append-nil x) (take_all n x (omega arith))

-- so many of the zeros that a look-up is lent, or all of them
abbrev zeros : List ℕ
zeros = replicate 1000 0

module _ (n k : ℕ) (e : k ≡ min n 1000) where
  pub zeros-lent : take k zeros ≡ take n zeros
  zeros-lent = rw e (take-least n zeros)

  pub zeros-back : (x : List ℕ) → length x ≡ length (take k zeros) → slice 0 n (x ++ drop k zeros) ≡ x
  zeros-back x h = rw e (lent_back n zeros x (h ∙ rw e (sym (lent-count n zeros))))

-- the first n bytes of a buffer are replaced, of which m are looked at
module _ (n m : ℕ) (c x : List ℕ) (h : n ≤ m) (l : m ≤ length c) (e : length x ≡ n) where
  more : m ≡ length x + (m - n)
  more = omega arith

  pub replaced-front : take m (x ++ drop n c) ≡ x ++ drop n (take m c)
  replaced-front =
      let k : m ≡ n + (m - n) = omega arith in
      ap (λ (i : ℕ). take i (x ++ drop n c)) more
      ∙ take-append-add x (drop n c) (m - n)
      ∙ ap (λ (y : List ℕ). x ++ y) (sym (drop_at (take n c) (take (m - n) (drop n c)) n (length-take-le n c (omega arith)))
      ∙ ap (drop n) (sym (take-add n (m - n) c) ∙ ap (λ (i : ℕ). take i c) (sym k)))

  pub replaced-behind : drop m (x ++ drop n c) ≡ drop m c
  replaced-behind =
      let k : n + (m - n) ≡ m = omega arith in
      ap (λ (i : ℕ). drop i (x ++ drop n c)) more
      ∙ drop-append-add x (drop n c) (m - n)
      ∙ drop-drop (m - n) n c
      ∙ ap (λ (i : ℕ). drop i c) k

  pub replaced-length : length (x ++ drop n c) ≡ length c
  replaced-length = length_front c x n (e ∙ sym (length-take-le n c (omega arith)))

take_min : (k m : ℕ) (c : List ℕ) → take (min k m) c ≡ take k (take m c)
take_min k m c = go (dec_le k m)
  where
    go : Dec (k ≤ m) → take (min k m) c ≡ take k (take m c)
    go (yes h) = rw (min-eq_left h) (sym (take-take k m c h))
    go (no h) =
        let e : min k m ≡ m = omega arith in
        rw e (sym (take_all k (take m c) (omega (arith, length-take m c))))

-- what a call is lent
pub lent-disk : (c q j : List ℕ) (s : State) → lent_disk (shell_of c q j s) ≡ disk_in (take (min s.card s.size) c) (take s.queue q) (take s.journal j) s.rec
unfolding lent_disk lend part_of
lent-disk c q j s = rw (take_min s.card s.size c)

-- The lent bytes of the card are the first n of its buffer, and go back.
module _ (c : List ℕ) (s : State) (f : Fits c s) (n : ℕ) (many : n ≡ min (min s.card s.size) (length c)) (x : List ℕ) (e : length x ≡ length (take n c)) where
  within-card : n ≤ s.size
  within-card = omega arith

  long : length x ≡ n
  long = e ∙ length-take-le n c (omega arith)

  behind-lent : drop n (take s.size c) ≡ drop s.card (take s.size c)
  behind-lent =
      let w = f.whole in
      let k : n ≡ min s.card s.size = omega arith in
      ap (λ (i : ℕ). drop i (take s.size c)) k ∙ drop-least s.card s.size (take s.size c) (length-take-le s.size c w)

  pub card-back : take s.size (x ++ drop n c) ≡ put_back (first_bytes s.card) (take s.size c) x
  unfolding put_back
  card-back = replaced-front n s.size c x within-card f.whole long ∙ rw (zero-add s.card, behind-lent)

  pub card-behind : drop s.size (x ++ drop n c) ≡ drop s.size c
  card-behind = replaced-behind n s.size c x within-card f.whole long

  pub fits-back : Fits (x ++ drop n c) s
  fits-back =
      let l = length_front c x n e in
      record { longest = rw l f.longest; whole = rw l f.whole }

-- a data buffer's
pub buffer-back : (n : ℕ) (l x : List ℕ) → x ++ drop (min n (length l)) l ≡ put_back (first_bytes n) l x
unfolding put_back
buffer-back n l x = rw (zero-add n, drop-least n (length l) l refl)
