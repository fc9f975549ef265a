-- Free numbers in an order of their own, in which some are missing: how a change keeps it (`listed-step`), that the numbers stay in range (`listed-range`),
-- and that numbers in range, each once, are 80 at most (`fits`). What it needs of a state is that its own free numbers are exact, which holds of every
-- state that numbered changes lead to (`reached-exact`).
use mathlib.Core.Path.{◌≡◌, refl, sym, ap, ◌∙◌}
use mathlib.Core.Bool.{Bool, true, false, ◌&&◌, not, cond, and-true as and_yes, and-false, false≢true}
use mathlib.Core.Option.{some}
use mathlib.Core.List.{List, [], ◌∷◌, ◌++◌}
use Prim.Native.Nat.{ℕ, ◌+◌, ◌≤◌}
use native.Mathlib.Omega.{arith}
use lib.Dec.{leb}
use lib.ListN.{length, replicate}
use Rattle.lists.specs.Basic.{bind, all, keep, times}
use Rattle.lists.specs.Change.{Change}
use Rattle.lists.specs.State.{Row, State, empty, frees, free_after, apply, apply_all}
use Rattle.lists.specs.InUse.{is_number, brought, in_use, is_free, Numbered, AllNumbered}
use Rattle.lists.proofs.Basic.{and-true, leb-true, bind-ext, bind-bind, all_append}
use Rattle.lists.proofs.Apply.{apply_some}
use Rattle.lists.proofs.Dropping.{AllOf}
use Rattle.lists.proofs.Free.{free-exact}
use Rattle.lists.proofs.Runs.{marked, few}
use Rattle.lists.proofs.Times.{times-append, times-keep, once-apart, standing-all}

-- Numbers in range, each once.
pub number-range : (n : ℕ) → is_number n ≡ true → (1 ≤ n) × (n ≤ 80)
number-range n h = let (a, b) = and-true (leb 1 n) (leb n 80) h in (leb-true 1 n a, leb-true n 80 b)

all-marked : (xs : List ℕ) → all is_number xs ≡ true → AllOf 1 (0 ∷ replicate 80 1) xs
unfolding all
all-marked [] h = tt
all-marked (x ∷ xs) h =
    let (a, b) = and-true (is_number x) (all is_number xs) h in
    let (u, v) = number-range x a in
    (marked 80 x u v, all-marked xs b)

pub fits : (xs : List ℕ) → all is_number xs ≡ true → ((n : ℕ) → times n xs ≤ 1) → length xs ≤ 80
fits xs h o = few 80 xs (once-apart xs o) (all-marked xs h)

pub all-kept : (p q : ℕ → Bool) (xs : List ℕ) → all p xs ≡ true → all p (keep q xs) ≡ true
unfolding all
all-kept p q [] h = refl
all-kept p q (x ∷ xs) h = let (a, b) = and-true (p x) (all p xs) h in go (q x) a (all-kept p q xs b)
  where
    go : (t : Bool) → p x ≡ true → all p (keep q xs) ≡ true → all p (cond t (x ∷ keep q xs) (keep q xs)) ≡ true
    go true a ih = rw a ih
    go false a ih = ih

module _ {D : Type 0} where
  -- the free numbers of a state are listed, each once, and no other number is
  abbrev pub Exact : State D → Type 0
  Exact s = (n : ℕ) → times n s.free ≡ cond (is_free n s.lists) 1 0

  -- number n is listed once exactly if it is free and not missing (a), and only a free one is missing
  pub record Listed (n : ℕ) (a : Bool) (rs : List (Row D)) (os : List ℕ) : Type 0 where
    pub once : times n os ≡ cond (is_free n rs && not a) 1 0
    pub missing : a ≡ true → is_free n rs ≡ true

  pub free-number : (n : ℕ) (rs : List (Row D)) → is_free n rs ≡ true → is_number n ≡ true
  unfolding is_free
  free-number n rs h = (and-true (is_number n) (not (in_use n rs)) h).0

  times-after : (c : Change D) (rs : List (Row D)) (n : ℕ) (xs : List ℕ) → times n (free_after c rs xs) ≡ cond (not (brought c n)) (times n xs) 0 + times n (frees c rs)
  unfolding free_after
  times-after c rs n xs =
      times-append n (keep (λ m. not (brought c m)) xs) (frees c rs) ∙ ap (λ (k : ℕ). k + times n (frees c rs)) (times-keep (λ m. not (brought c m)) n xs)

  -- how often a change frees number n, by the states before it and after it
  frees-exact : (c : Change D) (s t : State D) → apply c s ≡ some t → Exact s → Exact t → (n : ℕ)
      → cond (is_free n t.lists) 1 0 ≡ cond (not (brought c n)) (cond (is_free n s.lists) 1 0) 0 + times n (frees c s.lists)
  frees-exact c s t e x y n =
      let q : t.free ≡ free_after c s.lists s.free = ap (λ (u : State D). u.free) (apply_some c s t e).1 in
      sym (y n) ∙ ap (times n) q ∙ times-after c s.lists n s.free
      ∙ ap (λ (k : ℕ). cond (not (brought c n)) k 0 + times n (frees c s.lists)) (x n)

  -- A number brought into use is missing no more; another is missing after the change if it was before it, and is free still.
  pub listed-step : (c : Change D) (s t : State D) (os : List ℕ) → apply c s ≡ some t → Exact s → Exact t → (n : ℕ) (a : Bool)
      → Listed n a s.lists os → Listed n (a && not (brought c n)) t.lists (free_after c s.lists os)
  listed-step c s t os e x y n a l = record {
    once = times-after c s.lists n os ∙ ap (λ (k : ℕ). cond (not (brought c n)) k 0 + times n (frees c s.lists)) l.once
        ∙ once_after (not (brought c n)) (is_free n s.lists) (is_free n t.lists) a l.missing (times n (frees c s.lists)) (frees-exact c s t e x y n);
    missing = missing-after (not (brought c n)) (is_free n s.lists) (is_free n t.lists) a l.missing (times n (frees c s.lists)) (frees-exact c s t e x y n);
  }
    where
      -- of a number that is kept (k) or brought into use, free before (f) and after (g), and freed m times
      once_after : (k f g a : Bool) → (a ≡ true → f ≡ true) → (m : ℕ) → cond g 1 0 ≡ cond k (cond f 1 0) 0 + m → cond k (cond (f && not a) 1 0) 0 + m ≡ cond (g && not (a && k)) 1 0
      once_after true f g false h m q = rw (and_yes f, and_yes g) (sym q)
      once_after true true true true h m q = omega (arith, q)
      once_after true true false true h m q = absurd (omega (arith, q))
      once_after true false g true h m q = absurd (false≢true (h refl))
      once_after false f g a h m q = rw (and-false a, and_yes g) (sym q)

      missing-after : (k f g a : Bool) → (a ≡ true → f ≡ true) → (m : ℕ) → cond g 1 0 ≡ cond k (cond f 1 0) 0 + m → a && k ≡ true → g ≡ true
      missing-after k f true a h m q z = refl
      missing-after k f false a h m q z =
          let (u, v) = and-true a k z in
          absurd (omega (arith, rw (v, h u) at q))

  -- States that numbered changes lead to.
  pub record Reached (s : State D) : Type 0 where
    pub changes : List (Change D)
    pub numbered : AllNumbered changes
    pub led : apply_all changes empty ≡ some s

  pub reached-empty : Reached empty
  unfolding apply_all
  reached-empty = record { changes = []; numbered = tt; led = refl }

  pub apply_all-append : (cs ds : List (Change D)) (s : State D) → apply_all (cs ++ ds) s ≡ bind (apply_all cs s) (λ t. apply_all ds t)
  unfolding apply_all
  apply_all-append [] ds s = refl
  apply_all-append (c ∷ cs) ds s =
      bind-ext (apply c s) (λ t. apply_all (cs ++ ds) t) (λ t. bind (apply_all cs t) (λ u. apply_all ds u)) (apply_all-append cs ds)
      ∙ sym (bind-bind (apply c s) (λ t. apply_all cs t) (λ u. apply_all ds u))

  numbered-append : (cs ds : List (Change D)) → AllNumbered cs → AllNumbered ds → AllNumbered (cs ++ ds)
  numbered-append [] ds g h = h
  numbered-append (c ∷ cs) ds g h = (g.0, numbered-append cs ds g.1 h)

  pub reached-all : (cs : List (Change D)) (s t : State D) → apply_all cs s ≡ some t → AllNumbered cs → Reached s → Reached t
  reached-all cs s t e g r = record {
    changes = r.changes ++ cs;
    numbered = numbered-append r.changes cs r.numbered g;
    led = apply_all-append r.changes cs empty ∙ rw r.led e;
  }

  pub reached-step : (c : Change D) (s t : State D) → apply c s ≡ some t → Numbered c → Reached s → Reached t
  unfolding apply_all
  reached-step c s t e g r = reached-all (c ∷ []) s t (rw e) (g, tt) r

  pub reached-exact : (s : State D) → Reached s → Exact s
  reached-exact s r = free-exact r.changes s r.numbered r.led

  -- Listed numbers stay in range.
  pub frees-range : (c : Change D) (s t : State D) → apply c s ≡ some t → Exact s → Exact t → all is_number (frees c s.lists) ≡ true
  frees-range c s t e x y = standing-all is_number (frees c s.lists) (λ n k.
      go n (is_free n t.lists) refl (rw (frees-exact c s t e x y n) (omega arith)))
    where
      go : (n : ℕ) (g : Bool) → is_free n t.lists ≡ g → 1 ≤ cond g 1 0 → is_number n ≡ true
      go n true h k = free-number n t.lists h
      go n false h k = absurd (omega arith)

  pub listed-range : (c : Change D) (s t : State D) (os : List ℕ) → apply c s ≡ some t → Exact s → Exact t
      → all is_number os ≡ true → all is_number (free_after c s.lists os) ≡ true
  unfolding free_after
  listed-range c s t os e x y h =
      all_append is_number (keep (λ n. not (brought c n)) os) (frees c s.lists) (all-kept is_number (λ n. not (brought c n)) os h) (frees-range c s t e x y)
