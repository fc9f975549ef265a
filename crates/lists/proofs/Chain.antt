-- Chains of nodes in two tables: what a node put in, taken out and moved leaves linked.
use mathlib.Core.Path.{◌≡◌, refl, sym, ◌∙◌}
use mathlib.Core.Logic.{◌≢◌}
use mathlib.Core.List.{List, [], ◌∷◌, ◌++◌}
use Prim.Native.Nat.{ℕ, ◌<◌}
use native.Mathlib.Omega.{arith}
use lib.ListN.{length, get_or, set, length-set}
use lib.Seq.{get_or-set_same, get_or-set_other}
use Rattle.lists.specs.promises.Tables.{Away, Apart, Linked}
pub use Rattle.lists.specs.promises.Tables.{last}

-- all below the tables' length
abbrev pub Small : List ℕ → Type 0
Small [] = Unit {0}
Small (x ∷ xs) = (x < 256) × Small xs

pub away-left : (n : ℕ) (a b : List ℕ) → Away n (a ++ b) → Away n a
away-left n [] b h = tt
away-left n (x ∷ a) b h = (h.0, away-left n a b h.1)

pub away-right : (n : ℕ) (a b : List ℕ) → Away n (a ++ b) → Away n b
away-right n [] b h = h
away-right n (x ∷ a) b h = away-right n a b h.1

pub away-append : (n : ℕ) (a b : List ℕ) → Away n a → Away n b → Away n (a ++ b)
away-append n [] b h k = k
away-append n (x ∷ a) b h k = (h.0, away-append n a b h.1 k)

pub apart-left : (a b : List ℕ) → Apart (a ++ b) → Apart a
apart-left [] b h = tt
apart-left (x ∷ a) b h = (away-left x a b h.0, apart-left a b h.1)

pub apart-right : (a b : List ℕ) → Apart (a ++ b) → Apart b
apart-right [] b h = h
apart-right (x ∷ a) b h = apart-right a b h.1

-- one put in between that is away
pub apart-insert : (n : ℕ) (a b : List ℕ) → Away n (a ++ b) → Apart (a ++ b) → Apart (a ++ n ∷ b)
apart-insert n [] b h k = (h, k)
apart-insert n (x ∷ a) b h k = (
  away-append x a (n ∷ b) (away-left x a b k.0) ((λ e. h.0 (sym e)), away-right x a b k.0),
  apart-insert n a b h.1 k.1,
)

-- a part taken out
pub apart-cut : (a s b : List ℕ) → Apart (a ++ (s ++ b)) → Apart (a ++ b)
apart-cut [] s b h = apart-right s b h
apart-cut (x ∷ a) s b h = (
  away-append x a b (away-left x a (s ++ b) h.0) (away-right x s b (away-right x a (s ++ b) h.0)),
  apart-cut a s b h.1,
)

pub apart-middle : (a : List ℕ) (x : ℕ) (b : List ℕ) → Apart (a ++ x ∷ b) → Away x a
apart-middle [] x b h = tt
apart-middle (y ∷ a) x b h = ((λ e. (away-right y a (x ∷ b) h.0).0 (sym e)), apart-middle a x b h.1)

pub away-last : (n a : ℕ) (xs : List ℕ) → Away n (a ∷ xs) → last a xs ≢ n
away-last n a [] h = h.0
away-last n a (x ∷ xs) h = away-last n x xs h.1

pub small-middle : (xs : List ℕ) (y : ℕ) (ys : List ℕ) → Small (xs ++ y ∷ ys) → y < 256
small-middle [] y ys h = h.0
small-middle (x ∷ xs) y ys h = small-middle xs y ys h.1

pub small-append : (a b : List ℕ) → Small a → Small b → Small (a ++ b)
small-append [] b h k = k
small-append (x ∷ a) b h k = (h.0, small-append a b h.1 k)

pub small-left : (a b : List ℕ) → Small (a ++ b) → Small a
small-left [] b h = tt
small-left (x ∷ a) b h = (h.0, small-left a b h.1)

pub small-right : (a b : List ℕ) → Small (a ++ b) → Small b
small-right [] b h = h
small-right (x ∷ a) b h = small-right a b h.1

pub last_snoc : (a : ℕ) (xs : List ℕ) (y : ℕ) → last a (xs ++ y ∷ []) ≡ y
last_snoc a [] y = refl
last_snoc a (x ∷ xs) y = last_snoc x xs y

pub last-append : (a : ℕ) (xs : List ℕ) (y : ℕ) (ys : List ℕ) → last a (xs ++ y ∷ ys) ≡ last y ys
last-append a [] y ys = refl
last-append a (x ∷ xs) y ys = last-append x xs y ys

-- one taken out is away from the others
pub apart_out : (a : List ℕ) (n : ℕ) (b : List ℕ) → Apart (a ++ n ∷ b) → Away n (a ++ b)
apart_out a n b h = away-append n a b (apart-middle a n b h) (apart-right a (n ∷ b) h).0

-- the first of a list that has one
pub uncons : (b : List ℕ) (z : ℕ) (zs : List ℕ) → (y : ℕ) × (r : List ℕ) × (b ++ z ∷ zs ≡ y ∷ r)
uncons [] z zs = (z, zs, refl)
uncons (x ∷ b) z zs = (x, b ++ z ∷ zs, refl)

module _ (nx pv : List ℕ) where
  pub next-at : (a : ℕ) (A : List ℕ) (y : ℕ) (B : List ℕ) → Linked nx pv a (A ++ y ∷ B) → get_or nx (last a A) 0 ≡ y
  next-at a [] y B h = h.0
  next-at a (x ∷ A) y B h = next-at x A y B h.2

  pub prev-at : (a : ℕ) (A : List ℕ) (y : ℕ) (B : List ℕ) → Linked nx pv a (A ++ y ∷ B) → get_or pv y 0 ≡ last a A
  prev-at a [] y B h = h.1
  prev-at a (x ∷ A) y B h = prev-at x A y B h.2

  linked-next : (x v a : ℕ) (xs : List ℕ) → Away x (a ∷ xs) → Linked nx pv a xs → Linked (set nx x v) pv a xs
  linked-next x v a [] h k = tt
  linked-next x v a (y ∷ xs) h k = (get_or-set_other nx x a v 0 h.0 ∙ k.0, k.1, linked-next x v y xs h.1 k.2)

  linked-prev : (x v a : ℕ) (xs : List ℕ) → Away x xs → Linked nx pv a xs → Linked nx (set pv x v) a xs
  linked-prev x v a [] h k = tt
  linked-prev x v a (y ∷ xs) h k = (k.0, get_or-set_other pv x y v 0 h.0 ∙ k.1, linked-prev x v y xs h.1 k.2)

  linked-from : (a : ℕ) (S : List ℕ) (y : ℕ) (B : List ℕ) → Linked nx pv a (S ++ y ∷ B) → Linked nx pv y B
  linked-from a [] y B h = h.2
  linked-from a (x ∷ S) y B h = linked-from x S y B h.2

  pub linked-tail : (a : ℕ) (A B : List ℕ) → Linked nx pv a (A ++ B) → Linked nx pv (last a A) B
  linked-tail a [] B h = h
  linked-tail a (x ∷ A) B h = linked-tail x A B h.2

module _ (nx pv : List ℕ) (ln : length nx ≡ 256) (lp : length pv ≡ 256) where
  other2 : (l : List ℕ) (i v j w k : ℕ) → k ≢ i → k ≢ j → get_or (set (set l i v) j w) k 0 ≡ get_or l k 0
  other2 l i v j w k p q = get_or-set_other (set l i v) j k w 0 q ∙ get_or-set_other l i k v 0 p

  same2 : (l : List ℕ) (i v j w : ℕ) → length l ≡ 256 → i < 256 → i ≢ j → get_or (set (set l i v) j w) i 0 ≡ v
  same2 l i v j w e h q = get_or-set_other (set l i v) j i w 0 q ∙ get_or-set_same l i v 0 (rw e h)

  over2 : (l : List ℕ) (i v j w : ℕ) → length l ≡ 256 → j < 256 → get_or (set (set l i v) j w) j 0 ≡ w
  over2 l i v j w e h = get_or-set_same (set l i v) j w 0 (rw (length-set, e) h)

  -- n put in behind the last of A
  pub linked-insert : (n : ℕ) (a : ℕ) (A : List ℕ) (y : ℕ) (B : List ℕ) → Apart (a ∷ A ++ y ∷ B) → Away n (a ∷ A ++ y ∷ B) → Small (a ∷ A ++ y ∷ B) → n < 256
      → Linked nx pv a (A ++ y ∷ B) → Linked (set (set nx (last a A) n) n y) (set (set pv n (last a A)) y n) a (A ++ n ∷ y ∷ B)
  linked-insert n a [] y B p w s l k = (
    same2 nx a n n y ln s.0 w.0,
    same2 pv n a y n lp l (λ e. w.1.0 (sym e)),
    (
      over2 nx a n n y ln l,
      over2 pv n a y n lp s.1.0,
      linked-prev _ (set pv n a) y n y B p.1.0 (linked-prev _ pv n a y B w.1.1
          (linked-next (set nx a n) pv n y y B w.1 (linked-next nx pv a n y B p.0 k.2))),
    ),
  )
  linked-insert n a (c ∷ A) y B p w s l k =
      let q = away-last a c A (away-left a (c ∷ A) (y ∷ B) p.0) in (
        other2 nx (last c A) n n y a (λ e. q (sym e)) w.0 ∙ k.0,
        other2 pv n (last c A) y n c w.1.0 (λ e. (away-right c A (y ∷ B) p.1.0).0 (sym e)) ∙ k.1,
        linked-insert n c A y B p.1 w.1 s.1 l k.2,
      )

  -- S taken out between the last of A and y
  pub linked-cut : (a : ℕ) (A S : List ℕ) (y : ℕ) (B : List ℕ) → Apart (a ∷ A ++ (S ++ y ∷ B)) → Small (a ∷ A ++ (S ++ y ∷ B))
      → Linked nx pv a (A ++ (S ++ y ∷ B)) → Linked (set nx (last a A) y) (set pv y (last a A)) a (A ++ y ∷ B)
  linked-cut a [] S y B p s k = (
    get_or-set_same nx a y 0 (rw ln s.0),
    get_or-set_same pv y a 0 (rw lp (small-middle S y B s.1)),
    linked-prev _ pv y a y B (apart-right S (y ∷ B) p.1).0 (linked-next nx pv a y y B (away-right a S (y ∷ B) p.0) (linked-from nx pv a S y B k)),
  )
  linked-cut a (c ∷ A) S y B p s k =
      let q = away-last a c A (away-left a (c ∷ A) (S ++ y ∷ B) p.0) in (
        get_or-set_other nx (last c A) a y 0 (λ e. q (sym e)) ∙ k.0,
        get_or-set_other pv y c (last c A) 0 (λ e. (away-right c S (y ∷ B) (away-right c A (S ++ y ∷ B) p.1.0)).0 (sym e)) ∙ k.1,
        linked-cut c A S y B p.1 s.1 k.2,
      )

-- From node 0 on these nodes follow, no two the same.
pub record Chained (nx pv ns : List ℕ) : Type 0 where
  pub apart : Apart (0 ∷ ns)
  pub small : Small ns
  pub linked : Linked nx pv 0 ns

module _ {nx pv : List ℕ} (ln : length nx ≡ 256) (lp : length pv ≡ 256) where
  -- n taken out, which stands behind the last of A and before y
  module _ (A : List ℕ) (n y : ℕ) (B : List ℕ) (c : Chained nx pv (A ++ n ∷ y ∷ B)) where
    pub cut-before : get_or pv n 0 ≡ last 0 A
    cut-before = prev-at nx pv 0 A n (y ∷ B) c.linked

    pub cut-behind : get_or nx n 0 ≡ y
    cut-behind = (linked-tail nx pv 0 A (n ∷ y ∷ B) c.linked).2.0

    pub chained-cut : Chained (set nx (get_or pv n 0) (get_or nx n 0)) (set pv (get_or nx n 0) (get_or pv n 0)) (A ++ y ∷ B)
    chained-cut = rw (cut-before, cut-behind) (record {
      apart = apart-cut (0 ∷ A) (n ∷ []) (y ∷ B) c.apart;
      small = small-append A (y ∷ B) (small-left A (n ∷ y ∷ B) c.small) (small-right A (n ∷ y ∷ B) c.small).1;
      linked = linked-cut nx pv ln lp 0 A (n ∷ []) y B c.apart (omega arith, c.small) c.linked;
    })

  -- n put in there
  pub chained-insert : (A : List ℕ) (n y : ℕ) (B : List ℕ) → Chained nx pv (A ++ y ∷ B) → Away n (0 ∷ A ++ y ∷ B) → n < 256
      → Chained (set (set nx (last 0 A) n) n y) (set (set pv n (last 0 A)) y n) (A ++ n ∷ y ∷ B)
  chained-insert A n y B c w m = record {
    apart = apart-insert n (0 ∷ A) (y ∷ B) w c.apart;
    small = small-append A (n ∷ y ∷ B) (small-left A (y ∷ B) c.small) (m, small-right A (y ∷ B) c.small);
    linked = linked-insert nx pv ln lp n 0 A y B c.apart w (omega arith, c.small) m c.linked;
  }
