-- Laws of tests, options and lists that the other laws share.
use mathlib.Core.Path.{◌≡◌, refl, sym, ap, ◌∙◌}
use mathlib.Core.Logic.{◌⊎◌, inl, inr, ◌≢◌}
use mathlib.Core.Bool.{Bool, true, false, ◌&&◌, ◌||◌, not, cond, true≢false, false≢true}
use mathlib.Core.Option.{Option, none, some, none-ne-some}
use mathlib.Core.List.{List, [], ◌∷◌, ◌++◌, map}
use Prim.Native.Nat.{ℕ, zero, suc, ◌+◌, ◌-◌, ◌≤◌, ◌<◌}
use native.Mathlib.Omega.{arith}
use native.Mathlib.Nat.{add-zero, add-suc, suc-add, zero-add}
use lib.Dec.{leb, eqb, ltb, T, eqb_refl, eqb→eq, leb→le, ltb→lt, le→leb, lt→ltb}
use lib.ListN.{length, drop, get_or, set, replicate}
use Rattle.lists.specs.Basic.{guard, bind, is_some, any, keep, all, each, from, joined}

-- Tests.
pub true→T : {b : Bool} → b ≡ true → T b
true→T {b} e = rw e tt

pub T→true : (b : Bool) → T b → b ≡ true
T→true true t = refl
T→true false t = absurd t

pub and-true : (a b : Bool) → a && b ≡ true → (a ≡ true) × (b ≡ true)
and-true true b e = (refl, e)
and-true false b e = absurd (false≢true e)

pub or-both : (a b : Bool) → a || b ≡ false → (a ≡ false) × (b ≡ false)
or-both true b h = absurd (true≢false h)
or-both false b h = (refl, h)

pub or_cases : (a b : Bool) → a || b ≡ true → (a ≡ true) ⊎ (b ≡ true)
or_cases true b h = inl refl
or_cases false b h = inr h

pub or_right : (a b : Bool) → b ≡ true → a || b ≡ true
or_right true b h = refl
or_right false b h = h

-- a test has one of two answers
pub either : (b : Bool) → (b ≡ true) ⊎ (b ≡ false)
either true = inl refl
either false = inr refl

pub not-false : (b : Bool) → not b ≡ true → b ≡ false
not-false true h = absurd (false≢true h)
not-false false h = refl

pub not-true : (b : Bool) → b ≡ false → not b ≡ true
not-true b h = rw h

pub false-not : (b : Bool) → not b ≡ false → b ≡ true
false-not true h = refl
false-not false h = absurd (true≢false h)

pub not-not : (b : Bool) → not (not b) ≡ b
not-not true = refl
not-not false = refl

pub and-swap : (a b : Bool) → a && b ≡ b && a
and-swap true true = refl
and-swap true false = refl
and-swap false true = refl
and-swap false false = refl

-- a test that another one implies
pub and-implied : (a b c : Bool) → (c ≡ true → a ≡ true) → b && c ≡ a && b && c
and-implied true b c k = refl
and-implied false b true k = absurd (false≢true (k refl))
and-implied false true false k = refl
and-implied false false false k = refl

pub eqb_same : (n : ℕ) → eqb n n ≡ true
eqb_same n = T→true (eqb n n) (eqb_refl n)

pub eqb-true : (m n : ℕ) → eqb m n ≡ true → m ≡ n
eqb-true m n h = eqb→eq m n (true→T h)

pub eqb-false : (m n : ℕ) → m ≢ n → eqb m n ≡ false
eqb-false m n h = go (eqb m n) refl
  where
    go : (b : Bool) → eqb m n ≡ b → eqb m n ≡ false
    go true e = absurd (h (eqb→eq m n (rw e tt)))
    go false e = e

pub eqb-neq : (m n : ℕ) → eqb m n ≡ false → m ≢ n
eqb-neq m n h e = let t : T (eqb m n) = rw e (eqb_refl n) in rw h at t

pub eqb-sym : (m n : ℕ) → eqb m n ≡ false → eqb n m ≡ false
eqb-sym m n h = eqb-false n m (λ e. eqb-neq m n h (sym e))

pub leb-true : (m n : ℕ) → leb m n ≡ true → m ≤ n
leb-true m n h = leb→le m n (true→T h)

pub ltb-true : (m n : ℕ) → ltb m n ≡ true → m < n
ltb-true m n h = ltb→lt m n (true→T h)

pub le-true : (m n : ℕ) → m ≤ n → leb m n ≡ true
le-true m n h = T→true (leb m n) (le→leb m n h)

pub lt-true : (m n : ℕ) → m < n → ltb m n ≡ true
lt-true m n h = T→true (ltb m n) (lt→ltb m n h)

pub gt-false : (m n : ℕ) → n < m → leb m n ≡ false
gt-false m n h = go (leb m n) refl
  where
    go : (b : Bool) → leb m n ≡ b → leb m n ≡ false
    go true e = absurd (let k = leb-true m n e in omega arith)
    go false e = e

pub ge-false : (m n : ℕ) → n ≤ m → ltb m n ≡ false
ge-false m n h = go (ltb m n) refl
  where
    go : (b : Bool) → ltb m n ≡ b → ltb m n ≡ false
    go true e = absurd (let k = ltb-true m n e in omega arith)
    go false e = e

pub eq-true : (m n : ℕ) → m ≡ n → eqb m n ≡ true
eq-true m n h = rw h (eqb_same n)

-- Options.
module _ {A B C : Type 0} where
  pub bind-bind : (o : Option A) (f : A → Option B) (g : B → Option C) → bind (bind o f) g ≡ bind o (λ a. bind (f a) g)
  bind-bind none f g = refl
  bind-bind (some a) f g = refl

module _ {A B : Type 0} where
  pub bind-ext : (o : Option A) (f g : A → Option B) → ((a : A) → f a ≡ g a) → bind o f ≡ bind o g
  bind-ext none f g h = refl
  bind-ext (some a) f g h = h a

  pub bind-some : (o : Option A) (f : A → Option B) (b : B) → bind o f ≡ some b → (a : A) × (o ≡ some a) × (f a ≡ some b)
  bind-some none f b e = absurd (none-ne-some _ e)
  bind-some (some a) f b e = (a, refl, e)

module _ {A : Type 0} where
  pub guard-some : (t : Bool) (o : Option A) (a : A) → guard t o ≡ some a → (t ≡ true) × (o ≡ some a)
  guard-some true o a e = (refl, e)
  guard-some false o a e = absurd (none-ne-some _ e)

  pub guard-true : (t : Bool) (o : Option A) → t ≡ true → guard t o ≡ o
  guard-true t o h = rw h

  pub some_of : (o : Option A) → is_some o ≡ true → (a : A) × (o ≡ some a)
  unfolding is_some
  some_of none h = absurd (false≢true h)
  some_of (some a) h = (a, refl)

  pub is-some : (o : Option A) (a : A) → o ≡ some a → is_some o ≡ true
  unfolding is_some
  is-some o a e = rw e

-- All of some tests.
pub each_at : (bs : List Bool) → each bs ≡ true → (i : ℕ) → get_or bs i true ≡ true
unfolding each
each_at [] h i = refl
each_at (b ∷ bs) h zero = (and-true b (each bs) h).0
each_at (b ∷ bs) h (suc i) = each_at bs (and-true b (each bs) h).1 i

abbrev pub AllTrue : List Bool → Type 0
AllTrue [] = Unit {0}
AllTrue (b ∷ bs) = (b ≡ true) × AllTrue bs

pub each-true : (bs : List Bool) → AllTrue bs → each bs ≡ true
unfolding each
each-true [] h = refl
each-true (b ∷ bs) h = rw h.0 (each-true bs h.1)

-- Every element passes.
module _ {A : Type 0} (p : A → Bool) where
  pub all_append : (xs ys : List A) → all p xs ≡ true → all p ys ≡ true → all p (xs ++ ys) ≡ true
  unfolding all
  all_append [] ys h k = k
  all_append (x ∷ xs) ys h k = let (a, b) = and-true (p x) (all p xs) h in rw a (all_append xs ys b k)

  pub all_split : (xs ys : List A) → all p (xs ++ ys) ≡ true → (all p xs ≡ true) × (all p ys ≡ true)
  unfolding all
  all_split [] ys h = (refl, h)
  all_split (x ∷ xs) ys h =
      let (a, b) = and-true (p x) (all p (xs ++ ys)) h in
      let (c, d) = all_split xs ys b in
      (rw a c, d)

  pub all_drop : (n : ℕ) (l : List A) → all p l ≡ true → all p (drop n l) ≡ true
  unfolding all
  all_drop zero l h = h
  all_drop (suc n) [] h = refl
  all_drop (suc n) (x ∷ l) h = all_drop n l (and-true (p x) (all p l) h).1

  pub all-get_or : (l : List A) (i : ℕ) (x : A) → all p l ≡ true → p x ≡ true → p (get_or l i x) ≡ true
  unfolding all
  all-get_or [] i x h k = k
  all-get_or (y ∷ l) zero x h k = (and-true (p y) (all p l) h).0
  all-get_or (y ∷ l) (suc i) x h k = all-get_or l i x (and-true (p y) (all p l) h).1 k

pub all-each : {A : Type 0} (p q : A → Bool) (l : List A) → ((x : A) → p x ≡ true → q x ≡ true) → all p l ≡ true → all q l ≡ true
unfolding all
all-each p q [] f h = refl
all-each p q (x ∷ l) f h = let (a, b) = and-true (p x) (all p l) h in rw (f x a) (all-each p q l f b)

-- A map, and the elements that pass a test.
module _ {A B : Type 0} (f : A → B) where
  pub cond_map : (b : Bool) (x y : A) → f (cond b x y) ≡ cond b (f x) (f y)
  cond_map true x y = refl
  cond_map false x y = refl

  module _ (p : A → Bool) (q : B → Bool) (e : (x : A) → q (f x) ≡ p x) where
    pub any-map : (xs : List A) → any q (map f xs) ≡ any p xs
    any-map [] = refl
    any-map (x ∷ xs) = rw (e x, any-map xs)

    pub keep-map : (xs : List A) → keep q (map f xs) ≡ map f (keep p xs)
    keep-map [] = refl
    keep-map (x ∷ xs) = rw (e x, keep-map xs) (keep-step (p x))
      where
        keep-step : (b : Bool) → cond b (f x ∷ map f (keep p xs)) (map f (keep p xs)) ≡ map f (cond b (x ∷ keep p xs) (keep p xs))
        keep-step true = refl
        keep-step false = refl

pub keep_all : {A : Type 0} (p : A → Bool) → ((x : A) → p x ≡ true) → (xs : List A) → keep p xs ≡ xs
keep_all p e [] = refl
keep_all p e (x ∷ xs) = rw (e x, keep_all p e xs)

pub keep_append : {A : Type 0} (p : A → Bool) (xs ys : List A) → keep p (xs ++ ys) ≡ keep p xs ++ keep p ys
keep_append p [] ys = refl
keep_append p (x ∷ xs) ys = rw (keep_append p xs ys) (go (p x))
  where
    go : (t : Bool) → cond t (x ∷ keep p xs ++ keep p ys) (keep p xs ++ keep p ys) ≡ cond t (x ∷ keep p xs) (keep p xs) ++ keep p ys
    go true = refl
    go false = refl

-- Elements by number, from k on.
module _ {A : Type 0} where
  pub from-length : (f : ℕ → A) (k n : ℕ) → length (from f k n) ≡ n
  unfolding from
  from-length f k zero = refl
  from-length f k (suc n) = ap suc (from-length f (suc k) n)

  pub from-get : (f : ℕ → A) (k n i : ℕ) (d : A) → i < n → get_or (from f k n) i d ≡ f (k + i)
  unfolding from
  from-get f k zero i d h = absurd (omega arith)
  from-get f k (suc n) zero d h = ap f (sym (add-zero k))
  from-get f k (suc n) (suc i) d h = from-get f (suc k) n i d (omega arith) ∙ ap f (suc-add k i ∙ sym (add-suc k i))

  -- two that agree on the numbers from i on and from j on
  pub from-shift : (f g : ℕ → A) (i j n : ℕ) → ((k : ℕ) → k < n → f (i + k) ≡ g (j + k)) → from f i n ≡ from g j n
  unfolding from
  from-shift f g i j zero h = refl
  from-shift f g i j (suc n) h =
      ap (λ (x : A). x ∷ from f (suc i) n) (ap f (sym (add-zero i)) ∙ h 0 (omega arith) ∙ ap g (add-zero j))
      ∙ ap {B = List A} (λ r. g j ∷ r)
      (from-shift f g (suc i) (suc j) n (λ k l. ap f (suc-add i k ∙ sym (add-suc i k)) ∙ h (suc k) (omega arith) ∙ ap g (add-suc j k ∙ sym (suc-add j k))))

  pub from-ext : (f g : ℕ → A) (n : ℕ) → ((k : ℕ) → k < n → f k ≡ g k) → from f 0 n ≡ from g 0 n
  from-ext f g n h = from-shift f g 0 0 n (λ k l. ap f (zero-add k) ∙ h k l ∙ ap g (sym (zero-add k)))

  pub from-snoc : (f : ℕ → A) (k n : ℕ) → from f k (suc n) ≡ from f k n ++ f (k + n) ∷ []
  unfolding from
  from-snoc f k zero = ap (λ (m : ℕ). f m ∷ []) (sym (add-zero k))
  from-snoc f k (suc n) =
      ap {B = List A} (λ r. f k ∷ r) (from-snoc f (suc k) n ∙ ap (λ (m : ℕ). from f (suc k) n ++ f m ∷ []) (suc-add k n ∙ sym (add-suc k n)))

  -- what is left of n elements at element i: as a loop meets it
  pub from_step : (f : ℕ → A) (i n : ℕ) → i < n → from f i (n - i) ≡ f i ∷ from f (i + 1) (n - (i + 1))
  unfolding from
  from_step f i n l =
      let e : n - i ≡ suc (n - (i + 1)) = omega arith in
      let e' : suc i ≡ i + 1 = omega arith in
      ap (from f i) e ∙ ap (λ (k : ℕ). f i ∷ from f k (n - (i + 1))) e'

  pub from-none : (f : ℕ → A) (i n : ℕ) → n ≤ i → from f i (n - i) ≡ []
  unfolding from
  from-none f i n l = let e : n - i ≡ 0 = omega arith in ap (from f i) e

  pub from-drop : (f : ℕ → A) (k m n : ℕ) → drop m (from f k (m + n)) ≡ from f (k + m) n
  unfolding from
  from-drop f k zero n = rw (zero-add n, add-zero k)
  from-drop f k (suc m) n = rw (suc-add m n) (from-drop f (suc k) m n ∙ ap (λ (j : ℕ). from f j n) (suc-add k m ∙ sym (add-suc k m)))

  pub from_all : (p : A → Bool) (f : ℕ → A) (k n : ℕ) → ((j : ℕ) → k ≤ j → j < k + n → p (f j) ≡ true) → all p (from f k n) ≡ true
  unfolding from all
  from_all p f k zero h = refl
  from_all p f k (suc n) h = rw (h k (omega arith) (omega arith)) (from_all p f (suc k) n (λ j a b. h j (omega arith) (omega arith)))

  pub all_from : (p : A → Bool) (f : ℕ → A) (k n : ℕ) → all p (from f k n) ≡ true → (j : ℕ) → k ≤ j → j < k + n → p (f j) ≡ true
  unfolding from all
  all_from p f k zero h j a b = absurd (omega arith)
  all_from p f k (suc n) h j a b = go (native.Mathlib.Decide.ℕ_discrete k j) (all_from p f (suc k) n (and-true (p (f k)) (all p (from f (suc k) n)) h).1 j)
    where
      go : Dec (k ≡ j) → (suc k ≤ j → j < suc k + n → p (f j) ≡ true) → p (f j) ≡ true
      go (yes e) ih = ap (λ (m : ℕ). p (f m)) (sym e) ∙ (and-true (p (f k)) (all p (from f (suc k) n)) h).0
      go (no e) ih = ih (omega arith) (omega arith)

-- An element that stands for nothing.
module _ {A : Type 0} where
  pub get_or-same : (n i : ℕ) (x : A) → get_or (replicate n x) i x ≡ x
  get_or-same zero i x = refl
  get_or-same (suc n) zero x = refl
  get_or-same (suc n) (suc i) x = get_or-same n i x

  -- an element of a list does not go by the default
  pub any-default : (l : List A) (i : ℕ) (a b : A) → i < length l → get_or l i a ≡ get_or l i b
  any-default [] i a b h = absurd (omega arith)
  any-default (x ∷ l) zero a b h = refl
  any-default (x ∷ l) (suc i) a b h = any-default l i a b (omega arith)

  pub get_or-set-default : (l : List A) (i : ℕ) (x : A) → get_or (set l i x) i x ≡ x
  get_or-set-default [] i x = refl
  get_or-set-default (y ∷ l) zero x = refl
  get_or-set-default (y ∷ l) (suc i) x = get_or-set-default l i x

pub map-drop : {A B : Type 0} (f : A → B) (n : ℕ) (l : List A) → map f (drop n l) ≡ drop n (map f l)
map-drop f zero l = refl
map-drop f (suc n) [] = refl
map-drop f (suc n) (x ∷ l) = map-drop f n l

-- Lists joined.
pub joined-nils : {A : Type 0} (n : ℕ) → joined {A = A} (replicate n []) ≡ []
unfolding joined
joined-nils zero = refl
joined-nils (suc n) = joined-nils n

module _ {A : Type 0} (p : A → Bool) where
  any_append : (xs ys : List A) → any p (xs ++ ys) ≡ any p xs || any p ys
  any_append [] ys = refl
  any_append (x ∷ xs) ys = ap (λ (b : Bool). p x || b) (any_append xs ys) ∙ or_assoc (p x) (any p xs) (any p ys)
    where
      or_assoc : (a b c : Bool) → a || (b || c) ≡ (a || b) || c
      or_assoc true b c = refl
      or_assoc false b c = refl

  pub any-joined : (xss : List (List A)) → any (any p) xss ≡ any p (joined xss)
  unfolding joined
  any-joined [] = refl
  any-joined (x ∷ xs) = ap (λ (b : Bool). any p x || b) (any-joined xs) ∙ sym (any_append x (joined xs))
