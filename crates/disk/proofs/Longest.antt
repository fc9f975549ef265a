-- "Longest free number first": a number freed is not given before those of its kind that were free already (`rests`, `freed-rests`).
use mathlib.Core.Path.{◌≡◌, refl, sym, ap, ◌∙◌, subst}
use mathlib.Core.Bool.{Bool, true, false, ◌&&◌, not, cond, true≢false}
use mathlib.Core.Option.{some, some-injective}
use mathlib.Core.List.{List, [], ◌∷◌, ◌++◌, append_assoc}
use Prim.Native.Nat.{ℕ, zero, suc, ◌+◌, ◌-◌, ◌≤◌, ◌<◌}
use native.Mathlib.Omega.{arith}
use native.Mathlib.Decide.{ℕ_discrete, dec_le}
use lib.Dec.{leb, ltb, eqb-suc-zero}
use Rattle.lists.specs.Basic.{all, keep, times, or_else}
use Rattle.lists.specs.Numbers.{is_number}
use Rattle.lists.proofs.Basic.{and-true, not-false, le-true, lt-true, leb-true, ltb-true, gt-false, some_of, keep_append}
use Rattle.lists.proofs.Times.{standing, times-append, times-cons, times-here, times-other, times-keep, all-standing}
use Rattle.lists.proofs.Listed.{number-range}
use Rattle.disk.specs.Record.{listed_in}
use Rattle.disk.specs.Disk.{Disk}
use Rattle.disk.specs.Sound.{record_sound}
use Rattle.disk.specs.Call.{Edit, new_list, new_block, write_block, delete_block, delete_list, Call, format, mount, conflict_count, on_stream, in_view, begin, end, flush, resets}
use Rattle.disk.specs.Questions.{first_free, free_block, free_list, edit_questions, questions, refusal}
use Rattle.disk.specs.Perform.{number_given, accepted, perform, perform_all}
use Rattle.disk.specs.Rest.{outside, edit_gives, call_gives, given_by, freed_by, Before, FreedLast, given_all, no_reset, SameKind, Rests, FreedRests}
use Rattle.disk.proofs.Questions.{yes-all, first-free}
use Rattle.disk.proofs.Clauses.{order-right}
use Rattle.disk.proofs.Performing.{perform-accepted}
use Rattle.disk.proofs.Soundness.{stays-sound}
use Rattle.disk.proofs.Rest.{outside-true, listed-once, order-grows}

-- Numbers that stand in two lists, one behind the other, and those that stay.
pub before-joined : (m n : ℕ) (xs ys : List ℕ) → 1 ≤ times m xs → 1 ≤ times n ys → Before m n (xs ++ ys)
before-joined m n xs ys p q =
    let x = standing m xs p in
    let y = standing n ys q in
    record {
      front = x.front;
      middle = x.back ++ y.front;
      back = y.back;
      was = (λ i. x.was i ++ y.was i) ∙ append_assoc x.front (m ∷ x.back) (y.front ++ n ∷ y.back)
          ∙ ap (λ (zs : List ℕ). x.front ++ m ∷ zs) (sym (append_assoc x.back y.front (n ∷ y.back)));
    }

keep_at : (p : ℕ → Bool) (n : ℕ) (xs ys : List ℕ) → p n ≡ true → keep p (xs ++ n ∷ ys) ≡ keep p xs ++ n ∷ keep p ys
keep_at p n xs ys h = keep_append p xs (n ∷ ys) ∙ ap (λ (b : Bool). keep p xs ++ cond b (n ∷ keep p ys) (keep p ys)) h

pub before-kept : (p : ℕ → Bool) (m n : ℕ) (xs ys : List ℕ) → p m ≡ true → p n ≡ true → Before m n xs → Before m n (keep p xs ++ ys)
before-kept p m n xs ys h k b = record {
  front = keep p b.front;
  middle = keep p b.middle;
  back = keep p b.back ++ ys;
  was = ap (λ (zs : List ℕ). keep p zs ++ ys) b.was
      ∙ ap (λ (zs : List ℕ). zs ++ ys) (keep_at p m b.front (b.middle ++ n ∷ b.back) h ∙ ap (λ (zs : List ℕ). keep p b.front ++ m ∷ zs) (keep_at p n b.middle b.back k))
      ∙ append_assoc (keep p b.front) (m ∷ (keep p b.middle ++ n ∷ keep p b.back)) ys
      ∙ ap (λ (zs : List ℕ). keep p b.front ++ m ∷ zs) (append_assoc (keep p b.middle) (n ∷ keep p b.back) ys);
}

-- A number freed comes behind.
pub freed-last : FreedLast
freed-last c d m n r l h p g q =
    subst (Before m n) (sym (order-grows c d r l h))
    (before-joined m n (keep (outside (given_by c d)) (listed_in d.rec)) (freed_by c d)
    (rw (times-keep (outside (given_by c d)) m (listed_in d.rec), outside-true m (given_by c d) g) p) q)

-- The first of a kind is none that stands behind another of the kind.
first-front : (a k x m : ℕ) (fs rest : List ℕ) → a < m → m ≤ a + k → first_free a k (fs ++ m ∷ rest) ≡ some x → 1 ≤ times (a + x) (fs ++ m ∷ [])
unfolding first_free
first-front a k x m [] rest p q h =
    let e : ltb a m && leb m (a + k) ≡ true = rw (lt-true a m p, le-true m (a + k) q) in
    let v : m - a ≡ x = some-injective _ _ (rw (e, first_free) at h) in
    let w : a + x ≡ m = omega arith in
    rw w (omega (arith, times-here m []))
first-front a k x m (f ∷ fs) rest p q h = go (λ z. first-front a k x m fs rest p q z) (ltb a f && leb f (a + k)) refl
  where
    go : (first_free a k (fs ++ m ∷ rest) ≡ some x → 1 ≤ times (a + x) (fs ++ m ∷ [])) → (b : Bool) → ltb a f && leb f (a + k) ≡ b → 1 ≤ times (a + x) (f ∷ (fs ++ m ∷ []))
    go ih true e =
        let v : f - a ≡ x = some-injective _ _ (rw (e, first_free) at h) in
        let o = ltb-true a f (and-true (ltb a f) (leb f (a + k)) e).0 in
        let w : a + x ≡ f = omega arith in
        rw w (omega (arith, times-here f (fs ++ m ∷ [])))
    go ih false e = omega (arith, ih (rw (e, first_free) at h), times-cons (a + x) f (fs ++ m ∷ []))

first-apart : (a k x m : ℕ) (xs : List ℕ) → ((n : ℕ) → times n xs ≤ 1) → a < m → m ≤ a + k → Before m (a + x) xs → first_free a k xs ≡ some x → ◌≡◌ {A = ℕ} 0 1
first-apart a k x m xs o p q b h =
    let n = a + x in
    let f = first-front a k x m b.front (b.middle ++ n ∷ b.back) p q (ap (first_free a k) (sym b.was) ∙ h) in
    absurd (omega (
      arith,
      f,
      o n,
      ap (times n) b.was ∙ times-append n b.front (m ∷ (b.middle ++ n ∷ b.back)),
      times-append n b.front (m ∷ []),
      times-cons n m (b.middle ++ n ∷ b.back),
      times-append n b.middle (n ∷ b.back),
      times-here n b.back,
    ))

before_stands : (m n : ℕ) (xs : List ℕ) → Before m n xs → 1 ≤ times m xs
before_stands m n xs b = omega (arith, ap (times m) b.was ∙ times-append m b.front (m ∷ (b.middle ++ n ∷ b.back)), times-here m (b.middle ++ n ∷ b.back))

module _ (d : Disk) (m n : ℕ) (h : record_sound d ≡ true) (s : SameKind m n) (b : Before m n (listed_in d.rec)) where
  range : (1 ≤ m) × (m ≤ 80)
  range = number-range m (all-standing is_number (listed_in d.rec) (order-right d h).range m (before_stands m n (listed_in d.rec) b))

  not-block : (x : ℕ) → free_block d ≡ some x → Dec (x ≡ n) → times n (x ∷ []) ≡ 0
  unfolding free_block times
  not-block x e (no q) = times-other n x [] q
  not-block x e (yes q) =
      let (i, j, _) = first-free 0 64 x (listed_in d.rec) e in
      let t : leb m 64 ≡ true = s ∙ le-true n 64 (omega arith) in
      let z : n ≡ 0 + x = omega arith in
      absurd (omega (arith, first-apart 0 64 x m (listed_in d.rec) (listed-once d h) range.0 (leb-true m 64 t) (subst (λ (y : ℕ). Before m y (listed_in d.rec)) z b) e))

  not-list : (x : ℕ) → free_list d ≡ some x → Dec (64 + x ≡ n) → times n ((64 + x) ∷ []) ≡ 0
  unfolding free_list times
  not-list x e (no q) = times-other n (64 + x) [] q
  not-list x e (yes q) =
      let (i, j, _) = first-free 64 16 x (listed_in d.rec) e in
      let t : leb m 64 ≡ false = s ∙ gt-false n 64 (omega arith) in
      absurd (omega (arith, first-apart 64 16 x m (listed_in d.rec) (listed-once d h) (above (dec_le m 64) t) range.1 (subst (λ (y : ℕ). Before m y (listed_in d.rec)) (sym q) b) e))
    where
      above : Dec (m ≤ 64) → leb m 64 ≡ false → 64 < m
      above (yes k) t = absurd (true≢false (sym (le-true m 64 k) ∙ t))
      above (no k) t = omega arith

  edit-not : (t : ℕ) (e : Edit) → refusal (on_stream t e) d ≡ 0 → times n (edit_gives e (number_given e d)) ≡ 0
  unfolding questions edit_questions number_given edit_gives or_else times
  edit-not t new_list r = let (x, e) = some_of (free_list d) (yes-all (on_stream t new_list) d r 3) in rw e (not-list x e (ℕ_discrete (64 + x) n))
  edit-not t (new_block l p) r = let (x, e) = some_of (free_block d) (yes-all (on_stream t (new_block l p)) d r 6) in rw e (not-block x e (ℕ_discrete x n))
  edit-not t (write_block y k x) r = refl
  edit-not t (delete_block y) r = refl
  edit-not t (delete_list l) r = refl

  accepted-not : (c : Call) → refusal c d ≡ 0 → times n (call_gives c (accepted c d).answer.value) ≡ 0
  unfolding call_gives accepted times
  accepted-not format r = refl
  accepted-not mount r = refl
  accepted-not (conflict_count w) r = refl
  accepted-not (on_stream t e) r = edit-not t e r
  accepted-not (in_view v k) r = refl
  accepted-not (begin u w) r = refl
  accepted-not (end u) r = refl
  accepted-not (flush a) r = refl

  pub given-not : (c : Call) → times n (given_by c d) ≡ 0
  unfolding given_by times
  given-not c = go (refusal c d) refl
    where
      go : (k : ℕ) → refusal c d ≡ k → times n (given_by c d) ≡ 0
      go zero e = rw (e, perform-accepted c d e) (accepted-not c e)
      go (suc k) e = rw (e, given_by) (rw (eqb-suc-zero k))

-- A number given is one that is listed.
one-listed : (n x : ℕ) (os : List ℕ) → 1 ≤ times x os → Dec (x ≡ n) → 1 ≤ times n (x ∷ []) → 1 ≤ times n os
unfolding times
one-listed n x os k (yes e) h = subst (λ (y : ℕ). 1 ≤ times y os) e k
one-listed n x os k (no e) h = absurd (omega (arith, times-other n x [] e, h))

module _ (d : Disk) (n : ℕ) where
  edit-listed : (t : ℕ) (e : Edit) → refusal (on_stream t e) d ≡ 0 → 1 ≤ times n (edit_gives e (number_given e d)) → 1 ≤ times n (listed_in d.rec)
  unfolding questions edit_questions number_given edit_gives free_list free_block or_else times
  edit-listed t new_list r h =
      let (x, e) = some_of (free_list d) (yes-all (on_stream t new_list) d r 3) in
      one-listed n (64 + x) (listed_in d.rec) (first-free 64 16 x (listed_in d.rec) e).2 (ℕ_discrete (64 + x) n) (rw e at h)
  edit-listed t (new_block l p) r h =
      let (x, e) = some_of (free_block d) (yes-all (on_stream t (new_block l p)) d r 6) in
      let z : 0 + x ≡ x = omega arith in
      one-listed n x (listed_in d.rec) (rw z at (first-free 0 64 x (listed_in d.rec) e).2) (ℕ_discrete x n) (rw e at h)
  edit-listed t (write_block y k x) r h = absurd (omega arith)
  edit-listed t (delete_block y) r h = absurd (omega arith)
  edit-listed t (delete_list l) r h = absurd (omega arith)

  accepted-listed : (c : Call) → refusal c d ≡ 0 → 1 ≤ times n (call_gives c (accepted c d).answer.value) → 1 ≤ times n (listed_in d.rec)
  unfolding call_gives accepted times
  accepted-listed format r h = absurd (omega arith)
  accepted-listed mount r h = absurd (omega arith)
  accepted-listed (conflict_count w) r h = absurd (omega arith)
  accepted-listed (on_stream t e) r h = edit-listed t e r h
  accepted-listed (in_view v k) r h = absurd (omega arith)
  accepted-listed (begin u w) r h = absurd (omega arith)
  accepted-listed (end u) r h = absurd (omega arith)
  accepted-listed (flush a) r h = absurd (omega arith)

  pub given-listed : (c : Call) → 1 ≤ times n (given_by c d) → 1 ≤ times n (listed_in d.rec)
  unfolding given_by times
  given-listed c h = go (refusal c d) refl
    where
      go : (k : ℕ) → refusal c d ≡ k → 1 ≤ times n (listed_in d.rec)
      go zero e = accepted-listed c e (rw (e, perform-accepted c d e) at h)
      go (suc k) e = let z : given_by c d ≡ [] = rw (e, given_by) (rw (eqb-suc-zero k)) in absurd (omega (arith, ap (times n) z, h))

-- Call by call.
pub rests : Rests
unfolding given_all all times perform_all
rests [] d m n r l h s b g = refl
rests (c ∷ cs) d m n r l h s b g =
    let (u, v) = and-true (not (resets c)) (no_reset cs) r in
    let t = times-append m (given_by c d) (given_all cs (perform c d).disk) in
    let (y, z) = stays-sound (c ∷ []) d l h in
    let o = given-not d m n h s b c in
    let a = before-kept (outside (given_by c d)) m n (listed_in d.rec) (freed_by c d) (outside-true m (given_by c d) (omega (arith, t, g))) (outside-true n (given_by c d) o) b in
    omega (
      arith,
      times-append n (given_by c d) (given_all cs (perform c d).disk),
      o,
      rests cs (perform c d).disk m n v y z s (subst (Before m n) (sym (order-grows c d (not-false (resets c) u) l h)) a) (omega (arith, t, g)),
    )

pub freed-rests : FreedRests
unfolding given_all all perform_all
freed-rests c cs d m n r l h s p q g =
    let (u, v) = and-true (not (resets c)) (no_reset cs) r in
    let t = times-append m (given_by c d) (given_all cs (perform c d).disk) in
    let (y, z) = stays-sound (c ∷ []) d l h in
    rests cs (perform c d).disk m n v y z s (freed-last c d m n (not-false (resets c) u) l h p (omega (arith, t, g)) q) (omega (arith, t, g))
