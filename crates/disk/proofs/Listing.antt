-- The order of the free numbers as a record holds it, the numbers listed and 0 in the places behind them: a number at its end, one taken out, the free
-- numbers that tables show at its end; and what the loops that do so, or look a number up, have done when they stand at a place.
use mathlib.Core.Path.{◌≡◌, refl, sym, ap, ◌∙◌, subst}
use mathlib.Core.Logic.{◌≢◌}
use mathlib.Core.Bool.{Bool, true, false, not, cond, ◌&&◌, ◌||◌}
use mathlib.Core.Option.{some}
use mathlib.Core.List.{List, [], ◌∷◌, ◌++◌, append_assoc, append-nil}
use Prim.Native.Nat.{ℕ, suc, ◌+◌, ◌-◌, ◌≤◌, ◌<◌}
use native.Mathlib.Omega.{arith}
use native.Mathlib.Decide.{dec_lt}
use lib.Dec.{eqb, leb, ltb, eqb-suc-zero}
use lib.ListN.{length, take, get_or, set, replicate, length-take, length-append, length-replicate, replicate-append-replicate}
use Rattle.std.proofs.Common.{Option, Some, None}
use Rattle.std.specs.List.{list_any, find}
use Rattle.std.specs.Option.{option_map}
use lib.Seq.{take-append_seam, set-append_seam, append_snoc, set_at, get_or_at}
use Rattle.lists.specs.Basic.{all, keep, times}
use Rattle.lists.specs.InUse.{is_number}
use Rattle.lists.specs.State.{Row}
use Rattle.lists.specs.promises.Tables.{Tables, ShowsWith, OfShownAll, SaysFreeAfter, first_or0, last_or0}
use Rattle.lists.proofs.Basic.{and-true, all_split, lt-true, ge-false}
use Rattle.lists.proofs.Times.{times-other, times-append, times-cons, none-away}
use Rattle.lists.proofs.Listed.{number-range}
use Rattle.lists.proofs.Chain.{last_snoc}
use Rattle.lists.proofs.FreeRow.{shown-numbers, shown-fits, free-after-shown}
use Rattle.disk.proofs.Bytes.{order-length}
use Rattle.disk.specs.Record.{Record, Tally, listed_in, padded, with_tally, with_listed}
use Rattle.disk.specs.Questions.{first_free}
use Rattle.disk.specs.promises.Listing.{as_option, with_place, with_many, Padded, Reorders, unlisted, listed_last, pushed, pushed_all, Moves, ListsFree}

-- The places.
padded-length : (fs : List ℕ) → length fs ≤ 80 → length (padded fs) ≡ 80
padded-length fs h = omega (arith, length-append fs (replicate (80 - length fs) 0), length-replicate {A = ℕ} (80 - length fs) 0)

put-padded : (fs : List ℕ) (n : ℕ) → length fs < 80 → set (padded fs) (length fs) n ≡ padded (fs ++ n ∷ [])
put-padded fs n h =
    let e : 80 - length fs ≡ suc (80 - length (fs ++ n ∷ [])) = omega (arith, length-append fs (n ∷ [])) in
    ap (λ (k : ℕ). set (fs ++ replicate k 0) (length fs) n) e ∙ set-append_seam fs 0 (replicate (80 - length (fs ++ n ∷ [])) 0) n
    ∙ sym (append_snoc fs n (replicate (80 - length (fs ++ n ∷ [])) 0))

pub listed-length : (r : Record) → length r.tally.order ≡ 80 → r.tally.listed ≤ 80 → length (listed_in r) ≡ r.tally.listed
unfolding listed_in
listed-length r l m = omega (arith, length-take r.tally.listed r.tally.order)

-- a padded order fills them
pub padded-places : (r : Record) → Padded r → length r.tally.order ≡ 80
unfolding listed_in
padded-places r p = ap length p.behind ∙ padded-length (listed_in r) (let m = p.many in omega (arith, length-take r.tally.listed r.tally.order))

pub padded-same : (r r' : Record) → r'.tally ≡ r.tally → Padded r → Padded r'
unfolding listed_in
padded-same r r' e p =
    let (a, b) = subst (λ (t : Tally). (t.listed ≤ 80) × (t.order ≡ padded (take t.listed t.order))) (sym e) (p.many, p.behind) in
    record { many = a; behind = b }

-- Numbers listed.
pub listed-with : (fs : List ℕ) (r : Record) → listed_in (with_listed fs r) ≡ fs
unfolding listed_in with_listed
listed-with fs r = take-append_seam fs (replicate (80 - length fs) 0)

pub with-again : (fs gs : List ℕ) (r : Record) → with_listed fs (with_listed gs r) ≡ with_listed fs r
unfolding with_listed
with-again fs gs r = refl

pub padded-with : (fs : List ℕ) (r : Record) → length fs ≤ 80 → Padded (with_listed fs r)
unfolding with_listed
padded-with fs r h = record { many = h; behind = ap padded (sym (listed-with fs r)) }

pub places-with : (fs : List ℕ) (r : Record) → length fs ≤ 80 → length (with_listed fs r).tally.order ≡ 80
unfolding with_listed
places-with fs r h = padded-length fs h

pub with-same : (r : Record) → Padded r → length r.tally.order ≡ 80 → with_listed (listed_in r) r ≡ r
unfolding with_listed
with-same r p l i = with_tally r (sym p.behind i) (listed-length r l p.many i) r.tally.conflicts

-- what that leaves alone, and so taking a number out does
pub with-ring : (fs : List ℕ) (r : Record) → (with_listed fs r).ring ≡ r.ring
unfolding with_listed
with-ring fs r = refl

pub with-held : (fs : List ℕ) (r : Record) → (with_listed fs r).held ≡ r.held
unfolding with_listed
with-held fs r = refl

pub with-conflicts : (fs : List ℕ) (r : Record) → (with_listed fs r).tally.conflicts ≡ r.tally.conflicts
unfolding with_listed
with-conflicts fs r = refl

-- A number at the end.
pub pushed_room : (n : ℕ) (r : Record) → r.tally.listed < 80 → pushed n r ≡ listed_last (n ∷ []) r
unfolding pushed
pushed_room n r h = rw (lt-true r.tally.listed 80 h)

pub pushed-full : (n : ℕ) (r : Record) → 80 ≤ r.tally.listed → pushed n r ≡ r
unfolding pushed
pushed-full n r h = rw (ge-false r.tally.listed 80 h)

pub pushed-put : (n : ℕ) (r : Record) → Padded r → length r.tally.order ≡ 80 → r.tally.listed < 80 → with_many (r.tally.listed + 1) (with_place r.tally.listed n r) ≡ pushed n r
unfolding with_listed
pushed-put n r p l h = (λ i. with_tally r (order i) (many i) r.tally.conflicts) ∙ sym (pushed_room n r h)
  where
    len : length (listed_in r) ≡ r.tally.listed
    len = listed-length r l p.many

    order : set r.tally.order r.tally.listed n ≡ padded (listed_in r ++ n ∷ [])
    order = ap (λ (os : List ℕ). set os r.tally.listed n) p.behind ∙ ap (λ (k : ℕ). set (padded (listed_in r)) k n) (sym len) ∙ put-padded (listed_in r) n (omega (arith, len))

    many : r.tally.listed + 1 ≡ length (listed_in r ++ n ∷ [])
    many = omega (arith, len, length-append (listed_in r) (n ∷ []))

-- what holds of either record
by-room : (P : Record → Type 0) (n : ℕ) (r : Record) → (r.tally.listed < 80 → P (listed_last (n ∷ []) r)) → P r → P (pushed n r)
by-room P n r f x = go (dec_lt r.tally.listed 80)
  where
    go : Dec (r.tally.listed < 80) → P (pushed n r)
    go (yes h) = subst P (sym (pushed_room n r h)) (f h)
    go (no h) = subst P (sym (pushed-full n r (omega arith))) x

pub pushed-padded : (n : ℕ) (r : Record) → Padded r → length r.tally.order ≡ 80 → Padded (pushed n r)
pushed-padded n r p l = by-room Padded n r (λ h. padded-with (listed_in r ++ n ∷ []) r (omega (arith, length-append (listed_in r) (n ∷ []), listed-length r l p.many))) p

pub pushed-times : (n m : ℕ) (r : Record) → m ≢ n → times n (listed_in (pushed m r)) ≡ times n (listed_in r)
unfolding times
pushed-times n m r e =
    by-room (λ x. times n (listed_in x) ≡ times n (listed_in r)) m r
    (λ h. ap (times n) (listed-with (listed_in r ++ m ∷ []) r) ∙ omega (arith, times-append n (listed_in r) (m ∷ []), times-other n m [] e)) refl

-- Numbers at the end, one after the other.
pub pushed_all-append : (xs ys : List ℕ) (r : Record) → pushed_all (xs ++ ys) r ≡ pushed_all ys (pushed_all xs r)
unfolding pushed_all
pushed_all-append [] ys r = refl
pushed_all-append (x ∷ xs) ys r = pushed_all-append xs ys (pushed x r)

pub pushed_all-padded : (ns : List ℕ) (r : Record) → Padded r → length r.tally.order ≡ 80 → Padded (pushed_all ns r)
unfolding pushed_all
pushed_all-padded [] r p l = p
pushed_all-padded (n ∷ ns) r p l = let q = pushed-padded n r p l in pushed_all-padded ns (pushed n r) q (padded-places (pushed n r) q)

pub pushed_all-places : (ns : List ℕ) (r : Record) → Padded r → length r.tally.order ≡ 80 → length (pushed_all ns r).tally.order ≡ 80
pushed_all-places ns r p l = padded-places (pushed_all ns r) (pushed_all-padded ns r p l)

pub pushed_all-times : (n : ℕ) (ns : List ℕ) (r : Record) → times n ns ≡ 0 → times n (listed_in (pushed_all ns r)) ≡ times n (listed_in r)
unfolding pushed_all
pushed_all-times n [] r h = refl
pushed_all-times n (m ∷ ns) r h =
    pushed_all-times n ns (pushed m r) (omega (arith, times-cons n m ns)) ∙ pushed-times n m r (none-away n (m ∷ ns) h).0

pub pushed_all-ring : (ns : List ℕ) (r : Record) → (pushed_all ns r).ring ≡ r.ring
unfolding pushed_all
pushed_all-ring [] r = refl
pushed_all-ring (n ∷ ns) r = pushed_all-ring ns (pushed n r) ∙ by-room (λ x. x.ring ≡ r.ring) n r (λ h. with-ring (listed_in r ++ n ∷ []) r) refl

pub pushed_all-held : (ns : List ℕ) (r : Record) → (pushed_all ns r).held ≡ r.held
unfolding pushed_all
pushed_all-held [] r = refl
pushed_all-held (n ∷ ns) r = pushed_all-held ns (pushed n r) ∙ by-room (λ x. x.held ≡ r.held) n r (λ h. with-held (listed_in r ++ n ∷ []) r) refl

pub pushed_all-conflicts : (ns : List ℕ) (r : Record) → (pushed_all ns r).tally.conflicts ≡ r.tally.conflicts
unfolding pushed_all
pushed_all-conflicts [] r = refl
pushed_all-conflicts (n ∷ ns) r =
    pushed_all-conflicts ns (pushed n r) ∙ by-room (λ x. x.tally.conflicts ≡ r.tally.conflicts) n r (λ h. with-conflicts (listed_in r ++ n ∷ []) r) refl

-- where they all find a place
pub pushed-all : (ns : List ℕ) (r : Record) → Padded r → length r.tally.order ≡ 80 → length (listed_in r ++ ns) ≤ 80 → pushed_all ns r ≡ listed_last ns r
unfolding pushed_all
pushed-all [] r p l h = sym (ap (λ (fs : List ℕ). with_listed fs r) (append-nil (listed_in r)) ∙ with-same r p l)
pushed-all (n ∷ ns) r p l h =
    let fs = listed_in r ++ n ∷ [] in
    let e : fs ++ ns ≡ listed_in r ++ n ∷ ns = append_snoc (listed_in r) n ns in
    let m : length fs ≤ 80 = omega (arith, ap length e, length-append fs ns) in
    ap (pushed_all ns) (pushed_room n r (omega (arith, length-append (listed_in r) (n ∷ ns), listed-length r l p.many)))
    ∙ pushed-all ns (with_listed fs r) (padded-with fs r m) (places-with fs r m) (rw (listed-with fs r, e) h)
    ∙ ap (λ (gs : List ℕ). with_listed (gs ++ ns) (with_listed fs r)) (listed-with fs r)
    ∙ with-again (fs ++ ns) fs r
    ∙ ap (λ (gs : List ℕ). with_listed gs r) e

-- A number taken out.
abbrev others : ℕ → List ℕ → List ℕ
others n fs = keep (λ m. not (eqb m n)) fs

others-length : (n : ℕ) (fs : List ℕ) → length (others n fs) ≤ length fs
others-length n [] = omega arith
others-length n (m ∷ fs) = go (eqb m n) (others-length n fs)
  where
    go : (b : Bool) → length (others n fs) ≤ length fs → length (cond (not b) (m ∷ others n fs) (others n fs)) ≤ suc (length fs)
    go true h = omega arith
    go false h = omega arith

pub unlisted-padded : (n : ℕ) (r : Record) → Padded r → length r.tally.order ≡ 80 → Padded (unlisted n r)
unlisted-padded n r p l = padded-with (others n (listed_in r)) r (let m = p.many in omega (arith, others-length n (listed_in r), listed-length r l p.many))

-- What these leave alone.
pub reorders-same : (r : Record) → Padded r → Reorders r r
reorders-same r p = record { padded = p; ring = refl; held = refl }

pub reorders-then : (r r' r'' : Record) → Reorders r r' → Reorders r' r'' → Reorders r r''
reorders-then r r' r'' h k = record { padded = k.padded; ring = k.ring ∙ h.ring; held = k.held ∙ h.held }

pub reorders-pushed : (n : ℕ) (r r' : Record) → Reorders r r' → Reorders r (pushed n r')
unfolding pushed_all
reorders-pushed n r r' h = record {
  padded = pushed-padded n r' h.padded (padded-places r' h.padded);
  ring = pushed_all-ring (n ∷ []) r' ∙ h.ring;
  held = pushed_all-held (n ∷ []) r' ∙ h.held;
}

pub reorders-unlisted : (n : ℕ) (r : Record) → Padded r → Reorders r (unlisted n r)
reorders-unlisted n r p = record {
  padded = unlisted-padded n r p (padded-places r p);
  ring = with-ring (others n (listed_in r)) r;
  held = with-held (others n (listed_in r)) r;
}

-- numbers kept, so many places empty, and the others where they were: the first of these is taken, and goes to the first place that is empty
abbrev gapped : List ℕ → ℕ → List ℕ → List ℕ
gapped ks g ys = ks ++ replicate g 0 ++ ys

module _ (ks : List ℕ) (g y : ℕ) (ys : List ℕ) {k : ℕ} (e : length ks + g ≡ k) where
  gap-end : length (ks ++ replicate g 0) ≡ k
  gap-end = omega (arith, length-append ks (replicate g 0), length-replicate {A = ℕ} g 0)

  gapped-next : get_or (gapped ks g (y ∷ ys)) k 0 ≡ y
  gapped-next = get_or_at (ks ++ replicate g 0) y ys 0 k gap-end

  gapped-take : set (gapped ks g (y ∷ ys)) k 0 ≡ gapped ks (suc g) ys
  gapped-take =
      let s : g + 1 ≡ suc g = omega arith in
      set_at (ks ++ replicate g 0) y ys 0 k gap-end ∙ sym (append_snoc (ks ++ replicate g 0) 0 ys)
      ∙ ap (λ (zs : List ℕ). zs ++ ys) (append_assoc ks (replicate g 0) (0 ∷ []) ∙ ap (λ (zs : List ℕ). ks ++ zs) (replicate-append-replicate g 1 0 ∙ ap (λ (m : ℕ). replicate m 0) s))

gapped-put : (ks : List ℕ) (g y : ℕ) (ys : List ℕ) {j : ℕ} → length ks ≡ j → set (gapped ks (suc g) ys) j y ≡ gapped (ks ++ y ∷ []) g ys
gapped-put ks g y ys {j} e =
    ap (λ (zs : List ℕ). set zs j y) (append_assoc ks (replicate (suc g) 0) ys) ∙ set_at ks 0 (replicate g 0 ++ ys) y j e ∙ sym (append_snoc ks y (replicate g 0 ++ ys))
    ∙ sym (append_assoc (ks ++ y ∷ []) (replicate g 0) ys)

-- Number n is being taken out of r's order: the places before k are done, of their numbers those kept stand in the first j, and ys is what is left to do.
pub record Sifts (n : ℕ) (r : Record) (k j : ℕ) (r' : Record) (ks : List ℕ) (g : ℕ) (ys : List ℕ) : Type 0 where
  pub kept : length ks ≡ j
  pub place : j + g ≡ k
  pub many : k + length ys ≡ r.tally.listed
  pub keeps : others n (listed_in r) ≡ ks ++ others n ys
  pub stands : r' ≡ with_tally r (gapped ks g (ys ++ replicate (80 - r.tally.listed) 0)) r.tally.listed r.tally.conflicts

pub record Sifted (n : ℕ) (r : Record) (k j : ℕ) (r' : Record) : Type 0 where
  pub numbers : List ℕ
  pub gap : ℕ
  pub left : List ℕ
  pub sifts : Sifts n r k j r' numbers gap left

pub sifted-none : (n : ℕ) (r : Record) → Padded r → length r.tally.order ≡ 80 → Sifted n r 0 0 r
sifted-none n r p l =
    let len = listed-length r l p.many in
    let order : r.tally.order ≡ listed_in r ++ replicate (80 - r.tally.listed) 0 = p.behind ∙ ap (λ (m : ℕ). listed_in r ++ replicate (80 - m) 0) len in
    record {
      numbers = [];
      gap = 0;
      left = listed_in r;
      sifts = record { kept = refl; place = refl; many = omega (arith, len); keeps = refl; stands = λ i. with_tally r (order i) r.tally.listed r.tally.conflicts };
    }

pub sifted-more : (n : ℕ) (r : Record) (k j m : ℕ) (r' r'' : Record) → k < r.tally.listed → Sifted n r k j r' → Moves n k j r' m r'' → Sifted n r (k + 1) m r''
sifted-more n r k j m r' r'' h s t = go s.numbers s.gap s.left s.sifts
  where
    go : (ks : List ℕ) (g : ℕ) (ys : List ℕ) → Sifts n r k j r' ks g ys → Sifted n r (k + 1) m r''
    go ks g [] f = absurd (omega (arith, f.many))
    go ks g (y ∷ ys) f = by (eqb y n) refl (rw here at t.next) (rw here at t.left)
      where
        rest : List ℕ
        rest = ys ++ replicate (80 - r.tally.listed) 0

        place : length ks + g ≡ k
        place = omega (arith, f.kept, f.place)

        here : get_or r'.tally.order k 0 ≡ y
        here = ap (λ (x : Record). get_or x.tally.order k 0) f.stands ∙ gapped-next ks g y rest place

        taken : with_place k 0 r' ≡ with_tally r (gapped ks (suc g) rest) r.tally.listed r.tally.conflicts
        taken = ap (with_place k 0) f.stands ∙ ap (λ (os : List ℕ). with_tally r os r.tally.listed r.tally.conflicts) (gapped-take ks g y rest place)

        put : with_place j y (with_place k 0 r') ≡ with_tally r (gapped (ks ++ y ∷ []) g rest) r.tally.listed r.tally.conflicts
        put = ap (with_place j y) taken ∙ ap (λ (os : List ℕ). with_tally r os r.tally.listed r.tally.conflicts) (gapped-put ks g y rest f.kept)

        by : (b : Bool) → eqb y n ≡ b → m ≡ cond (eqb y n) j (j + 1) → r'' ≡ cond (eqb y n) (with_place k 0 r') (with_place j y (with_place k 0 r')) → Sifted n r (k + 1) m r''
        by true e a b =
            let a' : m ≡ j = rw e at a in
            record {
              numbers = ks;
              gap = suc g;
              left = ys;
              sifts = record {
                kept = omega (arith, f.kept);
                place = omega (arith, f.place);
                many = omega (arith, f.many);
                keeps = rw e at f.keeps;
                stands = (rw e at b) ∙ taken;
              };
            }
        by false e a b =
            let a' : m ≡ j + 1 = rw e at a in
            record {
              numbers = ks ++ y ∷ [];
              gap = g;
              left = ys;
              sifts = record {
                kept = omega (arith, length-append ks (y ∷ []), f.kept);
                place = omega (arith, f.place);
                many = omega (arith, f.many);
                keeps = (rw e at f.keeps) ∙ sym (append_snoc ks y (others n ys));
                stands = (rw e at b) ∙ put;
              };
            }

pub sifted-all : (n : ℕ) (r : Record) (k j : ℕ) (r' : Record) → r.tally.listed ≤ 80 → r.tally.listed ≤ k → Sifted n r k j r' → with_many j r' ≡ unlisted n r
unfolding with_listed
sifted-all n r k j r' m h s = go s.numbers s.gap s.left s.sifts
  where
    go : (ks : List ℕ) (g : ℕ) (ys : List ℕ) → Sifts n r k j r' ks g ys → with_many j r' ≡ unlisted n r
    go ks g (y ∷ ys) f = absurd (omega (arith, f.many))
    go ks g [] f =
        ap (with_many j) f.stands ∙ (λ i. with_tally r (gap-padded i) (sym f.kept i) r.tally.conflicts) ∙ ap (λ (fs : List ℕ). with_listed fs r) (sym (f.keeps ∙ append-nil ks))
      where
        rest : g + (80 - r.tally.listed) ≡ 80 - length ks
        rest = omega (arith, f.kept, f.place, f.many)

        gap-padded : gapped ks g (replicate (80 - r.tally.listed) 0) ≡ padded ks
        gap-padded =
            append_assoc ks (replicate g 0) (replicate (80 - r.tally.listed) 0)
            ∙ ap (λ (zs : List ℕ). ks ++ zs) (replicate-append-replicate g (80 - r.tally.listed) 0 ∙ ap (λ (i : ℕ). replicate i 0) rest)

pub sifted-within : (n : ℕ) (r : Record) (k j : ℕ) (r' : Record) → Sifted n r k j r' → j ≤ k
sifted-within n r k j r' s = omega (arith, s.sifts.place)

pub ruleset sifting = (sifted-none, sifted-more, sifted-all, sifted-within, order-length)

pub ruleset pushing = (pushed-put, pushed-full, order-length)

-- Looking a number up.
listed-any : (n : ℕ) (ns : List ℕ) → list_any (λ m. eqb m n) ns ≡ not (eqb (times n ns) 0)
unfolding times
listed-any n [] = refl
listed-any n (m ∷ ns) = go (eqb m n) (listed-any n ns)
  where
    go : (b : Bool) → list_any (λ m. eqb m n) ns ≡ not (eqb (times n ns) 0) → b || list_any (λ m. eqb m n) ns ≡ not (eqb (cond b (suc (times n ns)) (times n ns)) 0)
    go true h = sym (ap not (eqb-suc-zero (times n ns)))
    go false h = h

pub listed_any : (n : ℕ) (ns ms : List ℕ) (b : Bool) → ms ≡ ns → b ≡ list_any (λ m. eqb m n) ms → b ≡ not (eqb (times n ns) 0)
listed_any n ns ms b e h = h ∙ ap (list_any (λ m. eqb m n)) e ∙ listed-any n ns

-- A number of a kind behind m, k of them: the first, as code finds it.
first-of : (m k : ℕ) (ns : List ℕ) → as_option (option_map (λ n. n - m) (find (λ n. ltb m n && leb n (m + k)) ns)) ≡ first_free m k ns
unfolding first_free
first-of m k [] = refl
first-of m k (n ∷ ns) = go (ltb m n && leb n (m + k)) (first-of m k ns)
  where
    found : Option ℕ
    found = find (λ n. ltb m n && leb n (m + k)) ns

    go : (b : Bool) → as_option (option_map (λ n. n - m) found) ≡ first_free m k ns → as_option (option_map (λ n. n - m) (cond b (Some n) found)) ≡ elim b [ true ↦ some (n - m) | false ↦ first_free m k ns ]
    go true h = refl
    go false h = h

pub first-found : {A : Type 0} (m k : ℕ) (ns : List ℕ) (v : A → ℕ) (o : Option A) → option_map v o ≡ find (λ n. ltb m n && leb n (m + k)) ns
    → as_option (option_map (λ x. v x - m) o) ≡ first_free m k ns
first-found {A} m k ns v o e = twice o ∙ ap (λ (p : Option ℕ). as_option (option_map (λ n. n - m) p)) e ∙ first-of m k ns
  where
    twice : (o : Option A) → as_option (option_map (λ x. v x - m) o) ≡ as_option (option_map (λ n. n - m) (option_map v o))
    twice None = refl
    twice (Some x) = refl

-- The free numbers that tables show, from x on: those up to x are passed, at least i, and the ones ahead are what is left to join r'.
pub record Joins (fs post : List ℕ) (r : Record) (x i : ℕ) (r' : Record) (passed ahead : List ℕ) : Type 0 where
  pub row : fs ≡ passed ++ ahead
  pub last : x ≡ last_or0 passed
  pub many : i ≤ length passed
  pub same : pushed_all post r ≡ pushed_all ahead r'

pub record Joined (fs post : List ℕ) (r : Record) (x i : ℕ) (r' : Record) : Type 0 where
  pub passed : List ℕ
  pub ahead : List ℕ
  pub joins : Joins fs post r x i r' passed ahead

abbrev pub JoinedUpTo : Tables → ℕ → Record → ℕ → ℕ → Record → Type 0
JoinedUpTo t n r x i r' = OfShownAll t (λ rs fs. (pre post : List ℕ) → fs ≡ pre ++ post → n ≡ last_or0 pre → Joined fs post r x i r')

-- a row that goes on does not go on with 0, and one of 80 is at its end
row_next : {t : Tables} {rs : List (Row ℕ)} (passed ahead : List ℕ) {x y : ℕ} → ShowsWith t rs (passed ++ ahead) → SaysFreeAfter t x y → x ≡ last_or0 passed → y ≡ first_or0 ahead
row_next {t} passed ahead {x} {y} s w e = free-after-shown passed ahead s (subst (λ (z : ℕ). SaysFreeAfter t z y) e w)

row_number : {t : Tables} {rs : List (Row ℕ)} (passed : List ℕ) (y : ℕ) (ys : List ℕ) → ShowsWith t rs (passed ++ y ∷ ys) → 1 ≤ y
unfolding all
row_number passed y ys s = (number-range y (and-true (is_number y) _ (all_split is_number passed (y ∷ ys) (shown-numbers s)).1).0).0

module _ {t : Tables} {n : ℕ} {r : Record} where
  pub joined-none : JoinedUpTo t n r n 0 r
  joined-none rs fs s pre post e h = record { passed = pre; ahead = post; joins = record { row = e; last = h; many = omega arith; same = refl } }

  module _ {x i : ℕ} {r' : Record} where
    pub joined-more : {y : ℕ} → SaysFreeAfter t x y → y ≢ 0 → JoinedUpTo t n r x i r' → JoinedUpTo t n r y (i + 1) (pushed y r')
    unfolding pushed_all
    joined-more {y} w o f rs fs s pre post e h = let g = f rs fs s pre post e h in go g.passed g.ahead g.joins
      where
        go : (ps qs : List ℕ) → Joins fs post r x i r' ps qs → Joined fs post r y (i + 1) (pushed y r')
        go ps [] j = absurd (o (row_next ps [] (subst (ShowsWith t rs) j.row s) w j.last))
        go ps (a ∷ qs) j =
            let q : y ≡ a = row_next ps (a ∷ qs) (subst (ShowsWith t rs) j.row s) w j.last in
            record {
              passed = ps ++ a ∷ [];
              ahead = qs;
              joins = record {
                row = j.row ∙ sym (append_snoc ps a qs);
                last = q ∙ sym (last_snoc 0 ps a);
                many = omega (arith, j.many, length-append ps (a ∷ []));
                same = j.same ∙ ap (λ (z : ℕ). pushed_all qs (pushed z r')) (sym q);
              };
            }

    pub joined_end : {y : ℕ} → SaysFreeAfter t x y → y ≡ 0 → JoinedUpTo t n r x i r' → ListsFree t n r r'
    unfolding pushed_all
    joined_end {y} w o f rs fs s pre post e h = let g = f rs fs s pre post e h in go g.passed g.ahead g.joins
      where
        go : (ps qs : List ℕ) → Joins fs post r x i r' ps qs → r' ≡ pushed_all post r
        go ps [] j = sym j.same
        go ps (a ∷ qs) j =
            let z = subst (ShowsWith t rs) j.row s in
            absurd (omega (arith, row_number ps a qs z, row_next ps (a ∷ qs) z w j.last))

    pub joined-all : 80 ≤ i → JoinedUpTo t n r x i r' → ListsFree t n r r'
    unfolding pushed_all
    joined-all m f rs fs s pre post e h = let g = f rs fs s pre post e h in go g.passed g.ahead g.joins
      where
        go : (ps qs : List ℕ) → Joins fs post r x i r' ps qs → r' ≡ pushed_all post r
        go ps [] j = sym j.same
        go ps (a ∷ qs) j = absurd (omega (arith, shown-fits s, ap length j.row, length-append ps (a ∷ qs), j.many))
