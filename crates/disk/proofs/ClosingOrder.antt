-- A unit that closes leaves each free number listed once, and no other, whether its End is accepted (`ended-order`) or refused with 12
-- (`dropped-order`): what it held and is free joins the order at its end.
use mathlib.Core.Path.{◌≡◌, refl, sym, ap, ◌∙◌, subst}
use mathlib.Core.Logic.{◌≢◌}
use mathlib.Core.Bool.{Bool, true, false, ◌&&◌, ◌||◌, not, cond, and-true as and_yes}
use mathlib.Core.Option.{some, some-injective}
use mathlib.Core.List.{List, [], ◌∷◌, ◌++◌}
use Prim.Native.Nat.{ℕ, ◌+◌, ◌-◌, ◌≤◌}
use native.Mathlib.Omega.{arith}
use native.Mathlib.Decide.{ℕ_discrete}
use lib.Dec.{eqb}
use lib.ListN.{get_or}
use Rattle.lists.specs.Basic.{any, all, times, from, or_else}
use Rattle.lists.specs.Change.{Change}
use Rattle.lists.specs.State.{Row, State, state, free_after, apply, apply_all, overlay}
use Rattle.lists.specs.InUse.{is_number, in_use, AllNumbered, brought}
use Rattle.lists.specs.Numbers.{all_numbers}
use Rattle.lists.proofs.Basic.{and-true, eqb-false, eq-true, bind-some, all_append}
use Rattle.lists.proofs.Apply.{apply_some}
use Rattle.lists.proofs.Times.{times-append, times-keep, from-within}
use Rattle.lists.proofs.Listed.{all-kept, Listed, listed-step, listed-range, Reached, reached-step, reached-exact}
use Rattle.card_log.specs.Entry.{member, raw, legal, map_entry}
use Rattle.card_log.specs.Card.{Written}
use Rattle.card_log.proofs.Reached.{numbered, legal-numbered}
use Rattle.disk.specs.Record.{Record, releasing, unit_turned, holder_of, listed_in}
use Rattle.disk.specs.Disk.{Disk, with_record, journal_of, listing}
use Rattle.disk.specs.Sound.{journal_sound}
use Rattle.disk.specs.Perform.{given_up, closing}
use Rattle.disk.proofs.Clauses.{Right, OrderRight, committed-is}
use Rattle.disk.proofs.Held.{closing-holder, closing-released, journals-apart}
use Rattle.disk.proofs.Changes.{apply-applies}
use Rattle.disk.proofs.ListedOnce.{Lists, order-made, relisted-lists, reader-reached, held, free-is, to-listed, from-listed}

-- A unit closes: what it holds and is free, and is not listed yet, joins the order at its end.
all-in-range : all is_number all_numbers ≡ true
unfolding all_numbers all from
all-in-range = refl

abbrev gives_up : ℕ → State Written → Record → ℕ → Bool
gives_up u x r n = eqb (holder_of r n) u && not (in_use n x.lists) && eqb (times n x.free) 0

given-up-times : (u : ℕ) (x : State Written) (r : Record) (n : ℕ) → 1 ≤ n → n ≤ 80 → times n (given_up u x r) ≡ cond (gives_up u x r n) 1 0
unfolding given_up all_numbers
given-up-times u x r n p q = times-keep (gives_up u x r) n _ ∙ ap (λ (k : ℕ). cond (gives_up u x r n) k 0) (from-within n 1 80 p (omega arith))

module _ (u : ℕ) (x : State Written) (d : Disk) where
  pub closing-lists : Lists (closing u x d) (x.free ++ given_up u x d.rec)
  unfolding closing
  closing-lists = relisted-lists (x.free ++ given_up u x d.rec) (x.free ++ given_up u x d.rec) (with_record d (releasing u (unit_turned 0 u d.rec))) refl

  -- what the unit held may be listed, or be missing still; of the others those are missing that another unit holds
  abbrev Missing : ℕ → Type 0
  Missing n = Dec (holder_of d.rec n ≡ u) × ((a : Bool) × Listed n a x.lists x.free × (holder_of d.rec n ≢ u → a ≡ held d n))

  closing-once : (n : ℕ) → 1 ≤ n → n ≤ 80 → Missing n → times n (x.free ++ given_up u x d.rec) ≡ cond (not (in_use n x.lists) && eqb (holder_of (closing u x d).rec n) 0) 1 0
  closing-once n p q (h, (a, l, f)) =
      times-append n x.free (given_up u x d.rec) ∙ ap (λ (k : ℕ). times n x.free + k) (given-up-times u x d.rec n p q) ∙ go h
    where
      own : (i b : Bool) → cond (not i && not b) 1 0 + cond ((true && not i) && eqb (cond (not i && not b) 1 0) 0) 1 0 ≡ cond (not i && true) 1 0
      own true b = refl
      own false true = refl
      own false false = refl

      once : times n x.free ≡ cond (not (in_use n x.lists) && not a) 1 0
      once = l.once ∙ rw (free-is n x.lists p q)

      go : Dec (holder_of d.rec n ≡ u) → times n x.free + cond (gives_up u x d.rec n) 1 0 ≡ cond (not (in_use n x.lists) && eqb (holder_of (closing u x d).rec n) 0) 1 0
      go (yes e) = rw (closing-released u x d n e, eq-true (holder_of d.rec n) u e) (rw once (own (in_use n x.lists) a))
      go (no e) =
          let z : times n x.free ≡ cond (not (in_use n x.lists) && eqb (holder_of d.rec n) 0) 1 0 = from-listed n (holder_of d.rec n) x.lists x.free p q (subst (λ (b : Bool). Listed n b x.lists x.free) (f e) l) in
          rw (closing-holder u x d n e, eqb-false (holder_of d.rec n) u e) (omega (arith, z))

  closing-order : (t : State Written) → x.lists ≡ t.lists → all is_number x.free ≡ true → ((n : ℕ) → 1 ≤ n → n ≤ 80 → Missing n) → OrderRight (closing u x d) t
  unfolding given_up
  closing-order t e a f =
      order-made (closing u x d) (x.free ++ given_up u x d.rec) t closing-lists
      (all_append is_number x.free (given_up u x d.rec) a (all-kept is_number (gives_up u x d.rec) all_numbers all-in-range))
      (λ n p q. closing-once n p q (f n p q) ∙ ap (λ (rs : List (Row Written)). cond (not (in_use n rs) && eqb (holder_of (closing u x d).rec n) 0) 1 0) e)

-- The journal of a unit, entry by entry, on the record's own order: the lists are the committed state's, and what the entries bring into use is missing
-- no more.
record Goes (s t : State Written) (os : List ℕ) (cs : List (Change Written)) (x : State Written) : Type 0 where
  lists : x.lists ≡ t.lists
  range : all is_number x.free ≡ true
  listed : (n : ℕ) (a : Bool) → Listed n a s.lists os → Listed n (a && not (any (λ c. brought c n) cs)) t.lists x.free

pub all-good-numbered : (cs : List (Change Written)) (r : Record) (u : ℕ) → all (journal_sound r u) cs ≡ true → AllNumbered cs
unfolding all journal_sound legal raw map_entry
all-good-numbered [] r u h = tt
all-good-numbered (c ∷ cs) r u h =
    let (a, b) = and-true (journal_sound r u c) (all (journal_sound r u) cs) h in
    let (l, _) = and-true (legal (raw 0 (member c))) _ a in
    (numbered c (legal-numbered 0 c l), all-good-numbered cs r u b)

journal-goes : (cs : List (Change Written)) (s t : State Written) (os : List ℕ) → AllNumbered cs → Reached s → all is_number os ≡ true → apply_all cs s ≡ some t → Goes s t os cs (overlay cs (state s.lists os))
unfolding apply_all overlay or_else
journal-goes [] s t os g r a e =
    let q : s ≡ t = some-injective _ _ e in
    record { lists = ap (λ (x : State Written). x.lists) q; range = a; listed = λ n b l. subst (λ (x : State Written). Listed n (b && true) x.lists os) q (subst (λ (z : Bool). Listed n z s.lists os) (sym (and_yes b)) l) }
journal-goes (c ∷ cs) s t os g r a e =
    let (v, f, h) = bind-some (apply c s) (λ x. apply_all cs x) t e in
    let (p, q) = apply_some c s v f in
    let w = reached-step c s v f g.0 r in
    let fs = free_after c s.lists os in
    let i = journal-goes cs v t fs g.1 w (listed-range c s v os f (reached-exact s r) (reached-exact v w) a) h in
    let k : or_else (state s.lists os) (apply c (state s.lists os)) ≡ state v.lists fs =
    ap (or_else (state s.lists os)) (apply-applies c (state s.lists os) p) ∙ ap (λ (x : State Written). state x.lists fs) (sym q) in
    subst (λ (x : State Written). Goes s t os (c ∷ cs) (overlay cs x)) (sym k)
    (record {
      lists = i.lists;
      range = i.range;
      listed = λ n b l. subst (λ (z : Bool). Listed n z t.lists (overlay cs (state v.lists fs)).free) (both b (brought c n) (any (λ x. brought x n) cs))
          (i.listed n (b && not (brought c n)) (listed-step c s v os f (reached-exact s r) (reached-exact v w) n b l));
    })
  where
    both : (b x y : Bool) → (b && not x) && not y ≡ b && not (x || y)
    both true true y = refl
    both true false y = refl
    both false x y = refl

-- End accepted.
module _ (u : ℕ) (d : Disk) (p : 1 ≤ u) (q : u ≤ 4) (k : Right d) (o : OrderRight d k.reader.state) (t : State Written) (e : apply_all (journal_of d u) k.reader.state ≡ some t) where
  abbrev ended : State Written
  ended = overlay (journal_of d u) (listing d)

  ended-goes : Goes k.reader.state t (listed_in d.rec) (journal_of d u) ended
  unfolding listing
  ended-goes =
      subst (λ (x : State Written). Goes k.reader.state t (listed_in d.rec) (journal_of d u) (overlay (journal_of d u) (state x.lists (listed_in d.rec)))) (sym (committed-is d k.reader k.log.replays))
      (journal-goes (journal_of d u) k.reader.state t (listed_in d.rec) (all-good-numbered (journal_of d u) d.rec u (k.units.units u p q).sound) (reader-reached d k) o.range e)

  pub ended-lists : ended.lists ≡ t.lists
  ended-lists = ended-goes.lists

  pub ended-order : (x : Disk) → x.rec.held.holder ≡ d.rec.held.holder → OrderRight (closing u ended x) t
  ended-order x h = closing-order u ended x t ended-goes.lists ended-goes.range missing
    where
      same : (n : ℕ) → holder_of x.rec n ≡ holder_of d.rec n
      same n = ap (λ (hs : List ℕ). get_or hs (n - 1) 0) h

      missing : (n : ℕ) → 1 ≤ n → n ≤ 80 → Missing u ended x n
      missing n a b = (
        ℕ_discrete (holder_of x.rec n) u,
        (
          held d n && not (any (λ c. brought c n) (journal_of d u)),
          subst (λ (rs : List (Row Written)). Listed n (held d n && not (any (λ c. brought c n) (journal_of d u))) rs ended.free) (sym ended-goes.lists)
              (ended-goes.listed n (held d n) (to-listed d k.reader.state k.units o n a b)),
          λ z. rw (journals-apart d.rec u (journal_of d u) n (λ w. z (same n ∙ w)) (k.units.units u p q).sound) (and_yes (held d n) ∙ ap (λ (m : ℕ). not (eqb m 0)) (sym (same n))),
        ),
      )

-- Refusal 12.
pub dropped-order : (u : ℕ) (d : Disk) (k : Right d) → OrderRight d k.reader.state → OrderRight (closing u (listing d) d) k.reader.state
unfolding listing
dropped-order u d k o =
    let c = committed-is d k.reader k.log.replays in
    closing-order u (listing d) d k.reader.state (ap (λ (s : State Written). s.lists) c) o.range
    (λ n a b. (ℕ_discrete (holder_of d.rec n) u, (held d n, subst (λ (s : State Written). Listed n (held d n) s.lists (listed_in d.rec)) (sym c) (to-listed d k.reader.state k.units o n a b), λ z. refl)))
