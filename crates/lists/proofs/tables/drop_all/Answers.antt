-- After k turns the tables show the lists after k steps, and what is to go from there on is what is left. Assumes nothing.
use mathlib.Core.Path.{◌≡◌, sym, ap, ◌∙◌, subst}
use mathlib.Core.Logic.{◌≢◌}
use mathlib.Core.List.{List}
use Prim.Native.Nat.{ℕ, suc, ◌+◌, ◌-◌, ◌<◌, ◌≤◌}
use native.Mathlib.Omega.{arith}
use lib.ListN.{length, length-drop}
use Rattle.lists.specs.State.{Row}
use Rattle.lists.specs.Lookup.{blocks_of}
use Rattle.lists.specs.Clearing.{steps_off, steps_free}
use Rattle.lists.specs.promises.Tables.{Tables, next_of, prev_of, owner_of, times, drop_first, drop_all, IsFirst, Drops, Clears}
use Rattle.lists.proofs.Bytes.{next-length}
use Rattle.lists.proofs.Clearing.{steps-blocks, steps-kept}
use Rattle.lists.proofs.Dropping.{drop-fewer, drop-turn, drop-stop, drop-taken}
use Rattle.lists.proofs.Lookup.{node_of}
use Rattle.lists.proofs.Represents.{owner-taken, step-shown, none_left}
use Rattle.lists.proofs.tables.drop_all.Invariants.{Clearing}
use borrow.Author.Rules.{rules}
use Rattle.lists.proofs.tables.drop_all.Goals as goal

begun : (n list : ℕ) (t : Tables) (first last of : ℕ) → 1 ≤ list → owner_of t n ≡ list → first ≡ next_of t n → last ≡ prev_of t 255 → of ≡ owner_of t first
    → Clearing n list t t first last of
unfolding steps_off steps_free
begun n list t first last of g h e q f = record {
  some = g;
  began = h;
  follows = e;
  owned = f;
  taken = λ z. h;
  rest = ap (λ (z : ℕ). drop_all n list z t) q;
  k = 0;
  shows = λ i w rs fs v. (omega arith, v, q);
}

module _ (n list : ℕ) (t₀ t : Tables) (first last of : ℕ) (s : Clearing n list t₀ t first last of) where
  first-owner : of ≡ owner_of t (next_of t n)
  first-owner = s.owned ∙ ap (owner_of t) s.follows

  -- the tables show a first block
  is-first : of ≡ list → IsFirst n first t
  is-first h = record { follows = sym s.follows; taken = rw (s.taken h) s.some; same = sym s.owned ∙ h ∙ sym (s.taken h) }

  fewer : (u : Tables) → of ≡ list → u ≡ drop_first n last t → times list u.owner < times list t.owner
  fewer u h e =
      let k : times list u.owner ≡ times list (drop_first n last t).owner = ap (λ (x : Tables). times list x.owner) e in
      omega (arith, k, drop-fewer n list last t (sym first-owner ∙ h) s.some)

  -- what is left of the list's blocks
  left-blocks : (rs : List (Row ℕ)) → length (blocks_of (steps_off s.k list rs) list) ≡ length (blocks_of rs list) - s.k
  left-blocks rs = ap length (steps-blocks s.k list rs) ∙ length-drop s.k (blocks_of rs list)

  turn : (u : Tables) (r o : ℕ) → n < length t.next → of ≡ list → Drops n last t r u → o ≡ owner_of u r → Clearing n list t₀ u r first o
  unfolding steps_off steps_free
  turn u r o m h d f = record {
    some = s.some;
    began = s.began;
    follows = d.answer;
    owned = f;
    taken = λ z. rw d.left
        (drop-taken n list last t m (s.taken h) s.some (subst (λ (x : Tables). owner_of x (next_of x n) ≡ list) d.left (sym (f ∙ ap (owner_of u) d.answer) ∙ z)));
    rest = ap (λ (z : ℕ). drop_all n list z u) s.follows ∙ ap (drop_all n list (next_of t n)) d.left ∙ drop-turn n list last t (sym first-owner ∙ h) s.some ∙ s.rest;
    k = suc s.k;
    shows = λ g q rs fs v.
        let (few, w, e) = s.shows g q rs fs v in
        let z : n ≡ 64 + list = q ∙ node_of list g.1 in
        let more = (step-shown t (steps_off s.k list rs) w list g first (subst (λ (j : ℕ). IsFirst j first t) z (is-first h))).0 in
        let (shown, at) = d.shows list g q e (steps_off s.k list rs) (steps_free s.k list rs fs) w in
        (omega (arith, left-blocks rs), shown, s.follows ∙ at);
  }

  ended : of ≢ list → Clears n list t₀ t
  ended h = record {
    left = sym (drop-stop n list last t (λ z. h (first-owner ∙ z))) ∙ s.rest;
    steps = s.k;
    shows = λ g q rs fs v.
        let (few, w, e) = s.shows g q rs fs v in
        let z : n ≡ 64 + list = q ∙ node_of list g.1 in
        let a = owner-taken t₀ rs v list g (rw (← z) (rw s.began s.some)) in
        let e = none_left t (steps_off s.k list rs) w list g (steps-kept s.k list rs ∙ a) (λ y. h (first-owner ∙ ap (λ (j : ℕ). owner_of t (next_of t j)) z ∙ y)) in
        (omega (arith, left-blocks rs, ap length e), w);
  }

pub loop-of-init : goal.loop-of-init
loop-of-init c =
    let p = c.requires in
    begun _ _ _ _ _ _ p.0 p.1 (search rules) (search rules) c.owner_of-of.ensures

pub drop_first-second-requires : goal.drop_first-second-requires
drop_first-second-requires c = is-first _ _ _ _ _ _ _ c.loop-of.invariant c.loop-of-test.true

pub loop-of-smaller : goal.loop-of-smaller
loop-of-smaller c =
    let s = c.loop-of in
    fewer _ _ _ _ _ _ _ s.invariant _ c.loop-of-test.true c.drop_first-second.ensures.left

pub loop-of-preserved : goal.loop-of-preserved
loop-of-preserved c =
    let s = c.loop-of in
    turn _ _ _ _ _ _ _ s.invariant _ _ _ (rw (next-length s.nodes) (omega (arith, c.ranges.n))) c.loop-of-test.true c.drop_first-second.ensures c.owner_of-of-in-loop-of.ensures

pub returns : goal.returns
returns c = ended _ _ _ _ _ _ _ c.loop-of.invariant c.loop-of-test.false
