-- The record that a unit's end leaves, number by number as the functions make it, is the one that the definition has: each step of a sound record has room,
-- and contents do not matter.
use mathlib.Core.Path.{◌≡◌, refl, sym, ap, ◌∙◌, subst}
use mathlib.Core.Bool.{Bool, ◌&&◌, not}
use mathlib.Core.Option
use mathlib.Core.Option.{some}
use mathlib.Core.List.{List, [], ◌∷◌, ◌++◌, map}
use Prim.Native.Nat.{ℕ, ◌-◌, ◌≤◌}
use native.Mathlib.Omega.{arith}
use lib.Dec.{eqb}
use lib.ListN.{length, take, length-append}
use Rattle.lists.specs.Basic.{times}
use Rattle.lists.specs.Change.{Change, take_list, put_first, put_after, write, del_block, del_list, map_change}
use Rattle.lists.specs.State.{Row, State, state, changed, frees, free_after, apply_all, overlay, map_row, map_state}
use Rattle.lists.specs.InUse.{in_use, brings}
use Rattle.lists.specs.Numbers.{all_numbers}
use Rattle.lists.proofs.Times.{keep-alike}
use Rattle.lists.proofs.Naturality.{taken-map, placed-map, changed-map, free_after-map, apply_all-map}
use Rattle.card_log.specs.Card.{Written}
use Rattle.disk.specs.Record.{Record, Tally, holder_of, listed_in, with_listed, unit_turned, releasing}
use Rattle.disk.specs.Disk.{Disk, journal_of, committed, listing}
use Rattle.disk.specs.Perform.{relisted, given_up, closing}
use Rattle.disk.specs.promises.Listing.{Padded, pushed_all, relisted_by, relisted_all}
use Rattle.disk.proofs.Clauses.{Right, OrderRight, committed-is}
use Rattle.disk.proofs.Listing.{padded-places, padded-same, listed-with, with-again, with-same, padded-with, pushed-all}
use Rattle.disk.proofs.ListedOnce.{reader-reached, held, to-listed}
use Rattle.disk.proofs.ClosingOrder.{all-good-numbered, ended-lists, ended-order, dropped-order}
use Rattle.disk.proofs.Relisting.{relisted-all}
use Rattle.calls.specs.promises.Ending.{closed_over}

-- Contents do not matter.
module _ {D E : Type 0} (h : D → E) where
  brings-map : (c : Change D) → brings (map_change h c) ≡ brings c
  unfolding map_change
  brings-map (take_list l) = refl
  brings-map (put_first b l) = refl
  brings-map (put_after b l p) = refl
  brings-map (write b x) = refl
  brings-map (del_block b) = refl
  brings-map (del_list l) = refl

  frees-map : (c : Change D) (rs : List (Row D)) → frees (map_change h c) (map (map_row h) rs) ≡ frees c rs
  unfolding free_after
  frees-map c rs = free_after-map h c rs []

  pub relisted_by-map : (c : Change D) (rs : List (Row D)) (r : Record) → relisted_by (map_change h c) (map (map_row h) rs) r ≡ relisted_by c rs r
  unfolding relisted_by
  relisted_by-map c rs r = rw (frees-map c rs, brings-map c)

  pub relisted_all-map : (cs : List (Change D)) (rs : List (Row D)) (r : Record) → relisted_all (map (map_change h) cs) (map (map_row h) rs) r ≡ relisted_all cs rs r
  unfolding relisted_all
  relisted_all-map [] rs r = refl
  relisted_all-map (c ∷ cs) rs r =
      ap (relisted_all (map (map_change h) cs) (changed (map_change h c) (map (map_row h) rs))) (relisted_by-map c rs r)
      ∙ ap (λ (x : List (Row E)). relisted_all (map (map_change h) cs) x (relisted_by c rs r)) (changed-map h c rs)
      ∙ relisted_all-map cs (changed c rs) (relisted_by c rs r)

  used-map : (n : ℕ) (rs : List (Row D)) → in_use n (map (map_row h) rs) ≡ in_use n rs
  unfolding in_use
  used-map n rs = rw (taken-map h (n - 64) rs, placed-map h n rs)

pub given-up-map : {D E : Type 0} (h : D → E) (u : ℕ) (rs : List (Row D)) (fs : List ℕ) (r : Record) → given_up u (state (map (map_row h) rs) fs) r ≡ given_up u (state rs fs) r
unfolding given_up
given-up-map h u rs fs r =
    keep-alike _ _ all_numbers (λ n k. ap (λ (b : Bool). eqb (holder_of r n) u && not b && eqb (times n fs) 0) (used-map h n rs))

-- A record with as much room as the definition's.
module _ {D : Type 0} (u : ℕ) (rs : List (Row D)) (os : List ℕ) (r : Record) (p : Padded (with_listed os r)) (l : length (os ++ given_up u (state rs os) r) ≤ 80) where
  abbrev up : List ℕ
  up = given_up u (state rs os) r

  given-same : given_up u (state rs (listed_in (with_listed os r))) (with_listed os r) ≡ up
  unfolding given_up with_listed
  given-same = ap (λ (fs : List ℕ). given_up u (state rs fs) r) (listed-with os r)

  closed-rec : closed_over u rs (with_listed os r) ≡ releasing u (unit_turned 0 u (with_listed (os ++ up) r))
  closed-rec =
      let w = with_listed os r in
      ap (λ (x : Record). releasing u (unit_turned 0 u x))
      (ap (λ (ns : List ℕ). pushed_all ns w) given-same
      ∙ pushed-all up w p (padded-places w p) (rw (listed-with os r) l)
      ∙ ap (λ (fs : List ℕ). with_listed (fs ++ up) w) (listed-with os r)
      ∙ with-again (os ++ up) os r)

-- of a unit closed, by the definition
closing-rec : (u : ℕ) (x : State Written) (d : Disk) → (closing u x d).rec ≡ releasing u (unit_turned 0 u (with_listed (x.free ++ given_up u x d.rec) d.rec))
unfolding closing relisted with_listed
closing-rec u x d = refl

closing-many : (u : ℕ) (x t : State Written) (d : Disk) → OrderRight (closing u x d) t → length (x.free ++ given_up u x d.rec) ≤ 80
unfolding closing relisted with_listed
closing-many u x t d o = o.many

module _ (u : ℕ) (d : Disk) (k : Right d) (o : OrderRight d k.reader.state) (h : ℕ → Written) (here : State ℕ) (m : committed d ≡ map_state h here) where
  padded-here : Padded d.rec
  padded-here = record { many = o.many; behind = o.behind }

  same_here : with_listed (listed_in d.rec) d.rec ≡ d.rec
  same_here = with-same d.rec padded-here o.places

  -- refusal 12
  pub dropped-closed : closed_over u here.lists d.rec ≡ (closing u (listing d) d).rec
  unfolding listing
  dropped-closed =
      let os = listed_in d.rec in
      let g : given_up u (listing d) d.rec ≡ given_up u (state here.lists os) d.rec =
      ap (λ (s : State Written). given_up u (state s.lists os) d.rec) m ∙ given-up-map h u here.lists os d.rec in
      ap (closed_over u here.lists) (sym same_here)
      ∙ closed-rec u here.lists os d.rec (subst Padded (sym same_here) padded-here)
      (rw g at (closing-many u (listing d) k.reader.state d (dropped-order u d k o)))
      ∙ ap (λ (ns : List ℕ). releasing u (unit_turned 0 u (with_listed (os ++ ns) d.rec))) (sym g)
      ∙ sym (closing-rec u (listing d) d)

  -- an accepted End, x being the disk with the unit's entries queued
  module _ (p : 1 ≤ u) (q : u ≤ 4) (cs : List (Change ℕ)) (j : map (map_change h) cs ≡ journal_of d u) (v : State ℕ) (a : apply_all cs here ≡ some v) (x : Disk)
      (hs : x.rec.held.holder ≡ d.rec.held.holder) (ts : x.rec.tally ≡ d.rec.tally) where
    abbrev end : State Written
    end = overlay (journal_of d u) (listing d)

    acts : apply_all (journal_of d u) k.reader.state ≡ some (map_state h v)
    acts =
        ap (apply_all (journal_of d u)) (sym (committed-is d k.reader k.log.replays) ∙ m)
        ∙ ap (λ (es : List (Change Written)). apply_all es (map_state h here)) (sym j)
        ∙ apply_all-map h cs here
        ∙ ap (Option.map (map_state h)) a

    listed_same : listed_in x.rec ≡ listed_in d.rec
    unfolding listed_in
    listed_same = ap (λ (t : Tally). take t.listed t.order) ts

    followed : relisted_all cs here.lists x.rec ≡ with_listed end.free x.rec
    unfolding listing
    followed =
        sym (relisted_all-map h cs here.lists x.rec)
        ∙ ap (λ (es : List (Change Written)). relisted_all es (map_state h here).lists x.rec) j
        ∙ ap (λ (s : State Written). relisted_all (journal_of d u) s.lists x.rec) (sym m ∙ committed-is d k.reader k.log.replays)
        ∙ relisted-all (journal_of d u) k.reader.state (map_state h v) x.rec (all-good-numbered (journal_of d u) d.rec u (k.units.units u p q).sound) (reader-reached d k) acts
        (padded-same d.rec x.rec ts padded-here)
        (rw listed_same o.range) (λ n b c. rw listed_same (held d n, to-listed d k.reader.state k.units o n b c))
        ∙ ap (λ (fs : List ℕ). with_listed (overlay (journal_of d u) (state k.reader.state.lists fs)).free x.rec) listed_same
        ∙ ap (λ (s : State Written). with_listed (overlay (journal_of d u) (state s.lists (listed_in d.rec))).free x.rec) (sym (committed-is d k.reader k.log.replays))

    pub ended-closed : closed_over u v.lists (relisted_all cs here.lists x.rec) ≡ (closing u end x).rec
    ended-closed =
        let os = end.free in
        let b = ended-order u d p q k o (map_state h v) acts x hs in
        let e : end.lists ≡ map (map_row h) v.lists = ended-lists u d p q k o (map_state h v) acts in
        let g : given_up u end x.rec ≡ given_up u (state v.lists os) x.rec =
        ap (λ (rs : List (Row Written)). given_up u (state rs os) x.rec) e ∙ given-up-map h u v.lists os x.rec in
        let n = closing-many u end (map_state h v) x b in
        ap (closed_over u v.lists) followed
        ∙ closed-rec u v.lists os x.rec (padded-with os x.rec (omega (arith, n, length-append os (given_up u end x.rec)))) (rw g at n)
        ∙ ap (λ (ns : List ℕ). releasing u (unit_turned 0 u (with_listed (os ++ ns) x.rec))) (sym g)
        ∙ sym (closing-rec u end x)
