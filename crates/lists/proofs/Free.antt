-- The free numbers that tables show are those that are not in use, each once (`free-shown`); and so are those of every state that changes lead to
-- (`free-exact`).
use mathlib.Core.Path.{◌≡◌, refl, sym, ap, ◌∙◌}
use mathlib.Core.Bool.{Bool, true, false, ◌&&◌, not, cond, and-false, true≢false}
use mathlib.Core.Option
use mathlib.Core.Option.{some, some-injective}
use mathlib.Core.List.{List, [], ◌∷◌, ◌++◌, map}
use Prim.Native.Nat.{ℕ, ◌+◌, ◌-◌, ◌≤◌, ◌<◌}
use native.Mathlib.Omega.{arith}
use native.Mathlib.Decide.{ℕ_discrete, dec_le}
use lib.Dec.{leb}
use Rattle.lists.specs.Basic.{times}
use Rattle.lists.specs.Change.{Change, take_list, put_first, put_after, write, del_block, del_list, map_change}
use Rattle.lists.specs.State.{Row, State, empty, taken, placed, apply, apply_all, map_row, map_state}
use Rattle.lists.specs.InUse.{is_number, in_use, is_free, Numbered, AllNumbered, FreeExact}
use Rattle.lists.specs.promises.Tables.{Tables, Away, nodes, ends, is_node, Ranged, ShowsWith, ShowsAll, done, cleared}
use Rattle.lists.proofs.Basic.{le-true, gt-false, eqb-false, bind-some}
use Rattle.lists.proofs.Apply.{apply_some}
use Rattle.lists.proofs.Naturality.{taken-map, placed-map, apply_all-map}
use Rattle.lists.proofs.Nodes.{away-taken, away-placed}
use Rattle.lists.proofs.Owners.{untaken-away, unplaced-away}
use Rattle.lists.proofs.Times.{times-append, times-cons, times-here, none-away, away-none, once-most}
use Rattle.lists.proofs.Represents.{shows-changed, number-node}
use Rattle.lists.proofs.Emptied.{shows-emptied}

module _ (t : Tables) (rs : List (Row ℕ)) (fs : List ℕ) (s : ShowsWith t rs fs) (n : ℕ) where
  parts : times n (nodes rs) + times n (254 ∷ []) + times n fs + times n (255 ∷ []) ≡ cond (is_node n) 1 0
  parts = omega (arith, s.whole n, times-append n (nodes rs) (ends fs), times-cons n 254 (fs ++ 255 ∷ []), times-append n fs (255 ∷ []))

  -- a number in use stands on the lists, and a free one does not
  used-nodes : 1 ≤ n → n ≤ 80 → in_use n rs ≡ true → 1 ≤ times n (nodes rs)
  unfolding in_use
  used-nodes a b u = go (dec_le 1 (times n (nodes rs)))
    where
      go : Dec (1 ≤ times n (nodes rs)) → 1 ≤ times n (nodes rs)
      go (yes h) = h
      go (no h) =
          let w : Away n (nodes rs) = none-away n (nodes rs) (omega arith) in
          absurd (true≢false (sym u ∙ side w (dec_le n 64)))
        where
          side : Away n (nodes rs) → Dec (n ≤ 64) → cond (leb n 64) (placed n rs) (taken (n - 64) rs) ≡ false
          side w (yes k) = rw (le-true n 64 k) (away-placed n rs w)
          side w (no k) = let e : 64 + (n - 64) ≡ n = omega arith in rw (gt-false n 64 (omega arith)) (away-taken (n - 64) rs (rw e w))

  unused-nodes : 1 ≤ n → n ≤ 80 → in_use n rs ≡ false → times n (nodes rs) ≡ 0
  unfolding in_use
  unused-nodes a b u = away-none n (nodes rs) (go (dec_le n 64))
    where
      go : Dec (n ≤ 64) → Away n (nodes rs)
      go (yes k) = unplaced-away t.owner t.location n rs k s.has (rw (le-true n 64 k) at u)
      go (no k) =
          let e : 64 + (n - 64) ≡ n = omega arith in
          rw e at (untaken-away t.owner t.location (n - 64) rs (omega arith) s.has (rw (gt-false n 64 (omega arith)) at u))

  pub free-shown : times n fs ≡ cond (is_free n rs) 1 0
  unfolding is_free
  free-shown = go (dec_le 1 n) (dec_le n 80)
    where
      within : 1 ≤ n → n ≤ 80 → (b : Bool) → in_use n rs ≡ b → times n fs ≡ cond (not b) 1 0
      within a b true u = omega (arith, parts, ap {B = ℕ} (λ z. cond z 1 0) (number-node n a b), used-nodes a b u)
      within a b false u =
          omega (
            arith,
            parts,
            ap {B = ℕ} (λ z. cond z 1 0) (number-node n a b),
            unused-nodes a b u,
            away-none n (254 ∷ []) ((λ e. omega arith), tt),
            away-none n (255 ∷ []) ((λ e. omega arith), tt),
          )

      -- the two ends stand there already
      beyond : n ≡ 0 → is_node n ≡ false
      beyond e = rw e

      outside : 80 < n → Dec (n ≡ 254) → Dec (n ≡ 255) → times n fs ≡ 0
      outside h (yes e) d = omega (arith, parts, once-most (is_node n), ap (λ (m : ℕ). times m (254 ∷ [])) e ∙ times-here 254 [])
      outside h (no c) (yes e) = omega (arith, parts, once-most (is_node n), ap (λ (m : ℕ). times m (255 ∷ [])) e ∙ times-here 255 [])
      outside h (no c) (no d) =
          let k : is_node n ≡ false = rw (gt-false n 80 h, eqb-false n 254 c, eqb-false n 255 d, and-false (leb 1 n)) in
          omega (arith, parts, ap {B = ℕ} (λ z. cond z 1 0) k)

      go : Dec (1 ≤ n) → Dec (n ≤ 80) → times n fs ≡ cond (is_number n && not (in_use n rs)) 1 0
      go (no a) b = rw (gt-false 1 n (omega arith)) (omega (arith, parts, ap {B = ℕ} (λ z. cond z 1 0) (beyond (omega arith))))
      go (yes a) (no b) = rw (le-true 1 n a, gt-false n 80 (omega arith)) (outside (omega arith) (ℕ_discrete n 254) (ℕ_discrete n 255))
      go (yes a) (yes b) = rw (le-true 1 n a, le-true n 80 b) (within a b (in_use n rs) refl)

-- Every state that changes lead to is shown by some tables.
abbrev AllRanged : List (Change ℕ) → Type 0
AllRanged [] = Unit {0}
AllRanged (c ∷ cs) = Ranged c × AllRanged cs

all_shown : (cs : List (Change ℕ)) (s u : State ℕ) (t : Tables) → AllRanged cs → ShowsAll t s → apply_all cs s ≡ some u → (v : Tables) × ShowsAll v u
unfolding apply_all
all_shown [] s u t g h e = (t, rw (some-injective _ _ e) at h)
all_shown (c ∷ cs) s u t g h e =
    let (w, f, k) = bind-some (apply c s) (λ x. apply_all cs x) u e in
    let (a, q) = apply_some c s w f in
    all_shown cs w u (done c t) g.1 (rw q (shows-changed c t s g.0 h a)) k

module _ {D : Type 0} where
  -- contents do not matter: each is location 1
  one-ranged : (c : Change D) → Numbered c → Ranged (map_change (λ d. 1) c)
  unfolding map_change
  one-ranged (take_list l) g = g
  one-ranged (put_first b l) g = g
  one-ranged (put_after b l p) g = g
  one-ranged (write b d) g = (g, omega arith)
  one-ranged (del_block b) g = g
  one-ranged (del_list l) g = g

  ones-ranged : (cs : List (Change D)) → AllNumbered cs → AllRanged (map (map_change (λ d. 1)) cs)
  ones-ranged [] g = tt
  ones-ranged (c ∷ cs) g = (one-ranged c g.0, ones-ranged cs g.1)

  free-map : (n : ℕ) (rs : List (Row D)) → is_free n (map (map_row {E = ℕ} (λ d. 1)) rs) ≡ is_free n rs
  unfolding is_free in_use
  free-map n rs = rw (taken-map {E = ℕ} (λ d. 1) (n - 64) rs, placed-map {E = ℕ} (λ d. 1) n rs)

  pub free-exact : FreeExact D
  free-exact cs s g e n =
      let h : D → ℕ = λ d. 1 in
      let (v, w) = all_shown (map (map_change h) cs) empty (map_state h s) cleared (ones-ranged cs g) shows-emptied (apply_all-map h cs empty ∙ ap (Option.map (map_state h)) e) in
      free-shown v (map (map_row h) s.lists) s.free w n ∙ ap {B = ℕ} (λ z. cond z 1 0) (free-map n s.lists)
