-- The numbers that a unit gives up, one after the other: those that are left join the order as it is where all of them join it as it was.
use mathlib.Core.Path.{◌≡◌, refl, sym, ap, ◌∙◌}
use mathlib.Core.Bool.{Bool, true, false, ◌&&◌, not, cond}
use mathlib.Core.List.{List, ◌∷◌}
use Prim.Native.Nat.{ℕ, ◌+◌, ◌-◌, ◌≤◌, ◌<◌}
use native.Mathlib.Omega.{arith}
use lib.Dec.{eqb}
use lib.ListN.{get_or}
use Rattle.lists.specs.Basic.{keep, times, from}
use Rattle.lists.specs.State.{Row, state}
use Rattle.lists.specs.InUse.{in_use}
use Rattle.lists.specs.Numbers.{all_numbers}
use Rattle.lists.proofs.Basic.{from_step, from-none}
use Rattle.disk.specs.Record.{Record, Held, holder_of, listed_in}
use Rattle.disk.specs.Perform.{given_up}
use Rattle.disk.specs.promises.Listing.{pushed, pushed_all}
use Rattle.disk.proofs.Listing.{pushed-times, reorders-same, reorders-pushed}
use Rattle.inspect.specs.promises.Relisting.{is_given_up}

-- the numbers before n are done: the others are listed as often as they were, and are left to join r'
pub record GivenUpTo (u : ℕ) (rs : List (Row ℕ)) (r : Record) (n : ℕ) (r' : Record) : Type 0 where
  pub same : (m : ℕ) → n ≤ m → times m (listed_in r') ≡ times m (listed_in r)
  pub leads : pushed_all (keep (is_given_up u rs r) (from (λ k. k) n (81 - n))) r' ≡ pushed_all (given_up u (state rs (listed_in r)) r) r

module _ (u : ℕ) (rs : List (Row ℕ)) (r : Record) where
  pub given-none : GivenUpTo u rs r 1 r
  unfolding given_up all_numbers is_given_up
  given-none = record { same = λ m l. refl; leads = refl }

  module _ (n : ℕ) (r' : Record) (g : GivenUpTo u rs r n r') where
    pub given-more : (r'' : Record) → n < 81 → r'.held ≡ r.held → r'' ≡ cond (is_given_up u rs r' n) (pushed n r') r' → GivenUpTo u rs r (n + 1) r''
    unfolding pushed_all is_given_up
    given-more r'' l h e = go (is_given_up u rs r n) refl (e ∙ ap (λ (b : Bool). cond b (pushed n r') r') asks)
      where
        asks : is_given_up u rs r' n ≡ is_given_up u rs r n
        asks =
            ap (λ (w : Held). eqb (get_or w.holder (n - 1) 0) u && not (in_use n rs) && eqb (times n (listed_in r')) 0) h
            ∙ ap (λ (m : ℕ). eqb (holder_of r n) u && not (in_use n rs) && eqb m 0) (g.same n (omega arith))

        ahead : List ℕ
        ahead = keep (is_given_up u rs r) (from (λ k. k) (n + 1) (81 - (n + 1)))

        next : pushed_all (cond (is_given_up u rs r n) (n ∷ ahead) ahead) r' ≡ pushed_all (given_up u (state rs (listed_in r)) r) r
        next = ap (λ (ns : List ℕ). pushed_all (keep (is_given_up u rs r) ns) r') (sym (from_step (λ k. k) n 81 l)) ∙ g.leads

        go : (b : Bool) → is_given_up u rs r n ≡ b → r'' ≡ cond b (pushed n r') r' → GivenUpTo u rs r (n + 1) r''
        go true q w = record {
          same = λ m k. ap (λ (z : Record). times m (listed_in z)) w ∙ pushed-times m n r' (λ z. omega arith) ∙ g.same m (omega arith);
          leads = ap (pushed_all ahead) w ∙ (rw q at next);
        }
        go false q w = record {
          same = λ m k. ap (λ (z : Record). times m (listed_in z)) w ∙ g.same m (omega arith);
          leads = ap (pushed_all ahead) w ∙ (rw q at next);
        }

    pub given-all : 81 ≤ n → r' ≡ pushed_all (given_up u (state rs (listed_in r)) r) r
    unfolding pushed_all
    given-all l = ap (λ (ns : List ℕ). pushed_all (keep (is_given_up u rs r) ns) r') (sym (from-none (λ k. k) n 81 l)) ∙ g.leads

pub ruleset giving = (reorders-same, reorders-pushed)
