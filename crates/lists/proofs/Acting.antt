-- A change that a function refuses, and one that it makes.
use mathlib.Core.Path.{◌≡◌, refl, sym}
use mathlib.Core.Logic.{◌≢◌}
use mathlib.Core.Bool.{Bool, true, false}
use mathlib.Core.Option.{Option, none}
use Prim.Native.Nat.{ℕ}
use Rattle.lists.specs.Change.{Change, put_first, put_after}
use Rattle.lists.specs.promises.Tables.{Tables, list_node, suits, done, Did, DidSome, of_kind}
use Rattle.lists.proofs.Basic.{eqb-false}

pub did-not : (c : Change ℕ) (t : Tables) → suits c t ≡ false → Did c t false t
did-not c t h = record { answer = sym h; left = rw h }

pub did_so : (c : Change ℕ) (t u : Tables) → suits c t ≡ true → u ≡ done c t → Did c t true u
did_so c t u h e = record { answer = sym h; left = rw h e }

-- no kind, no change
pub no_kind : (k b l p d : ℕ) → k ≢ 1 → k ≢ 2 → k ≢ 3 → k ≢ 4 → k ≢ 5 → k ≢ 6 → of_kind k b l p d ≡ none
unfolding of_kind
no_kind k b l p d h1 h2 h3 h4 h5 h6 =
    rw (eqb-false k 1 h1, eqb-false k 2 h2, eqb-false k 3 h3, eqb-false k 4 h4, eqb-false k 5 h5, eqb-false k 6 h6)

pub did_none : (o : Option (Change ℕ)) (t : Tables) → o ≡ none → DidSome o t false t
did_none o t e = rw e (refl, refl)

-- first on a list is behind its node
pub put_first_lem : (b l : ℕ) (t : Tables) (r : Bool) (u : Tables) → Did (put_after b l (list_node l)) t r u → Did (put_first b l) t r u
unfolding suits done
put_first_lem b l t r u d = record { answer = d.answer; left = d.left }
