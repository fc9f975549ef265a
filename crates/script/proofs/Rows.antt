-- The rows of the table in three groups, no two of which have a name in common.
use mathlib.Core.Path.{◌≡◌, refl, sym, subst}
use mathlib.Core.Bool.{Bool, true, false, cond, false≢true}
use mathlib.Core.List.{List, [], ◌∷◌}
use Prim.Native.Nat.{ℕ}
use Rattle.std.specs.Prelude.{Option, None, Some}
use Rattle.std.specs.Option.{MatchOption}
use lib.Seq.{slice}
use Rattle.text.specs.Line.{same}
use Rattle.lists.proofs.Basic.{and-true, eqb-true}
use lib.Dec.{eqb}
use Rattle.script.specs.declared.command.Command.{Command}
use Rattle.script.specs.Spelling.{bytes}
use Rattle.script.specs.Commands.{Row, pick, first_rows, middle_rows, last_rows, last_named, middle_named, named}

-- the first answer, or the second where the first is nothing
abbrev pub or_then : Option Command → Option Command → Option Command
or_then (Some c) b = Some c
or_then None b = b

-- whoever is named by a row gets nothing of the rest
abbrev pub IsApart : List ℕ → Option Command → List Row → Type 0
IsApart word rest [] = Unit
IsApart word rest (r ∷ rs) = (same word (bytes r.name) ≡ true → rest ≡ None) × IsApart word rest rs

pick_then : (word : List ℕ) (rest : Option Command) (rows : List Row) → IsApart word rest rows → pick word rows rest ≡ or_then (pick word rows None) rest
unfolding pick
pick_then word rest [] h = refl
pick_then word rest (r ∷ rs) h = go (same word (bytes r.name)) r.command h.0 (pick_then word rest rs h.1)
  where
    go : (t : Bool) (c : Option Command) → (t ≡ true → rest ≡ None) → pick word rs rest ≡ or_then (pick word rs None) rest
        → cond t c (pick word rs rest) ≡ or_then (cond t c (pick word rs None)) rest
    go true (Some c) h e = refl
    go true None h e = sym (h refl)
    go false c h e = e

same_equal : (a b : List ℕ) → same a b ≡ true → a ≡ b
unfolding same
same_equal [] [] e = refl
same_equal [] (y ∷ b) e = absurd (false≢true e)
same_equal (x ∷ a) [] e = absurd (false≢true e)
same_equal (x ∷ a) (y ∷ b) e =
    let (p, q) = and-true (eqb x y) (same a b) e in
    rw (eqb-true x y p, same_equal a b q)

-- what holds of a name holds of the word that it is
of_name : (word name : List ℕ) (P : List ℕ → Type 0) → P name → same word name ≡ true → P word
of_name word name P p e = subst P (sym (same_equal word name e)) p

middle_then : (line : List ℕ) (start at : ℕ)
    → middle_named line start at ≡ or_then (pick (slice start at line) (middle_rows line at) None) (last_named line start at)
unfolding middle_named last_named middle_rows last_rows pick bytes same
middle_then line start at =
    let word = slice start at line in
    let P : List ℕ → Type 0 = λ w. pick w (last_rows line at) None ≡ None in
    pick_then word (pick word (last_rows line at) None) (middle_rows line at)
    (of_name word (bytes "write") P refl, (of_name word (bytes "read") P refl, (of_name word (bytes "delblock") P refl, (of_name word (bytes "dellist") P refl, (of_name word (bytes "flush") P refl, (of_name word (bytes "next") P refl, (of_name word (bytes "conflicts") P refl, tt)))))))

first_then : (line : List ℕ) (start at : ℕ)
    → named line start at ≡ or_then (pick (slice start at line) (first_rows line at) None) (middle_named line start at)
unfolding named middle_named last_named first_rows middle_rows last_rows pick bytes same
first_then line start at =
    let word = slice start at line in
    let P : List ℕ → Type 0 = λ w. pick w (middle_rows line at) (pick w (last_rows line at) None) ≡ None in
    pick_then word (pick word (middle_rows line at) (pick word (last_rows line at) None)) (first_rows line at)
    (of_name word (bytes "card") P refl, (of_name word (bytes "format") P refl, (of_name word (bytes "mount") P refl, (of_name word (bytes "begin") P refl, (of_name word (bytes "end") P refl, (of_name word (bytes "newlist") P refl, (of_name word (bytes "newblock") P refl, tt)))))))

-- each group is asked where those before answer nothing
pub named_in_turn : (line : List ℕ) (start at : ℕ)
    → named line start at ≡ or_then (or_then (pick (slice start at line) (first_rows line at) None) (pick (slice start at line) (middle_rows line at) None)) (last_named line start at)
named_in_turn line start at =
    rw (first_then line start at, middle_then line start at)
    (regrouped (pick (slice start at line) (first_rows line at) None) (pick (slice start at line) (middle_rows line at) None) (last_named line start at))
  where
    regrouped : (a b c : Option Command) → or_then a (or_then b c) ≡ or_then (or_then a b) c
    regrouped None b c = refl
    regrouped (Some x) b c = refl

pub in_turn : (a b r : Option Command) → MatchOption a (r ≡ b) (λ x. r ≡ Some x) → r ≡ or_then a b
in_turn None b r h = h
in_turn (Some x) b r h = h
