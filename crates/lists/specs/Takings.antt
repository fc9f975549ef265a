-- When the lists of a state were taken: changes in their order, and those of their takings that are still in force.
use Rattle.std.specs.Prelude.{Bool, false, not, List, [], ◌∷◌, ◌++◌, ℕ, eqb}
use Rattle.lists.specs.Basic.{any, keep}
use Rattle.lists.specs.Change.{Change, take_list, put_first, put_after, write, del_block, del_list}

-- the list that a change takes
abbrev pub taking : {D : Type 0} → Change D → List ℕ
taking (take_list l) = l ∷ []
taking (put_first b l) = []
taking (put_after b l p) = []
taking (write b d) = []
taking (del_block b) = []
taking (del_list l) = []

-- does it delete list l?
abbrev pub deletes : {D : Type 0} → Change D → ℕ → Bool
deletes (take_list n) l = false
deletes (put_first b n) l = false
deletes (put_after b n p) l = false
deletes (write b d) l = false
deletes (del_block b) l = false
deletes (del_list n) l = eqb l n

-- those of some lists that no change deletes
unfoldable pub undeleted : {D : Type 0} → List (Change D) → List ℕ → List ℕ
undeleted cs ls = keep (λ l. not (any (λ c. deletes c l) cs)) ls

-- "by when the taking each has [..] stands in the serial history, earliest first": change by change the list that it takes, if none behind it deletes
-- that list. So a list deleted and taken again counts from its new taking.
unfoldable pub in_force : {D : Type 0} → List (Change D) → List ℕ
in_force [] = []
in_force (c ∷ cs) = undeleted cs (taking c) ++ in_force cs
