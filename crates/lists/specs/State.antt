-- What a state is, and how a change acts on it. D is what stands for the content that a write carries.
use Rattle.std.specs.Prelude.{Bool, true, false, ◌&&◌, not, cond, List, [], ◌∷◌, ◌++◌, map, ℕ, eqb}
use Rattle.std.proofs.Math.Option
use Rattle.std.proofs.Math.Option.{Option, none, some}
use Rattle.lists.specs.Basic.{guard, bind, or_else, any, keep}
use Rattle.lists.specs.Change.{Change, take_list, put_first, put_after, write, del_block, del_list}
use Rattle.lists.specs.Numbers.{list_number, all_numbers, brought}

-- "A state is the lists taken, the blocks on each in order, and 256 bytes for each such block" that was "written since its present put".
pub record Block (D : Type 0) : Type 0 where
  pub num : ℕ
  pub content : Option D

-- a list taken, with its blocks in order
pub record Row (D : Type 0) : Type 0 where
  pub num : ℕ
  pub blocks : List (Block D)

-- The lists stand in the order of their taking, and the free numbers, of blocks and of lists, in the order of their freeing: "the number that has been
-- free longest" is the first of its kind.
pub record State (D : Type 0) : Type 0 where
  pub lists : List (Row D)
  pub free : List ℕ

abbrev pub block : {D : Type 0} → ℕ → Option D → Block D
block b d = record { num = b; content = d }

abbrev pub row : {D : Type 0} → ℕ → List (Block D) → Row D
row l bs = record { num = l; blocks = bs }

abbrev pub state : {D : Type 0} → List (Row D) → List ℕ → State D
state rs fs = record { lists = rs; free = fs }

-- no list is taken: "numbers never used come first, ascending"
abbrev pub empty : {D : Type 0} → State D
empty = state [] all_numbers

abbrev pub is_block_num : {D : Type 0} → ℕ → Block D → Bool
is_block_num b x = eqb x.num b

abbrev pub on_blocks_of : {D : Type 0} → ℕ → List (Block D) → Bool
on_blocks_of b xs = any (is_block_num b) xs

abbrev pub is_row : {D : Type 0} → ℕ → Row D → Bool
is_row l r = eqb r.num l

abbrev pub on_row : {D : Type 0} → ℕ → Row D → Bool
on_row b r = on_blocks_of b r.blocks

abbrev pub is_row_with : {D : Type 0} → ℕ → ℕ → Row D → Bool
is_row_with l b r = is_row l r && on_row b r

-- is list l taken? is block b on some list? is it on list l?
unfoldable pub taken : {D : Type 0} → ℕ → List (Row D) → Bool
taken l rs = any (is_row l) rs

unfoldable pub placed : {D : Type 0} → ℕ → List (Row D) → Bool
placed b rs = any (on_row b) rs

unfoldable pub on_list : {D : Type 0} → ℕ → ℕ → List (Row D) → Bool
on_list l b rs = any (is_row_with l b) rs

-- "A take needs the list not taken, a deletion its list taken or its block on some list. A put needs the list taken, the block on no list and
-- the predecessor on that list; [..] A write needs the block on some list."
unfoldable pub applies : {D : Type 0} → Change D → List (Row D) → Bool
applies (take_list l) rs = not (taken l rs)
applies (put_first b l) rs = taken l rs && not (placed b rs)
applies (put_after b l p) rs = taken l rs && not (placed b rs) && on_list l p rs
applies (write b d) rs = placed b rs
applies (del_block b) rs = placed b rs
applies (del_list l) rs = taken l rs

abbrev pub insert_after : {D : Type 0} → ℕ → Block D → List (Block D) → List (Block D)
insert_after p n [] = []
insert_after p n (x ∷ xs) = cond (is_block_num p x) (x ∷ n ∷ xs) (x ∷ insert_after p n xs)

abbrev pub on_blocks : {D E : Type 0} → (List (Block D) → List (Block E)) → Row D → Row E
on_blocks f r = row r.num (f r.blocks)

-- a row with its blocks changed, if it is list l's
abbrev pub at : {D : Type 0} → ℕ → (List (Block D) → List (Block D)) → Row D → Row D
at l f r = cond (is_row l r) (on_blocks f r) r

abbrev pub put : {D : Type 0} → ℕ → D → Block D → Block D
put b d x = cond (is_block_num b x) (block b (some d)) x

abbrev pub other_block : {D : Type 0} → ℕ → Block D → Bool
other_block b x = not (is_block_num b x)

abbrev pub other_row : {D : Type 0} → ℕ → Row D → Bool
other_row l r = not (is_row l r)

-- The lists after a change that applies. "Deleting a list frees its blocks too."
unfoldable pub changed : {D : Type 0} → Change D → List (Row D) → List (Row D)
changed (take_list l) rs = rs ++ row l [] ∷ []
changed (put_first b l) rs = map (at l (λ bs. block b none ∷ bs)) rs
changed (put_after b l p) rs = map (at l (insert_after p (block b none))) rs
changed (write b d) rs = map (on_blocks (map (put b d))) rs
changed (del_block b) rs = map (on_blocks (keep (other_block b))) rs
changed (del_list l) rs = keep (other_row l) rs

-- the numbers of list l's blocks, in order
unfoldable pub blocks_of : {D : Type 0} → List (Row D) → ℕ → List ℕ
blocks_of [] l = []
blocks_of (r ∷ rs) l = elim (eqb r.num l) [ true ↦ map (λ x. x.num) r.blocks | false ↦ blocks_of rs l ]

-- The numbers that a change frees. "Blocks freed by one list deletion count in list order", and then the list's own number.
unfoldable pub frees : {D : Type 0} → Change D → List (Row D) → List ℕ
frees (take_list l) rs = []
frees (put_first b l) rs = []
frees (put_after b l p) rs = []
frees (write b d) rs = []
frees (del_block b) rs = b ∷ []
frees (del_list l) rs = blocks_of rs l ++ list_number l ∷ []

-- The free numbers after a change that applies: a put or a take takes its number out, wherever it stands; a deletion adds at the end.
unfoldable pub free_after : {D : Type 0} → Change D → List (Row D) → List ℕ → List ℕ
free_after c rs fs = keep (λ n. not (brought c n)) fs ++ frees c rs

unfoldable pub apply : {D : Type 0} → Change D → State D → Option (State D)
apply c s = guard (applies c s.lists) (some (state (changed c s.lists) (free_after c s.lists s.free)))

-- changes in order, all of which must apply
unfoldable pub apply_all : {D : Type 0} → List (Change D) → State D → Option (State D)
apply_all [] s = some s
apply_all (c ∷ cs) s = bind (apply c s) (λ t. apply_all cs t)

-- "replayed in order; an entry that doesn't apply is skipped"
unfoldable pub overlay : {D : Type 0} → List (Change D) → State D → State D
overlay [] s = s
overlay (c ∷ cs) s = overlay cs (or_else s (apply c s))

-- a state with other contents
abbrev pub map_block : {D E : Type 0} → (D → E) → Block D → Block E
map_block h x = block x.num (Option.map h x.content)

abbrev pub map_row : {D E : Type 0} → (D → E) → Row D → Row E
map_row h r = row r.num (map (map_block h) r.blocks)

abbrev pub map_state : {D E : Type 0} → (D → E) → State D → State E
map_state h s = state (map (map_row h) s.lists) s.free
