-- A state in four tables of 256 numbers, held in one array of bytes: what a change does to them, and which state they show.
--
-- Nodes: number n is node n, so block b is node b and list l is node 64 + l; node 0 stands before all others and node 255 behind all.
-- One chain holds everything: each list taken, in the order of their taking, followed by its blocks in order; then node 254; then the free numbers, in
-- the order of their freeing. So a list's node is the predecessor of its first block, no end is a special case, and each change moves nodes.
use Rattle.std.specs.Prelude.{◌≡◌, ◌≢◌, Bool, true, false, ◌&&◌, ◌||◌, not, cond, List, [], ◌∷◌, ◌++◌, ℕ, zero, suc, ◌+◌, ◌-◌, ◌*◌, ◌%◌, ◌≤◌, eqb, leb, ltb, length, get_or, set, replicate}
use Rattle.std.proofs.Math.Option.{Option, none, some}
use Rattle.lists.specs.Basic.{from}
unfoldable pub use Rattle.lists.specs.Basic.{times}
use Rattle.lists.specs.Change.{Change, take_list, put_first, put_after, write, del_block, del_list}
use Rattle.lists.specs.Numbers.{number_count, is_number}
use Rattle.lists.specs.State.{Block, Row, State, blocks_of}
use Rattle.lists.specs.Clearing.{first_off, steps_off, steps_free}

-- The next node and the one before; the list that a block is on, or that a list's node stands for, 0 for a node that is free; the location of a
-- block's content, 0 where it was not written.
pub record Tables : Type 0 where
  pub next : List ℕ
  pub prev : List ℕ
  pub owner : List ℕ
  pub location : List ℕ

abbrev pub tables : List ℕ → List ℕ → List ℕ → List ℕ → Tables
tables a b c d = record { next = a; prev = b; owner = c; location = d }

-- In 1,280 bytes, node by node: 4n is the next of node n, 4n + 1 its prev, 4n + 2 its owner, 4n + 3 its location's low byte, and 1024 + n the high one.
unfoldable pub column : ℕ → List ℕ → List ℕ
column f bs = from (λ n. get_or bs (4 * n + f) 0) 0 256

unfoldable pub locations_in : List ℕ → List ℕ
locations_in bs = from (λ n. get_or bs (4 * n + 3) 0 + 256 * get_or bs (1024 + n) 0) 0 256

unfoldable pub tables_in : List ℕ → Tables
tables_in bs = tables (column 0 bs) (column 1 bs) (column 2 bs) (locations_in bs)

abbrev pub next_of : Tables → ℕ → ℕ
next_of t n = get_or t.next n 0

abbrev pub prev_of : Tables → ℕ → ℕ
prev_of t n = get_or t.prev n 0

abbrev pub owner_of : Tables → ℕ → ℕ
owner_of t n = get_or t.owner n 0

abbrev pub location_of : Tables → ℕ → ℕ
location_of t n = get_or t.location n 0

-- 64 + l for each list; a node of the tables for every other number
abbrev pub list_node : ℕ → ℕ
list_node l = 64 + l % 64

-- What a change does.

-- one number in one of the tables
abbrev pub with_next : ℕ → ℕ → Tables → Tables
with_next n y t = tables (set t.next n y) t.prev t.owner t.location

abbrev pub with_prev : ℕ → ℕ → Tables → Tables
with_prev n x t = tables t.next (set t.prev n x) t.owner t.location

abbrev pub with_owner : ℕ → ℕ → Tables → Tables
with_owner n l t = tables t.next t.prev (set t.owner n l) t.location

abbrev pub with_location : ℕ → ℕ → Tables → Tables
with_location n d t = tables t.next t.prev t.owner (set t.location n d)

-- node y follows node x
abbrev pub link_nodes : ℕ → ℕ → Tables → Tables
link_nodes x y t = with_prev y x (with_next x y t)

-- node n leaves the chain
unfoldable pub cut_node : ℕ → Tables → Tables
cut_node n t = link_nodes (prev_of t n) (next_of t n) t

-- node n stands between nodes x and y, and is of list l; it goes in behind x, or before y
unfoldable pub place_node : ℕ → ℕ → ℕ → ℕ → Tables → Tables
place_node x n y l t = with_owner n l (link_nodes n y (link_nodes x n t))

unfoldable pub insert_node : ℕ → ℕ → ℕ → Tables → Tables
insert_node x n l t = place_node x n (next_of t x) l t

unfoldable pub insert_before : ℕ → ℕ → ℕ → Tables → Tables
insert_before y n l t = place_node (prev_of t y) n y l t

-- node n goes behind the last free one
unfoldable pub free_node : ℕ → Tables → Tables
free_node n t = insert_before 255 n 0 (cut_node n t)

-- The first block of the list whose node is n goes behind the last free node, which is z: "search for no predecessor", which is n.
unfoldable pub drop_first : ℕ → ℕ → Tables → Tables
drop_first n z t = let b = next_of t n in with_owner b 0 (link_nodes n (next_of t b) (link_nodes b 255 (link_nodes z b t)))

-- while a block of list l, whose node is n, follows n, it goes, and is the last free node then: at most k of them
unfoldable pub drop_up_to : ℕ → ℕ → ℕ → ℕ → Tables → Tables
drop_up_to zero n l z t = t
drop_up_to (suc k) n l z t = elim (eqb (owner_of t (next_of t n)) l) [ true ↦ drop_up_to k n l (next_of t n) (drop_first n z t) | false ↦ t ]

-- as many as there are nodes of list l, which is more than it has blocks
unfoldable pub drop_all : ℕ → ℕ → ℕ → Tables → Tables
drop_all n l z t = drop_up_to (times l t.owner) n l z t

-- the tables without the list whose node is n: its blocks go from the first on, then its node
unfoldable pub cut_list : ℕ → Tables → Tables
cut_list n t = free_node n (drop_all n (owner_of t n) (prev_of t 255) t)

-- is block b free, and x a node of list l?
unfoldable pub put_fits : ℕ → ℕ → ℕ → Tables → Bool
put_fits b l x t = eqb (owner_of t b) 0 && eqb (owner_of t x) l

unfoldable pub put_done : ℕ → ℕ → ℕ → Tables → Tables
put_done b l x t = with_location b 0 (insert_node x b l (cut_node b t))

-- does the change apply?
unfoldable pub suits : Change ℕ → Tables → Bool
suits (take_list l) t = eqb (owner_of t (list_node l)) 0
suits (put_first b l) t = put_fits b l (list_node l) t
suits (put_after b l p) t = put_fits b l p t
suits (write b d) t = not (eqb (owner_of t b) 0)
suits (del_block b) t = not (eqb (owner_of t b) 0)
suits (del_list l) t = not (eqb (owner_of t (list_node l)) 0)

-- the tables after it
unfoldable pub done : Change ℕ → Tables → Tables
done (take_list l) t = insert_before 254 (list_node l) l (cut_node (list_node l) t)
done (put_first b l) t = put_done b l (list_node l) t
done (put_after b l p) t = put_done b l p t
done (write b d) t = with_location b d t
done (del_block b) t = free_node b t
done (del_list l) t = cut_list (list_node l) t

-- What a function answers and leaves that is to make a change: whether it applies, and the tables after it, or as they were if it does not.
pub record Did (c : Change ℕ) (t : Tables) (r : Bool) (u : Tables) : Type 0 where
  pub answer : r ≡ suits c t
  pub left : u ≡ cond (suits c t) (done c t) t

-- the change of a kind, with its block, list, predecessor and location, of which it takes what it needs; the module `kind` names the six
unfoldable pub of_kind : ℕ → ℕ → ℕ → ℕ → ℕ → Option (Change ℕ)
of_kind k b l p d =
    cond (eqb k 1) (some (take_list l))
    (cond (eqb k 2) (some (put_first b l))
    (cond (eqb k 3) (some (put_after b l p))
    (cond (eqb k 4) (some (write b d))
    (cond (eqb k 5) (some (del_block b))
    (cond (eqb k 6) (some (del_list l)) none)))))

-- a change, or none, which is refused
abbrev pub DidSome : Option (Change ℕ) → Tables → Bool → Tables → Type 0
DidSome none t r u = (r ≡ false) × (u ≡ t)
DidSome (some c) t r u = Did c t r u

-- Which state tables show.

-- n is none of these; no two of these are the same
abbrev pub Away : ℕ → List ℕ → Type 0
Away n [] = Unit {0}
Away n (x ∷ xs) = (x ≢ n) × Away n xs

abbrev pub Apart : List ℕ → Type 0
Apart [] = Unit {0}
Apart (x ∷ xs) = Away x xs × Apart xs

-- from node a on these nodes follow, each leading back to the one before
abbrev pub Linked : List ℕ → List ℕ → ℕ → List ℕ → Type 0
Linked nx pv a [] = Unit {0}
Linked nx pv a (x ∷ xs) = (get_or nx a 0 ≡ x) × (get_or pv x 0 ≡ a) × Linked nx pv x xs

abbrev pub block_nodes : List (Block ℕ) → List ℕ
block_nodes [] = []
block_nodes (x ∷ xs) = x.num ∷ block_nodes xs

abbrev pub nodes : List (Row ℕ) → List ℕ
nodes [] = []
nodes (r ∷ rs) = (64 + r.num) ∷ (block_nodes r.blocks ++ nodes rs)

-- behind the lists: node 254, the free numbers, node 255
abbrev pub ends : List ℕ → List ℕ
ends fs = 254 ∷ (fs ++ 255 ∷ [])

abbrev pub chain : List (Row ℕ) → List ℕ → List ℕ
chain rs fs = nodes rs ++ ends fs

-- each number, and the nodes 254 and 255, stand in the chain once, and nothing else does
abbrev pub is_node : ℕ → Bool
is_node n = is_number n || (eqb n 254 || eqb n 255)

abbrev pub Whole : List ℕ → Type 0
Whole ns = (n : ℕ) → times n ns ≡ cond (is_node n) 1 0

abbrev pub IsBlock : ℕ → Type 0
IsBlock b = (1 ≤ b) × (b ≤ 64)

abbrev pub IsList : ℕ → Type 0
IsList l = (1 ≤ l) × (l ≤ 16)

-- the content that a table says: at a location, or none
abbrev pub located_at : ℕ → Option ℕ
located_at zero = none
located_at (suc n) = some (suc n)

-- a block of list l, and a list, as the owners o and the locations p have them
pub record HasBlock (o p : List ℕ) (l : ℕ) (x : Block ℕ) : Type 0 where
  pub range : IsBlock x.num
  pub owned : get_or o x.num 0 ≡ l
  pub stands : located_at (get_or p x.num 0) ≡ x.content

pub record HasList (o : List ℕ) (r : Row ℕ) : Type 0 where
  pub range : IsList r.num
  pub owned : get_or o (64 + r.num) 0 ≡ r.num

abbrev pub HasBlocks : List ℕ → List ℕ → ℕ → List (Block ℕ) → Type 0
HasBlocks o p l [] = Unit {0}
HasBlocks o p l (x ∷ xs) = HasBlock o p l x × HasBlocks o p l xs

abbrev pub HasLists : List ℕ → List ℕ → List (Row ℕ) → Type 0
HasLists o p [] = Unit {0}
HasLists o p (r ∷ rs) = HasList o r × HasBlocks o p r.num r.blocks × HasLists o p rs

pub record Sized (t : Tables) : Type 0 where
  pub next : length t.next ≡ 256
  pub prev : length t.prev ≡ 256
  pub owner : length t.owner ≡ 256
  pub location : length t.location ≡ 256

-- these lists, with the free numbers in this order
pub record ShowsWith (t : Tables) (rs : List (Row ℕ)) (fs : List ℕ) : Type 0 where
  pub sized : Sized t
  pub whole : Whole (chain rs fs)
  pub linked : Linked t.next t.prev 0 (chain rs fs)
  pub has : HasLists t.owner t.location rs
  pub free : (n : ℕ) → Away n (nodes rs) → owner_of t n ≡ 0

-- these lists, with the free numbers in some order
pub record Shows (t : Tables) (rs : List (Row ℕ)) : Type 0 where
  pub order : List ℕ
  pub shown : ShowsWith t rs order

abbrev pub ShowsAll : Tables → State ℕ → Type 0
ShowsAll t s = ShowsWith t s.lists s.free

-- what holds of all lists that tables show, and of all these with their free numbers
abbrev pub OfShown : Tables → (List (Row ℕ) → Type 0) → Type 0
OfShown t P = (rs : List (Row ℕ)) → Shows t rs → P rs

abbrev pub OfShownAll : Tables → (List (Row ℕ) → List ℕ → Type 0) → Type 0
OfShownAll t P = (rs : List (Row ℕ)) (fs : List ℕ) → ShowsWith t rs fs → P rs fs

-- A step of a list deletion.

-- b is the first block of the list whose node is n, and that list is taken
pub record IsFirst (n b : ℕ) (t : Tables) : Type 0 where
  pub follows : next_of t n ≡ b
  pub taken : 1 ≤ owner_of t n
  pub same : owner_of t b ≡ owner_of t n

-- A function that makes the step: its answer is the node that follows the list's then. If the tables showed a state and z was the last free node, they
-- show the state after the step, and the list's block is the last free node.
pub record Drops (n z : ℕ) (t : Tables) (r : ℕ) (u : Tables) : Type 0 where
  pub answer : r ≡ next_of u n
  pub left : u ≡ drop_first n z t
  pub shows : (l : ℕ) → IsList l → n ≡ list_node l → z ≡ prev_of t 255
      → OfShownAll t (λ rs fs. ShowsWith u (first_off l rs) (steps_free 1 l rs fs) × (next_of t n ≡ prev_of u 255))

-- A function that makes all steps of list l, whose node is n: as many as the list has blocks, and the tables show the state after them.
pub record Clears (n l : ℕ) (t u : Tables) : Type 0 where
  pub left : u ≡ drop_all n l (prev_of t 255) t
  pub steps : ℕ
  pub shows : IsList l → n ≡ list_node l → OfShownAll t (λ rs fs. (steps ≡ length (blocks_of rs l)) × ShowsWith u (steps_off steps l rs) (steps_free steps l rs fs))

-- numbers in range, and a write that says where: only of such changes the tables speak as the state does
abbrev pub Ranged : Change ℕ → Type 0
Ranged (take_list l) = IsList l
Ranged (put_first b l) = IsBlock b × IsList l
Ranged (put_after b l p) = IsBlock b × IsList l × IsBlock p
Ranged (write b d) = IsBlock b × (1 ≤ d)
Ranged (del_block b) = IsBlock b
Ranged (del_list l) = IsList l

-- what an answer and the tables left say of changes made in a state: refused, or the tables show the state after them
abbrev pub Represents : Option (State ℕ) → Bool → Tables → Type 0
Represents none r u = r ≡ false
Represents (some s) r u = (r ≡ true) × ShowsAll u s

-- the tables of the empty state: no list, and behind node 254 all numbers, ascending
unfoldable pub first_next : ℕ → ℕ
first_next n = cond (eqb n 0) 254 (cond (eqb n 254) 1 (cond (ltb n number_count) (suc n) (cond (eqb n number_count) 255 0)))

unfoldable pub first_prev : ℕ → ℕ
first_prev n = cond (eqb n 1) 254 (cond (leb n number_count) (n - 1) (cond (eqb n 255) number_count 0))

unfoldable pub cleared : Tables
cleared = tables (from first_next 0 256) (from first_prev 0 256) (replicate 256 0) (replicate 256 0)

-- Looking up.

-- n where it is a block
abbrev pub block_or0 : ℕ → ℕ
block_or0 n = cond (leb n 64) n 0

-- the list whose node is the first behind node n that is no block's, at most k nodes on; 0 if node 254 comes first, or none
unfoldable pub list_within : ℕ → List ℕ → ℕ → ℕ
list_within zero nx n = 0
list_within (suc k) nx n =
    let m = get_or nx n 0 in
    elim (eqb m 254) [ true ↦ 0 | false ↦ elim (ltb 64 m) [ true ↦ m - 64 | false ↦ list_within k nx m ] ]

-- the node behind which the block after p on list l stands, and the one behind which the list after l does; 0 is before the first
abbrev pub behind_node : ℕ → ℕ → ℕ
behind_node l p = cond (eqb p 0) (list_node l) p

abbrev pub behind_list : ℕ → ℕ
behind_list l = cond (eqb l 0) 0 (list_node l)

-- the node behind which the free number after n stands; 0 is before the first
abbrev pub behind_free : ℕ → ℕ
behind_free n = cond (eqb n 0) 254 n

-- n, or 0 where it is node e, at which the free numbers end
abbrev pub unless : ℕ → ℕ → ℕ
unless e n = cond (eqb n e) 0 n

-- the last of a ∷ xs
abbrev pub last : ℕ → List ℕ → ℕ
last a [] = a
last a (x ∷ xs) = last x xs

-- the first and the last of some numbers, 0 where there is none
abbrev pub first_or0 : List ℕ → ℕ
first_or0 [] = 0
first_or0 (x ∷ xs) = x

abbrev pub last_or0 : List ℕ → ℕ
last_or0 xs = last 0 xs

-- What the look-ups answer, whatever stands in the tables; what that says of the lists that tables show are laws (`Lookup` and `FreeRow` in proofs).
pub record SaysTaken (t : Tables) (l : ℕ) (r : Bool) : Type 0 where
  pub answer : r ≡ not (eqb (owner_of t (list_node l)) 0)

pub record SaysPlaced (t : Tables) (b : ℕ) (r : Bool) : Type 0 where
  pub answer : r ≡ not (eqb (owner_of t b) 0)

pub record SaysOn (t : Tables) (l b : ℕ) (r : Bool) : Type 0 where
  pub answer : r ≡ eqb (owner_of t b) l

pub record SaysLocation (t : Tables) (b r : ℕ) : Type 0 where
  pub answer : r ≡ location_of t b

pub record SaysBlockAfter (t : Tables) (l p r : ℕ) : Type 0 where
  pub answer : r ≡ block_or0 (next_of t (behind_node l p))

pub record SaysListAfter (t : Tables) (l r : ℕ) : Type 0 where
  pub answer : r ≡ list_within 256 t.next (behind_list l)

pub record SaysFreeAfter (t : Tables) (n r : ℕ) : Type 0 where
  pub answer : r ≡ unless 255 (next_of t (behind_free n))

pub record SaysLastFree (t : Tables) (r : ℕ) : Type 0 where
  pub answer : r ≡ unless 254 (prev_of t 255)
