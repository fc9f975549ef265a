-- After k turns the tables show the lists after k steps, and what is to go from there on is what is left. Assumes nothing.
use mathlib.Core.Path.{◌≡◌}
use Prim.Native.Nat.{ℕ, ◌≤◌}
use lib.ListN.{length}
use Rattle.lists.specs.Lookup.{blocks_of}
use Rattle.lists.specs.Clearing.{steps_off, steps_free}
use Rattle.lists.specs.promises.Tables.{Tables, tables_in, next_of, prev_of, owner_of, times, drop_all, list_node, IsList, OfShownAll, ShowsWith}
use Rattle.lists.proofs.tables.drop_all.Given as goal

-- k turns are made, and the tables that were t₀ are t
pub record Clearing (n list : ℕ) (t₀ t : Tables) (first last of : ℕ) : Type 0 where
  pub some : 1 ≤ list
  pub began : owner_of t₀ n ≡ list
  pub follows : first ≡ next_of t n
  pub owned : of ≡ owner_of t first
  pub taken : of ≡ list → owner_of t n ≡ list
  pub rest : drop_all n list last t ≡ drop_all n list (prev_of t₀ 255) t₀
  pub k : ℕ
  pub shows : IsList list → n ≡ list_node list
      → OfShownAll t₀ (λ rs fs. (k ≤ length (blocks_of rs list)) × ShowsWith t (steps_off k list rs) (steps_free k list rs fs) × (last ≡ prev_of t 255))

abbrev pub invariant-loop-of : goal.invariant-loop-of
invariant-loop-of l = Clearing l.n l.list (tables_in l.initial.nodes) (tables_in l.nodes) l.first l.last l.of

abbrev pub decreases-loop-of : goal.decreases-loop-of
decreases-loop-of l = times l.list (tables_in l.nodes).owner
