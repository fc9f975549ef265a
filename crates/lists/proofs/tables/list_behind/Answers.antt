-- Each turn goes one node on, and what is looked for from there on is what was looked for. Assumes nothing.
use mathlib.Core.Path.{◌≡◌, refl, sym, ap, ◌∙◌}
use mathlib.Core.List.{List}
use Prim.Native.Nat.{ℕ, suc, ◌+◌, ◌-◌, ◌<◌, ◌≤◌}
use native.Mathlib.Omega.{arith}
use Rattle.lists.specs.promises.Tables.{tables_in, list_within}
use Rattle.lists.proofs.Lookup.{within_none, within_end, within-list, within_block}
use Rattle.lists.proofs.tables.list_behind.Invariants.{Looking}
use Rattle.lists.proofs.tables.list_behind.Goals as goal

-- one node on
turn : (next : List ℕ) (x n i : ℕ) → Looking next x n i → i < 256 → list_within (suc (256 - (i + 1))) next n ≡ list_within 256 next x
turn next x n i s h = ap (λ (k : ℕ). list_within k next n) (omega arith) ∙ s.rest

ended : (next : List ℕ) (x n i : ℕ) → Looking next x n i → 256 ≤ i → 0 ≡ list_within 256 next x
ended next x n i s h = let e : 0 ≡ 256 - i = omega arith in sym (within_none next n) ∙ ap (λ (k : ℕ). list_within k next n) e ∙ s.rest

pub loop-i-init : goal.loop-i-init
loop-i-init c = record { few = omega arith; rest = refl }

pub returns-then-n : goal.returns-then-n
returns-then-n c =
    let s = c.loop-i in
    let a = c.args in
    let t = (tables_in a.nodes.now).next in
    sym (within_end t _ s.n (rw c.next_of-n.ensures at c.if-n.true)) ∙ turn t a.x s.n s.i s.invariant c.loop-i-test.true

pub returns-then-n-gt-BLOCKS : goal.returns-then-n-gt-BLOCKS
returns-then-n-gt-BLOCKS c =
    let s = c.loop-i in
    let a = c.args in
    let t = (tables_in a.nodes.now).next in
    let e = c.next_of-n.ensures in
    ap (λ (m : ℕ). m - 64) e ∙ sym (within-list t _ s.n (rw e at c.if-n.false) (rw e at c.if-n-gt-BLOCKS.true))
    ∙ turn t a.x s.n s.i s.invariant c.loop-i-test.true

pub overflow_add-i : goal.overflow_add-i
overflow_add-i c = omega arith

pub loop-i-smaller : goal.loop-i-smaller
loop-i-smaller c = omega arith

pub loop-i-preserved : goal.loop-i-preserved
loop-i-preserved c =
    let s = c.loop-i in
    let a = c.args in
    let t = (tables_in a.nodes.now).next in
    let e = c.next_of-n.ensures in
    let k = 256 - (s.i + 1) in
    record {
      few = omega arith;
      rest = ap (list_within k t) e ∙ sym (within_block t k s.n (rw e at c.if-n-gt-BLOCKS.false)) ∙ turn t a.x s.n s.i s.invariant c.loop-i-test.true;
    }

pub returns : goal.returns
returns c =
    let s = c.loop-i in
    let a = c.args in
    ended (tables_in a.nodes.now).next a.x s.n s.i s.invariant c.loop-i-test.false
