-- The invariant: the changes from number k on lead from the state that the tables show, and from the order as it is, to where all of them lead
-- (Relisted); the journal is what it was, since nothing but the order is another (Reorders). Assumes nothing.
use mathlib.Core.Path.{◌≡◌, ap, ◌∙◌}
use Prim.Native.Nat.{◌-◌}
use native.Mathlib.Omega.{arith}
use lib.ListN.{get_or}
use Rattle.lists.proofs.Basic.{all_from}
use Rattle.card_log.specs.Cell.{entry_in}
use Rattle.disk.specs.Record.{Unit, Held, record_in, unit_at, no_cell, no_unit}
use Rattle.disk.proofs.Listing.{reorders-same, reorders-then}
use Rattle.inspect.specs.promises.Clauses.{change_in}
use Rattle.inspect.proofs.Overlaying.{change-here}
use Rattle.inspect.proofs.Relisting.{relisted-none, relisted-turn, relisted-end}
use Rattle.inspect.proofs.journal.relist_journal.Goals as goal

pub loop-k-init : goal.loop-k-init
loop-k-init c = (reorders-same _ c.requires.0, relisted-none _ _ _ _)

pub relist_entry-requires : goal.relist_entry-requires
relist_entry-requires c =
    let l = c.loop-k in
    let x = unit_at (record_in c.args.rec.now) c.args.u in
    let q : unit_at (record_in l.rec) c.args.u ≡ x = ap (λ (h : Held). get_or h.units (c.args.u - 1) no_unit) l.invariant.0.held in
    (l.invariant.0.padded, rw (c.journal_entry-e.ensures, q) (all_from _ (change_in x) 0 x.len c.requires.4 l.k (omega arith) (omega arith)), omega arith, omega arith)

pub loop-k-preserved : goal.loop-k-preserved
loop-k-preserved c =
    let l = c.loop-k in
    let x = unit_at (record_in c.args.rec.now) c.args.u in
    let q : unit_at (record_in l.rec) c.args.u ≡ x = ap (λ (h : Held). get_or h.units (c.args.u - 1) no_unit) l.invariant.0.held in
    let e = c.journal_entry-e in (
      reorders-then _ _ _ l.invariant.0 c.relist_entry.ensures.keeps,
      relisted-turn _ x _ _ l.k _ _ l.invariant.1 _ _ _ (omega arith)
          (change-here x c.args.u l.k e.result _ (e.ensures ∙ ap (λ (y : Unit). entry_in (get_or y.journal l.k no_cell)) q) (omega arith)) c.relist_entry.ensures,
    )

pub returns : goal.returns
returns c = let l = c.loop-k in relisted-end _ _ _ _ l.k _ _ l.invariant.1 (omega arith) l.invariant.0
