-- The number is the first free one, and 0 is none; the change is added, then the list held and taken out of the order. Assumes nothing.
use mathlib.Core.Path.{refl, ap, ◌∙◌}
use Prim.Native.Nat.{ℕ}
use Rattle.std.specs.Prelude.{None, Some}
use native.Mathlib.Omega.{arith}
use Rattle.disk.specs.Record.{Record, record_in, listed_in}
use Rattle.disk.specs.promises.Listing.{unlisted}
use Rattle.inspect.proofs.Asking.{exit_is, exit_asked}
use Rattle.calls.specs.promises.Giving.{held_by}
use Rattle.calls.proofs.Giving.{none0-is, some_range, some_nonzero, none_free, takes_none, takes-full, takes, padded-given}
use Rattle.calls.proofs.give.take_list.Goals as goal

pub returns-in_err-l : goal.returns-in_err-l
returns-in_err-l c =
    let r = record_in c.args.rec.now in
    let e = c.in_err-l.ensures in
    rw (exit_asked _ _ _ c.from_residual.ensures.1 (none_free _ _ e.ok_part e.value))
    (takes_none c.args.s r 0 (none0-is 64 16 (listed_in r) None (rw e.ok_part at c.first_free-free.ensures)) refl)

pub returns-in_err-add : goal.returns-in_err-add
returns-in_err-add c =
    let r = record_in c.args.rec.now in
    let f = rw c.in_ok-l.ensures.ok_part at c.first_free-free.ensures in
    rw (exit_is _ _ c.from_residual-in_err-add.ensures.1)
    (takes-full c.args.s r _ (none0-is 64 16 (listed_in r) (Some c.in_ok-l.l) f) (some_nonzero 64 16 (listed_in r) _ f) _ (record_in c.add.new.rec) c.in_err-add.ensures)

pub list_number-n-requires : goal.list_number-n-requires
list_number-n-requires c =
    (some_range 64 16 (listed_in (record_in c.args.rec.now)) _ (rw c.in_ok-l.ensures.ok_part at c.first_free-free.ensures)).1

pub held-requires : goal.held-requires
held-requires c =
    let n = c.list_number-n.ensures in
    let l = some_range 64 16 (listed_in (record_in c.args.rec.now)) _ (rw c.in_ok-l.ensures.ok_part at c.first_free-free.ensures) in
    (c.requires.1, omega (arith, n), omega (arith, n, l.1))

pub withdraw-requires : goal.withdraw-requires
withdraw-requires c = padded-given c.args.s _ _ (record_in c.args.rec.now) (record_in c.add.new.rec) _ c.in_ok-add.ensures c.held.ensures c.requires.0

pub returns : goal.returns
returns c =
    let s = c.args.s in
    let r = record_in c.args.rec.now in
    let f = rw c.in_ok-l.ensures.ok_part at c.first_free-free.ensures in
    rw c.from.ensures
    (takes s r _ (none0-is 64 16 (listed_in r) (Some c.in_ok-l.l) f) (some_nonzero 64 16 (listed_in r) _ f) (record_in c.add.new.rec) _ c.in_ok-add.ensures
    (c.withdraw.ensures ∙ ap (λ (r : Record). unlisted c.list_number-n.result r) c.held.ensures ∙ ap (λ (n : ℕ). unlisted n (held_by s n (record_in c.add.new.rec))) c.list_number-n.ensures))
