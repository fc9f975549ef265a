-- A blank record lists no number, and the free numbers shown, 80 at most, all find a place. Assumes nothing.
use mathlib.Core.Path.{◌≡◌, refl, sym, ◌∙◌, subst}
use mathlib.Core.List.{List, []}
use Prim.Native.Nat.{ℕ, ◌≤◌}
use native.Mathlib.Omega.{arith}
use lib.ListN.{length}
use Rattle.lists.proofs.FreeRow.{shown-fits}
use Rattle.disk.specs.Record.{blank_record, fresh_record, listed_in}
use Rattle.disk.specs.promises.Listing.{Padded, pushed_all}
use Rattle.disk.proofs.Listing.{pushed-all}
use Rattle.calls.proofs.renew.renew_from.Goals as goal

blank-padded : Padded blank_record
unfolding blank_record listed_in
blank-padded = record { many = omega arith; behind = refl }

fresh-listed : (fs : List ℕ) → length fs ≤ 80 → pushed_all fs blank_record ≡ fresh_record fs
unfolding blank_record listed_in fresh_record
fresh-listed fs h = pushed-all fs blank_record blank-padded refl h

pub list_free-requires : goal.list_free-requires
list_free-requires c = subst Padded (sym c.renew.ensures) blank-padded

pub returns : goal.returns
returns c = λ rs fs s. (rw c.renew.ensures at (c.list_free.ensures.0 rs fs s [] fs refl refl)) ∙ fresh-listed fs (shown-fits s)
