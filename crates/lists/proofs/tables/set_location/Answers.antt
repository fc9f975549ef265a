-- The two bytes of the node. Assumes nothing.
use mathlib.Core.Path.{◌≡◌, ◌∙◌, ap}
use Prim.Native.Nat.{ℕ, ◌+◌, ◌*◌, ◌/◌, ◌%◌}
use native.Mathlib.Omega.{arith}
use Rattle.lists.specs.promises.Tables.{tables_in, with_location}
use Rattle.lists.proofs.Bytes.{location-set}
use Rattle.lists.proofs.tables.set_location.Goals as goal

pub returns : goal.returns
returns c =
    let a = c.args in
    let e : a.location % 256 + 256 * (a.location / 256) ≡ a.location = omega arith in
    location-set a.nodes.now a.x (a.location % 256) (a.location / 256) (omega (arith, c.ranges.x)) c.sized.ensures
    ∙ ap (λ (d : ℕ). with_location a.x d (tables_in a.nodes.now)) e
