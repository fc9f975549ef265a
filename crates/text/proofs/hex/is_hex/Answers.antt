-- The tests of the definition, in order. Assumes nothing.
use mathlib.Core.Path.{◌≡◌, ◌∙◌}
use native.Mathlib.Omega.{arith}
use borrow.Author.Tests.{tests}
use Rattle.std.proofs.Common.{rules}
use Rattle.std.proofs.lemmas.Bool.Decides.{nat_tests}
use Rattle.std.proofs.lemmas.Iterator.{YieldsList-from_slice}
use Rattle.std.proofs.lemmas.Iterator.Search.{all_from_yields_List}
use Rattle.std.specs.Char.{is_ascii_hexdigit}
use Rattle.text.specs.Hex.{is_hex, hex_only}
use Rattle.text.proofs.Nibbles.{hex_only-is}
use Rattle.text.proofs.hex.is_hex.Goals as goal

pub returns-then-text-eq0 : goal.returns-then-text-eq0
unfolding is_hex
returns-then-text-eq0 c =
    let text = c.args.text.now in
    let e : c.all.result ≡ hex_only text = all_from_yields_List is_ascii_hexdigit _ _ c.all.result c.all.ensures.ran (YieldsList-from_slice text (cc)) (λ x b q k. search (rules, tests)) ∙ hex_only-is text in
    grind (arith, nat_tests)
