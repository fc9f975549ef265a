-- The groups of rows, each asked where the one before answers nothing. Assumes nothing.
use mathlib.Core.Path.{◌≡◌, sym, ◌∙◌}
use borrow.Author.Tests.{le-ltb}
use lib.Seq.{slice}
use Rattle.std.proofs.Common.{rules}
use Rattle.std.specs.Prelude.{None}
use Rattle.script.specs.Commands.{command_of, pick, middle_rows, last_named}
use Rattle.script.proofs.Rows.{or_then, in_turn, named_in_turn}
use Rattle.script.proofs.parse.command.Goals as goal

pub returns : goal.returns
unfolding command_of
returns c =
    let line = c.args.line.now in
    let start = c.word-w.result.start in
    let at = c.word-w.result.end in
    let one : c.or_else.result ≡ or_then c.first_rows.result (pick (slice start at line) (middle_rows line at) None) = in_turn c.first_rows.result (pick (slice start at line) (middle_rows line at) None) c.or_else.result (search rules) in
    let two : c.or_else-2.result ≡ or_then c.or_else.result (last_named line start at) = in_turn c.or_else.result (last_named line start at) c.or_else-2.result (search rules) in
    rw (le-ltb _ _ c.if-line-gt-LONGEST_LINE.false, sym c.is_quiet.ensures ∙ c.if-is_quiet.false, ← c.word-w.ensures, named_in_turn line start at, two, one, c.first_rows.ensures)
