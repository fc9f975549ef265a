-- The commands of known lines.
use mathlib.Core.Path.{◌≡◌, refl}
use Rattle.std.specs.Prelude.{None, Some}
use Rattle.text.specs.Decimal.{digits_only, value, number_after, number_of}
use Rattle.text.specs.Hex.{is_hex, hex_only, is_nibble, between}
use Rattle.text.specs.Line.{run, word_from, same}
use Rattle.script.specs.declared.command.Command.TheVariants as C
use Rattle.script.specs.declared.command.Edit.TheVariants as E
use Rattle.script.specs.declared.command.Tool.TheVariants as S
use Rattle.script.specs.declared.command.Cut.TheVariants as X
use Rattle.script.specs.Arguments.{ended_at, one_from, two_from, three_from, part_from, raced_from}
use Rattle.script.specs.Commands.{on_stream, write_from, pick, cut_rows, cut_named, cut_from, first_rows, middle_rows, last_rows, named, middle_named, last_named, is_quiet, command_of}
use Rattle.script.specs.Spelling.{bytes}

quiet : (command_of (bytes "  ") ≡ Some C.Nothing) × (command_of (bytes "# format") ≡ Some C.Nothing) × (command_of (bytes " # format") ≡ None)
unfolding command_of is_quiet ended_at word_from run bytes named first_rows middle_named middle_rows last_named last_rows pick same
quiet = (refl, refl, refl)

-- words apart by any number of blanks, and no word more
calls : (command_of (bytes "newblock 0  1 64 ") ≡ Some (on_stream 0 (E.NewBlock 1 64))) × (command_of (bytes "newblock 0 1 64 5") ≡ None) × (command_of (bytes "newblock 0 1") ≡ None)
unfolding command_of is_quiet ended_at word_from run bytes named first_rows pick same three_from two_from one_from number_of number_after digits_only value
calls = (refl, refl, refl)

bounds : (command_of (bytes "card 266240 255") ≡ Some (C.Tool (S.Card 266240 255))) × (command_of (bytes "card 266241 0") ≡ None) × (command_of (bytes "card 0 256") ≡ None)
unfolding command_of is_quiet ended_at word_from run bytes named first_rows pick same two_from one_from number_of number_after digits_only value
bounds = (refl, refl, refl)

-- the digits stand at 10 to 14 of the line; without N 256 bytes are lent, without RACE it is 0
data-lent : (command_of (bytes "write 1 2 0aFf") ≡ Some (on_stream 1 (E.Write 2 256 0 (record { start = 10; end = 14 })))) × (command_of (bytes "write 1 2 0aFf 300") ≡ Some (on_stream 1 (E.Write 2 300 0 (record { start = 10; end = 14 })))) × (command_of (bytes "write 1 2 0aFf 300 25") ≡ Some (on_stream 1 (E.Write 2 300 25 (record { start = 10; end = 14 })))) × (command_of (bytes "write 1 2 0aFf 300 25 1") ≡ None) × (command_of (bytes "write 1 2 0aFf 301") ≡ None) × (command_of (bytes "write 1 2 0aF") ≡ None)
unfolding command_of is_quiet ended_at word_from run bytes named first_rows middle_named middle_rows pick same write_from raced_from part_from one_from number_of number_after digits_only value is_hex hex_only is_nibble between
data-lent = (refl, refl, refl, refl, refl, refl)

cuts : (command_of (bytes "cut") ≡ Some (C.Tool (S.Cut X.Between))) × (command_of (bytes "cut flush 300 267") ≡ Some (C.Tool (S.Cut (X.Flush 300 267)))) × (command_of (bytes "cut format 1") ≡ Some (C.Tool (S.Cut (X.Format 1)))) × (command_of (bytes "cut now") ≡ None)
unfolding command_of is_quiet ended_at word_from run bytes named first_rows middle_named middle_rows last_named last_rows pick same cut_from cut_named cut_rows two_from one_from number_of number_after digits_only value
cuts = (refl, refl, refl, refl)
