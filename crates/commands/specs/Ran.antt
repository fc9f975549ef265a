-- What each command of a script leaves and prints: the rows of the language's table.
use Rattle.std.specs.Prelude.{◌≡◌, true, false, List, [], ◌∷◌, ◌++◌, ℕ, Option, None, Some, ◌%◌, ◌≤◌, min, ltb, length, drop, replicate, set}
use Rattle.disk.specs.Disk.{Disk, disk}
use Rattle.crash.specs.Event.{leaves}
use Rattle.text.specs.Adler.{adler}
use Rattle.text.specs.Written.{Puts}
use Rattle.listing.specs.Listing.{listing}
use Rattle.script.specs.declared.command.Command.{Command}
use Rattle.script.specs.declared.command.Command.TheVariants as C
use Rattle.script.specs.declared.command.Tool.{Tool}
use Rattle.script.specs.declared.command.Tool.TheVariants as T
use Rattle.script.specs.declared.command.Cut.{Cut}
use Rattle.script.specs.declared.command.Cut.TheVariants as X
use Rattle.script.specs.declared.command.Lend.{Lend}
use Rattle.script.specs.declared.command.Lend.TheVariants as L
use Rattle.script.specs.declared.command.Print.{Print}
use Rattle.script.specs.declared.command.Print.TheVariants as P
use Rattle.script.specs.Spelling.{bytes}
use Rattle.script.specs.Lines.{number_line}
use Rattle.commands.specs.declared.state.State.{State}
use Rattle.commands.specs.declared.state.Ran.{Ran}
use Rattle.commands.specs.Shell.{Shell, Printed, printed, shell_of, with_disk, lent_disk}
use Rattle.commands.specs.Called.{call_of, called}
use Rattle.commands.specs.Cut.{lost, cut_between, cut_flush, cut_format}
use Rattle.commands.specs.Shown.{shown}

abbrev pub longest_card : ℕ
longest_card = 266240

-- `ok`, `?`
abbrev pub ok : Shell → Printed
ok s = printed s (bytes "ok" ++ 10 ∷ [])

abbrev pub unknown : Shell → Printed
unknown s = printed s (bytes "?" ++ 10 ∷ [])

-- so many bytes of card, queue data and journal data are lent
abbrev pub lent_of : Shell → ℕ → ℕ → ℕ → Shell
lent_of s c q j = record { disk = s.disk; lent_card = c; lent_queue = q; lent_journal = j }

abbrev pub all_lent : Disk → Shell
all_lent d = record { disk = d; lent_card = length d.card; lent_queue = 8192; lent_journal = 15360 }

-- "another card is put in: LEN bytes (0 to 266,240) of value BYTE; the record as after `cut`"
unfoldable pub inserted : ℕ → ℕ → Shell → Shell
inserted n b s = all_lent (leaves (replicate (min n longest_card) (b % 256)) (lost s.disk))

-- "someone else writes a byte of the card (AT outside it: `?`)"
unfoldable pub poked : ℕ → ℕ → Shell → Printed
poked a b s =
    let d = s.disk in
    elim (ltb a (length d.card)) [
      | true ↦ ok (with_disk s (disk (set d.card a (b % 256)) d.queue_data d.journal_data d.rec))
      | false ↦ unknown s
    ]

-- "from now on only the first N bytes are lent (N above what there is: all of it)"
unfoldable pub lending : Lend → Shell → Shell
lending (L.Card n) s = lent_of s (min n (length s.disk.card)) s.lent_queue s.lent_journal
lending (L.Queue n) s = lent_of s s.lent_card (min n 8192) s.lent_journal
lending (L.Journal n) s = lent_of s s.lent_card s.lent_queue (min n 15360)
lending L.All s = all_lent s.disk

unfoldable pub cutting : Cut → Shell → Printed
cutting X.Between s = cut_between s
cutting (X.Flush n k) s = cut_flush n k s
cutting (X.Format k) s = cut_format k s

unfoldable pub printing : Print → Shell → List ℕ
printing P.Sum s = number_line (adler s.disk.card)
printing P.Listing s = listing s.disk.card
printing (P.Show v) s = shown v (lent_disk s)

-- the shell's own commands
unfoldable pub worked : Tool → Shell → Printed
worked (T.Card n b) s = ok (inserted n b s)
worked (T.Poke a b) s = poked a b s
worked (T.Cut x) s = cutting x s
worked (T.Lend l) s = ok (lending l s)
worked (T.Print p) s = printed s (printing p s)

unfoldable pub ran : List ℕ → Option Command → Shell → Printed
ran line (Some C.Nothing) s = printed s []
ran line None s = unknown s
ran line (Some (C.Call q)) s = called (call_of line q) s
ran line (Some (C.Tool t)) s = worked t s

-- the card's buffer holds the longest card, and the card itself
pub record Fits (c : List ℕ) (s : State) : Type 0 where
  pub longest : longest_card ≤ length c
  pub whole : s.size ≤ length c

-- a command run on the buffers and the state in code; behind the card its buffer is as it was
pub record Runs (p : Printed) (c out : List ℕ) (at : ℕ) (c' q' j' out' : List ℕ) (r : Ran) : Type 0 where
  pub shell : shell_of c' q' j' r.state ≡ p.shell
  pub text : Puts out at p.text out' r.at
  pub behind : drop r.state.size c' ≡ drop r.state.size c
  pub fits : Fits c' r.state
