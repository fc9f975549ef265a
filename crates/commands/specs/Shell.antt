-- What the shell keeps from command to command, and what a call is lent of it.
use Rattle.std.specs.Prelude.{List, ℕ, take}
use Rattle.disk.specs.Disk.{Disk, disk_in}
use Rattle.crash.specs.Event.{Part, Parts, lend, give_back}
use Rattle.commands.specs.declared.state.State.{State}

-- the card, both data buffers and the record; and how many bytes of each buffer are lent
pub record Shell : Type 0 where
  pub disk : Disk
  pub lent_card : ℕ
  pub lent_queue : ℕ
  pub lent_journal : ℕ

-- the buffers and the state in code: the card is the first bytes of a longer buffer
abbrev pub shell_of : List ℕ → List ℕ → List ℕ → State → Shell
shell_of c q j s = record { disk = disk_in (take s.size c) q j s.rec; lent_card = s.card; lent_queue = s.queue; lent_journal = s.journal }

abbrev pub with_disk : Shell → Disk → Shell
with_disk s d = record { disk = d; lent_card = s.lent_card; lent_queue = s.lent_queue; lent_journal = s.lent_journal }

abbrev pub first_bytes : ℕ → Part
first_bytes n = record { from = 0; size = n }

-- "from now on only the first N bytes are lent"
abbrev pub parts_lent : Shell → Parts
parts_lent s = record { card = first_bytes s.lent_card; queue_data = first_bytes s.lent_queue; journal_data = first_bytes s.lent_journal }

-- "With `lend`, the calls see only what is lent"
unfoldable pub lent_disk : Shell → Disk
lent_disk s = lend (parts_lent s) s.disk

-- what a call leaves of what it was lent goes back, as demand 3 has it
unfoldable pub after_call : Shell → Disk → Shell
after_call s d = with_disk s (give_back (parts_lent s) s.disk d)

-- what a command leaves and prints
pub record Printed : Type 0 where
  pub shell : Shell
  pub text : List ℕ

abbrev pub printed : Shell → List ℕ → Printed
printed s x = record { shell = s; text = x }
