-- The calls' answers as their numbers: "Each enum answer has a definition that gives this paper's number and values for each of its cases."
use Rattle.std.specs.Prelude.{ℕ, Result, Ok, Err}
use Rattle.card_log.specs.Flush.{Ending, drained, full, spent}
use Rattle.answers.specs.declared.Refusal.{Refusal}
use Rattle.answers.specs.declared.Refusal.TheVariants.{WrongLength, LogFault, RecordUnsound, StreamClosed, OutOfRange, UnitOpen, ListNotTaken, BlockNotPlaced, PredecessorElsewhere, NoNumberFree, JournalFull, Conflict, QueueFull, BufferTooShort, Unwritten}
use Rattle.answers.specs.declared.MountRefusal.{MountRefusal}
use Rattle.answers.specs.declared.MountRefusal.TheVariants.{Fault, Refused}
use Rattle.answers.specs.declared.Flushed.{Flushed}
use Rattle.answers.specs.declared.Ending as E

-- the returned numbers: the question's number or 0, and the results
pub record Answer : Type 0 where
  pub code : ℕ
  pub value : ℕ
  pub second : ℕ

-- our number of an ending: document 01 gives none
unfoldable pub ending_number : Ending → ℕ
ending_number drained = 0
ending_number full = 1
ending_number spent = 2

unfoldable pub number : Refusal → ℕ
number WrongLength = 1
number LogFault = 2
number RecordUnsound = 3
number StreamClosed = 4
number OutOfRange = 5
number UnitOpen = 6
number ListNotTaken = 7
number BlockNotPlaced = 8
number PredecessorElsewhere = 9
number NoNumberFree = 10
number JournalFull = 11
number Conflict = 12
number QueueFull = 13
number BufferTooShort = 14
number Unwritten = 15

-- "On no, the number is returned; other returned numbers are 0."
abbrev pub refused_answer : Refusal → Answer
refused_answer x = record { code = number x; value = 0; second = 0 }

-- "An accepted call answers 0 beside its results."
abbrev pub accepted_answer : ℕ → ℕ → Answer
accepted_answer n m = record { code = 0; value = n; second = m }

unfoldable pub reply_answer : Result (Unit {0}) Refusal → Answer
reply_answer (Ok done) = accepted_answer 0 0
reply_answer (Err x) = refused_answer x

unfoldable pub mount_answer : Result (Unit {0}) MountRefusal → Answer
mount_answer (Ok done) = accepted_answer 0 0
mount_answer (Err (Fault g i)) = record { code = 2; value = g; second = i }
mount_answer (Err (Refused x)) = refused_answer x

unfoldable pub number_answer : Result ℕ Refusal → Answer
number_answer (Ok n) = accepted_answer n 0
number_answer (Err x) = refused_answer x

-- "Read returns the race"
unfoldable pub read_answer : Result ℕ Refusal → Answer
read_answer (Ok n) = accepted_answer n 0
read_answer (Err x) = refused_answer x

-- the ending that a flush answers
unfoldable pub ending_of : E.Ending → Ending
ending_of E.TheVariants.Drained = drained
ending_of E.TheVariants.Full = full
ending_of E.TheVariants.Spent = spent

unfoldable pub flush_answer : Result Flushed Refusal → Answer
flush_answer (Ok f) = accepted_answer f.stores (ending_number (ending_of f.ending))
flush_answer (Err x) = refused_answer x
