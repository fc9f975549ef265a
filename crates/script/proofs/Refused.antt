-- A refusal's number is not 0.
use mathlib.Core.Path.{◌≡◌, refl}
use mathlib.Core.Bool.{false}
use lib.Dec.{eqb}
use Rattle.answers.specs.declared.Refusal.{Refusal}
use Rattle.answers.specs.declared.Refusal.TheVariants.{WrongLength, LogFault, RecordUnsound, StreamClosed, OutOfRange, UnitOpen, ListNotTaken, BlockNotPlaced, PredecessorElsewhere, NoNumberFree, JournalFull, Conflict, QueueFull, BufferTooShort, Unwritten}
use Rattle.answers.specs.Answers.{number}

pub refused_code : (x : Refusal) → eqb (number x) 0 ≡ false
unfolding number
refused_code WrongLength = refl
refused_code LogFault = refl
refused_code RecordUnsound = refl
refused_code StreamClosed = refl
refused_code OutOfRange = refl
refused_code UnitOpen = refl
refused_code ListNotTaken = refl
refused_code BlockNotPlaced = refl
refused_code PredecessorElsewhere = refl
refused_code NoNumberFree = refl
refused_code JournalFull = refl
refused_code Conflict = refl
refused_code QueueFull = refl
refused_code BufferTooShort = refl
refused_code Unwritten = refl
