-- Questions 1 and 3 alone.
use Rattle.std.specs.Prelude.{◌≡◌, true, Result}
use Rattle.disk.specs.Disk.{Disk}
use Rattle.disk.specs.Sound.{lengths_right, record_sound}
use Rattle.answers.specs.declared.Refusal.{Refusal}
use Rattle.inspect.specs.promises.Inspect.{RefusedOr, checked}

-- a disk that questions 1 and 3 accept
pub record Checked (d : Disk) : Type 0 where
  pub lengths : lengths_right d ≡ true
  pub sound : record_sound d ≡ true

-- refused by the first no, or sound
abbrev pub Checks : Disk → Result (Unit {0}) Refusal → Type 0
Checks d r = RefusedOr (checked d) (λ done. Checked d) r
