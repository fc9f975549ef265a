-- What a call promises: its answer, the record and each lent byte are those of the definition `perform`.
use Rattle.std.specs.Prelude.{◌≡◌, List, [], ℕ}
use Rattle.disk.specs.Disk.{Disk, disk_in}
use Rattle.disk.specs.Call.{Call}
use Rattle.disk.specs.Perform.{perform}
use Rattle.answers.specs.Answers.{Answer}

-- call c on disk d leaves disk d' and the lent bytes x, and answers a
abbrev pub Performs : Call → Disk → Disk → Answer → List ℕ → Type 0
Performs c d d' a x = perform c d ≡ record { disk = d'; answer = a; lent = x }

-- the same where only the record changes, from bytes r to r', and no destination is lent
abbrev pub ChangesRecord : Call → List ℕ → List ℕ → List ℕ → List ℕ → List ℕ → Answer → Type 0
ChangesRecord c card q j r r' a = Performs c (disk_in card q j r) (disk_in card q j r') a []

-- the same where the disk is as it was, and the destination holds x
abbrev pub ChangesNothing : Call → List ℕ → List ℕ → List ℕ → List ℕ → Answer → List ℕ → Type 0
ChangesNothing c card q j r a x = Performs c (disk_in card q j r) (disk_in card q j r) a x
