-- What goes over the border with C: "slices as pointer and length, numbers as size_t, the answer's number returned, results through out-parameters, which
-- are 0 on a refusal". The record crosses as the bytes that the disk itself is lent; which record they mean: disk/specs/Record.
use Rattle.std.specs.Prelude.{◌≡◌, ◌≢◌, List, ℕ, length}
use Rattle.disk.specs.Disk.{disk_in}
use Rattle.disk.specs.Call.{Call, destination}
use Rattle.answers.specs.Answers.{Answer}
use Rattle.disk.specs.Statements.{IsBytes}
use Rattle.calls.specs.Performs.{Performs}

-- the number returned, and what the out-parameters hold then; a call that has fewer than two of them has 0 in their place
abbrev pub told : ℕ → ℕ → ℕ → Answer
told r n m = record { code = r; value = n; second = m }

-- "A refusal other than 12 writes no byte of it": of the record, nor of the card, of the data or of a destination. It follows from a function's promise
-- alone, whatever the call.
abbrev pub RefusalWritesNothing : Type 0
RefusalWritesNothing =
    (c : Call) (card q j r card' q' j' r' x : List ℕ) (n v w : ℕ)
    → length r ≡ 573 → length r' ≡ 573 → IsBytes r → IsBytes r'
    → Performs c (disk_in card q j r) (disk_in card' q' j' r') (told n v w) x → n ≢ 0 → n ≢ 12
    → (card' ≡ card) × (q' ≡ q) × (j' ≡ j) × (r' ≡ r) × (x ≡ destination c)

-- "results through out-parameters, which are 0 on a refusal"; refusal 2 alone says where the log's fault is
abbrev pub RefusalTellsNothing : Type 0
RefusalTellsNothing =
    (c : Call) (card q j r card' q' j' r' x : List ℕ) (n v w : ℕ)
    → Performs c (disk_in card q j r) (disk_in card' q' j' r') (told n v w) x → n ≢ 0 → n ≢ 2 → (v ≡ 0) × (w ≡ 0)
