-- What the number that `stat` gives for a file's mode says: permissions below 4,096, the kind of file above them.
use Rattle.std.specs.Prelude.{Bool, ℕ, ◌/◌, ◌%◌, eqb}

abbrev pub permissions_of : ℕ → ℕ
permissions_of mode = mode % 4096

-- kind 8 is a regular file
abbrev pub is_regular : ℕ → Bool
is_regular mode = eqb (mode / 4096 % 16) 8
