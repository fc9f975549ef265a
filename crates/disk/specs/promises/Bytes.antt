-- The record's bytes with a cell, or a number, stored in them.
use Rattle.std.specs.Prelude.{List, ℕ, ◌+◌, ◌/◌, ◌%◌, set}
use Rattle.card_log.specs.Cell.{Cell}

-- the four bytes of a cell, from byte i on
abbrev pub cell_set : List ℕ → ℕ → Cell → List ℕ
cell_set bs i c = set (set (set (set bs i c.map) (i + 1) c.first) (i + 2) c.second) (i + 3) c.third

-- a number in two bytes, the low one first, from byte i on
abbrev pub pair_set : List ℕ → ℕ → ℕ → List ℕ
pair_set bs i n = set (set bs i (n % 256)) (i + 1) (n / 256 % 256)
