-- What a write carries: a body, which is a slot number in the log's bytes and 256 bytes to a reader, and a race.
use Rattle.std.specs.Prelude.{ℕ}

-- "A write now carries a race from 0 to 24, where 0 means none."
pub record Raced (A : Type 0) : Type 0 where
  pub body : A
  pub race : ℕ

abbrev pub raced : {A : Type 0} → A → ℕ → Raced A
raced x n = record { body = x; race = n }

-- another body with the same race
abbrev pub with_body : {A B : Type 0} → B → Raced A → Raced B
with_body x s = raced x s.race
