-- How much was read.
use Rattle.std.specs.Prelude.{ℕ, ◌≤◌, Result, IfOk}

-- no more bytes than there is room for
abbrev pub InBuffer : {E : Type 0} → Result ℕ E → ℕ → Type 0
InBuffer read n = IfOk read (λ k. k ≤ n)
