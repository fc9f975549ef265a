-- A race told as a number.
use mathlib.Core.Path.{◌≡◌}
use Prim.Native.Nat.{ℕ}
use Rattle.std.specs.Prelude.{Result, Ok, Err, MatchResult}
use Rattle.std.specs.Result.{IsOkAnd}
use Rattle.answers.specs.declared.Refusal.{Refusal}
use Rattle.answers.specs.Answers.{number_answer, read_answer}

pub IsOkAnd-weaker : {T E : Type 0} (r : Result T E) {P Q : T → Type 0} → ((x : T) → P x → Q x) → IsOkAnd r P → IsOkAnd r Q
IsOkAnd-weaker (Ok x) f h = f x h
IsOkAnd-weaker (Err e) f h = absurd h

pub read-number : (r s : Result ℕ Refusal) → MatchResult r (λ n. IsOkAnd s (λ m. m ≡ n)) (λ x. s ≡ Err x) → read_answer r ≡ number_answer s
unfolding read_answer number_answer
read-number (Ok n) (Ok m) h = rw h
read-number (Ok n) (Err x) h = absurd h
read-number (Err x) s h = rw h
