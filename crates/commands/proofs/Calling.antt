-- What the calls promise, as the commands' contracts have it: the disk that is left and the line that is put.
use mathlib.Core.Path.{sym, ap}
use mathlib.Core.List.{List}
use Prim.Native.Nat.{ℕ}
use Rattle.disk.specs.Disk.{Disk}
use Rattle.disk.specs.Call.{Call}
use Rattle.disk.specs.Perform.{Result}
use Rattle.answers.specs.Answers.{Answer}
use Rattle.calls.specs.Performs.{Performs}
use Rattle.text.specs.Written.{Puts}
use Rattle.commands.specs.Replies.{line_of}
use Rattle.commands.specs.Called.{Calls}

-- a call, and its line put behind it
module _ {x : Call} {d d' : Disk} {a : Answer} {z : List ℕ} (p : Performs x d d' a z) where
  pub calls : {out out' : List ℕ} {at n : ℕ} → Puts out at (line_of x (record { disk = d'; answer = a; lent = z })) out' n → Calls x d d' out at out' n
  calls t = record { left = sym (ap (λ (y : Result). y.disk) p); text = rw p t }
