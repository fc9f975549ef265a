-- Each turn puts the text of one item more behind what is there. Assumes nothing.
use Rattle.std.proofs.Common.{List, ℕ, take}
use Rattle.text.specs.Each.{each_of}
use Rattle.text.specs.Written.{Puts}
use Rattle.text.proofs.put.put_each.Given as goal

abbrev pub invariant-loop-x : goal.invariant-loop-x
invariant-loop-x g l =
    goal.F-IsAlwaysCallable g l.put × ((text : ℕ → List ℕ) → ((o o' : _) (p x r : ℕ) → goal.F-post g l.fn.put o p x r o' → Puts o.now p (text x) o'.now r) → Puts l.initial.out l.at (each_of text (take l.x-index l.items)) l.out l.position)
