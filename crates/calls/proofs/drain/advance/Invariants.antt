-- The loop's invariant: the stores that are left, done on the card as it is, leave what all of them leave, and are each in turn. Assumes nothing.
use mathlib.Core.Path.{◌≡◌}
use Prim.Native.Nat.{◌-◌}
use Rattle.card_log.specs.Store.{do_stores, entry_stores}
use Rattle.card_log.specs.Turns.{AllInTurn}
use Rattle.card_log.proofs.LogStores.{going}
use Rattle.calls.proofs.Storing.{several}
use Rattle.calls.proofs.drain.advance.Given as goal

abbrev pub invariant-loop-k : goal.invariant-loop-k
invariant-loop-k l =
    (let ss = entry_stores l.place (going l.content l.member l.e) in do_stores (several l.k (l.upto - l.k) ss) l.card ≡ do_stores (several l.done (l.upto - l.done) ss) l.initial.card)
    × AllInTurn l.card l.place (going l.content l.member l.e) l.k l.upto
