-- The loop's invariant: the words that are left, put into the buffer as it is, leave what all of them leave. Assumes nothing.
use mathlib.Core.Path.{◌≡◌}
use mathlib.Core.List.{map}
use Prim.Native.Nat.{◌+◌, ◌-◌}
use lib.Seq.{sets}
use Rattle.card_log.specs.Store.{entry_stores}
use Rattle.card_log.proofs.LogStores.{going}
use Rattle.calls.proofs.Storing.{several}
use Rattle.driver.specs.Stores.{word}
use Rattle.driver.proofs.queue.put_words.Given as goal

abbrev pub invariant-loop-k : goal.invariant-loop-k
invariant-loop-k l =
    let ss = entry_stores l.place (going l.content l.member l.e) in
    sets l.stores (l.at + (l.k - l.done)) (map word (several l.k (l.upto - l.k) ss)) ≡ sets l.initial.stores l.at (map word (several l.done (l.upto - l.done) ss))
