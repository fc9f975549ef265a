-- The loop's invariant: the words that are left, put into the buffer as it is, leave what all of them leave. Assumes nothing.
use mathlib.Core.Path.{◌≡◌, ◌∙◌}
use Prim.Native.Nat.{suc, ◌+◌, ◌-◌}
use native.Mathlib.Omega.{arith}
use Rattle.card_log.specs.Store.{entry_stores}
use Rattle.card_log.proofs.LogStores.{going}
use Rattle.driver.proofs.Listing.{words-next}
use Rattle.driver.proofs.queue.put_words.Goals as goal

pub loop-k-preserved : goal.loop-k-preserved
loop-k-preserved c =
    let l = c.loop-k in
    let a = c.args in
    let ss = entry_stores a.place (going a.content.now a.member a.e) in
    let i : a.at + (l.k + 1 - a.done) ≡ suc (a.at + (l.k - a.done)) = omega arith in
    rw (c.word_of.ensures, i) (words-next l.k a.upto (a.at + (l.k - a.done)) ss l.stores (omega arith) (omega (arith, c.requires.1)) ∙ l.invariant)
