-- The stores listed for a call are those that it makes: made on the card they leave what the call leaves (`stores-make`), and the first k of a flush's
-- leave what a flush with allowance k leaves (`driver-flush`).
use mathlib.Core.Path.{◌≡◌, refl, sym, ap, ◌∙◌}
use mathlib.Core.List.{List, [], ◌∷◌}
use Prim.Native.Nat.{ℕ, zero, suc, ◌≤◌}
use native.Mathlib.Omega.{arith}
use lib.ListN.{length, length-take, length-drop}
use lib.Seq.{take_all}
use Rattle.lists.specs.Change.{Change}
use Rattle.lists.specs.State.{Row}
use Rattle.lists.proofs.Basic.{leb-true, le-true}
use Rattle.card_log.specs.Entry.{Entry}
use Rattle.card_log.specs.Card.{Written, segments_in}
use Rattle.card_log.specs.Store.{Store, do_stores, format_stores}
use Rattle.card_log.proofs.Formatting.{format-length}
use Rattle.disk.specs.Disk.{Disk, journal_of}
use Rattle.disk.specs.Call.{Call, format, mount, conflict_count, on_stream, in_view, begin, end, flush}
use Rattle.disk.specs.Questions.{questions, refusal}
use Rattle.disk.specs.Perform.{Result, enqueue, enqueue_all, journal_add, change, relisted, noted, made, number_given, change_for, opening, closing, unit_entries, formatted, accepted, perform}
use Rattle.disk.specs.Statements.{todo}
use Rattle.disk.proofs.Questions.{yes-all}
use Rattle.disk.proofs.Held.{hold-card, noted-by}
use Rattle.disk.proofs.Performing.{perform-accepted}
use Rattle.disk.proofs.Flushing.{flushes, cut-after}
use Rattle.inspect.proofs.Asking.{last-yes}
use Rattle.calls.proofs.Refusing.{sound-yes}
use Rattle.driver.specs.Stores.{stores_made, word, WordSays, StoresMake, DriverFlush}

pub word-says : WordSays
unfolding word
word-says x l = (omega (arith, l), omega (arith, l))

-- The calls that make no store.
noted-card : (s : ℕ) (c : Change Written) (rs : List (Row Written)) (d : Disk) → (noted s c rs d).card ≡ d.card
unfolding relisted
noted-card s c rs d = noted-by (λ e. e.card ≡ d.card) s (λ n e p. hold-card s n e ∙ p) (λ fs e p. p) c rs d refl

change-card : (s : ℕ) (c : Change Written) (d : Disk) → (change s c d).card ≡ d.card
unfolding change enqueue journal_add
change-card zero c d = refl
change-card (suc u) c d = refl

made-card : (s : ℕ) (c : Change Written) (d : Disk) → (made s c d).card ≡ d.card
unfolding made
made-card s c d = noted-card s c _ (change s c d) ∙ change-card s c d

enqueued-card : (es : List (Entry Written)) (d : Disk) → (enqueue_all es d).card ≡ d.card
unfolding enqueue_all enqueue
enqueued-card [] d = refl
enqueued-card (e ∷ es) d = enqueued-card es (enqueue e d)

-- The two that do.
format-card : (d : Disk) → (accepted format d).disk.card ≡ do_stores (stores_made format d) d.card
unfolding accepted stores_made formatted
format-card d =
    let n = segments_in d.card in
    ap (λ (ss : List Store). do_stores ss d.card) (take_all n (format_stores n) (omega (arith, format-length n)))

flush-card : (a : ℕ) (d : Disk) → refusal (flush a) d ≡ 0 → (accepted (flush a) d).disk.card ≡ do_stores (stores_made (flush a) d) d.card
unfolding stores_made
flush-card a d h = sym (ap (λ (r : Result). r.disk.card) (perform-accepted (flush a) d h)) ∙ (flushes a d h).card

accepted-card : (c : Call) (d : Disk) → refusal c d ≡ 0 → (accepted c d).disk.card ≡ do_stores (stores_made c d) d.card
unfolding accepted stores_made do_stores opening closing relisted
accepted-card format d h = format-card d
accepted-card mount d h = refl
accepted-card (conflict_count w) d h = refl
accepted-card (on_stream s e) d h = made-card s (change_for e (number_given e d)) d
accepted-card (in_view v k) d h = refl
accepted-card (begin u w) d h = refl
accepted-card (end u) d h = enqueued-card (unit_entries (journal_of d u)) d
accepted-card (flush a) d h = flush-card a d h

pub stores-make : StoresMake
stores-make c d h = ap (λ (r : Result). r.disk.card) (perform-accepted c d h) ∙ accepted-card c d h

-- a flush with a smaller allowance is accepted too
less-accepted : (a k : ℕ) (d : Disk) → refusal (flush a) d ≡ 0 → k ≤ a → refusal (flush k) d ≡ 0
unfolding refusal questions
less-accepted a k d h l =
    let y = yes-all (flush a) d h in
    sound-yes d _ (y 0) (y 1) ∙ last-yes 5 _ (le-true k 65535 (omega (arith, leb-true a 65535 (y 2))))

-- it makes as many stores as its allowance where so many are to do
makes-all : (k : ℕ) (d : Disk) → refusal (flush k) d ≡ 0 → k ≤ length (todo d) → (perform (flush k) d).answer.value ≡ k
makes-all k d h l = let f = flushes k d h in f.stores ∙ omega (arith, ap length f.onward ∙ length-drop k (todo d))

pub driver-flush : DriverFlush
unfolding stores_made
driver-flush a k d h l =
    let n = length-take a (todo d) in
    let f = flushes a d h in
    let s = less-accepted a k d h (omega (arith, n)) in
    (cut-after a k d h (omega (arith, n, f.stores, ap length f.onward ∙ length-drop a (todo d))), makes-all k d s (omega (arith, n)), s)
