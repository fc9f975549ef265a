-- A block of the persistent state is unwritten exactly if no write of it stands behind its last put in the history on the card: that history acts on the
-- empty state, and each change that acts leaves written what it tells.
use mathlib.Core.Path.{◌≡◌, refl, sym, ap, ◌∙◌}
use mathlib.Core.Logic.{⊎_elim}
use mathlib.Core.Bool.{Bool, true, false, cond, or-false, or-true, true≢false, false≢true}
use mathlib.Core.Option.{Option, none, some, some-injective}
use mathlib.Core.List.{List, [], ◌∷◌}
use Prim.Native.Nat.{ℕ}
use lib.ListN.{replicate, length-replicate}
use Rattle.lists.specs.Basic.{joined}
use Rattle.lists.specs.Change.{Change, take_list, put_first, put_after, write, del_block, del_list}
use Rattle.lists.specs.State.{Row, State, empty, placed, applies, changed, apply, apply_all}
use Rattle.lists.specs.Lookup.{written}
use Rattle.lists.proofs.Basic.{either, bind-some}
use Rattle.lists.proofs.Apply.{apply_some}
use Rattle.lists.proofs.Count.{puts}
use Rattle.lists.proofs.Distinct.{Distinct, empty-distinct, apply-distinct}
use Rattle.lists.proofs.Placed.{placed-changed}
use Rattle.lists.proofs.Written.{writes, written-changed, written-put}
use Rattle.card_log.specs.Card.{Written}
use Rattle.disk.specs.Record.{blank_record}
use Rattle.disk.specs.Disk.{Disk, persistent, view}
use Rattle.disk.specs.Call.{mount}
use Rattle.disk.specs.Perform.{Result, accepted}
use Rattle.disk.proofs.Performing.{perform-accepted}
use Rattle.crash.specs.Event.{Rest, leaves}
use Rattle.crash.specs.Book.{Book, on_card}
use Rattle.crash.specs.Demand3.{Lent, Kept, play, begun}
use Rattle.crash.specs.History.{last_told, WrittenByHistory}
use Rattle.crash.proofs.Demand3.{demand3}

-- One change: a block that is on some list behind it is written as the change tells, or as before.
telling : ℕ → Option Bool → Change Written → Option Bool
telling b o c = cond (puts c b) (some false) (cond (writes c b) (some true) o)

told_more : (b : ℕ) (o : Option Bool) (c : Change Written) (cs : List (Change Written)) → last_told b o (c ∷ cs) ≡ last_told b (telling b o c) cs
unfolding last_told telling
told_more b o (take_list l) cs = refl
told_more b o (put_first n l) cs = refl
told_more b o (put_after n l p) cs = refl
told_more b o (write n x) cs = refl
told_more b o (del_block n) cs = refl
told_more b o (del_list l) cs = refl

-- what was told of a block, if it is on some list
abbrev Says : Option Bool → ℕ → List (Row Written) → Type 0
Says o b rs = placed b rs ≡ true → o ≡ some (written b rs)

change-says : (b : ℕ) (o : Option Bool) (c : Change Written) (rs : List (Row Written)) → Distinct rs → applies c rs ≡ true → Says o b rs
    → Says (telling b o c) b (changed c rs)
unfolding telling
change-says b o c rs d a k h = go (puts c b) refl (writes c b) refl
  where
    go : (t : Bool) → puts c b ≡ t → (u : Bool) → writes c b ≡ u → cond t (some false) (cond u (some true) o) ≡ some (written b (changed c rs))
    go true e u f = ap some (sym (written-put c rs b d a h e))
    go false e true f = ap some (sym (written-changed c rs b d a h ∙ rw f (or-true (written b rs))))
    go false e false f =
        k (⊎_elim (λ j. j) (λ j. absurd (true≢false (sym h ∙ placed-changed c rs b e j))) (either (placed b rs)))
        ∙ ap some (sym (written-changed c rs b d a h ∙ rw f (or-false (written b rs))))

-- changes in order
changes-say : (b : ℕ) (o : Option Bool) (cs : List (Change Written)) (s t : State Written) → Distinct s.lists → apply_all cs s ≡ some t → Says o b s.lists
    → Says (last_told b o cs) b t.lists
unfolding apply_all last_told
changes-say b o [] s t d e k = let q : s ≡ t = some-injective _ _ e in rw (← q) k
changes-say b o (c ∷ cs) s t d e k =
    let (u, f, g) = bind-some (apply c s) (λ x. apply_all cs x) t e in
    let (a, q) = apply_some c s u f in
    rw (told_more b o c cs) (changes-say b (telling b o c) cs u t (apply-distinct c s u f d) g (rw q (change-says b o c s.lists d a k)))

pub written-told : (b : ℕ) (cs : List (Change Written)) (s : State Written) → apply_all cs empty ≡ some s → placed b s.lists ≡ true
    → last_told b none cs ≡ some (written b s.lists)
unfolding placed
written-told b cs s e h = changes-say b none cs empty s empty-distinct e (λ p. absurd (false≢true p)) h

-- some lent data
rest : Rest
rest = record { queue_data = replicate 8192 0; journal_data = replicate 15360 0; rec = blank_record }

rest-lent : Lent rest
unfolding rest
rest-lent = (length-replicate {A = ℕ} 8192 0, length-replicate {A = ℕ} 15360 0)

-- what a mounting shows is the persistent state of every disk with that card
pub persistent-kept : (d : Disk) (b : Book) (k : Kept d.card b) → persistent d ≡ k.state
unfolding view persistent accepted leaves
persistent-kept d b k =
    ap (λ (r : Result). persistent r.disk) (sym (perform-accepted mount (leaves d.card rest) (k.mounts rest rest-lent))) ∙ k.shows rest rest-lent 5

pub written-by-history : WrittenByHistory
written-by-history d h es v b p =
    let s = play (begun d) es in
    let k = demand3 d h es v in
    let e = persistent-kept s.world.disk s.book k in
    rw e (written-told b (joined (on_card s.book)) k.state k.prefix (rw e at p))
