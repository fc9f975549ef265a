-- Every accepted call that changes the disk keeps the invariant.
use mathlib.Core.Path.{◌≡◌, refl, ◌∙◌, subst}
use mathlib.Core.Bool.{Bool, true, false}
use mathlib.Core.List.{List}
use Prim.Native.Nat.{ℕ, zero, suc, ◌+◌}
use native.Mathlib.Omega.{arith}
use lib.Dec.{leb, eqb-suc-zero}
use Rattle.lists.specs.Basic.{any}
use Rattle.lists.specs.Change.{Change}
use Rattle.lists.specs.State.{Row, applies, apply_all, overlay}
use Rattle.lists.specs.InUse.{list_number}
use Rattle.lists.proofs.Basic.{and-true, not-false, leb-true, some_of}
use Rattle.lists.proofs.Count.{takes}
use Rattle.lists.proofs.InUse.{brought, takes-brings}
use Rattle.lists.proofs.Takings.{once_more}
use Rattle.card_log.specs.Entry.{plain}
use Rattle.card_log.specs.Card.{Written}
use Rattle.card_log.proofs.Places.{Good, plain-sized}
use Rattle.disk.specs.Record.{is_open, holder_of, with_listed}
use Rattle.disk.specs.Disk.{Disk, unit_of, queued, journal_of, committed, listing}
use Rattle.disk.specs.Sound.{is_open_unit}
use Rattle.disk.specs.Call.{Edit, on_stream, begin, end}
use Rattle.disk.specs.Questions.{stream_open, journal_room, stream_room, end_applies, questions, refusal}
use Rattle.disk.specs.Perform.{change, hold, relisted, noted, made, number_given, change_for, opening, accepted}
use Rattle.disk.proofs.Queue.{queued-hold, queued-relisted, queued-opening}
use Rattle.disk.proofs.Journal.{journal-size, journal-opening, unit-sized, journal-hold, journal-relisted}
use Rattle.disk.proofs.Questions.{yes-all, unit-range, open-range, queue-room, stream-room, journal-room}
use Rattle.disk.proofs.Clauses.{Right, right}
use Rattle.disk.proofs.Held.{noted-by}
use Rattle.disk.proofs.Changes.{edit-makes, apply-applies, unit-good}
use Rattle.disk.proofs.Inventory.{journal-takes-held}
use Rattle.crash.specs.Book.{Book, batch_of, join, join_unit}
use Rattle.crash.proofs.Invariant.{Live, live}
use Rattle.crash.proofs.Joining.{join-plain, join-batch, join-unit}

-- Beside the queue and the journals nothing of the record is part of the invariant.
same-inv : (d e : Disk) (b : Book) → e.card ≡ d.card → queued e ≡ queued d → e.rec.ring.done ≡ d.rec.ring.done → ((u : ℕ) → journal_of e u ≡ journal_of d u) → Live d b → Live e b
same-inv d e b c q n j i =
    live e b (rw c i.sim) i.told
    (record { queue = q ∙ (i.tied refl).queue; done = n ∙ (i.tied refl).done; journals = λ u l m. j u ∙ (i.tied refl).journals u l m; once = (i.tied refl).once }) i.four i.few

listed-anew : (d : Disk) (b : Book) (fs : List ℕ) → Live d b → Live (relisted fs d) b
unfolding relisted with_listed
listed-anew d b fs i = same-inv d (relisted fs d) b refl (queued-relisted fs d) refl (journal-relisted fs d) i

held : (s n : ℕ) (d : Disk) (b : Book) → Live d b → Live (hold s n d) b
unfolding hold
held zero n d b i = i
held (suc u) n d b i = same-inv d (hold (suc u) n d) b refl (queued-hold (suc u) n d) refl (journal-hold (suc u) n d) i

-- A change on a stream.
record Streams (s : ℕ) (d : Disk) : Type 0 where
  sound : Right d
  is_open : stream_open d s ≡ true
  journal : journal_room d s ≡ true
  queue : stream_room d s ≡ true

-- what it takes is held by no unit, so no journal takes it
taken-new : (u : ℕ) (c : Change Written) (d : Disk) → Right d → is_open_unit d u ≡ true → ((n : ℕ) → brought c n ≡ true → holder_of d.rec n ≡ 0)
    → (l : ℕ) → takes c l ≡ true → any (λ x. takes x l) (journal_of d u) ≡ false
taken-new u c d k h f l e = go (any (λ x. takes x l) (journal_of d u)) refl
  where
    go : (t : Bool) → any (λ x. takes x l) (journal_of d u) ≡ t → any (λ x. takes x l) (journal_of d u) ≡ false
    go true q =
        let (p, m, o) = unit-range d u h in
        absurd (omega (arith, (journal-takes-held d.rec u (journal_of d u) l (k.units.units u p m).sound q).0, f (list_number l) (takes-brings c l e)))
    go false q = q

change-inv : (s : ℕ) (c : Change Written) (d : Disk) (b : Book) → Live d b → Streams s d → Good (plain c) → (s ≡ 0 → applies c (committed d).lists ≡ true)
    → ((n : ℕ) → brought c n ≡ true → holder_of d.rec n ≡ 0) → Live (change s c d) (join s c b)
unfolding change join stream_open
change-inv zero c d b i t g a f = join-plain d b c _ t.sound i (stream-room d t.queue) g (apply-applies c (committed d) (a refl))
change-inv (suc u) c d b i t g a f =
    let (p, q, o) = open-range d u t.is_open in
    let y = (i.tied refl).journals (suc u) p q in
    join-batch d b (suc u) c t.sound i p q (journal-room d u t.journal) (plain-sized c g)
    (once_more (batch_of b (suc u)) c
    (λ l e. subst (λ (cs : List (Change Written)). any (λ x. takes x l) cs ≡ false) y (taken-new (suc u) c d t.sound (rw (eqb-suc-zero u) at t.is_open) f l e))
    ((i.tied refl).once (suc u) p q))

-- what the record notes of a number given is no part of it
noted-inv : (s : ℕ) (c : Change Written) (rs : List (Row Written)) (d : Disk) (b : Book) → Live d b → Live (noted s c rs d) b
noted-inv s c rs d b i = noted-by (λ e. Live e b) s (λ n e j. held s n e b j) (λ fs e j. listed-anew e b fs j) c rs d i

-- The calls.
pub accepted-edit : (s : ℕ) (e : Edit) (d : Disk) (b : Book) → refusal (on_stream s e) d ≡ 0 → Live d b
    → let c = change_for e (number_given e d) in Live (accepted (on_stream s e) d).disk (join s c b)
unfolding questions accepted made
accepted-edit s e d b h i =
    let y = yes-all (on_stream s e) d h in
    let c = change_for e (number_given e d) in
    let m = edit-makes s e d h in
    noted-inv s c (committed d).lists (change s c d) (join s c b)
    (change-inv s c d b i (record { sound = right d (y 0) (y 1); is_open = y 2; journal = m.journal; queue = m.queue }) m.good m.applying (λ n z. (m.free n z).0))

-- a unit that opens was closed, so its journal is empty already
pub accepted-begin : (u w : ℕ) (d : Disk) (b : Book) → refusal (begin u w) d ≡ 0 → Live d b → Live (accepted (begin u w) d).disk b
unfolding questions accepted opening
accepted-begin u w d b h i =
    let y = yes-all (begin u w) d h in
    let (p, q) = and-true (leb 1 u) (leb u 4) (y 2) in
    let k = (right d (y 0) (y 1)).units.units u (leb-true 1 u p) (leb-true u 4 q) in
    let n : (unit_of d u).len ≡ 0 = k.closed (not-false (is_open (unit_of d u)) (y 4)) in
    same-inv d (opening u w d) b refl (queued-opening u w d) refl (λ v. journal-opening u v w d n) i

pub accepted-end : (u : ℕ) (d : Disk) (b : Book) → refusal (end u) d ≡ 0 → Live d b → Live (accepted (end u) d).disk (join_unit u b)
unfolding questions accepted end_applies
accepted-end u d b h i =
    let y = yes-all (end u) d h in
    let k = right d (y 0) (y 1) in
    let (p, q, o) = unit-range d u (y 2) in
    let x = k.units.units u p q in
    let z = unit-sized d u p q k.journal_data x.room in
    let (s, a) = some_of (apply_all (journal_of d u) (committed d)) (y 3) in
    join-unit d b u (overlay (journal_of d u) (listing d)) s k i p q (omega (arith, journal-size d u, queue-room d ((unit_of d u).len + 1) (y 4)))
    (unit-good d.rec u (journal_of d u) x.sound (omega (arith, journal-size d u, x.room)) z) z a
