-- From the answers of a call's questions to what it performs: a refusal at the first no, an acceptance when all are answered yes.
use mathlib.Core.Path.{◌≡◌, refl, sym, ap, ◌∙◌}
use mathlib.Core.Logic.{◌⊎◌, inl, inr, ⊎_elim, ◌≢◌}
use mathlib.Core.Bool.{Bool, true, false, ◌&&◌, false≢true, and-false}
use mathlib.Core.Option.{none}
use mathlib.Core.List.{List, [], ◌++◌}
use Prim.Native.Nat.{ℕ, ◌≤◌, ◌<◌}
use native.Mathlib.Omega.{arith}
use lib.Dec.{leb, eqb}
use Rattle.std.specs.Prelude.{Result, Err}
use Rattle.std.specs.Result.{IsErrAnd}
use Rattle.lists.specs.promises.Tables.{Tables, IsList}
use Rattle.lists.proofs.Basic.{and-true, or_cases, leb-true, eqb-true, eqb-false, gt-false}
use Rattle.card_log.specs.Entry.{is_list}
use Rattle.answers.specs.declared.Refusal.{Refusal}
use Rattle.disk.specs.Disk.{Disk, view}
use Rattle.disk.specs.Sound.{lengths_right, record_sound, is_open_unit}
use Rattle.disk.specs.Questions.{stream_open, edit_questions, look_questions, questions, first_no, refusal}
use Rattle.disk.specs.Call.{Edit, Look, Call, format, mount, conflict_count, on_stream, in_view, begin, end, flush, ends, lent_to, destination}
use Rattle.disk.specs.Perform.{Result as Performed, accepted, refused, refusal_answer, perform}
use Rattle.answers.specs.Answers.{Answer, number, refused_answer, reply_answer, number_answer, read_answer, flush_answer}
use Rattle.disk.proofs.Order.{asks, Behind, edit-behind, look-behind, rising-above, asks-above}
use Rattle.disk.proofs.Questions.{numbered, unit-range}
use Rattle.disk.proofs.Clauses.{right}
use Rattle.disk.proofs.Performing.{perform-accepted, perform-refused, refused_result}
use Rattle.calls.specs.Performs.{Performs}
use Rattle.inspect.specs.promises.Inspect.{checked, open_as, Sees, opens}
use Rattle.inspect.proofs.Asking.{ask-yes, number-some, refused-more, exit_is}

-- Questions 1 and 3, and with them 4 as `look` answers it.
pub sound-yes : (d : Disk) (qs : List (ℕ × Bool)) → lengths_right d ≡ true → record_sound d ≡ true → first_no (checked d ++ qs) ≡ first_no qs
sound-yes d qs l s = ask-yes 1 (lengths_right d) _ l ∙ ask-yes 3 (record_sound d) qs s

pub seen : {looked : Bool} {d : Disk} {v : ℕ} {t : Tables} (qs : List (ℕ × Bool)) → Sees looked d v t → first_no (opens looked d v ++ qs) ≡ first_no qs
seen {looked} {d} {v} qs s = sound-yes d _ s.lengths s.sound ∙ ask-yes 4 (open_as looked d v) qs s.opened

-- what the code needs then: the number is a stream's, and the queue's head a place
pub seen-ranges : {d : Disk} {s : ℕ} {t : Tables} → Sees false d s t → (s ≤ 4) × (d.rec.ring.head < 32)
unfolding stream_open
seen-ranges {d} {s} h = (
  ⊎_elim (λ e. let z = eqb-true s 0 e in omega arith) (λ e. (unit-range d s e).1) (or_cases (eqb s 0) (is_open_unit d s) h.opened),
  (right d h.lengths h.sound).log.head,
)

-- a number out of range
pub outside : (m n : ℕ) → (n < 1) ⊎ (m < n) → leb 1 n && leb n m ≡ false
outside m n (inl l) = rw (gt-false 1 n l)
outside m n (inr l) = rw (gt-false n m l) (and-false (leb 1 n))

pub inside : (m n : ℕ) → leb 1 n && leb n m ≡ true → (1 ≤ n) × (n ≤ m)
inside m n h = let (a, b) = and-true (leb 1 n) (leb n m) h in (leb-true 1 n a, leb-true n m b)

-- a list's number, and a predecessor's, which may be 0
pub position-range : (l p : ℕ) → is_list l && leb p 64 ≡ true → IsList l × (p ≤ 64)
position-range l p h = let (a, b) = and-true (is_list l) (leb p 64) h in (inside 16 l a, leb-true p 64 b)

-- Refused calls.
pub performs-refused : (c : Call) (d d' : Disk) (x : Refusal) → number x ≢ 2 → refused c (number x) d ≡ d' → refusal c d ≡ number x → Performs c d d' (refused_answer x) (destination c)
unfolding refusal_answer
performs-refused c d d' x z r h =
    let (m, e) = number-some x in
    perform-refused c d m (h ∙ e)
    ∙ ap (λ n. refused_result c n d) (sym e)
    ∙ rw (r, eqb-false (number x) 2 z, refusal_answer)

-- the calls that neither mount nor end a unit: their refusals change nothing, and answer a number alone
abbrev pub Usual : Call → Type 0
Usual format = Unit {0}
Usual mount = ⊥
Usual (conflict_count w) = Unit {0}
Usual (on_stream s e) = Unit {0}
Usual (in_view v k) = Unit {0}
Usual (begin u w) = Unit {0}
Usual (end u) = ⊥
Usual (flush a) = Unit {0}

-- what stands behind question 4 does not ask whether the log is acceptable
behind-two : {qs : List (ℕ × Bool)} → Behind qs → asks 2 qs ≡ false
behind-two {qs} h = asks-above 2 4 qs (omega arith) (rising-above 4 4 qs (omega arith) h.rises)

-- such a call ends no unit, and does not ask it either
usual : (c : Call) (d : Disk) → Usual c → (ends c ≡ none) × (asks 2 (questions c d) ≡ false)
unfolding ends questions
usual format d u = (refl, refl)
usual mount d u = absurd u
usual (conflict_count w) d u = (refl, refl)
usual (on_stream s e) d u = (refl, behind-two (edit-behind s e d))
usual (in_view v k) d u = (refl, behind-two (look-behind k (view d v).lists))
usual (begin v w) d u = (refl, refl)
usual (end w) d u = absurd u
usual (flush a) d u = (refl, refl)

pub not-two : (c : Call) (d : Disk) (x : Refusal) → Usual c → refusal c d ≡ number x → number x ≢ 2
unfolding refusal
not-two c d x u h e = false≢true (sym (usual c d u).1 ∙ numbered (questions c d) 2 (omega arith) (h ∙ e))

pub usual-performs-refused : (c : Call) (d : Disk) (x : Refusal) → Usual c → refusal c d ≡ number x → Performs c d d (refused_answer x) (destination c)
unfolding refused
usual-performs-refused c d x u h = performs-refused c d d x (not-two c d x u h) (rw ((usual c d u).0, refused)) h

-- a refused End, which 12 closes
end-asks-two : (u : ℕ) (d : Disk) → asks 2 (questions (end u) d) ≡ false
unfolding questions
end-asks-two u d = refl

pub end-performs-refused : (u : ℕ) (d d' : Disk) (x : Refusal) → refused (end u) (number x) d ≡ d' → refusal (end u) d ≡ number x → Performs (end u) d d' (refused_answer x) []
unfolding destination refusal
end-performs-refused u d d' x r h =
    performs-refused (end u) d d' x (λ e. false≢true (sym (end-asks-two u d) ∙ numbered (questions (end u) d) 2 (omega arith) (h ∙ e))) r h

-- The answers' definitions at a refusal.
pub reply-refused : (x : Refusal) → reply_answer (Err x) ≡ refused_answer x
unfolding reply_answer
reply-refused x = refl

pub number-refused : (x : Refusal) → number_answer (Err x) ≡ refused_answer x
unfolding number_answer
number-refused x = refl

pub read-refused : (x : Refusal) → read_answer (Err x) ≡ refused_answer x
unfolding read_answer
read-refused x = refl

pub flush-refused : (x : Refusal) → flush_answer (Err x) ≡ refused_answer x
unfolding flush_answer
flush-refused x = refl

-- Where a `?` leaves a call: refused by one of its first questions, qs being the others; f tells the answer.
module _ {A : Type 0} (f : Result A Refusal → Answer) (told : (x : Refusal) → f (Err x) ≡ refused_answer x) where
  pub first-refused : (k : Call) (d : Disk) (ps qs : List (ℕ × Bool)) → Usual k → refusal k d ≡ first_no (ps ++ qs)
      → (r : Result A Refusal) (x : Refusal) → IsErrAnd r (λ y. y ≡ x) → first_no ps ≡ number x → Performs k d d (f r) (destination k)
  first-refused k d ps qs u q r x e h = rw (exit_is r x e, told x) (usual-performs-refused k d x u (q ∙ refused-more x ps qs h))

  -- by question 1, 3 or 4: every edit and every look-up
  pub edit-unseen : (d : Disk) (s : ℕ) (k : Edit) (r : Result A Refusal) (x : Refusal) → IsErrAnd r (λ y. y ≡ x) → first_no (opens false d s) ≡ number x → Performs (on_stream s k) d d (f r) []
  unfolding refusal questions destination
  edit-unseen d s k = first-refused (on_stream s k) d (opens false d s) (edit_questions s k d) tt refl

  pub look-unseen : (d : Disk) (v : ℕ) (k : Look) (r : Result A Refusal) (x : Refusal) → IsErrAnd r (λ y. y ≡ x) → first_no (opens true d v) ≡ number x → Performs (in_view v k) d d (f r) (lent_to k)
  unfolding refusal questions destination
  look-unseen d v k = first-refused (in_view v k) d (opens true d v) (look_questions k (view d v).lists) tt refl

-- Accepted calls.
pub performs-accepted : (c : Call) (d : Disk) (r : Performed) → refusal c d ≡ 0 → accepted c d ≡ r → perform c d ≡ r
performs-accepted c d r h a = perform-accepted c d h ∙ a
