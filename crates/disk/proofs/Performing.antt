-- What a call performs, by its refusal: an accepted call answers 0, a refused one its number.
use mathlib.Core.Path.{◌≡◌, refl}
use mathlib.Core.Bool.{Bool, true, false}
use Prim.Native.Nat.{ℕ, suc}
use lib.Dec.{eqb}
use Rattle.card_log.specs.Card.{Written, Outcome, sound, fault, mounted}
use Rattle.disk.specs.Disk.{Disk}
use Rattle.disk.specs.Call.{Call, format, mount, conflict_count, on_stream, in_view, begin, end, flush, destination}
use Rattle.disk.specs.Questions.{refusal}
use Rattle.disk.specs.Perform.{Result, accepted, refused, fault_at, refusal_answer, perform}

pub perform-accepted : (c : Call) (d : Disk) → refusal c d ≡ 0 → perform c d ≡ accepted c d
unfolding perform
perform-accepted c d q = rw (q, perform)

abbrev pub refused_result : Call → ℕ → Disk → Result
refused_result c n d = record { disk = refused c n d; answer = refusal_answer n d; lent = destination c }

pub perform-refused : (c : Call) (d : Disk) (m : ℕ) → refusal c d ≡ suc m → perform c d ≡ refused_result c (suc m) d
unfolding perform
perform-refused c d m q = rw (q, perform)

pub accepted-code : (c : Call) (d : Disk) → (accepted c d).answer.code ≡ 0
unfolding accepted
accepted-code format d = refl
accepted-code mount d = refl
accepted-code (conflict_count w) d = refl
accepted-code (on_stream s e) d = refl
accepted-code (in_view v k) d = refl
accepted-code (begin u w) d = refl
accepted-code (end u) d = refl
accepted-code (flush a) d = refl

fault-code : (o : Outcome Written) (n : ℕ) → (fault_at o n).code ≡ n
unfolding fault_at
fault-code (sound r) n = refl
fault-code (fault g i) n = refl

pub refusal-code : (n : ℕ) (d : Disk) → (refusal_answer n d).code ≡ n
unfolding refusal_answer
refusal-code n d = go (eqb n 2) refl
  where
    go : (t : Bool) → eqb n 2 ≡ t → (refusal_answer n d).code ≡ n
    go true e = rw (e, refusal_answer) (fault-code (mounted d.card) n)
    go false e = rw (e, refusal_answer)
