-- Questions 1 and 3 as `check` answers them, and the calls that begin with these alone.
use mathlib.Core.Path.{◌≡◌, refl, sym, ◌∙◌}
use mathlib.Core.Bool.{Bool, true, false, ◌&&◌, not}
use mathlib.Core.List.{List, [], ◌∷◌, ◌++◌}
use Prim.Native.Nat.{ℕ}
use lib.Dec.{leb}
use Rattle.lists.specs.promises.Tables.{Tables}
use Rattle.disk.specs.Record.{is_open, count_of}
use Rattle.answers.specs.declared.Refusal.{Refusal}
use Rattle.answers.specs.declared.Refusal.TheVariants.{StreamClosed, OutOfRange, UnitOpen}
use Rattle.disk.specs.Disk.{Disk, unit_of}
use Rattle.disk.specs.Questions.{stream_open, is_window, questions, ask, first_no, refusal}
use Rattle.disk.specs.Call.{conflict_count, begin, destination}
use Rattle.disk.specs.Perform.{accepted, opening}
use Rattle.answers.specs.Answers.{number, reply_answer, number_answer}
use Rattle.std.specs.Prelude.{Result, Ok, Err}
use Rattle.calls.specs.Performs.{Performs}
use Rattle.disk.specs.Sound.{open_unit}
use Rattle.inspect.specs.promises.Inspect.{Looks}
use Rattle.calls.specs.promises.Checks.{Checked, Checks}
use Rattle.inspect.specs.promises.Inspect.{checked, opens}
use Rattle.inspect.proofs.Asking.{ask-yes, ask-no}
use Rattle.calls.proofs.Refusing.{sound-yes, usual-performs-refused, performs-accepted}

-- stream 0 is always open
pub unchecked : (d : Disk) (x : Refusal) → first_no (opens false d 0) ≡ number x → first_no (checked d) ≡ number x
unfolding stream_open first_no ask
unchecked d x h = h

pub looks-checks : (d : Disk) (r : Result (Unit {0}) Refusal) (t : Tables) → Looks false d 0 r t → Checks d r
looks-checks d (Err x) t h = unchecked d x h
looks-checks d (Ok done) t h = record { lengths = h.lengths; sound = h.sound }

checked-yes : {d : Disk} (qs : List (ℕ × Bool)) → Checked d → first_no (checked d ++ qs) ≡ first_no qs
checked-yes {d} qs s = sound-yes d qs s.lengths s.sound

-- A window's conflict count.
module _ (d : Disk) (w : ℕ) (s : Checked d) where
  pub conflicts-outside : is_window w ≡ false → Performs (conflict_count w) d d (number_answer (Err OutOfRange)) []
  unfolding refusal questions destination number number_answer
  conflicts-outside h = usual-performs-refused (conflict_count w) d OutOfRange tt (checked-yes _ s ∙ ask-no 5 (is_window w) [] h)

  pub conflicts-given : is_window w ≡ true → Performs (conflict_count w) d d (number_answer (Ok (count_of d.rec w))) []
  unfolding refusal questions accepted first_no number_answer
  conflicts-given h = performs-accepted (conflict_count w) d _ (checked-yes ((5, is_window w) ∷ []) s ∙ ask-yes 5 (is_window w) [] h) refl

-- Begin.
module _ (d : Disk) (u w : ℕ) (s : Checked d) where
  abbrev last : List (ℕ × Bool)
  last = (6, not (is_open (unit_of d u))) ∷ []

  abbrev behind : List (ℕ × Bool)
  behind = (5, is_window w) ∷ last

  pub begin-outside : leb 1 u && leb u 4 ≡ false → Performs (begin u w) d d (reply_answer (Err StreamClosed)) []
  unfolding refusal questions destination number reply_answer
  begin-outside r = usual-performs-refused (begin u w) d StreamClosed tt (checked-yes _ s ∙ ask-no 4 _ behind r)

  module _ (l : leb 1 u && leb u 4 ≡ true) where
    asked : refusal (begin u w) d ≡ first_no behind
    unfolding refusal questions
    asked = checked-yes _ s ∙ ask-yes 4 _ behind l

    pub begin-nowhere : is_window w ≡ false → Performs (begin u w) d d (reply_answer (Err OutOfRange)) []
    unfolding destination number reply_answer
    begin-nowhere h = usual-performs-refused (begin u w) d OutOfRange tt (asked ∙ ask-no 5 (is_window w) last h)

    module _ (h : is_window w ≡ true) (o : Bool) (e : o ≡ open_unit d.rec u) where
      opened-is : is_open (unit_of d u) ≡ o
      unfolding open_unit unit_of
      opened-is = sym (e ∙ rw l)

      pub begin-twice : o ≡ true → Performs (begin u w) d d (reply_answer (Err UnitOpen)) []
      unfolding destination number reply_answer
      begin-twice t =
          usual-performs-refused (begin u w) d UnitOpen tt
          (asked ∙ ask-yes 5 (is_window w) last h ∙ ask-no 6 (not (is_open (unit_of d u))) [] (rw (opened-is, t)))

      pub begin-opens : o ≡ false → Performs (begin u w) d (opening u w d) (reply_answer (Ok tt)) []
      unfolding accepted first_no reply_answer
      begin-opens t =
          performs-accepted (begin u w) d _ (asked ∙ ask-yes 5 (is_window w) last h ∙ ask-yes 6 (not (is_open (unit_of d u))) [] (rw (opened-is, t))) refl
