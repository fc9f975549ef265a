-- NewBlock, from what the tables of the stream's view say to what it performs.
use mathlib.Core.Path.{◌≡◌, refl, ap, ◌∙◌, subst}
use mathlib.Core.Logic.{⊎_elim}
use mathlib.Core.Bool.{true, false, ◌&&◌, ◌||◌}
use mathlib.Core.Option.{none}
use mathlib.Core.List.{List, [], ◌∷◌, ◌++◌}
use Prim.Native.Nat.{ℕ, zero, suc, ◌≤◌, ◌<◌}
use native.Mathlib.Omega.{arith}
use lib.Dec.{leb, eqb, eqb-suc-zero}
use Rattle.lists.specs.Basic.{is_some, or_else}
use Rattle.lists.specs.Change.{map_change, carried_by}
use Rattle.lists.specs.State.{Row, taken, on_list}
use Rattle.lists.specs.promises.Tables.{Tables, OfShown}
use Rattle.lists.proofs.Basic.{or_cases, eqb-true}
use Rattle.lists.proofs.Lookup.{lists-shown}
use Rattle.lists.proofs.Naturality.{taken-map, on_list-map}
use Rattle.card_log.specs.Entry.{is_list, map_entry, raw, as_entry}
use Rattle.card_log.specs.Cell.{cell_of}
use Rattle.std.specs.Prelude.{Result, Ok, Err}
use Rattle.answers.specs.declared.Refusal.{Refusal}
use Rattle.disk.specs.Record.{Record, listed_in}
use Rattle.disk.specs.Disk.{Disk, with_record, view}
use Rattle.disk.specs.Call.{new_block, on_stream, destination}
use Rattle.disk.specs.Sound.{is_open_unit}
use Rattle.disk.specs.Questions.{stream_open, free_block, predecessor_right, edit_questions, questions, first_no, refusal}
use Rattle.disk.specs.Perform.{accepted, change, hold, relisted, given, noted, made, put_at, number_given, change_for}
use Rattle.answers.specs.Answers.{number_answer}
use Rattle.disk.proofs.Questions.{unit-range}
use Rattle.disk.specs.promises.Listing.{Padded}
use Rattle.disk.proofs.Clauses.{right}
use Rattle.calls.specs.Performs.{Performs}
use Rattle.inspect.specs.promises.Located.{contents}
use Rattle.inspect.specs.promises.Inspect.{Sees}
use Rattle.calls.specs.promises.Adds.{added, rooms}
use Rattle.calls.specs.promises.Entering.{Admitted}
use Rattle.calls.specs.promises.Giving.{free_block_in, put_entry, put_block, Gives, ranged_put_questions, PutsFree}
use Rattle.calls.proofs.Refusing.{seen, usual-performs-refused, performs-accepted}
use Rattle.calls.proofs.Adding.{Says, change-added, sound-padded}
use Rattle.calls.proofs.Giving.{free-number, hold-record}

-- the same put of a number named otherwise
pub puts-number : (rs : List (Row ℕ)) (s l p b b' : ℕ) (r : Record) (a : Result ℕ Refusal) (r' : Record) → b ≡ b'
    → Gives (ranged_put_questions l p b rs) s l p b r a r' → Gives (ranged_put_questions l p b' rs) s l p b' r a r'
puts-number rs s l p b b' r a r' e h = subst (λ (x : ℕ). Gives (ranged_put_questions l p x rs) s l p x r a r') e h

-- The change.
put-carries : (b l p : ℕ) → carried_by (put_at b l p) ≡ none
unfolding put_at carried_by
put-carries b l zero = refl
put-carries b l (suc p) = refl

put-entry : (b l p : ℕ) → Says (put_entry b l p) (put_at b l p)
unfolding put_at cell_of raw map_entry map_change as_entry
put-entry b l zero = refl
put-entry b l (suc p) = rw (eqb-suc-zero p)

put-made : (s l p b : ℕ) (d : Disk) → made s (put_at b l p) d ≡ given b (hold s b (change s (put_at b l p) d))
unfolding made noted put_at
put-made s l zero b d = refl
put-made s l (suc p) b d = refl

pub put-disk : (s l p b : ℕ) (d : Disk) → made s (put_at b l p) d ≡ with_record d (put_block s l p b d.rec)
unfolding given relisted put_block
put-disk s l p b d =
    put-made s l p b d
    ∙ ap (λ (x : Disk). given b (hold s b x)) (change-added s (put_at b l p) (put_entry b l p) d (put-carries b l p) (put-entry b l p))
    ∙ ap (given b) (hold-record s b d (added s (put_entry b l p) d.rec))

-- A stream's number, and what the code of NewList needs.
pub stands-range : (d : Disk) (s : ℕ) (t : Tables) → Admitted true d s t → s ≤ 4
unfolding stream_open
stands-range d s t k = ⊎_elim (λ e. let z = eqb-true s 0 e in omega arith) (λ e. (unit-range d s e).1) (or_cases (eqb s 0) (is_open_unit d s) k.opened)

-- what the code needs
pub stands-take : (s : ℕ) (d : Disk) (t : Tables) → Admitted true d s t → Padded d.rec × (s ≤ 4) × (d.rec.ring.head < 32)
stands-take s d t k = (sound-padded d k.sound, stands-range d s t k, (right d k.lengths k.sound).log.head)

module _ (s : ℕ) (d : Disk) (t : Tables) (k : Sees false d s t) where
  here : List (Row ℕ)
  here = k.located.here.lists

  given-block : ℕ
  given-block = or_else 0 (free_block_in d.rec)

  asked : (l p : ℕ) → refusal (on_stream s (new_block l p)) d ≡ first_no (ranged_put_questions l p given-block here ++ rooms d s)
  unfolding refusal questions edit_questions predecessor_right free_block given-block here
  asked l p =
      let v = k.located.here.lists in
      seen
      ((5, is_list l && leb p 64) ∷ (7, taken l (view d s).lists) ∷ (9, eqb p 0 || on_list l p (view d s).lists) ∷ (10, is_some (free_block d)) ∷ rooms d s)
      k
      ∙ rw (k.located.means, taken-map (contents d) l v, on_list-map (contents d) l p v, free-number 0 64 (listed_in d.rec))

  pub puts-performs : (l p : ℕ) (a : Result ℕ Refusal) (r' : Record) → OfShown t (λ rs. PutsFree s l p rs d.rec a r')
      → Performs (on_stream s (new_block l p)) d (with_record d r') (number_answer a) []
  unfolding number_answer destination accepted number_given change_for free_block given-block here
  puts-performs l p a r' f = go a (f here (lists-shown t k.located.here k.located.shows))
    where
      go : (a : Result ℕ Refusal) → Gives (ranged_put_questions l p given-block here) s l p given-block d.rec a r'
          → Performs (on_stream s (new_block l p)) d (with_record d r') (number_answer a) []
      go (Err x) h = rw h.0 (usual-performs-refused (on_stream s (new_block l p)) d x tt (asked l p ∙ h.1 d refl))
      go (Ok n) h =
          performs-accepted (on_stream s (new_block l p)) d _ (asked l p ∙ h.2 d refl)
          (rw (put-disk s l p given-block d, h.0, h.1))
