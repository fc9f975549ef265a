-- The commands are the events of demand 3: a call, on what is lent (`call-event`); where all is lent, a cut between calls (`cut-event`), inside a flush
-- (`flush-event`) or inside a formatting (`format-event`), which leaves 165 in each byte of the rest, and so a record that is not sound (`lost-unsound`).
use mathlib.Core.Path.{◌≡◌, refl, sym, ap, ◌∙◌}
use mathlib.Core.Bool.{Bool, false, and-false}
use mathlib.Core.List.{List, [], ◌++◌, append-nil}
use Prim.Native.Nat.{ℕ, ◌≤◌, min}
use native.Mathlib.Omega.{arith}
use native.Mathlib.Decide.{dec_le}
use native.Mathlib.Nat.{zero-add}
use lib.ListN.{length, take, drop, drop_of_length-le}
use lib.Seq.{take_all}
use Rattle.card_log.specs.Card.{segments_in}
use Rattle.card_log.specs.Store.{Store, do_stores, format_stores}
use Rattle.card_log.proofs.Formatting.{format-length}
use Rattle.lists.specs.Basic.{each}
use Rattle.disk.specs.Record.{record_in, shaped}
use Rattle.disk.specs.Disk.{Disk, disk}
use Rattle.disk.specs.Sound.{record_sound}
use Rattle.disk.specs.Call.{Call, flush}
use Rattle.disk.specs.Questions.{questions}
use Rattle.disk.specs.Perform.{perform, accepted, flushed, formatted, after_flush}
use Rattle.disk.proofs.Questions.{yes-all}
use Rattle.disk.proofs.Clauses.{Right, right}
use Rattle.disk.proofs.Performing.{perform-accepted}
use Rattle.disk.specs.Statements.{todo}
use Rattle.disk.proofs.Sequence.{flush-stored}
use Rattle.crash.specs.Event.{World, step, leaves, part_of, put_back, lend}
use Rattle.crash.specs.Event as E
use Rattle.commands.specs.Shell.{Shell, parts_lent, lent_disk, after_call}
use Rattle.commands.specs.Called.{called}
use Rattle.commands.proofs.Accepted.{code-accepted}
use Rattle.commands.specs.Cut.{Broken, unsound_bytes, unsound_record, lost, cut_off, cut_between, cut_allowance, broken_flush, broken_format, cut_short, cut_flush, cut_format}

abbrev world_of : Shell → Bool → World
world_of s b = record { disk = s.disk; down = b }

pub call-event : (c : Call) (s : Shell) (b : Bool) → (called c s).shell.disk ≡ (step (world_of s b) (E.called c (parts_lent s))).disk
unfolding called after_call lent_disk step
call-event c s b = refl

-- more entries than places
pub lost-unsound : (c : List ℕ) (d : Disk) → record_sound (leaves c (lost d)) ≡ false
unfolding record_sound leaves lost record_in unsound_bytes each
lost-unsound c d = and-false (shaped unsound_record)

pub cut-event : (s : Shell) (b : Bool) → (cut_between s).shell.disk ≡ (step (world_of s b) (E.cut_between (lost s.disk))).disk
unfolding cut_between step
cut-event s b = refl

-- all of the disk is lent
pub record Whole (s : Shell) : Type 0 where
  pub card : s.lent_card ≡ length s.disk.card
  pub queue : s.lent_queue ≡ length s.disk.queue_data
  pub journal : s.lent_journal ≡ length s.disk.journal_data

all-lent : (n : ℕ) (l : List ℕ) → n ≡ length l → take n l ≡ l
all-lent n l e = take_all n l (omega (arith, e))

module _ (s : Shell) (w : Whole s) where
  whole-disk : lent_disk s ≡ s.disk
  unfolding lent_disk lend part_of
  whole-disk i =
      let d = s.disk in
      disk (all-lent s.lent_card d.card w.card i) (all-lent s.lent_queue d.queue_data w.queue i) (all-lent s.lent_journal d.journal_data w.journal i) d.rec

  whole-cut : (c : List ℕ) → (cut_off s c).disk ≡ leaves c (lost s.disk)
  unfolding cut_off put_back
  whole-cut c =
      let l = s.disk.card in
      let e : drop s.lent_card l ≡ [] = drop_of_length-le l {i = s.lent_card} (omega (arith, w.card)) in
      rw (zero-add s.lent_card) (ap (λ (x : List ℕ). leaves x (lost s.disk)) (ap (λ (x : List ℕ). c ++ x) e ∙ append-nil c))

  -- a call broken off where it is accepted
  whole-short : (x : Broken) → x.code ≡ 0 → (cut_short x s).shell.disk ≡ leaves x.card (lost s.disk)
  unfolding cut_short
  whole-short x e = rw e (whole-cut x.card)

-- As many of some stores as there are.
take_min : (k : ℕ) (ss : List Store) → take (min k (length ss)) ss ≡ take k ss
take_min k ss = go (dec_le k (length ss))
  where
    go : Dec (k ≤ length ss) → take (min k (length ss)) ss ≡ take k ss
    go (yes h) = let e : min k (length ss) ≡ k = omega arith in rw e
    go (no h) = let e : min k (length ss) ≡ length ss = omega arith in rw e (take_all (length ss) ss (omega arith) ∙ sym (take_all k ss (omega arith)))

-- a flush with the stores made as its allowance leaves the same card
made_again : (a : ℕ) (d : Disk) → Right d → (flushed a d).flow.card ≡ (flushed (flushed a d).stores d).flow.card
unfolding after_flush
made_again a d k =
    let h = flush-stored a d k in
    let e = flush-stored (flushed a d).stores d k in
    h.card ∙ sym (ap (λ (ss : List Store). do_stores ss d.card) (ap (λ (n : ℕ). take n (todo d)) h.stores ∙ take_min a (todo d))) ∙ sym e.card

flush-cut : (a : ℕ) (d : Disk) → (perform (flush a) d).answer.code ≡ 0 → let r = perform (flush a) d in r.disk.card ≡ (flushed r.answer.value d).flow.card
unfolding accepted after_flush questions
flush-cut a d h =
    let q = code-accepted (flush a) d h in
    let y = yes-all (flush a) d q in
    rw (perform-accepted (flush a) d q) (made_again a d (right d (y 0) (y 1)))

module _ (s : Shell) (b : Bool) (w : Whole s) where
  pub flush-event : (n k : ℕ) → let x = broken_flush n k s.disk in x.code ≡ 0 → (cut_flush n k s).shell.disk ≡ (step (world_of s b) (E.cut_flush n x.stores (lost s.disk))).disk
  unfolding cut_flush broken_flush step
  flush-event n k h =
      ap (λ (d : Disk). (cut_short (broken_flush n k d) s).shell.disk) (whole-disk s w) ∙ whole-short s w (broken_flush n k s.disk) h
      ∙ ap (λ (c : List ℕ). leaves c (lost s.disk)) (flush-cut (cut_allowance n k) s.disk h)

  pub format-event : (k : ℕ) → let x = broken_format k s.disk in x.code ≡ 0 → (cut_format k s).shell.disk ≡ (step (world_of s b) (E.cut_format x.stores (lost s.disk))).disk
  unfolding cut_format broken_format step formatted
  format-event k h =
      let c = s.disk.card in
      let n = segments_in c in
      ap (λ (d : Disk). (cut_short (broken_format k d) s).shell.disk) (whole-disk s w) ∙ whole-short s w (broken_format k s.disk) h
      ∙ ap (λ (ss : List Store). leaves (do_stores ss c) (lost s.disk)) (sym (rw (format-length n) at (take_min k (format_stores n))))
