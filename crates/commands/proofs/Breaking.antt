-- A call broken off on the first bytes of a card: what the shell is then.
use mathlib.Core.Path.{◌≡◌, refl, sym, ap, ◌∙◌}
use mathlib.Core.Bool.{true, false}
use mathlib.Core.List.{List, ◌++◌}
use Prim.Native.Nat.{ℕ, zero, suc, min}
use lib.ListN.{length, take, drop, replicate, take-append-drop}
use lib.Seq.{slice}
use Rattle.lists.proofs.Basic.{eqb-false}
use Rattle.card_log.specs.Card.{segments_in}
use Rattle.answers.specs.declared.Refusal.{Refusal}
use Rattle.answers.specs.declared.Refusal.TheVariants.{WrongLength}
use Rattle.std.specs.Prelude.{Ok, Err}
use Rattle.std.specs.Prelude as P
use Rattle.disk.specs.Disk.{Disk, disk_in}
use Rattle.disk.specs.Sound.{lengths_right}
use Rattle.disk.specs.Call.{flush, ends}
use Rattle.disk.specs.Questions.{questions, ask, first_no, refusal}
use Rattle.disk.specs.Perform.{Result, refused, formatted}
use Rattle.answers.specs.Answers.{number, accepted_answer, refused_answer}
use Rattle.disk.proofs.Performing.{perform-accepted, perform-refused, accepted-code}
use Rattle.calls.specs.Performs.{Performs}
use Rattle.inspect.proofs.Asking.{number-nonzero}
use Rattle.crash.specs.Event.{leaves}
use Rattle.text.proofs.Lines.{take-least}
use Rattle.commands.specs.declared.state.State.{State}
use Rattle.commands.specs.declared.state.Ran.{Ran}
use Rattle.commands.specs.Shell.{shell_of, with_disk, lent_disk}
use Rattle.commands.specs.Cut.{unsound_bytes, lost, cut_off, cut_allowance, Broken, broken_flush, broken_format, cut_short, Breaks, Loses}
use Rattle.commands.specs.Ran.{Fits, Runs}
use Rattle.commands.proofs.Lending.{lent-disk, card-back, card-behind, fits-back}

-- A refused flush stores nothing.
flush-unstored : (a : ℕ) (d d' : Disk) (x : Refusal) (y : List ℕ) → Performs (flush a) d d' (refused_answer x) y → d.card ≡ d'.card
unfolding refused ends
flush-unstored a d d' x y h = go (refusal (flush a) d) refl
  where
    go : (n : ℕ) → refusal (flush a) d ≡ n → d.card ≡ d'.card
    go zero e =
        absurd (number-nonzero x (ap (λ (r : Result). r.answer.code) (sym h ∙ perform-accepted (flush a) d e) ∙ accepted-code (flush a) d))
    go (suc m) e = ap (λ (r : Result). r.disk.card) (sym (perform-refused (flush a) d m e) ∙ h)

module _ (n k : ℕ) (d d' : Disk) (y : List ℕ) where
  pub flush-broken : (i j : ℕ) → Performs (flush (cut_allowance n k)) d d' (accepted_answer i j) y → Breaks (broken_flush n k d) d.card d'.card (Ok i)
  unfolding Breaks broken_flush
  flush-broken i j h = (ap (λ (r : Result). r.answer.code) h, ap (λ (r : Result). r.answer.value) h, ap (λ (r : Result). r.disk.card) h)

  pub flush-not-broken : (x : Refusal) → Performs (flush (cut_allowance n k)) d d' (refused_answer x) y → Breaks (broken_flush n k d) d.card d'.card (Err x)
  unfolding Breaks broken_flush
  flush-not-broken x h = (ap (λ (r : Result). r.answer.code) h, flush-unstored (cut_allowance n k) d d' x y h)

module _ (k : ℕ) (d : Disk) where
  pub format-broken : lengths_right d ≡ true → (i : ℕ) → i ≡ min k (segments_in d.card) → (c : List ℕ) → c ≡ formatted k d.card
      → Breaks (broken_format k d) d.card c (Ok i)
  unfolding Breaks broken_format refusal questions first_no ask
  format-broken h i e c f = (rw h, sym e, sym f)

  pub format-not-broken : lengths_right d ≡ false → Breaks (broken_format k d) d.card d.card (Err WrongLength)
  unfolding Breaks broken_format refusal questions first_no ask number
  format-not-broken h = (rw h, refl)

-- The lent bytes of the card are the first n of a longer buffer.
module _ (c : List ℕ) (s : State) (f : Fits c s) (n : ℕ) (many : n ≡ min (min s.card s.size) (length c)) where
  pub disk-lent : (q j : List ℕ) → lent_disk (shell_of c q j s) ≡ disk_in (take n c) (slice 0 s.queue q) (slice 0 s.journal j) s.rec
  disk-lent q j = lent-disk c q j s ∙ rw (many, take-least (min s.card s.size) c)

  module _ (x : List ℕ) (e : length x ≡ length (take n c)) where
    -- the buffers and the state that are left are those of the definition
    module _ (b : Broken) (q j out : List ℕ) (at : ℕ) (q' j' out' : List ℕ) (r : Ran) where
      abbrev Cuts : Type 0
      Cuts = Runs (cut_short b (shell_of c q j s)) c out at (x ++ drop n c) q' j' out' r

      cut-made : (k : ℕ) → Breaks b (take n c) x (Ok k) → Loses (Ok k) q j s out at q' j' out' r → Cuts
      unfolding Breaks Loses cut_short cut_off leaves lost
      cut-made k (h, m, z) (t, u, v, p) =
          rw (h, m, z, t, u, v) (record {
            shell = ap (λ (y : List ℕ). with_disk (shell_of c q j s) (disk_in y (replicate (length q) 165) (replicate (length j) 165) unsound_bytes)) (card-back c s f n many x e);
            text = p;
            behind = card-behind c s f n many x e;
            fits = let g = fits-back c s f n many x e in record { longest = g.longest; whole = g.whole };
          })

      cut-refused : (y : Refusal) → Breaks b (take n c) x (Err y) → Loses (Err y) q j s out at q' j' out' r → Cuts
      unfolding Breaks Loses cut_short
      cut-refused y (h, w) (t, u, v, p) =
          let same : x ++ drop n c ≡ c = ap (λ (l : List ℕ). l ++ drop n c) (sym w) ∙ take-append-drop n c in
          rw (h, eqb-false (number y) 0 (number-nonzero y), same) (record {
            shell = rw (t, ← u, ← v);
            text = p;
            behind = refl;
            fits = rw t f;
          })

      pub broken-runs : (y : P.Result ℕ Refusal) → Breaks b (take n c) x y → Loses y q j s out at q' j' out' r → Cuts
      broken-runs (Ok k) h l = cut-made k h l
      broken-runs (Err y) h l = cut-refused y h l
