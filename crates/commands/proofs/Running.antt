-- What each command leaves, as the buffers and the state in code have it.
use mathlib.Core.Path.{◌≡◌, refl, sym, ap, subst, ◌∙◌}
use mathlib.Core.List.{List, [], ◌∷◌, ◌++◌}
use Prim.Native.Nat.{ℕ, ◌%◌, ◌≤◌, ◌<◌, min}
use native.Mathlib.Omega.{arith}
use borrow.Author.Tests.{lt-ltb, le-ltb}
use lib.ListN.{length, take, drop, set, replicate, length-replicate, length-set}
use lib.Seq.{length-take-le, take_at, take-set-lt, drop-set-lt}
use Rattle.disk.specs.Disk.{Disk, disk_in}
use Rattle.disk.specs.Call.{Call}
use Rattle.disk.specs.Perform.{perform}
use Rattle.crash.specs.Event.{give_back, leaves}
use Rattle.text.specs.Written.{Puts}
use Rattle.text.proofs.Lines.{take-least}
use Rattle.script.specs.Spelling.{bytes}
use Rattle.commands.specs.declared.state.State.{State}
use Rattle.commands.specs.declared.state.Ran.{Ran}
use Rattle.commands.specs.Shell.{Printed, shell_of, lent_disk, after_call}
use Rattle.commands.specs.Called.{called, Calls}
use Rattle.commands.specs.Cut.{unsound_bytes, lost, cut_between}
use Rattle.commands.specs.Ran.{longest_card, ok, unknown, inserted, poked, Fits, Runs}
use Rattle.commands.proofs.Lending.{replaced-behind, replaced-length, lent-disk, card-back, card-behind, fits-back, buffer-back}

-- a command that leaves these buffers and this state
pub runs : {c out c' q' j' out' : List ℕ} {at : ℕ} (p : Printed) (s : State) (r : Ran) → r.state ≡ s → Fits c' s → drop s.size c' ≡ drop s.size c
    → shell_of c' q' j' s ≡ p.shell → Puts out at p.text out' r.at → Runs p c out at c' q' j' out' r
runs {c} {c' = c'} {q'} {j'} p s r k f b e t = record {
  shell = ap (shell_of c' q' j') k ∙ e;
  text = t;
  behind = subst (λ (x : State). drop x.size c' ≡ drop x.size c) (sym k) b;
  fits = subst (Fits c') (sym k) f;
}

-- a call on what is lent
module _ (c q j : List ℕ) (s : State) (f : Fits c s) (u v w r : List ℕ) where
  abbrev card_lent : ℕ
  card_lent = min (min s.card s.size) (length c)

  abbrev queue_lent : ℕ
  queue_lent = min s.queue (length q)

  abbrev journal_lent : ℕ
  journal_lent = min s.journal (length j)

  abbrev after : State
  after = record { rec = r; size = s.size; card = s.card; queue = s.queue; journal = s.journal }

  lent-whole : disk_in (take card_lent c) (take queue_lent q) (take journal_lent j) s.rec ≡ lent_disk (shell_of c q j s)
  lent-whole = rw (take-least (min s.card s.size) c, take-least s.queue q, take-least s.journal j) (sym (lent-disk c q j s))

  pub lent_runs : {out out' : List ℕ} {at : ℕ} (x : Call) (a : Ran) → length u ≡ length (take card_lent c) → a.state ≡ after
      → Calls x (disk_in (take card_lent c) (take queue_lent q) (take journal_lent j) s.rec) (disk_in u v w r) out at out' a.at
      → Runs (called x (shell_of c q j s)) c out at (u ++ drop card_lent c) (v ++ drop queue_lent q) (w ++ drop journal_lent j) out' a
  unfolding called after_call give_back
  lent_runs x a e k t =
      let g = fits-back c s f card_lent refl u e in
      let back : disk_in u v w r ≡ (perform x (lent_disk (shell_of c q j s))).disk = t.left ∙ ap (λ (d : Disk). (perform x d).disk) lent-whole in
      runs (called x (shell_of c q j s)) after a k
      (record { longest = g.longest; whole = g.whole })
      (card-behind c s f card_lent refl u e)
      (rw (card-back c s f card_lent refl u e, buffer-back s.queue q v, buffer-back s.journal j w) (ap (after_call (shell_of c q j s)) back))
      (rw lent-whole at t.text)

-- another card
pub inserted-runs : (n b : ℕ) (c q j : List ℕ) (s : State) {out out' : List ℕ} {at : ℕ} (r : Ran) → longest_card ≤ length c
    → r.state ≡ record { rec = unsound_bytes; size = min n longest_card; card = min n longest_card; queue = 8192; journal = 15360 } → Puts out at (bytes "ok" ++ 10 ∷ []) out' r.at
    → Runs (ok (inserted n b (shell_of c q j s))) c out at (replicate (min n longest_card) (b % 256) ++ drop (min n longest_card) c) (replicate (length q) 165) (replicate (length j) 165) out' r
unfolding inserted lost leaves
inserted-runs n b c q j s r h k t =
    let m : ℕ = min n longest_card in
    let x : List ℕ = replicate m (b % 256) in
    let e : length x ≡ m = length-replicate m (b % 256) in
    let g = replaced-length m m c x (omega arith) (omega arith) e in
    runs (ok (inserted n b (shell_of c q j s))) _ r k
    (record { longest = rw g h; whole = rw g (omega arith) })
    (replaced-behind m m c x (omega arith) (omega arith) e)
    (rw (take_at x (drop m c) m e, e))
    t

-- a power cut between calls
pub cut-runs : (c q j : List ℕ) (s : State) {out out' : List ℕ} {at : ℕ} (r : Ran) → Fits c s
    → r.state ≡ record { rec = unsound_bytes; size = s.size; card = s.card; queue = s.queue; journal = s.journal } → Puts out at (bytes "cut" ++ 10 ∷ []) out' r.at
    → Runs (cut_between (shell_of c q j s)) c out at c (replicate (length q) 165) (replicate (length j) 165) out' r
unfolding cut_between lost leaves
cut-runs c q j s r f k t = runs (cut_between (shell_of c q j s)) _ r k (record { longest = f.longest; whole = f.whole }) refl refl t

-- a byte of the card
module _ (a b : ℕ) (c q j : List ℕ) (s : State) {out out' : List ℕ} {at : ℕ} (r : Ran) (f : Fits c s) (k : r.state ≡ s) where
  pub poked-inside : a < s.size → Puts out at (bytes "ok" ++ 10 ∷ []) out' r.at
      → Runs (poked a b (shell_of c q j s)) c out at (set c a (b % 256)) q j out' r
  unfolding poked
  poked-inside h t =
      rw (length-take-le s.size c f.whole, lt-ltb a s.size h, poked)
      (runs (ok _) s r k
      (record { longest = rw (length-set c a (b % 256)) f.longest; whole = rw (length-set c a (b % 256)) f.whole })
      (drop-set-lt s.size c a (b % 256) (omega arith))
      (rw (take-set-lt s.size c a (b % 256) (omega arith)))
      t)

  pub poked-outside : s.size ≤ a → Puts out at (bytes "?" ++ 10 ∷ []) out' r.at
      → Runs (poked a b (shell_of c q j s)) c out at c q j out' r
  unfolding poked
  poked-outside h t = rw (length-take-le s.size c f.whole, le-ltb a s.size h, poked) (runs (unknown _) s r k f refl refl t)
