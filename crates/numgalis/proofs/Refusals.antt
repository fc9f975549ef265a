-- A promise whose number is not 0 is that of a refusal: it leaves what the definition of a refusal leaves, and its bytes.
use mathlib.Core.Path.{◌≡◌, refl, sym, ap, ◌∙◌}
use mathlib.Core.Logic.{◌≢◌}
use mathlib.Core.List.{List}
use Prim.Native.Nat.{ℕ, zero, suc}
use Rattle.lists.proofs.Basic.{eqb-false}
use Rattle.disk.specs.Disk.{Disk, disk_in}
use Rattle.disk.specs.Call.{Call}
use Rattle.disk.specs.Perform.{Result, refusal_answer, perform}
use Rattle.answers.specs.Answers.{Answer}
use Rattle.disk.specs.Questions.{refusal}
use Rattle.disk.proofs.Performing.{refused_result, perform-accepted, perform-refused, accepted-code, refusal-code}
use Rattle.disk.proofs.Soundness.{refused-same}
use Rattle.disk.proofs.Fixed.{record-fixed}
use Rattle.calls.specs.Performs.{Performs}
use Rattle.numgalis.specs.Border.{told, RefusalWritesNothing, RefusalTellsNothing}

abbrev code_of : Result → ℕ
code_of r = r.answer.code

refused-by : (c : Call) (d d' : Disk) (n v w : ℕ) (x : List ℕ) → Performs c d d' (told n v w) x → n ≢ 0 → perform c d ≡ refused_result c n d
refused-by c d d' n v w x p h = go (refusal c d) refl
  where
    go : (i : ℕ) → refusal c d ≡ i → perform c d ≡ refused_result c n d
    go zero e = absurd (h (sym (ap code_of p) ∙ ap code_of (perform-accepted c d e) ∙ accepted-code c d))
    go (suc i) e =
        let k : suc i ≡ n = sym (ap code_of (perform-refused c d i e) ∙ refusal-code (suc i) d) ∙ ap code_of p in
        perform-refused c d i e ∙ ap (λ (z : ℕ). refused_result c z d) k

pub refusal-writes-nothing : RefusalWritesNothing
refusal-writes-nothing c card q j r card' q' j' r' x n v w l l' b b' p h t =
    let s = sym p ∙ refused-by c (disk_in card q j r) (disk_in card' q' j' r') n v w x p h in
    let e = ap (λ (z : Result). z.disk) s ∙ refused-same c n (disk_in card q j r) t in (
      ap (λ (z : Disk). z.card) e,
      ap (λ (z : Disk). z.queue_data) e,
      ap (λ (z : Disk). z.journal_data) e,
      record-fixed r' r l' l b' b (ap (λ (z : Disk). z.rec) e),
      ap (λ (z : Result). z.lent) s,
    )

plain-refusal : (n : ℕ) (d : Disk) → n ≢ 2 → refusal_answer n d ≡ told n 0 0
unfolding refusal_answer
plain-refusal n d h = rw (eqb-false n 2 h, refusal_answer)

pub refusal-tells-nothing : RefusalTellsNothing
refusal-tells-nothing c card q j r card' q' j' r' x n v w p h t =
    let d = disk_in card q j r in
    let e = ap (λ (z : Result). z.answer) (sym p ∙ refused-by c d (disk_in card' q' j' r') n v w x p h) ∙ plain-refusal n d t in
    (ap (λ (z : Answer). z.value) e, ap (λ (z : Answer). z.second) e)
