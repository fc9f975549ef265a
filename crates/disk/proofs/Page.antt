-- An accepted page stands at the front of the buffer; how long it is at most, and that a buffer of so many bytes is never too short.
use mathlib.Core.Path.{◌≡◌, refl, ap}
use mathlib.Core.List.{List, ◌++◌}
use Prim.Native.Nat.{ℕ, zero, suc, ◌≤◌}
use native.Mathlib.Omega.{arith}
use lib.ListN.{length, drop, length-append, length-drop}
use lib.Seq.{take_at, drop_at}
use Rattle.lists.proofs.Basic.{leb-true, le-true}
use Rattle.lists.proofs.Numbers.{blocks-few}
use Rattle.listing.specs.Page.{page_text}
use Rattle.listing.proofs.PageMost.{page-most}
use Rattle.disk.specs.Disk.{view}
use Rattle.disk.specs.Call.{page, in_view, lent_to, destination}
use Rattle.disk.specs.Questions.{look_questions, questions, ask, first_no, refusal}
use Rattle.disk.specs.Perform.{Result, found, accepted, perform}
use Rattle.disk.specs.Statements.{Fills, PageFills, PageRefused, PageBounded}
use Rattle.disk.proofs.Questions.{yes-all}
use Rattle.disk.proofs.Clauses.{right}
use Rattle.disk.proofs.Performing.{perform-accepted, perform-refused}
use Rattle.disk.proofs.Inventory.{view-listed}
use Rattle.disk.proofs.Ranges.{unplaced}

text-fills : (t x : List ℕ) → length t ≤ length x → Fills t (length t) x (t ++ drop (length t) x)
text-fills t x h = record {
  many = refl;
  first = take_at t (drop (length t) x) (length t) refl;
  others = drop_at t (drop (length t) x) (length t) refl;
  size = omega (arith, length-append t (drop (length t) x), length-drop (length t) x);
}

pub page-fills : PageFills
unfolding questions look_questions accepted found
page-fills v x d h =
    let y = yes-all (in_view v (page x)) d h in
    let t = page_text (view d v).lists in
    rw (perform-accepted (in_view v (page x)) d h) (text-fills t x (leb-true (length t) (length x) (y 3)))

pub page-refused : PageRefused
unfolding destination lent_to
page-refused v x d h = go (refusal (in_view v (page x)) d) refl
  where
    go : (n : ℕ) → refusal (in_view v (page x)) d ≡ n → (perform (in_view v (page x)) d).lent ≡ x
    go zero e = absurd (h e)
    go (suc m) e = ap (λ (r : Result). r.lent) (perform-refused (in_view v (page x)) d m e)

pub page-bounded : PageBounded
unfolding refusal questions look_questions first_no ask
page-bounded v d l s o =
    let k = right d l s in
    let rs = (view d v).lists in
    let most = page-most rs (blocks-few 64 rs (view-listed d k v o).distinct (λ b f. unplaced b f d k v o)) in
    (most, λ x h. rw (l, s, o, le-true (length (page_text rs)) (length x) (omega arith)))
