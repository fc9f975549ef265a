-- A block out of range is on no list of an open view: no change of a log puts it.
use mathlib.Core.Path.{◌≡◌, refl, sym, ap, ◌∙◌}
use mathlib.Core.Bool.{true, false, ◌&&◌, not, false≢true}
use Prim.Native.Nat.{ℕ}
use lib.Dec.{eqb}
use Rattle.lists.specs.Change.{Change, take_list, put_first, put_after, write, del_block, del_list, map_change}
use Rattle.lists.specs.State.{placed}
use Rattle.lists.proofs.Basic.{and-true, not-false, not-true, eqb-false}
use Rattle.lists.proofs.Count.{puts}
use Rattle.lists.proofs.Placed.{placed-apply}
use Rattle.card_log.specs.Raced.{with_body}
use Rattle.card_log.specs.Entry.{legal_change, is_block, is_list}
use Rattle.card_log.specs.Card.{Written}
use Rattle.disk.specs.Disk.{Disk, view}
use Rattle.disk.specs.Questions.{view_open}
use Rattle.disk.proofs.Clauses.{Right}
use Rattle.disk.proofs.Kept.{view-kept}

module _ (b : ℕ) (far : is_block b ≡ false) where
  other : (n : ℕ) → is_block n ≡ true → not (eqb n b) ≡ true
  other n h = not-true (eqb n b) (eqb-false n b (λ e. absurd (false≢true (sym far ∙ ap is_block (sym e) ∙ h))))

  legal-spares : (k : ℕ) (c : Change Written) → legal_change (map_change (with_body k) c) ≡ true → not (puts c b) ≡ true
  unfolding legal_change map_change
  legal-spares k (take_list l) h = refl
  legal-spares k (put_first n l) h = other n (and-true (is_block n) (is_list l) h).0
  legal-spares k (put_after n l p) h = other n (and-true (is_block n) (is_list l) (and-true (is_block n && is_list l) (is_block p) h).0).0
  legal-spares k (write n x) h = refl
  legal-spares k (del_block n) h = refl
  legal-spares k (del_list l) h = refl

  pub unplaced : (d : Disk) → Right d → (v : ℕ) → view_open d v ≡ true → placed b (view d v).lists ≡ false
  unfolding placed
  unplaced d k v h =
      view-kept (λ s. placed b s.lists ≡ false) (λ c. not (puts c b)) refl legal-spares
      (λ c s t p e q. placed-apply c s t b (not-false (puts c b) p) q e) d k v h
