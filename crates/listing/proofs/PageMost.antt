-- The most bytes of a page: 16 lists and 64 blocks make 21 lines at most, and some state has as many.
use mathlib.Core.Path.{◌≡◌, refl, ◌∙◌}
use mathlib.Core.Bool.{Bool, true, false, cond}
use mathlib.Core.Option.{none}
use mathlib.Core.List.{List, [], ◌∷◌}
use Prim.Native.Nat.{ℕ, zero, suc, ◌+◌, ◌*◌, ◌≤◌}
use native.Mathlib.Omega.{arith}
use lib.ListN.{length, length-append}
use Rattle.lists.specs.Basic.{from, joined}
use Rattle.lists.specs.State.{Row, block, row, taken}
use Rattle.lists.specs.Lookup.{blocks_of}
use Rattle.lists.proofs.Basic.{from-length}
use Rattle.lists.proofs.Count.{total}
use Rattle.lists.proofs.Numbers.{blocks_in, blocks-looked}
use Rattle.listing.specs.Page.{page_line, line_count, list_page, page_lines, page_text, page_most}
use Rattle.listing.proofs.Pages.{page-length}

module _ {D : Type 0} (rs : List (Row D)) where
  -- eleven blocks to a line, and a line that may have fewer
  list-most : (l : ℕ) → 11 * length (list_page rs l) ≤ length (blocks_of rs l) + 11
  unfolding list_page line_count
  list-most l = go (taken l rs)
    where
      go : (b : Bool) → 11 * length (cond b (from (page_line l (blocks_of rs l)) 0 (line_count (length (blocks_of rs l)))) []) ≤ length (blocks_of rs l) + 11
      go true = omega (arith, from-length (page_line l (blocks_of rs l)) 0 (line_count (length (blocks_of rs l))))
      go false = omega arith

  lines-most : (k n : ℕ) → 11 * length (joined (from (list_page rs) k n)) ≤ total (λ l. length (blocks_of rs l)) (from (λ l. l) k n) + 11 * n
  unfolding joined from
  lines-most k zero = omega arith
  lines-most k (suc n) = omega (arith, length-append (list_page rs k) (joined (from (list_page rs) (suc k) n)), list-most k, lines-most (suc k) n)

  pub page-most : blocks_in rs ≤ 64 → length (page_text rs) ≤ page_most
  unfolding page_lines
  page-most h = omega (arith, page-length rs, lines-most 1 16, blocks-looked 1 16 rs)

-- All blocks on the first list, and 15 lists empty: its page has as many bytes.
pub full : List (Row ℕ)
unfolding from
full = row 1 (from (λ b. block b none) 1 64) ∷ from (λ l. row l []) 2 15

pub page-full : length (page_text full) ≡ page_most
unfolding full page_lines list_page line_count joined from taken blocks_of
page-full = page-length full ∙ refl
