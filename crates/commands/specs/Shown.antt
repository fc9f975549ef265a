-- What `show` prints of a view, by the look-ups: "for each list in inventory order `list L:` and its blocks as the lister has them, then for each of these
-- blocks, list by list, `block B: HEX`", with its race, and "`block B: unwritten`"; "refused: `A`".
use Rattle.std.specs.Prelude.{true, false, cond, List, [], ◌∷◌, ◌++◌, ℕ, zero, suc, eqb, replicate}
use Rattle.std.proofs.Math.Seq.{slice}
use Rattle.text.specs.Each.{each_of}
use Rattle.disk.specs.Disk.{Disk}
use Rattle.disk.specs.Call.{read_block, block_after, inventory, in_view}
use Rattle.disk.specs.Perform.{perform}
use Rattle.listing.specs.Listing.{list_line}
use Rattle.script.specs.Lines.{number_line, block_line, unwritten_line}

module _ (d : Disk) (v : ℕ) where
  -- the block behind another on a list, 0 if there is none
  unfoldable pub block_behind : ℕ → ℕ → ℕ
  block_behind l p = (perform (in_view v (block_after l p)) d).answer.value

  -- a list's blocks from b on, at most n
  unfoldable pub blocks_from : ℕ → ℕ → ℕ → List ℕ
  blocks_from l zero b = []
  blocks_from l (suc n) b = elim (eqb b 0) [ true ↦ [] | false ↦ b ∷ blocks_from l n (block_behind l b) ]

  -- its blocks; a view has at most 64
  unfoldable pub blocks_on : ℕ → List ℕ
  blocks_on l = blocks_from l 64 (block_behind l 0)

  unfoldable pub list_shown : ℕ → List ℕ
  list_shown l = list_line l (blocks_on l)

  -- a block on a list of the view: a reading is refused only where it is unwritten
  unfoldable pub block_shown : ℕ → List ℕ
  block_shown b =
      let r = perform (in_view v (read_block b (replicate 256 0))) d in
      cond (eqb r.answer.code 0) (block_line b r.lent r.answer.value) (unwritten_line b)

  abbrev pub blocks_shown : List ℕ → List ℕ
  blocks_shown bs = each_of block_shown bs

  unfoldable pub contents_on : ℕ → List ℕ
  contents_on l = blocks_shown (blocks_on l)

  abbrev pub lists_shown : List ℕ → List ℕ
  lists_shown ls = each_of list_shown ls

  abbrev pub contents_shown : List ℕ → List ℕ
  contents_shown ls = each_of contents_on ls

  unfoldable pub view_shown : List ℕ → List ℕ
  view_shown ls = lists_shown ls ++ contents_shown ls

unfoldable pub shown : ℕ → Disk → List ℕ
shown v d =
    let r = perform (in_view v (inventory (replicate 16 0))) d in
    cond (eqb r.answer.code 0) (view_shown d v (slice 0 r.answer.value r.lent)) (number_line r.answer.code)
