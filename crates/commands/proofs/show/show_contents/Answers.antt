-- The blocks gathered are the list's. Assumes nothing.
use mathlib.Core.Path.{◌∙◌}
use Rattle.commands.specs.Viewed.{disk_of}
use Rattle.commands.specs.Shown.{block_shown, contents_on}
use Rattle.commands.proofs.show.show_contents.Goals as goal

pub returns : goal.returns
unfolding contents_on
returns c =
    let v = c.args.v in
    rw (c.part.ensures ∙ c.gather-n.ensures) at (c.put_each.ensures (block_shown (disk_of v) v.number) (λ o o' p x r h. h))
