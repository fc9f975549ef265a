-- The first line, the lists and the blocks, one after the other. Assumes nothing.
use Rattle.text.proofs.Writing.{puts-more}
use Rattle.listing.proofs.state_lines.put_state.Goals as goal

pub returns-clause-of_shown : goal.returns-clause-of_shown
returns-clause-of_shown c = λ rs w.
    puts-more (puts-more c.put_head-position.ensures (c.put_lists-position.ensures.of_shown rs w)) (c.put_blocks.ensures.of_shown rs w)
