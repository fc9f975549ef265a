-- The tables act as the member that is recalled says. Assumes nothing.
use Rattle.lists.proofs.Represents.{did-apply}
use Rattle.card_log.proofs.feed.act_member.Goals as goal

pub returns : goal.returns
returns c = λ d s w h. did-apply d _ _ _ s w.ranged h (rw (c.of_bytes-number.ensures, w.found) at c.act.ensures)
