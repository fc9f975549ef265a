-- The two ways of the definition. Assumes nothing.
use Rattle.card_log.proofs.walk.go.Goals as goal

pub returns-then-accepted : goal.returns-then-accepted
returns-then-accepted c = rw c.if-accepted.true

pub returns-else-accepted : goal.returns-else-accepted
returns-else-accepted c = rw c.if-accepted.false
