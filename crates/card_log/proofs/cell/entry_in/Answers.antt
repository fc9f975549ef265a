-- A commit by its whole map, any other entry by its map without the mark. Assumes nothing.
use borrow.Author.Tests.{ne_eqb}
use Rattle.card_log.specs.Cell.{entry_in}
use Rattle.card_log.proofs.cell.entry_in.Goals as goal

pub returns-then-map-eq-COMMIT : goal.returns-then-map-eq-COMMIT
unfolding entry_in
returns-then-map-eq-COMMIT c = rw c.if-map-eq-COMMIT.true

pub returns : goal.returns
unfolding entry_in
returns c = rw (ne_eqb c.args.map 16 c.if-map-eq-COMMIT.false) c.kind_in.ensures
