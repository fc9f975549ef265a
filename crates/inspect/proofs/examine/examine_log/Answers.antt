-- A fault refuses the card; else the clauses behind the log are asked. Assumes nothing.
use Rattle.lists.specs.promises.Tables.{tables_in}
use Rattle.disk.specs.Record.{record_in}
use Rattle.inspect.proofs.Examining.{settle-asked, faulty, unsettled, settled-queue}
use Rattle.inspect.proofs.examine.examine_log.Goals as goal

pub returns-in_default : goal.returns-in_default
returns-in_default c = λ j. faulty _ _ j _ c.requires.0 0 _ _ (tables_in c.walk.new.nodes) (rw c.in_default.is at c.walk.ensures)

pub settle-settled-requires : goal.settle-settled-requires
settle-settled-requires c = settle-asked _ _ (record_in c.args.rec.now) _ _ _ c.requires c.in-Sound.ensures

pub returns-in_err-ask : goal.returns-in_err-ask
returns-in_err-ask c = λ j.
    unsettled _ _ j _ c.requires.0 _ _ _ c.in-Sound.ensures 0 _ _ c.settle-settled.ensures.answer c.in_err-ask.ensures.1 _ _ c.from_residual.ensures.1 c.in_err-ask.ensures.0

pub returns : goal.returns
returns c = λ j. settled-queue _ _ j _ c.requires.0 _ _ _ c.in-Sound.ensures _ _ c.settle-settled.ensures c.in_ok-ask.ensures
