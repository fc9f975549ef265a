-- The tables as the entry leaves them show the free numbers, and so the order takes the same turn. Assumes nothing.
use Rattle.disk.specs.Record.{record_in}
use Rattle.lists.specs.promises.Tables.{tables_in}
use Rattle.inspect.proofs.Relisting.{relists-change}
use Rattle.inspect.proofs.journal.relist_entry.Goals as goal

pub returns : goal.returns
returns c =
    let s = c.args in
    relists-change s.e s.location c.last_free-last.result (tables_in s.nodes.now) (record_in s.rec.now) c.act_entry.result _ _ c.requires.2 c.requires.1
    c.last_free-last.ensures c.act_entry.ensures c.relist.ensures.0 c.relist.ensures.1
