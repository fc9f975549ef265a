-- The entry's fields are those of its change. Assumes nothing.
use Rattle.inspect.proofs.Overlaying.{member-race, member-change}
use Rattle.inspect.proofs.journal.act_entry.Goals as goal

pub number_of-requires : goal.number_of-requires
number_of-requires c = (c.requires.2, rw c.fields_of-f.ensures (member-race c.args.e c.requires.0))

pub returns : goal.returns
returns c =
    let f = c.fields_of-f in
    let w = rw f.ensures at c.number_of.ensures in
    rw (w, (member-change c.args.e c.args.location c.requires.1 c.requires.0).0) at (rw f.ensures at c.act.ensures)
