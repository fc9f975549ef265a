-- A blank, then the digits. Assumes nothing.
use Rattle.text.proofs.Writing.{puts-more}
use Rattle.listing.proofs.Lines.{numbers-one}
use Rattle.listing.proofs.list_lines.put_number.Goals as goal

pub returns : goal.returns
returns c =
    rw (numbers-one c.args.block) (puts-more c.put_byte-position.ensures (rw c.from.ensures at c.put_decimal.ensures))
