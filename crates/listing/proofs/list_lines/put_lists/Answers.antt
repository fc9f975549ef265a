-- The line of each list taken. Assumes nothing.
use Rattle.listing.specs.Listing.{list_line, list_lines, list_part}
use Rattle.listing.specs.promises.Taken.{of_taken}
use Rattle.listing.proofs.list_lines.put_lists.Goals as goal

pub returns-clause-of_shown : goal.returns-clause-of_shown
unfolding list_lines list_part of_taken
returns-clause-of_shown c = c.put_taken.ensures.of_shown list_line (λ out at l bs r left h. h)
