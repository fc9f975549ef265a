-- The lines of each list taken. Assumes nothing.
use Rattle.listing.proofs.Pages.{page-taken, page_part}
use Rattle.listing.proofs.page.put_page.Goals as goal

pub returns-clause-of_shown : goal.returns-clause-of_shown
returns-clause-of_shown c = λ rs w. rw (page-taken rs) (c.put_taken.ensures.of_shown page_part (λ out at l bs r left h. h) rs w)
