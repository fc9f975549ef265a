-- By what reading the card answers. Assumes nothing.
use Rattle.lists.proofs.Lookup.{lists-shown}
use Rattle.listing.proofs.Contents.{listing-refused, listing-shown}
use Rattle.listing.proofs.listing.Goals as goal

pub returns-in-Ok : goal.returns-in-Ok
returns-in-Ok c =
    let (fits, s) = c.in-Ok.ensures in
    rw (listing-shown _ _ fits s) (c.put_state.ensures.of_shown s.here.lists (lists-shown _ s.here s.shows))

pub returns-in-Err : goal.returns-in-Err
returns-in-Err c = rw (listing-refused _ _ c.in-Err.ensures) c.put_refusal.ensures
