-- The sum that the lister prints of a block, which a number says was written.
use Rattle.std.specs.Prelude.{List, [], ℕ}
use Rattle.card_log.specs.promises.Location.{content_at}
use Rattle.listing.specs.Listing.{sum_of}

-- the sum of the bytes on the card that a number says
abbrev pub sum_at : List ℕ → ℕ → ℕ
sum_at c d = sum_of (content_at c [] [] d)
