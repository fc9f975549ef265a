-- The places that code meets and stores at, and what its answer for an entry's place stands for.
use Rattle.std.specs.Prelude.{◌≡◌, true, List, ℕ, ◌*◌, ◌≤◌, ◌<◌, length}
use Rattle.std.proofs.Math.Option.{Option, none, some}
use Rattle.card_log.specs.declared.place.Place.{Place}
use Rattle.card_log.specs.declared.place.Home.{Home}
use Rattle.card_log.specs.declared.place.Home.TheVariants.{At, Full}
use Rattle.card_log.specs.Entry.{Entry}
use Rattle.card_log.specs.Card.{Written, slot_count, entry_bytes, segments_in}
use Rattle.card_log.specs.Store.{fits, entry_stores}

-- A place holds no more than a segment does, and each entry has two bytes or more.
pub record Within (p : Place) : Type 0 where
  pub entries : 2 * p.entries ≤ p.bytes
  pub bytes : p.bytes ≤ entry_bytes
  pub slots : p.slots ≤ slot_count

-- What store n of an entry asks for: a place on the card with room for the entry, and that there is such a store.
pub record Storable (c : List ℕ) (p : Place) (e : Entry Written) (n : ℕ) : Type 0 where
  pub within : Within p
  pub room : fits p e ≡ true
  pub inside : p.segment < segments_in c
  pub left : n < length (entry_stores p e)

unfoldable pub as_place : Home → Option Place
as_place (At p) = some p
as_place Full = none
