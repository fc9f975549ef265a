-- What mounting answers: questions 1 and 2, and for an acceptable card the place behind its log; and what it leaves in lent tables.
use Rattle.std.specs.Prelude.{◌≡◌, true, false, List, [], ℕ}
use Rattle.lists.specs.State.{State, map_state}
use Rattle.lists.specs.promises.Tables.{Tables, ShowsAll}
use Rattle.card_log.specs.Reader.{Reader}
use Rattle.card_log.specs.Card.{Written, card_length, sound, fault, mounted}
use Rattle.card_log.specs.Store.{tail}
use Rattle.card_log.specs.promises.Location.{content_at}
use Rattle.card_log.specs.declared.place.Place.{Place}
use Rattle.card_log.specs.declared.mount.Mounted.{Mounted}
use Rattle.card_log.specs.declared.mount.Mounted.TheVariants.{WrongLength, Fault, Sound}

pub record Acceptable (c : List ℕ) (p : Place) : Type 0 where
  pub right : card_length c ≡ true
  pub place : p ≡ tail c
  pub reader : Reader Written
  pub walked : mounted c ≡ sound reader

abbrev pub Mounts : List ℕ → Mounted → Type 0
Mounts c WrongLength = card_length c ≡ false
Mounts c (Fault g i) = (card_length c ≡ true) × (mounted c ≡ fault g i)
Mounts c (Sound p) = Acceptable c p

-- and the tables show the state mounted: in their terms it has numbers that say what was written, where it stands on the card
pub record AcceptableOn (c : List ℕ) (p : Place) (t : Tables) : Type 0 where
  pub accepts : Acceptable c p
  pub here : State ℕ
  pub shows : ShowsAll t here
  pub means : accepts.reader.state ≡ map_state (content_at c [] []) here

abbrev pub MountsOn : List ℕ → Mounted → Tables → Type 0
MountsOn c WrongLength t = Mounts c WrongLength
MountsOn c (Fault g i) t = Mounts c (Fault g i)
MountsOn c (Sound p) t = AcceptableOn c p t
