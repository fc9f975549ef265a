-- What reading a card answers, and what it leaves in lent tables.
use Rattle.std.specs.Prelude.{◌≡◌, Bool, true, false, ◌&&◌, List, [], ℕ, leb, Result, Ok, Err}
use Rattle.lists.specs.State.{State, map_state}
use Rattle.lists.specs.promises.Tables.{Tables, ShowsAll}
use Rattle.card_log.specs.Reader.{Reader}
use Rattle.card_log.specs.Card.{Written, card_length, segments_in, sound, fault, mounted}
use Rattle.card_log.specs.promises.Location.{content_at}
use Rattle.answers.specs.declared.Refusal.{Refusal}
use Rattle.answers.specs.declared.Refusal.TheVariants.{WrongLength, LogFault}

-- is it a card, of n segments at most?
unfoldable pub fits : ℕ → List ℕ → Bool
fits n c = card_length c && leb (segments_in c) n

-- the tables show the state of the card: in their terms it has numbers that say what was written, where it stands on the card
pub record Shown (c : List ℕ) (t : Tables) : Type 0 where
  pub reader : Reader Written
  pub walked : mounted c ≡ sound reader
  pub here : State ℕ
  pub shows : ShowsAll t here
  pub means : reader.state ≡ map_state (content_at c [] []) here

-- why it has none
abbrev pub Refuses : ℕ → List ℕ → Refusal → Type 0
Refuses n c WrongLength = fits n c ≡ false
Refuses n c LogFault = (fits n c ≡ true) × (g : ℕ) × (i : ℕ) × (mounted c ≡ fault g i)
Refuses n c _ = ⊥

abbrev pub Reads : ℕ → List ℕ → Result (Unit {0}) Refusal → Tables → Type 0
Reads n c (Ok _) t = (fits n c ≡ true) × Shown c t
Reads n c (Err x) t = Refuses n c x
