-- The page of a card, by what reading it answers.
use mathlib.Core.Path.{◌≡◌, sym, ap, ◌∙◌}
use mathlib.Core.Bool.{true}
use mathlib.Core.List.{List, []}
use Prim.Native.Nat.{ℕ}
use Rattle.lists.specs.State.{State}
use Rattle.lists.specs.promises.Tables.{Tables}
use Rattle.card_log.specs.Card.{Written}
use Rattle.card_log.specs.promises.Location.{content_at}
use Rattle.answers.specs.Answers.{number}
use Rattle.answers.specs.declared.Refusal.{Refusal}
use Rattle.answers.specs.declared.Refusal.TheVariants.{WrongLength, LogFault}
use Rattle.listing.specs.Listing.{refusal_line}
use Rattle.listing.specs.Page.{page_text, outcome_page, card_page}
use Rattle.listing.specs.promises.Reading.{fits, Refuses, Shown}
use Rattle.listing.proofs.Pages.{page-map}
use Rattle.listing.proofs.Reading.{fits-card}

module _ (c : List ℕ) where
  pub card-refused : (x : Refusal) → Refuses 64 c x → card_page c ≡ refusal_line (number x)
  unfolding card_page outcome_page number
  card-refused WrongLength h = rw (sym (fits-card c) ∙ h)
  card-refused LogFault (h, g, i, e) = rw (sym (fits-card c) ∙ h, e)
  card-refused _ h = absurd h

  pub card-shown : (t : Tables) → fits 64 c ≡ true → (s : Shown c t) → card_page c ≡ page_text s.here.lists
  unfolding card_page outcome_page
  card-shown t h s =
      rw (sym (fits-card c) ∙ h, s.walked)
      (ap (λ (x : State Written). page_text x.lists) s.means ∙ page-map (content_at c [] []) s.here.lists)
