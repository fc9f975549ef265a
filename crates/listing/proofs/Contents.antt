-- The text of a card says the same by contents as by their locations.
use mathlib.Core.Path.{◌≡◌, refl, sym, ap, ap₂, ◌∙◌}
use mathlib.Core.Bool.{true}
use mathlib.Core.Option
use mathlib.Core.Option.{Option, none, some}
use mathlib.Core.List.{List, [], ◌++◌, map}
use Prim.Native.Nat.{ℕ, ◌+◌}
use Rattle.lists.specs.Basic.{joined}
use Rattle.lists.specs.State.{Row, map_row}
use Rattle.lists.specs.Lookup.{content_of}
use Rattle.lists.proofs.Basic.{from-shift}
use Rattle.lists.proofs.Naturality.{taken-map, placed-map, blocks_of-map, content_of-map}
use Rattle.lists.specs.promises.Tables.{Tables}
use Rattle.card_log.specs.promises.Location.{content_at}
use Rattle.answers.specs.Answers.{number}
use Rattle.answers.specs.declared.Refusal.{Refusal}
use Rattle.answers.specs.declared.Refusal.TheVariants.{WrongLength, LogFault}
use Rattle.listing.specs.promises.Reading.{fits, Refuses, Shown}
use Rattle.listing.proofs.Reading.{fits-listable}
use Rattle.listing.specs.Listing.{refusal_line, sum_of, head_line, list_part, list_lines, content_text, block_part, block_lines, outcome_lines, listing}
use Rattle.listing.specs.promises.Shown.{sum_at}

module _ {D E : Type 0} (h : D → E) where
  list_lines-map : (rs : List (Row D)) → list_lines (map (map_row h) rs) ≡ list_lines rs
  unfolding list_lines list_part
  list_lines-map rs =
      ap joined (from-shift (list_part (map (map_row h) rs)) (list_part rs) 1 1 16 (λ k l. rw (taken-map h (1 + k) rs, blocks_of-map h rs (1 + k))))

  text-map : (sum : E → ℕ) (o : Option D) → content_text sum (Option.map h o) ≡ content_text (λ d. sum (h d)) o
  unfolding content_text
  text-map sum none = refl
  text-map sum (some d) = refl

  block_lines-map : (sum : E → ℕ) (rs : List (Row D)) → block_lines sum (map (map_row h) rs) ≡ block_lines (λ d. sum (h d)) rs
  unfolding block_lines block_part
  block_lines-map sum rs =
      ap joined (from-shift (block_part sum (map (map_row h) rs)) (block_part (λ d. sum (h d)) rs) 1 1 64 (λ k l. rw (placed-map h (1 + k) rs, content_of-map h rs (1 + k), text-map sum (content_of rs (1 + k)))))

module _ (c : List ℕ) where
  pub listing-refused : (x : Refusal) → Refuses 16 c x → listing c ≡ refusal_line (number x)
  unfolding listing outcome_lines number
  listing-refused WrongLength h = rw (sym (fits-listable c) ∙ h)
  listing-refused LogFault (h, g, i, e) = rw (sym (fits-listable c) ∙ h, e)
  listing-refused _ h = absurd h

  pub listing-shown : (t : Tables) → fits 16 c ≡ true → (s : Shown c t) → listing c ≡ head_line c ++ list_lines s.here.lists ++ block_lines (sum_at c) s.here.lists
  unfolding listing outcome_lines
  listing-shown t h s =
      let f = content_at c [] [] in
      rw (sym (fits-listable c) ∙ h, s.walked, s.means)
      (ap₂ (λ (a b : List ℕ). head_line c ++ a ++ b) (list_lines-map f s.here.lists) (block_lines-map f sum_of s.here.lists))
