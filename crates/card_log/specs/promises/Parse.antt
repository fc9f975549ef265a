-- What the code's parser answers, on a card's bytes from a place up to an end.
use Rattle.std.specs.Prelude.{false, List, ℕ, ◌+◌, ◌-◌, ◌*◌, ◌≤◌, leb, length, take, get_or}
use Rattle.std.proofs.Math.Option.{Option, none, some}
use Rattle.lists.specs.Basic.{guard, bind}
use Rattle.card_log.specs.Raced.{Raced}
use Rattle.card_log.specs.Entry.{Entry, as_entry, carried, entry_of, size_of}
use Rattle.card_log.specs.Card.{is_next, segment_bytes}
use Rattle.card_log.specs.declared.parse.Parsed.{Parsed}
use Rattle.card_log.specs.declared.parse.Parsed.TheVariants.{Entry as Found, Bad}

-- the byte at a, or 0 from e on
abbrev pub byte_at : List ℕ → ℕ → ℕ → ℕ
byte_at c e a = get_or (take e c) a 0

-- a place in the bytes up to e, which a card holds
pub record Inside (c : List ℕ) (a e : ℕ) : Type 0 where
  pub before : a ≤ e
  pub within : e ≤ length c
  pub small : length c ≤ 64 * segment_bytes

-- an entry and the place behind it
abbrev pub parsed_of : Parsed → Option (Entry (Raced ℕ) × ℕ)
parsed_of (Found e n) = some (as_entry false e, n)
parsed_of Bad = none

-- the entry at a whose map, without the mark of a member, is m: it ends before e, and its slot is the next one, k
unfoldable pub decoded_at : List ℕ → ℕ → ℕ → ℕ → ℕ → Option (Entry (Raced ℕ) × ℕ)
decoded_at c a e k m =
    guard (leb (size_of m) (e - a))
    (bind (entry_of m (byte_at c e (a + 1)) (byte_at c e (a + 2)) (byte_at c e (a + 3))) (λ x. guard (is_next k (carried x)) (some (x, a + size_of m))))
