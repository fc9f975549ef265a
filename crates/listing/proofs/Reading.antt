-- What the length of a card says.
use mathlib.Core.Path.{◌≡◌, sym, ◌∙◌}
use mathlib.Core.Bool.{Bool, true, false, ◌&&◌, and-false, and-true}
use mathlib.Core.List.{List}
use Prim.Native.Nat.{ℕ, ◌%◌, ◌≤◌, ◌<◌}
use native.Mathlib.Omega.{arith}
use native.Mathlib.Decide.{dec_le}
use borrow.Author.Tests.{le-leb, lt-leb}
use lib.Dec.{leb, eqb}
use lib.ListN.{length}
use Rattle.card_log.specs.Card.{card_length, segments_in}
use Rattle.listing.specs.Listing.{listable}
use Rattle.listing.specs.promises.Reading.{fits}

pub too-long : (n : ℕ) (c : List ℕ) → n < segments_in c → fits n c ≡ false
unfolding fits
too-long n c h = rw (lt-leb (segments_in c) n h) (and-false (card_length c))

pub no-card : (n : ℕ) (c : List ℕ) → card_length c ≡ false → fits n c ≡ false
unfolding fits
no-card n c h = rw h

pub is-card : (n : ℕ) (c : List ℕ) → card_length c ≡ true → segments_in c ≤ n → fits n c ≡ true
unfolding fits
is-card n c h l = rw (h, le-leb (segments_in c) n l)

-- no card has more than 64 segments, and the lister takes 16
fits-both : (a b : Bool) (k m n : ℕ) → m ≤ n → (a && b && leb k n) && leb k m ≡ (a && b && leb k m)
fits-both a b k m n h = go (dec_le k m)
  where
    go : Dec (k ≤ m) → (a && b && leb k n) && leb k m ≡ (a && b && leb k m)
    go (yes l) = rw (le-leb k m l, le-leb k n (omega arith)) (and-true (a && b && true))
    go (no l) = rw (lt-leb k m (omega arith)) (and-false (a && b && leb k n) ∙ sym (and-false (a && b)))

pub fits-card : (c : List ℕ) → fits 64 c ≡ card_length c
unfolding fits card_length
fits-card c = fits-both (eqb (length c % 4096) 0) (leb 1 (segments_in c)) (segments_in c) 64 64 (omega arith)

pub fits-listable : (c : List ℕ) → fits 16 c ≡ listable c
unfolding fits card_length listable
fits-listable c = fits-both (eqb (length c % 4096) 0) (leb 1 (segments_in c)) (segments_in c) 16 64 (omega arith)
